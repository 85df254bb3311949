-- An exported call was made: what its contract says of the struct that it returned, of the lent area and of the lent buffer. Assumes nothing.
use Rattle.std.specs.Prelude.{◌≡◌, List, ℕ, length}
use Rattle.std.proofs.lemmas.List.Edits.{sets}
use Rattle.units.specs.declared.SimTime.{SimTime}
use Rattle.units.specs.declared.Term.{Term}
use Rattle.units.specs.declared.LogIndex.{LogIndex}
use Rattle.units.specs.declared.Duration.{Duration}
use Rattle.protocol.specs.declared.RequestId.{RequestId}
use Rattle.config.specs.declared.SimConfig.{SimConfig}
use Rattle.config.specs.declared.Limits.{Limits}
use Rattle.model.specs.Calls as model
use Rattle.model.specs.Reads as reads
use Rattle.model.specs.Outcome.{Call, start, step, propose, fire_timer, confirm_leadership, schedule, write, hard_state, put, truncate, seal, output, send, set_timer, cancel_timer, apply, confirmed, lost, end, check_log_matching, check_durability, read, ReadCall, read_hard_state, read_log, read_entry, read_applied, read_applied_entry, read_reply, read_confirmation, Answer, no, outcome}
use Rattle.state.specs.Call.{call, reading, starting}
use Rattle.claims.specs.OnArea.{same}
use Rattle.answers.specs.declared.DoneAnswer.{DoneAnswer}
use Rattle.answers.specs.declared.OpenedAnswer.{OpenedAnswer}
use Rattle.answers.specs.declared.SteppedAnswer.{SteppedAnswer}
use Rattle.answers.specs.declared.SealedAnswer.{SealedAnswer}
use Rattle.answers.specs.declared.HardStateAnswer.{HardStateAnswer}
use Rattle.answers.specs.declared.LogAnswer.{LogAnswer}
use Rattle.answers.specs.declared.EntryAnswer.{EntryAnswer}
use Rattle.answers.specs.declared.AppliedAnswer.{AppliedAnswer}
use Rattle.answers.specs.declared.AppliedEntryAnswer.{AppliedEntryAnswer}
use Rattle.answers.specs.declared.ReplyAnswer.{ReplyAnswer}
use Rattle.answers.specs.declared.ConfirmationAnswer.{ConfirmationAnswer}
use Rattle.answers.specs.Answers.{done_no, done_yes, opened_no, opened_yes, asked_yes, stepped_no, stepped_yes, sealed_no, sealed_yes, hard_state_no, hard_state_yes, log_no, log_yes, entry_no, entry_yes, applied_no, applied_yes, applied_entry_no, applied_entry_yes, reply_no, reply_yes, confirmation_no, confirmation_yes}
use Rattle.answers.specs.Numbers.{entry_bytes, applied_bytes}
use Rattle.demands.specs.Written.{no_bytes, stepped_bytes}
use Rattle.demands.specs.Heard.{heard_done, heard_opened, heard_asked, heard_stepped, heard_sealed, heard_hard_state, heard_log, heard_entry, heard_applied, heard_applied_entry, heard_reply, heard_confirmation}

-- A call that was lent the area b and the buffer z, which are b' and z' after it, and what is heard of it. A call without a buffer leaves any other memory; a read leaves
-- the area. Of the reads of which the book does not speak the answer is their definition's.
pub data Made : (b z b' z' : List ℕ) → Call → Answer → Type 0 where
  made_start : {b z b' : List ℕ} {config : SimConfig} {limits : Limits} {seed : ℕ} {r : OpenedAnswer}
      → (r, b') ≡ starting opened_no opened_yes b (model.start config limits seed) → Made b z b' z (start config limits seed) (heard_opened r)
  made_step : {b z b' z' : List ℕ} {deadline : SimTime} {r : SteppedAnswer}
      → (r, b') ≡ call stepped_no stepped_yes b (model.step deadline (length z))
      → z' ≡ sets z 0 (call no_bytes stepped_bytes b (model.step deadline (length z))).0
      → Made b z b' z' (step deadline (length z)) (heard_stepped r z')
  made_propose : {b z b' : List ℕ} {server : ℕ} {r : OpenedAnswer}
      → (r, b') ≡ call opened_no asked_yes b (model.propose server) → Made b z b' z (propose server) (heard_asked r)
  made_fire_timer : {b z b' : List ℕ} {server timer : ℕ} {r : OpenedAnswer}
      → (r, b') ≡ call opened_no opened_yes b (model.fire_timer server timer) → Made b z b' z (fire_timer server timer) (heard_opened r)
  made_confirm_leadership : {b z b' : List ℕ} {server : ℕ} {request : RequestId} {r : OpenedAnswer}
      → (r, b') ≡ call opened_no asked_yes b (model.confirm_leadership server request) → Made b z b' z (confirm_leadership server request) (heard_asked r)
  made_schedule : {b z b' : List ℕ} {time : SimTime} {kind first second : ℕ} {groups : List ℕ} {r : DoneAnswer}
      → (r, b') ≡ call done_no done_yes b (model.schedule time kind first second groups) → Made b z b' z (schedule time kind first second groups) (heard_done r)
  made_write_hard_state : {b z b' : List ℕ} {term : Term} {present vote : ℕ} {r : DoneAnswer}
      → (r, b') ≡ call done_no done_yes b (model.write_hard_state_call term present vote) → Made b z b' z (write (hard_state term present vote)) (heard_done r)
  made_write_put : {b z b' : List ℕ} {index : LogIndex} {term : Term} {kind : ℕ} {bytes : List ℕ} {r : DoneAnswer}
      → (r, b') ≡ call done_no done_yes b (model.write_put_call index term kind bytes) → Made b z b' z (write (put index term kind bytes)) (heard_done r)
  made_write_truncate : {b z b' : List ℕ} {from : LogIndex} {r : DoneAnswer}
      → (r, b') ≡ call done_no done_yes b (model.write_truncate_call from) → Made b z b' z (write (truncate from)) (heard_done r)
  made_seal : {b z b' : List ℕ} {refusal present leader : ℕ} {r : SealedAnswer}
      → (r, b') ≡ call sealed_no sealed_yes b (model.seal refusal present leader) → Made b z b' z (seal refusal present leader) (heard_sealed r)
  made_output_send : {b z b' : List ℕ} {to : ℕ} {message : List ℕ} {entries : ℕ} {r : DoneAnswer}
      → (r, b') ≡ call done_no done_yes b (model.output_send to message entries) → Made b z b' z (output (send to message entries)) (heard_done r)
  made_output_set_timer : {b z b' : List ℕ} {timer : ℕ} {after : Duration} {r : DoneAnswer}
      → (r, b') ≡ call done_no done_yes b (model.output_set_timer timer after) → Made b z b' z (output (set_timer timer after)) (heard_done r)
  made_output_cancel_timer : {b z b' : List ℕ} {timer : ℕ} {r : DoneAnswer}
      → (r, b') ≡ call done_no done_yes b (model.output_cancel_timer timer) → Made b z b' z (output (cancel_timer timer)) (heard_done r)
  made_output_apply : {b z b' : List ℕ} {index : LogIndex} {kind : ℕ} {bytes : List ℕ} {r : DoneAnswer}
      → (r, b') ≡ call done_no done_yes b (model.output_apply index kind bytes) → Made b z b' z (output (apply index kind bytes)) (heard_done r)
  made_output_confirmed : {b z b' : List ℕ} {request : RequestId} {index : LogIndex} {r : DoneAnswer}
      → (r, b') ≡ call done_no done_yes b (model.output_confirmed request index) → Made b z b' z (output (confirmed request index)) (heard_done r)
  made_output_lost : {b z b' : List ℕ} {request : RequestId} {r : DoneAnswer}
      → (r, b') ≡ call done_no done_yes b (model.output_lost request) → Made b z b' z (output (lost request)) (heard_done r)
  made_end : {b z b' : List ℕ} {role : ℕ} {term : Term} {present leader : ℕ} {commit : LogIndex} {r : OpenedAnswer}
      → (r, b') ≡ call opened_no opened_yes b (model.end role term present leader commit) → Made b z b' z (end role term present leader commit) (heard_opened r)
  made_check_log_matching : {b z b' : List ℕ} {r : DoneAnswer}
      → (r, b') ≡ call done_no done_yes b model.check_log_matching_call → Made b z b' z check_log_matching (heard_done r)
  made_check_durability : {b z b' : List ℕ} {r : DoneAnswer}
      → (r, b') ≡ call done_no done_yes b model.check_durability_call → Made b z b' z check_durability (heard_done r)
  made_read_hard_state : {b z : List ℕ} {server : ℕ} {r : HardStateAnswer}
      → r ≡ reading hard_state_no hard_state_yes b (reads.read_hard_state server) → Made b z b z (read (read_hard_state server)) (heard_hard_state r)
  made_read_log : {b z : List ℕ} {server : ℕ} {r : LogAnswer}
      → r ≡ reading log_no log_yes b (reads.read_log server) → Made b z b z (read (read_log server)) (heard_log r)
  made_read_entry : {b z z' : List ℕ} {server index : ℕ} {r : EntryAnswer}
      → r ≡ reading entry_no entry_yes b (reads.read_entry server index (length z))
      → z' ≡ sets z 0 (reading no_bytes entry_bytes b (reads.read_entry server index (length z)))
      → Made b z b z' (read (read_entry server index (length z))) (heard_entry r z')
  made_read_applied : {b z : List ℕ} {server : ℕ} {r : AppliedAnswer}
      → r ≡ reading applied_no applied_yes b (reads.read_applied server) → Made b z b z (read (read_applied server)) (heard_applied r)
  made_read_applied_entry : {b z z' : List ℕ} {index : ℕ} {r : AppliedEntryAnswer}
      → r ≡ reading applied_entry_no applied_entry_yes b (reads.read_applied_entry index (length z))
      → z' ≡ sets z 0 (reading no_bytes applied_bytes b (reads.read_applied_entry index (length z)))
      → Made b z b z' (read (read_applied_entry index (length z))) (heard_applied_entry r z')
  made_read_reply : {b z : List ℕ} {place : ℕ} {r : ReplyAnswer}
      → r ≡ reading reply_no reply_yes b (reads.read_reply place) → Made b z b z (read (read_reply place)) (heard_reply r)
  made_read_confirmation : {b z : List ℕ} {place : ℕ} {r : ConfirmationAnswer}
      → r ≡ reading confirmation_no confirmation_yes b (reads.read_confirmation place) → Made b z b z (read (read_confirmation place)) (heard_confirmation r)
  made_other_read : {b z : List ℕ} (r : ReadCall) → Made b z b z (read r) (reading no same b (outcome (read r)))
