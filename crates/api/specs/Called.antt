-- The calls that are lent a buffer: what their contracts say. Assumes nothing.
use Rattle.std.specs.Prelude.{◌≡◌, List, ℕ, length}
use Rattle.std.proofs.lemmas.List.Edits.{sets}
use Rattle.model.specs.Calls.{step}
use Rattle.model.specs.Reads.{read_entry, read_applied_entry}
use Rattle.state.specs.Call.{call, reading}
use Rattle.answers.specs.declared.SteppedAnswer.{SteppedAnswer}
use Rattle.answers.specs.declared.EntryAnswer.{EntryAnswer}
use Rattle.answers.specs.declared.AppliedEntryAnswer.{AppliedEntryAnswer}
use Rattle.answers.specs.Answers.{stepped_no, stepped_yes, entry_no, entry_yes, applied_entry_no, applied_entry_yes}
use Rattle.answers.specs.Numbers.{entry_bytes, applied_bytes}
use Rattle.demands.specs.Written.{no_bytes, stepped_bytes}

-- A step on the area b, which has become b': the bytes of the message that it opened are at the front of the buffer z, which has become z' and is else as it was.
pub record StepCalled (b b' : List ℕ) (deadline : ℕ) (z z' : List ℕ) (r : SteppedAnswer) : Type 0 where
  pub answer : (r, b') ≡ call stepped_no stepped_yes b (step (record { 0 = deadline }) (length z))
  pub buffer : z' ≡ sets z 0 (call no_bytes stepped_bytes b (step (record { 0 = deadline }) (length z))).0

-- The read of an entry of the area b: the bytes of a command are at the front of the buffer.
pub record EntryCalled (b : List ℕ) (server index : ℕ) (z z' : List ℕ) (r : EntryAnswer) : Type 0 where
  pub answer : r ≡ reading entry_no entry_yes b (read_entry server index (length z))
  pub buffer : z' ≡ sets z 0 (reading no_bytes entry_bytes b (read_entry server index (length z)))

-- The read of an applied entry of the area b: the bytes of a command are at the front of the buffer.
pub record AppliedCalled (b : List ℕ) (index : ℕ) (z z' : List ℕ) (r : AppliedEntryAnswer) : Type 0 where
  pub answer : r ≡ reading applied_entry_no applied_entry_yes b (read_applied_entry index (length z))
  pub buffer : z' ≡ sets z 0 (reading no_bytes applied_bytes b (read_applied_entry index (length z)))
