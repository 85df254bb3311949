-- The outcome of every call but the reads and the outputs is fine; of the outputs in proofs/Outputs.antt. Assumes nothing.
use Rattle.std.specs.Prelude.{◌≡◌, true, ℕ, zero, suc, ◌-◌, ◌^◌, length}
use Rattle.std.proofs.Math.Path.{refl}
use Rattle.std.proofs.Common.{sym, arith}
use mathlib.Core.List.{List, [], ◌∷◌}
use Rattle.std.proofs.Math.Dec.{leb, eqb}
use borrow.Author.Tests.{leb-true, ne_eqb}
use Rattle.laws.specs.Bools.{pick, ◌and◌, cases, and_left}
use Rattle.laws.proofs.BoolLaws.{and_right}
use Rattle.laws.specs.ListLaws.{Each}
use Rattle.units.specs.Types.{payload_of}
use Rattle.units.specs.declared.Term.{Term}
use Rattle.units.specs.declared.LogIndex.{LogIndex}
use Rattle.units.specs.declared.SimTime.{SimTime}
use Rattle.protocol.specs.declared.RequestId.{RequestId}
use Rattle.config.specs.declared.SimConfig.{SimConfig}
use Rattle.config.specs.declared.Limits.{Limits}
use Rattle.config.specs.Limits.{judge, judged_number}
use Rattle.storage.specs.Storage.{unsynced}
use Rattle.queue.specs.Queue.{Queue, pop}
use Rattle.model.specs.State.{State, closed, writing, Input, Owed, server_at}
use Rattle.model.specs.Simulation.{running, write_at}
use Rattle.model.specs.Calls as model
use Rattle.model.specs.Calls.{is_flag, is_payload, in_cluster, timer_of}
use Rattle.model.specs.Outcome.{WriteCall, start, step, propose, fire_timer, confirm_leadership, schedule, write, seal, end, check_log_matching, check_durability, Answer, acted, opened, stepped, asked, sealed, act}
use Rattle.model.specs.Outcome as calls
use Rattle.book.specs.Book.{Book, write_of}
use Rattle.book.specs.Book as book
use Rattle.book.specs.Disks.{InLog}
use Rattle.book.specs.Handed.{ScheduledGiven}
use Rattle.book.specs.Holds.{Held, nowhere, holds_queue, holds_push, holds_applied}
use Rattle.book.specs.Invariant.{Phased, waits_in, Inv}
use Rattle.book.specs.Checked.{log_matching_applied, durability_applied}
use Rattle.book.specs.Moves as moves
use Rattle.book.specs.Moves.{moves_process, moves_begin}
use Rattle.book.specs.Inputs.{held_write, inv_sync, moves_cut, moves_end}
use Rattle.book.specs.Outcomes.{Fine, fine, fine_ask, fine_fault, fine_closed, fine_writing, fine_sending}

-- a timer's number is read alike
pub timer_read : (kind : ℕ) → timer_of kind ≡ book.timer_of kind
timer_read zero = refl
timer_read (suc zero) = refl
timer_read (suc (suc kind)) = sym (rw (ne_eqb (suc (suc kind)) 1 (λ e. absurd (omega arith))))

pub fine_start : (b : Book) (config : SimConfig) (limits : Limits) (seed : ℕ) → Fine opened b (start config limits seed) (model.start config limits seed)
unfolding model.start
fine_start b config limits seed = fine_ask (eqb (judged_number (judge config limits)) 0) _ (λ _. fine tt (moves_begin config limits seed).1)

module _ (b : Book) (s : State) (i : Inv b s.phase s) where
  -- the phase stays
  kept : {t : State} → Held b (waits_in b s.phase) t → Inv b s.phase t
  kept h = record { phased = i.phased; held = h }

  -- ---- calls that belong to closed

  pub fine_step : (deadline : SimTime) (buffer : ℕ) → Fine stepped b (step deadline buffer) (model.step deadline buffer s)
  unfolding model.step
  fine_step deadline buffer =
      fine_closed s i (λ q h. fine_ask (leb deadline.0 (2 ^ 62) and leb s.limits.message buffer) 9 (λ _. by q h s.queue h.events))
    where
      by : Phased b closed → Held b nowhere s → (queue : Queue) → Each (λ _. ScheduledGiven b.given) queue
          → Fine stepped b (step deadline buffer) (model.stepped s deadline (pop queue))
      by q h [] g = fine (q.1, tt) (kept i.held)
      by q h (e ∷ rest) g =
          let moved = moves_process b q _ e.event e.message g.0 (holds_queue h g.1) in
          cases (leb e.time.0 deadline.0) (λ t. rw t (fine (q.1, moved.0) moved.1)) (λ t. rw t (fine (q.1, tt) (kept i.held)))

  pub fine_propose : (server : ℕ) → Fine asked b (propose server) (model.propose server s)
  unfolding model.propose
  fine_propose server =
      fine_closed s i (λ q h. fine_ask (in_cluster s server) 7
      (λ _. cases (running s (server - 1)) (λ t. rw t (fine q.1 (moves.opened b q refl h))) (λ t. rw t (fine q.1 (kept i.held)))))

  pub fine_fire_timer : (server timer : ℕ) → Fine opened b (fire_timer server timer) (model.fire_timer server timer s)
  unfolding model.fire_timer
  fine_fire_timer server timer =
      fine_closed s i (λ q h. fine_ask (in_cluster s server) 7 (λ _. fine_ask (is_flag timer) 9
      (λ _. cases (running s (server - 1)) (λ t. rw t (fine q.1 (moves.opened b q refl h))) (λ t. rw t (fine q.1 i)))))

  pub fine_confirm_leadership : (server : ℕ) (request : RequestId) → Fine asked b (confirm_leadership server request) (model.confirm_leadership server request s)
  unfolding model.confirm_leadership
  fine_confirm_leadership server request =
      fine_closed s i (λ q h. fine_ask (in_cluster s server) 7
      (λ _. cases (running s (server - 1)) (λ t. rw t (fine q.1 (moves.opened b q refl h))) (λ t. rw t (fine q.1 i))))

  pub fine_schedule : (time : SimTime) (kind first second : ℕ) (groups : List ℕ)
      → Fine act b (schedule time kind first second groups) (model.schedule time kind first second groups s)
  unfolding model.schedule
  fine_schedule time kind first second groups =
      let partitions = eqb kind 4 in
      let fault = model.fault_given kind first second groups in
      fine_closed s i (λ q h. fine_ask (pick partitions (model.members_known s groups) (model.targets_known s fault)) 7
      (λ _. fine_ask (leb time.0 (2 ^ 62) and pick partitions (leb (length groups) 8) true) 9
      (λ _. fine_fault fault (λ f. fine refl (kept (holds_push i.held _ _ [] tt))))))

  pub fine_check_log_matching : Fine act b check_log_matching (model.check_log_matching_call s)
  unfolding model.check_log_matching_call
  fine_check_log_matching =
      fine_closed s i (λ q h. fine refl (kept (holds_applied i.held (log_matching_applied s.checker s.now (model.logs_from 0 s.servers)))))

  pub fine_check_durability : Fine act b check_durability (model.check_durability_call s)
  unfolding model.check_durability_call
  fine_check_durability = fine_closed s i (λ q h. fine refl (kept (holds_applied i.held (durability_applied s.checker s.now _ _))))

  -- ---- writes and the seal

  fine_written : (w : WriteCall) (slot : ℕ) (input : Input) (owed : Owed) → s.phase ≡ writing slot input owed → Inv b (writing slot input owed) s
      → InLog b.last_index (write_of w) → Fine act b (write w) (model.written s slot (write_of w))
  unfolding write_at
  fine_written w slot input owed e j k = fine {t = write_at s slot (write_of w)} refl (rw e (record { phased = j.phased; held = held_write b slot b.waiting (write_of w) s k j.held }))

  pub fine_write_hard_state : (term : Term) (present vote : ℕ)
      → Fine act b (write (calls.hard_state term present vote)) (model.write_hard_state_call term present vote s)
  unfolding model.write_hard_state_call
  fine_write_hard_state term present vote =
      fine_writing s i (λ slot input owed e j. fine_ask (is_flag present) 9 (λ _. fine_written (calls.hard_state term present vote) slot input owed e j tt))

  pub fine_write_put : (index : LogIndex) (term : Term) (kind : ℕ) (bytes : List ℕ)
      → Fine act b (write (calls.put index term kind bytes)) (model.write_put_call index term kind bytes s)
  unfolding model.write_put_call payload_of
  fine_write_put index term kind bytes =
      fine_writing s i (λ slot input owed e j. fine_ask (leb 1 index.0 and leb index.0 s.limits.log_indexes) 8
      (λ f.
      let low = leb-true 1 index.0 (and_left _ _ f) in
      let high = leb-true index.0 s.limits.log_indexes (and_right _ _ f) in
      fine_ask (is_payload s kind bytes) 9 (λ _. fine_written (calls.put index term kind bytes) slot input owed e j (low, rw j.held.size at high))))

  pub fine_write_truncate : (from : LogIndex) → Fine act b (write (calls.truncate from)) (model.write_truncate_call from s)
  unfolding model.write_truncate_call
  fine_write_truncate from = fine_writing s i (λ slot input owed e j. fine_written (calls.truncate from) slot input owed e j tt)

  pub fine_seal : (refusal present leader : ℕ) → Fine sealed b (seal refusal present leader) (model.seal refusal present leader s)
  unfolding model.seal model.sealed
  fine_seal refusal present leader =
      fine_writing s i (λ slot input owed e j.
      let verdict = model.verdict_of refusal present leader in
      let synced = inv_sync b slot input verdict owed s j.phased.1 j.held in
      fine_ask (is_flag refusal and (pick (eqb refusal 1) (is_flag present and model.can_be_refused input) true)) 9
      (λ _. cases (server_at s slot).crash_on_next_input
      (λ t. rw t (fine (λ n. absurd (n refl)) (moves_cut b slot input verdict owed s j.held).1))
      (λ t. rw t (cases (unsynced (server_at s slot).storage) (λ u. rw u (fine (λ _. refl) synced)) (λ u. rw u (fine (λ _. refl) synced))))))

  -- ---- the end

  pub fine_end : (role : ℕ) (term : Term) (present leader : ℕ) (commit : LogIndex)
      → Fine opened b (end role term present leader commit) (model.end role term present leader commit s)
  unfolding model.end
  fine_end role term present leader commit =
      fine_sending s i (λ slot input verdict owed e j. fine_ask (leb role 2 and is_flag present) 9
      (λ _. fine j.phased.2 (moves_end b slot input verdict owed _ s j.phased.2 j.held).1))
