-- The outcome of every output is fine. Assumes nothing.
use Rattle.std.specs.Prelude.{◌≡◌, ℕ, ◌^◌, length, None, Some}
use Rattle.std.proofs.Math.Path.{refl}
use Rattle.std.proofs.Common.{◌∙◌}
use mathlib.Core.List.Memᴰ
use mathlib.Core.List.{List}
use Rattle.std.proofs.Math.Dec.{leb, ltb}
use borrow.Author.Tests.{leb-true}
use Rattle.laws.specs.Bools.{◌and◌, and_left}
use Rattle.units.specs.Types.{payload_of}
use Rattle.units.specs.declared.LogIndex.{LogIndex}
use Rattle.units.specs.declared.Duration.{Duration}
use Rattle.protocol.specs.declared.RequestId.{RequestId}
use Rattle.faults.specs.Fault as faults
use Rattle.model.specs.State.{State, id_of}
use Rattle.model.specs.Simulation.{set_timer, cancel_timer, confirm}
use Rattle.model.specs.Calls as model
use Rattle.model.specs.Calls.{Out, done, is_flag, is_accepted, is_payload, in_cluster, timer_of}
use Rattle.model.specs.Outcome.{OutputCall, output, act}
use Rattle.model.specs.Outcome as calls
use Rattle.book.specs.Book.{Book, give}
use Rattle.book.specs.Holds.{Held, nowhere, holds_more}
use Rattle.book.specs.Invariant.{Inv}
use Rattle.book.specs.Inputs.{held_message, send_phase, held_set_timer, held_cancel_timer, held_confirm, held_apply, apply_phase}
use Rattle.book.specs.Outcomes.{Fine, fine, fine_ask, fine_sending}
use Rattle.book.specs.Answered.{timer_read}

module _ (b : Book) (s : State) (i : Inv b s.phase s) where
  -- an output comes while a synced input is open; it is fine if the state that it leaves keeps what was handed over besides
  fine_output : (o : OutputCall) {f : ℕ → Out (Unit {0})}
      → ((slot : ℕ) → b.server ≡ id_of slot → Held b nowhere s
      → ((t : State) → t.phase ≡ s.phase → Held (give b o) nowhere t → Fine act b (output o) (done tt t))
      → Fine act b (output o) (f slot))
      → Fine act b (output o) (model.output s.phase f)
  fine_output o h =
      fine_sending s i (λ slot input verdict owed e j. fine_ask (is_accepted verdict) 6
      (λ _. h slot j.phased.1 j.held (λ t p l. fine {t = t} (j.phased.0, refl) (rw (p ∙ e) (record { phased = j.phased; held = l })))))

  pub fine_output_send : (to : ℕ) (message : List ℕ) (entries : ℕ) → Fine act b (output (calls.send to message entries)) (model.output_send to message entries s)
  unfolding model.output_send faults.in_cluster
  fine_output_send to message entries =
      let o = calls.send to message entries in
      fine_output o (λ slot e h left. fine_ask (in_cluster s to) 7
      (λ f. fine_ask (leb (length message) s.limits.message and ltb entries (2 ^ 32)) 9
      (λ _. left _ (send_phase s slot (record { 0 = to }) message entries)
      (held_message (give b o) nowhere slot s (holds_more h _) (record { 0 = to }) message entries (leb-true 1 to (and_left _ _ f)) (Memᴰ.head (rw e))))))

  pub fine_output_set_timer : (timer : ℕ) (duration : Duration) → Fine act b (output (calls.set_timer timer duration)) (model.output_set_timer timer duration s)
  unfolding model.output_set_timer set_timer
  fine_output_set_timer timer duration =
      let o = calls.set_timer timer duration in
      fine_output o (λ slot e h left. fine_ask (is_flag timer and leb duration.0 (2 ^ 40)) 9
      (λ _. left _ refl (held_set_timer (give b o) nowhere slot s (holds_more h _) (timer_of timer) duration (Memᴰ.head (rw (e, timer_read timer))))))

  pub fine_output_cancel_timer : (timer : ℕ) → Fine act b (output (calls.cancel_timer timer)) (model.output_cancel_timer timer s)
  unfolding model.output_cancel_timer cancel_timer
  fine_output_cancel_timer timer =
      fine_output (calls.cancel_timer timer) (λ slot e h left. fine_ask (is_flag timer) 9 (λ _. left _ refl (held_cancel_timer b nowhere slot s h (timer_of timer))))

  pub fine_output_apply : (index : LogIndex) (kind : ℕ) (bytes : List ℕ) → Fine act b (output (calls.apply index kind bytes)) (model.output_apply index kind bytes s)
  unfolding model.output_apply payload_of
  fine_output_apply index kind bytes =
      let o = calls.apply index kind bytes in
      let payload = payload_of kind bytes in
      fine_output o (λ slot e h left. fine_ask (leb index.0 s.limits.log_indexes) 8
      (λ _. fine_ask (is_payload s kind bytes) 9
      (λ _. left _ (apply_phase s slot index payload) (held_apply (give b o) nowhere slot s index payload (Memᴰ.head (rw e)) (holds_more h _)))))

  pub fine_output_confirmed : (request : RequestId) (read_index : LogIndex)
      → Fine act b (output (calls.confirmed request read_index)) (model.output_confirmed request read_index s)
  unfolding model.output_confirmed confirm
  fine_output_confirmed request read_index =
      let o = calls.confirmed request read_index in
      fine_output o (λ slot e h left. left _ refl (held_confirm (give b o) nowhere slot s (holds_more h _) request (Some read_index) (Memᴰ.head (rw e))))

  pub fine_output_lost : (request : RequestId) → Fine act b (output (calls.lost request)) (model.output_lost request s)
  unfolding model.output_lost confirm
  fine_output_lost request =
      let o = calls.lost request in
      fine_output o (λ slot e h left. left _ refl (held_confirm (give b o) nowhere slot s (holds_more h _) request None (Memᴰ.head (rw e))))
