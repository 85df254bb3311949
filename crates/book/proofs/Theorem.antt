-- Demand 3: every list of calls that begins with an accepted start is right by the book, whatever was before; on states, and on an area's bytes. Assumes nothing.
use Rattle.std.specs.Prelude.{◌≡◌, refl, Bool, true, List, ◌∷◌, ℕ}
use Rattle.laws.specs.Decides.{false_true}
use Rattle.config.specs.declared.SimConfig.{SimConfig}
use Rattle.config.specs.declared.Limits.{Limits}
use Rattle.model.specs.State.{State}
use Rattle.model.specs.Calls.{done}
use Rattle.model.specs.Fits.{state_fits}
use Rattle.model.specs.Outcome.{OutputCall, Call, start, step, propose, fire_timer, confirm_leadership, schedule, write, seal, output, end, check_log_matching, check_durability, read, Answer, after, outcome, output_outcome}
use Rattle.model.specs.Outcome as calls
use Rattle.claims.specs.Claim.{Proof, Does, refuses, gives, Kept, accepted, claimed}
use Rattle.claims.specs.States.{states}
use Rattle.claims.specs.Areas.{areas}
use Rattle.claims.specs.OnArea.{on_area}
use Rattle.book.specs.Book.{Book, note, told_of}
use Rattle.book.specs.Invariant.{Inv}
use Rattle.book.specs.Outcomes.{given_right}
use Rattle.book.specs.Answered.{fine_start, fine_step, fine_propose, fine_fire_timer, fine_confirm_leadership, fine_schedule, fine_check_log_matching, fine_check_durability, fine_seal, fine_end}
use Rattle.book.proofs.Outputs.{fine_output_send, fine_output_set_timer, fine_output_cancel_timer, fine_output_apply, fine_output_confirmed, fine_output_lost}
use Rattle.book.specs.Theorem.{demand3, readable, Goes, goes_write, goes_read, begun}

-- ---- its proof

module _ (b : Book) (s : State) (i : Inv b s.phase s) where
  goes_output : (o : OutputCall) (a : Answer) (t : State) → output_outcome o s ≡ done a t → Goes b (output o) a t
  unfolding output_outcome
  goes_output (calls.send to message entries) a t e = given_right (λ _. refl) (fine_output_send b s i to message entries) e
  goes_output (calls.set_timer timer duration) a t e = given_right (λ _. refl) (fine_output_set_timer b s i timer duration) e
  goes_output (calls.cancel_timer timer) a t e = given_right (λ _. refl) (fine_output_cancel_timer b s i timer) e
  goes_output (calls.apply index kind bytes) a t e = given_right (λ _. refl) (fine_output_apply b s i index kind bytes) e
  goes_output (calls.confirmed request read_index) a t e = given_right (λ _. refl) (fine_output_confirmed b s i request read_index) e
  goes_output (calls.lost request) a t e = given_right (λ _. refl) (fine_output_lost b s i request) e

  pub goes : (c : Call) (a : Answer) (t : State) → outcome c s ≡ done a t → Goes b c a t
  unfolding outcome
  goes (start config limits seed) a t e = given_right (λ _. refl) (fine_start b config limits seed) e
  goes (step deadline buffer) a t e = given_right (λ _. refl) (fine_step b s i deadline buffer) e
  goes (propose server) a t e = given_right (λ _. refl) (fine_propose b s i server) e
  goes (fire_timer server timer) a t e = given_right (λ _. refl) (fine_fire_timer b s i server timer) e
  goes (confirm_leadership server request) a t e = given_right (λ _. refl) (fine_confirm_leadership b s i server request) e
  goes (schedule time kind first second groups) a t e = given_right (λ _. refl) (fine_schedule b s i time kind first second groups) e
  goes (write w) a t e = goes_write b s i w a t e
  goes (seal refusal present leader) a t e = given_right (λ _. refl) (fine_seal b s i refusal present leader) e
  goes (output o) a t e = goes_output o a t e
  goes (end role term present leader commit) a t e = given_right (λ _. refl) (fine_end b s i role term present leader commit) e
  goes check_log_matching a t e = given_right (λ _. refl) (fine_check_log_matching b s i) e
  goes check_durability a t e = given_right (λ _. refl) (fine_check_durability b s i) e
  goes (read r) a t e = goes_read b s i r a t e

module _ (fits : State → Bool) where
  -- a call with what it does
  told : (b : Book) (s t : State) (c : Call) (a : Answer) → Inv b s.phase s → fits s ≡ true → Does fits s c a t → demand3.Right b s c a t × Inv (note b c (told_of a)) t.phase t
  unfolding note
  told b s t c a i f (refuses number) = ((λ e. absurd (false_true e), readable b s i), i)
  told b s t c a i f (gives e g) =
      let x = goes b s i c a t e in
      ((x.0, readable (note b c (told_of a)) t x.1), x.1)

  pub proved : Proof fits demand3
  proved = record { Holds = λ b s. Inv b s.phase s; begins = begun fits; goes = told }

-- ---- the theorems

-- DEMAND 3 ON STATES. `fits` is question 10's test, whatever it is; s and b are whatever was before.
pub theorem : (fits : State → Bool) (s : State) (b : Book) (config : SimConfig) (limits : Limits) (seed : ℕ) (cs : List Call)
    → accepted (after fits s (start config limits seed)).answer ≡ true → Kept (states fits) demand3 b s (start config limits seed ∷ cs)
theorem fits s b config limits seed cs e = claimed (states fits) demand3 (proved fits) b s config limits seed cs e

-- DEMAND 3 ON BYTES, whatever bytes the area held and whatever book was before.
pub theorem_area : (area : List ℕ) (b : Book) (config : SimConfig) (limits : Limits) (seed : ℕ) (cs : List Call)
    → accepted (on_area area (start config limits seed)).0 ≡ true → Kept areas demand3 b area (start config limits seed ∷ cs)
theorem_area area b config limits seed cs e = claimed areas demand3 (proved state_fits) b area config limits seed cs e
