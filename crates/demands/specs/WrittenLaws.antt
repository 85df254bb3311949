-- The bytes that a call writes by its own definition are those of its answer. Assumes nothing.
use Rattle.std.specs.Prelude.{◌≡◌, List, ℕ, eqb, length}
use Rattle.std.proofs.Math.Path.{refl}
use Rattle.std.proofs.Common.{ap}
use Rattle.std.proofs.lemmas.List.Edits.{sets}
use Rattle.laws.specs.Bools.{cases}
use Rattle.units.specs.declared.SimTime.{SimTime}
use Rattle.model.specs.State.{State}
use Rattle.model.specs.Fits.{state_fits}
use Rattle.model.specs.Calls as model
use Rattle.model.specs.Calls.{Out, refused, done}
use Rattle.model.specs.Reads as reads
use Rattle.model.specs.Outcome.{step, read, read_entry, read_applied_entry, Answer, no, stepped, got, got_entry, got_applied_entry, given, outcome, read_outcome}
use Rattle.state.specs.Decode.{gate, decode}
use Rattle.state.specs.Call.{finish, call, answered, reading}
use Rattle.claims.specs.OnArea.{on_area, same}
use Rattle.answers.specs.Numbers.{bytes_of, filled, reading_bytes, entry_bytes, applied_bytes}
use Rattle.demands.specs.Written.{no_bytes, stepped_bytes}

module _ {A : Type 0} (f : A → Answer) (g : A → List ℕ) (h : (a : A) → bytes_of (f a) ≡ g a) (b : List ℕ) where
  finish_bytes : (o : Out A) → bytes_of (finish no same b (given f o)).0 ≡ (finish no_bytes g b o).0
  unfolding finish bytes_of
  finish_bytes (refused n) = refl
  finish_bytes (done a s) = cases (state_fits s) (λ t. rw t (h a)) (λ t. rw t refl)

  call_bytes : (d : State → Out A) → bytes_of (call no same b (λ s. given f (d s))).0 ≡ (call no_bytes g b d).0
  unfolding call bytes_of
  call_bytes d = cases (eqb (gate b) 0) (λ t. rw t (finish_bytes (d (decode b)))) (λ t. rw t refl)

  answered_bytes : (o : Out A) → bytes_of (answered no same (given f o)) ≡ answered no_bytes g o
  unfolding bytes_of
  answered_bytes (refused n) = refl
  answered_bytes (done a s) = h a

  reading_bytes_lem : (d : State → Out A) → bytes_of (reading no same b (λ s. given f (d s))) ≡ reading no_bytes g b d
  unfolding reading bytes_of
  reading_bytes_lem d = cases (eqb (gate b) 0) (λ t. rw t (answered_bytes (d (decode b)))) (λ t. rw t refl)

-- The buffer after a step.
pub step_filled : (b z : List ℕ) (deadline : SimTime) → filled z (on_area b (step deadline (length z))).0 ≡ sets z 0 (call no_bytes stepped_bytes b (model.step deadline (length z))).0
unfolding on_area outcome bytes_of
step_filled b z deadline = ap (λ (l : List ℕ). sets z 0 l) (call_bytes stepped stepped_bytes (λ a. refl) b (model.step deadline (length z)))

-- The buffer after the read of an entry.
pub entry_filled : (b z : List ℕ) (server index : ℕ)
    → filled z (reading no same b (outcome (read (read_entry server index (length z))))) ≡ sets z 0 (reading no_bytes entry_bytes b (reads.read_entry server index (length z)))
unfolding outcome read_outcome bytes_of reading_bytes
entry_filled b z server index = ap (λ (l : List ℕ). sets z 0 l) (reading_bytes_lem (λ x. got (got_entry x)) entry_bytes (λ a. refl) b (reads.read_entry server index (length z)))

-- The buffer after the read of an applied entry.
pub applied_filled : (b z : List ℕ) (index : ℕ)
    → filled z (reading no same b (outcome (read (read_applied_entry index (length z))))) ≡ sets z 0 (reading no_bytes applied_bytes b (reads.read_applied_entry index (length z)))
unfolding outcome read_outcome bytes_of reading_bytes
applied_filled b z index = ap (λ (l : List ℕ). sets z 0 l) (reading_bytes_lem (λ x. got (got_applied_entry x)) applied_bytes (λ a. refl) b (reads.read_applied_entry index (length z)))
