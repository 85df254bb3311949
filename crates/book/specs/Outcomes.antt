-- When the outcome of a call is fine: refused, or with a right answer and a state that keeps the invariant with the book after it. Assumes nothing.
use Rattle.std.specs.Prelude.{◌≡◌, refl, Bool, true, false, ℕ, Option, None, Some}
use Rattle.std.proofs.Common.{subst, arith}
use Rattle.model.specs.State.{State, Phase, closed, writing, sending, Input, Verdict, Owed}
use Rattle.faults.specs.Fault.{within_limits}
use Rattle.faults.specs.declared.Fault.{Fault}
use Rattle.model.specs.Calls.{Out, refused, done, ask, is_closed, while_writing, while_sending, with_fault}
use Rattle.model.specs.Outcome.{Call, Answer, given}
use Rattle.claims.specs.Claim.{accepted}
use Rattle.book.specs.Book.{Book, enter, note, opening_of, whose, sealed_by, told_of, Right}
use Rattle.book.specs.Holds.{Held, nowhere}
use Rattle.book.specs.Invariant.{Phased, Inv}

pub data Fine {A : Type 0} (f : A → Answer) (b : Book) (c : Call) : Out A → Type 0 where
  no_change : {number : ℕ} → Fine f b c (refused number)
  fine : {a : A} {t : State} → Right b c (f a) → Inv (enter b c (whose (opening_of (f a))) (sealed_by (f a))) t.phase t → Fine f b c (done a t)

module _ {A : Type 0} {f : A → Answer} {b : Book} {c : Call} where
  -- a question
  pub fine_ask : (t : Bool) (number : ℕ) {o : Out A} → (t ≡ true → Fine f b c o) → Fine f b c (ask t number o)
  fine_ask true number h = h refl
  fine_ask false number h = no_change

  -- a call with a fault
  pub fine_fault : (o : Option Fault) {g : Fault → Out A} → ((fault : Fault) → Fine f b c (g fault)) → Fine f b c (with_fault o g)
  fine_fault None h = no_change
  fine_fault (Some fault) h = fine_ask (within_limits fault) 9 (λ _. h fault)

  -- a call that belongs to closed
  pub fine_closed : (s : State) {o : Out A} → Inv b s.phase s → (Phased b closed → Held b nowhere s → Fine f b c o) → Fine f b c (ask (is_closed s.phase) 6 o)
  fine_closed s {o} i h = by s.phase i
    where
      by : (p : Phase) → Inv b p s → Fine f b c (ask (is_closed p) 6 o)
      by closed i = h i.phased i.held
      by (writing slot input owed) i = no_change
      by (sending slot input verdict owed) i = no_change

  -- a call that belongs to writing, and one that belongs to sending
  pub fine_writing : (s : State) {o : ℕ → Input → Owed → Out A} → Inv b s.phase s
      → ((slot : ℕ) (input : Input) (owed : Owed) → s.phase ≡ writing slot input owed → Inv b (writing slot input owed) s → Fine f b c (o slot input owed))
      → Fine f b c (while_writing s.phase o)
  fine_writing s {o} i h = by s.phase refl i
    where
      by : (p : Phase) → s.phase ≡ p → Inv b p s → Fine f b c (while_writing p o)
      by closed e i = no_change
      by (writing slot input owed) e i = h slot input owed e i
      by (sending slot input verdict owed) e i = no_change

  pub fine_sending : (s : State) {o : ℕ → Input → Verdict → Owed → Out A} → Inv b s.phase s
      → ((slot : ℕ) (input : Input) (verdict : Verdict) (owed : Owed) → s.phase ≡ sending slot input verdict owed → Inv b (sending slot input verdict owed) s
      → Fine f b c (o slot input verdict owed))
      → Fine f b c (while_sending s.phase o)
  fine_sending s {o} i h = by s.phase refl i
    where
      by : (p : Phase) → s.phase ≡ p → Inv b p s → Fine f b c (while_sending p o)
      by closed e i = no_change
      by (writing slot input owed) e i = no_change
      by (sending slot input verdict owed) e i = h slot input verdict owed e i

-- ---- what is given

-- what a fine outcome gives is right, and the invariant holds with the book after it
pub given_right : {A : Type 0} {f : A → Answer} {b : Book} {c : Call} {o : Out A} {a : Answer} {t : State} → ((x : A) → accepted (f x) ≡ true) → Fine f b c o → given f o ≡ done a t
    → (accepted a ≡ true → Right b c a) × Inv (note b c (told_of a)) t.phase t
unfolding note
given_right h no_change e = let z : ◌≡◌ {A = ℕ} 0 1 = cc in absurd (omega arith)
given_right {f = f} {b} {c} {a = a} {t = t} h (fine {a = x} {t = u} r j) e =
    let ea : f x ≡ a = cc in
    let et : u ≡ t = cc in
    subst (λ (y : Answer). (accepted y ≡ true → Right b c y) × Inv (note b c (told_of y)) t.phase t) ea
    (subst (λ (v : State). (accepted (f x) ≡ true → Right b c (f x)) × Inv (note b c (told_of (f x))) v.phase v) et ((λ _. r), noted))
  where
    noted : Inv (note b c (told_of (f x))) u.phase u
    noted = rw (h x) j
