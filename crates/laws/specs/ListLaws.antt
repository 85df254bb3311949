-- Elements by place, and what holds of each element, by its place, and how it is kept as the list changes. Assumes nothing.
use Rattle.std.specs.Prelude.{◌≡◌, Bool, length, get_or, drop, None, Some}
use Rattle.std.proofs.Math.Path.{refl, subst}
use Rattle.std.proofs.Common.{sym, ap, ◌∙◌, add-one, arith, drop-cons}
use Rattle.std.proofs.Math.Bool.{true, false}
use mathlib.Core.List.{List, [], ◌∷◌, ◌++◌}
use Prim.Native.Nat.{ℕ, zero, suc, ◌+◌, ◌≤◌, ◌<◌}
use Rattle.laws.specs.Bools.{pick}
use Rattle.laws.specs.Decides.{false_true}
use Rattle.laws.specs.Lists.{modify, is_some, at}
use Rattle.laws.specs.Order.{Order, push_by}

-- ---- the element at a place

module _ {A : Type 0} where
  pub at_there : (x : List A) (i : ℕ) (d : A) → i < length x → at x i ≡ Some (get_or x i d)
  unfolding at
  at_there [] i d h = absurd (omega arith)
  at_there (a ∷ x) zero d h = refl
  at_there (a ∷ x) (suc i) d h = at_there x i d (omega arith)

  pub at_none : (x : List A) (i : ℕ) → length x ≤ i → at x i ≡ None
  unfolding at
  at_none [] i h = refl
  at_none (a ∷ x) zero h = absurd (omega arith)
  at_none (a ∷ x) (suc i) h = at_none x i (omega arith)

  -- from place i on: what stands there, and the rest, as a turn of a loop has it
  pub drop_next : (x : List A) (i : ℕ) (d : A) → i < length x → drop i x ≡ get_or x i d ∷ drop (i + 1) x
  drop_next x i d h = drop-cons x i d h ∙ ap (λ (k : ℕ). get_or x i d ∷ drop k x) (sym (add-one i))

-- ---- what holds of each element

-- P holds of each element and its place
abbrev pub Each : {A : Type 0} → (ℕ → A → Type 0) → List A → Type 0
Each P [] = Unit {0}
Each P (x ∷ xs) = P zero x × Each (λ i. P (suc i)) xs

module _ {A : Type 0} where
  pub each_map : (P Q : ℕ → A → Type 0) → ((i : ℕ) (x : A) → P i x → Q i x) → (xs : List A) → Each P xs → Each Q xs
  each_map P Q f [] h = tt
  each_map P Q f (x ∷ xs) h = (f zero x h.0, each_map (λ i. P (suc i)) (λ i. Q (suc i)) (λ i. f (suc i)) xs h.1)

  pub each_get : (P : ℕ → A → Type 0) (xs : List A) → Each P xs → (i : ℕ) (d : A) → i < length xs → P i (get_or xs i d)
  each_get P [] h i d l = absurd (below_zero l)
    where
      below_zero : i < 0 → ⊥
      below_zero l = omega arith
  each_get P (x ∷ xs) h zero d l = h.0
  each_get P (x ∷ xs) h (suc i) d l = each_get (λ i. P (suc i)) xs h.1 i d (omega arith)

  pub each_at : (P : ℕ → A → Type 0) (xs : List A) → Each P xs → (i : ℕ) (x : A) → at xs i ≡ Some x → P i x
  unfolding at
  each_at P [] h i x e = absurd (false_true (ap is_some e))
  each_at P (y ∷ xs) h zero x e = subst (P zero) (cc) h.0
  each_at P (y ∷ xs) h (suc i) x e = each_at (λ i. P (suc i)) xs h.1 i x e

  pub each_snoc : (P : ℕ → A → Type 0) (xs : List A) (y : A) → Each P xs → P (length xs) y → Each P (xs ++ (y ∷ []))
  each_snoc P [] y h p = (p, tt)
  each_snoc P (x ∷ xs) y h p = (h.0, each_snoc (λ i. P (suc i)) xs y h.1 p)

  -- the element at place i changed: what is kept there, and what at every other place
  pub each_modify : (P Q : ℕ → A → Type 0) (i : ℕ) (f : A → A)
      → ((x : A) → P i x → Q i (f x))
      → ((k : ℕ) → (k ≡ i → ⊥) → (x : A) → P k x → Q k x)
      → (xs : List A) → Each P xs → Each Q (modify i f xs)
  unfolding modify
  each_modify P Q i f hit miss [] h = tt
  each_modify P Q zero f hit miss (x ∷ xs) h =
      (hit x h.0, each_map (λ k. P (suc k)) (λ k. Q (suc k)) (λ k. miss (suc k) (λ e. omega arith)) xs h.1)
  each_modify P Q (suc i) f hit miss (x ∷ xs) h = (
    miss zero (λ e. omega arith) x h.0,
    each_modify (λ k. P (suc k)) (λ k. Q (suc k)) i f hit (λ k n. miss (suc k) (λ e. n (omega arith))) xs h.1,
  )

  -- an element pushed, where the place does not matter
  pub each_push : {K : Type 0} (P : A → Type 0) (O : Order K) (key : A → K) (x : A) (ys : List A) → P x → Each (λ _. P) ys → Each (λ _. P) (push_by O key x ys)
  unfolding push_by
  each_push P O key x [] p h = (p, tt)
  each_push P O key x (y ∷ ys) p h = by (O.before (key x) (key y)) (each_push P O key x ys p h.1)
    where
      by : (t : Bool) → Each (λ _. P) (push_by O key x ys) → Each (λ _. P) (pick t (x ∷ y ∷ ys) (y ∷ push_by O key x ys))
      by true more = (p, h)
      by false more = (h.0, more)
