-- An array that a function of the index makes, as the code's `array::from_fn`. Assumes nothing.
use Rattle.std.specs.Prelude.{◌≡◌, List, ◌∷◌, ℕ, zero, suc, ◌+◌, ◌<◌, length, drop}
use Rattle.std.proofs.Common.{ap₂, ◌∙◌, subst, add-one, arith, drop_of_length-le, drop-cons}
use Rattle.std.specs.Fn.{Called, Mut}
use Rattle.std.specs.Array.{IsFromFnResult, IsFromFnResultFrom}
use Rattle.laws.specs.Lists.{list_from}

module _ {F B : Type 0} (g : Mut F (ℕ × Unit {0}) B) (h : ℕ → B) (f : F) (step : (i : ℕ) (y : B) (q : F) → Called g f (i, tt) y q → (q ≡ f) × (y ≡ h i)) where
  from_place : (ys : List B) (i n : ℕ) (p : F) → p ≡ f → length ys ≡ i + n → IsFromFnResultFrom g p ys i n → drop i ys ≡ list_from i n h
  unfolding list_from
  from_place ys i zero p e l r = drop_of_length-le ys {i = i} (omega (arith, l))
  from_place ys i (suc n) p e l (q, y, at, call, rest) =
      let s = step i y q (subst (λ (c : F). Called g c (i, tt) y q) e call) in
      let k : i < length ys = omega (arith, l) in
      drop-cons ys i y k
      ∙ ap₂ (λ (x : B) (xs : List B). x ∷ xs) (at.0 ∙ s.1) (from_place ys (suc i) n q s.0 (omega (arith, l)) (rw add-one at rest))

  -- where each call leaves the function as it was, and gives h of the index
  pub from_fn_list : {ys : List B} {n : ℕ} → IsFromFnResult g f ys n → ys ≡ list_from 0 n h
  from_fn_list {ys} {n} r = from_place ys 0 n f (λ i. f) (omega (arith, r.long)) r.each
