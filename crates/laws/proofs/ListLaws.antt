-- Equal lists. Assumes nothing.
use Rattle.std.specs.Prelude.{◌≡◌}
use Rattle.std.proofs.Math.Path.{refl}
use Rattle.std.proofs.Common.{ap₂, eqb-true, eq-eqb}
use Rattle.std.proofs.Math.Bool.{true}
use mathlib.Core.List.{List, [], ◌∷◌}
use Prim.Native.Nat.{ℕ}
use Rattle.laws.specs.Bools.{and_left}
use Rattle.laws.proofs.BoolLaws.{and_right, and_both}
use Rattle.laws.specs.Decides.{false_true}
use Rattle.laws.specs.Lists.{same_list}

pub list_itself : (a : List ℕ) → same_list a a ≡ true
unfolding same_list
list_itself [] = refl
list_itself (x ∷ a) = and_both _ _ (eq-eqb x x refl) (list_itself a)

pub list_equal : (a b : List ℕ) → same_list a b ≡ true → a ≡ b
unfolding same_list
list_equal [] [] h = refl
list_equal [] (y ∷ b) h = absurd (false_true h)
list_equal (x ∷ a) [] h = absurd (false_true h)
list_equal (x ∷ a) (y ∷ b) h = ap₂ (λ (u : ℕ) (v : List ℕ). u ∷ v) (eqb-true x y (and_left _ _ h)) (list_equal a b (and_right _ _ h))
