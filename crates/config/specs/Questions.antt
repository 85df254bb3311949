-- Questions put one after another: the first no decides. Assumes nothing.
use Rattle.std.specs.Prelude.{Bool, List, [], ◌∷◌}
use Rattle.laws.specs.Bools.{pick}

-- What is answered where every question is answered yes, or else what stands beside the first that is answered no.
unfoldable pub first_no : {A : Type 0} → A → List (Bool × A) → A
first_no accepted [] = accepted
first_no accepted (q ∷ qs) = pick q.0 (first_no accepted qs) q.1
