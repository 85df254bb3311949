-- Lists by place. Assumes nothing.
use Rattle.std.specs.Prelude.{Bool, true, false, List, [], ◌∷◌, ℕ, zero, suc, eqb, Option, None, Some}
pub use Rattle.std.specs.Prelude.{is_some}
use Rattle.laws.specs.Bools.{◌and◌}
pub use Rattle.std.specs.Option.{is_some}

-- the element at place i changed by f
unfoldable pub modify : {A : Type 0} → ℕ → (A → A) → List A → List A
modify i f [] = []
modify zero f (x ∷ xs) = f x ∷ xs
modify (suc i) f (x ∷ xs) = x ∷ modify i f xs

-- the list of f at n numbers from i on
unfoldable pub list_from : {A : Type 0} → ℕ → ℕ → (ℕ → A) → List A
list_from i zero f = []
list_from i (suc n) f = f i ∷ list_from (suc i) n f

-- the element at place i, if there is one
unfoldable pub at : {A : Type 0} → List A → ℕ → Option A
at [] i = None
at (x ∷ xs) zero = Some x
at (x ∷ xs) (suc i) = at xs i

-- whether two lists of numbers are equal
unfoldable pub same_list : List ℕ → List ℕ → Bool
same_list [] [] = true
same_list [] (y ∷ ys) = false
same_list (x ∷ xs) [] = false
same_list (x ∷ xs) (y ∷ ys) = eqb x y and same_list xs ys
