-- Tests, their conjunctions and choices by a test, with laws on them: a conjunction of many tests is `allb` of a list, taken apart by place
-- (`allb_in ts h 3`) and refuted at a place (`allb_at`). These laws are in proofs/BoolLaws.antt. Assumes nothing.
use Rattle.std.specs.Prelude.{◌≡◌, refl, Bool, true, false, ◌&&◌, List, [], ◌∷◌}

-- a where the test is true, b where it is false
abbrev pub pick : {A : Type 0} → Bool → A → A → A
pick true a b = a
pick false a b = b

-- by a test, with what it answered
pub cases : {A : Type 0} (t : Bool) → (t ≡ true → A) → (t ≡ false → A) → A
cases true f g = f refl
cases false f g = g refl

-- what holds of both answers holds of the one that a test picks
pub pick_both : {A : Type 0} (P : A → Type 0) (t : Bool) {a b : A} → P a → P b → P (pick t a b)
pick_both P true p q = p
pick_both P false p q = q

-- conjunction. Shut, so that antt finds the arguments of the laws below: `and_left _ _ h`
infixr 35 ◌and◌
unfoldable pub ◌and◌ : Bool → Bool → Bool
true and b = b
false and b = false

-- every test of a list is true
abbrev pub allb : List Bool → Bool
allb [] = true
allb (b ∷ bs) = b and allb bs

pub and_left : (a b : Bool) → (a and b) ≡ true → a ≡ true
unfolding ◌and◌
and_left true b h = refl
and_left false b h = h

pub no_and : (a b : Bool) → a ≡ false → (a and b) ≡ false
unfolding ◌and◌
no_and true b h = cc
no_and false b h = refl

pub and_assoc : (a b c : Bool) → (a and b) and c ≡ a and (b and c)
unfolding ◌and◌
and_assoc true b c = refl
and_assoc false b c = refl

pub and_true : (a : Bool) → (a and true) ≡ a
unfolding ◌and◌
and_true true = refl
and_true false = refl

-- the two parts of the code's `&` that is true
pub first_true : (t u : Bool) → (t && u) ≡ true → t ≡ true
first_true true u h = refl
first_true false u h = h

pub second_true : (t u : Bool) → (t && u) ≡ true → u ≡ true
second_true true u h = h
second_true false u h = cc

-- a test of every element
abbrev pub every : {A : Type 0} → (A → Bool) → List A → Bool
every f [] = true
every f (x ∷ xs) = f x and every f xs
