-- What a true conjunction says of its second part, and what follows from it: tests of a list by place, and tests of every element. These
-- laws rest on what `and` is (specs/Bools.antt). Assumes nothing.
use Rattle.std.specs.Prelude.{◌≡◌, refl, Bool, true, false, ◌&&◌, List, [], ◌∷◌, ◌++◌, ℕ, zero, suc, ◌<◌, length, get_or, set}
use Rattle.std.proofs.Common.{sym, arith}
use Rattle.laws.specs.Bools.{◌and◌, allb, and_left, no_and, and_assoc, every}

pub and_right : (a b : Bool) → (a and b) ≡ true → b ≡ true
unfolding ◌and◌
and_right true b h = h
and_right false b h = cc

pub and_both : (a b : Bool) → a ≡ true → b ≡ true → (a and b) ≡ true
unfolding ◌and◌
and_both true b h k = k
and_both false b h k = h

pub and_no : (a b : Bool) → b ≡ false → (a and b) ≡ false
unfolding ◌and◌
and_no true b h = h
and_no false b h = refl

-- the code's `&`
pub code_and : (a b : Bool) → (a && b) ≡ (a and b)
unfolding ◌and◌
code_and true b = refl
code_and false b = refl

pub true_and : (b : Bool) → (true and b) ≡ b
unfolding ◌and◌
true_and b = refl

pub allb_in : (bs : List Bool) → allb bs ≡ true → (i : ℕ) → get_or bs i true ≡ true
allb_in [] h i = refl
allb_in (b ∷ bs) h zero = and_left b (allb bs) h
allb_in (b ∷ bs) h (suc i) = allb_in bs (and_right b (allb bs) h) i

pub allb_at : (bs : List Bool) (i : ℕ) → get_or bs i true ≡ false → allb bs ≡ false
allb_at [] i h = cc
allb_at (b ∷ bs) zero h = no_and b (allb bs) h
allb_at (b ∷ bs) (suc i) h = and_no b (allb bs) (allb_at bs i h)

module _ {A : Type 0} (f : A → Bool) where
  pub every_append : (xs ys : List A) → every f (xs ++ ys) ≡ (every f xs and every f ys)
  every_append [] ys = sym (true_and (every f ys))
  every_append (x ∷ xs) ys = rw (every_append xs ys, and_assoc)

  pub every_get : (xs : List A) (i : ℕ) (d : A) → i < length xs → every f xs ≡ true → f (get_or xs i d) ≡ true
  every_get [] i d h e = absurd (not_below_lem h)
    where
      not_below_lem : i < 0 → ⊥
      not_below_lem h = omega arith
  every_get (x ∷ xs) zero d h e = and_left (f x) (every f xs) e
  every_get (x ∷ xs) (suc i) d h e = every_get xs i d (omega arith) (and_right (f x) (every f xs) e)

  pub every_set : (xs : List A) (i : ℕ) (y : A) → every f xs ≡ true → f y ≡ true → every f (set xs i y) ≡ true
  every_set [] i y e h = refl
  every_set (x ∷ xs) zero y e h = and_both (f y) (every f xs) h (and_right (f x) (every f xs) e)
  every_set (x ∷ xs) (suc i) y e h = and_both (f x) (every f (set xs i y)) (and_left (f x) (every f xs) e) (every_set xs i y (and_right (f x) (every f xs) e) h)

  pub every_at : (xs : List A) (i : ℕ) (d : A) → i < length xs → f (get_or xs i d) ≡ false → every f xs ≡ false
  every_at [] i d h e = absurd (not_below_lem h)
    where
      not_below_lem : i < 0 → ⊥
      not_below_lem h = omega arith
  every_at (x ∷ xs) zero d h e = no_and (f x) (every f xs) e
  every_at (x ∷ xs) (suc i) d h e = and_no (f x) (every f xs) (every_at xs i d (omega arith) e)

-- two tests of every element
module _ {A : Type 0} (f g : A → Bool) where
  pub every_first : (xs : List A) → every (λ x. f x and g x) xs ≡ true → every f xs ≡ true
  every_first [] h = refl
  every_first (x ∷ xs) h = and_both _ _ (and_left _ _ (and_left _ _ h)) (every_first xs (and_right _ _ h))

  pub every_second : (xs : List A) → every (λ x. f x and g x) xs ≡ true → every g xs ≡ true
  every_second [] h = refl
  every_second (x ∷ xs) h = and_both _ _ (and_right _ _ (and_left _ _ h)) (every_second xs (and_right _ _ h))

  pub every_both : (xs : List A) → every f xs ≡ true → every g xs ≡ true → every (λ x. f x and g x) xs ≡ true
  every_both [] h k = refl
  every_both (x ∷ xs) h k = and_both _ _ (and_both _ _ (and_left _ _ h) (and_left _ _ k)) (every_both xs (and_right _ _ h) (and_right _ _ k))

-- a test of every element that follows from another
pub every_by : {A : Type 0} (f g : A → Bool) → ((x : A) → f x ≡ true → g x ≡ true) → (xs : List A) → every f xs ≡ true → every g xs ≡ true
every_by f g i [] h = refl
every_by f g i (x ∷ xs) h = and_both _ _ (i x (and_left _ _ h)) (every_by f g i xs (and_right _ _ h))
