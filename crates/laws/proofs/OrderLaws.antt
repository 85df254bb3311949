-- What a row put into a list in order, pushed into it or taken out of it makes of the tests of its rows. Assumes nothing.
use Rattle.std.specs.Prelude.{◌≡◌, Bool}
use Rattle.std.proofs.Math.Path.{refl}
use Rattle.std.proofs.Math.Bool.{true, false}
use mathlib.Core.List.{List, [], ◌∷◌}
use Rattle.laws.specs.Bools.{pick, every, and_left}
use Rattle.laws.proofs.BoolLaws.{and_right, and_both}
use Rattle.laws.specs.Order.{Order, insert_by, push_by, remove_by}

module _ {K T : Type 0} (O : Order K) (key : T → K) where
  module _ (p : T → Bool) where
    pub every_insert : (a : T) (x : List T) → p a ≡ true → every p x ≡ true → every p (insert_by O key a x) ≡ true
    unfolding insert_by
    every_insert a [] h k = and_both _ _ h refl
    every_insert a (b ∷ x) h k = by (O.before (key b) (key a)) (O.before (key a) (key b)) (every_insert a x h (and_right _ _ k))
      where
        by : (s t : Bool) → every p (insert_by O key a x) ≡ true → every p (pick s (b ∷ insert_by O key a x) (pick t (a ∷ b ∷ x) (b ∷ x))) ≡ true
        by true t more = and_both _ _ (and_left _ _ k) more
        by false true more = and_both _ _ h k
        by false false more = k

    pub every_push : (a : T) (x : List T) → p a ≡ true → every p x ≡ true → every p (push_by O key a x) ≡ true
    unfolding push_by
    every_push a [] h k = and_both _ _ h refl
    every_push a (b ∷ x) h k = by (O.before (key a) (key b)) (every_push a x h (and_right _ _ k))
      where
        by : (t : Bool) → every p (push_by O key a x) ≡ true → every p (pick t (a ∷ b ∷ x) (b ∷ push_by O key a x)) ≡ true
        by true more = and_both _ _ h k
        by false more = and_both _ _ (and_left _ _ k) more

    pub every_remove : (k : K) (x : List T) → every p x ≡ true → every p (remove_by O key k x) ≡ true
    unfolding remove_by
    every_remove k [] h = refl
    every_remove k (b ∷ x) h = by (O.before (key b) k) (O.before k (key b)) (every_remove k x (and_right _ _ h))
      where
        by : (s t : Bool) → every p (remove_by O key k x) ≡ true → every p (pick s (b ∷ remove_by O key k x) (pick t (b ∷ x) x)) ≡ true
        by true t more = and_both _ _ (and_left _ _ h) more
        by false true more = h
        by false false more = and_right _ _ h
