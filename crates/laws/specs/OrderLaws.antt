-- What a row put into a list in order, pushed into it or taken out of it makes of its length. Assumes nothing.
use Rattle.std.specs.Prelude.{◌≡◌, Bool, Option, None, Some}
use Rattle.std.proofs.Math.Path.{refl, ap}
use Rattle.std.proofs.Math.Bool.{true, false}
use mathlib.Core.List.{List, [], ◌∷◌}
use Prim.Native.Nat.{suc, ◌+◌, ◌≤◌}
use native.Mathlib.Omega.{arith}
use Rattle.std.proofs.Math.ListN.{length}
use Rattle.laws.specs.Bools.{pick}
use Rattle.laws.specs.Lists.{is_some}
use Rattle.laws.specs.Order.{Order, insert_by, push_by, remove_by, lookup}

module _ {K T : Type 0} (O : Order K) (key : T → K) where
  -- one more, unless a row with its key is there
  pub length_insert : (a : T) (x : List T) → length (insert_by O key a x) ≡ pick (is_some (lookup O key (key a) x)) (length x) (length x + 1)
  unfolding insert_by lookup
  length_insert a [] = omega arith
  length_insert a (b ∷ x) = by (O.before (key b) (key a)) (O.before (key a) (key b)) (lookup O key (key a) x) (length_insert a x)
    where
      by : (s t : Bool) (o : Option T) → length (insert_by O key a x) ≡ pick (is_some o) (length x) (length x + 1)
          → length (pick s (b ∷ insert_by O key a x) (pick t (a ∷ b ∷ x) (b ∷ x))) ≡ pick (is_some (pick s o (pick t None (Some b)))) (length (b ∷ x)) (length (b ∷ x) + 1)
      by true t None h = omega (arith, h)
      by true t (Some c) h = ap suc h
      by false true o h = omega arith
      by false false o h = refl

  -- so no fewer, and at most one more
  pub insert_least : (a : T) (x : List T) → length x ≤ length (insert_by O key a x)
  insert_least a x = by (is_some (lookup O key (key a) x)) (length_insert a x)
    where
      by : (t : Bool) → length (insert_by O key a x) ≡ pick t (length x) (length x + 1) → length x ≤ length (insert_by O key a x)
      by true h = omega (arith, h)
      by false h = omega (arith, h)

  pub insert_most : (a : T) (x : List T) → length (insert_by O key a x) ≤ length x + 1
  insert_most a x = by (is_some (lookup O key (key a) x)) (length_insert a x)
    where
      by : (t : Bool) → length (insert_by O key a x) ≡ pick t (length x) (length x + 1) → length (insert_by O key a x) ≤ length x + 1
      by true h = omega (arith, h)
      by false h = omega (arith, h)

  pub length_push : (a : T) (x : List T) → length (push_by O key a x) ≡ length x + 1
  unfolding push_by
  length_push a [] = omega arith
  length_push a (b ∷ x) = by (O.before (key a) (key b)) (length_push a x)
    where
      by : (t : Bool) → length (push_by O key a x) ≡ length x + 1 → length (pick t (a ∷ b ∷ x) (b ∷ push_by O key a x)) ≡ length (b ∷ x) + 1
      by true h = omega arith
      by false h = omega (arith, h)

  -- one fewer where a row with that key is there
  pub length_remove : (k : K) (x : List T) → length (remove_by O key k x) + pick (is_some (lookup O key k x)) 1 0 ≡ length x
  unfolding remove_by lookup
  length_remove k [] = omega arith
  length_remove k (b ∷ x) = by (O.before (key b) k) (O.before k (key b)) (lookup O key k x) (length_remove k x)
    where
      by : (s t : Bool) (o : Option T) → length (remove_by O key k x) + pick (is_some o) 1 0 ≡ length x
          → length (pick s (b ∷ remove_by O key k x) (pick t (b ∷ x) x)) + pick (is_some (pick s o (pick t None (Some b)))) 1 0 ≡ length (b ∷ x)
      by true t None h = omega (arith, h)
      by true t (Some c) h = omega (arith, h)
      by false true o h = omega arith
      by false false o h = omega arith

  pub remove_most : (k : K) (x : List T) → length (remove_by O key k x) ≤ length x
  remove_most k x = omega (arith, length_remove k x)
