-- Tests of lists and of tables, of which one part is another. Assumes nothing.
use Rattle.std.specs.Prelude.{◌≡◌, Bool, ℕ, zero, suc, ◌+◌, ◌≤◌, ◌<◌, leb, ltb, length, get_or, set, Option, None, Some}
use Rattle.std.proofs.Math.Path.{refl, ap}
use Rattle.std.proofs.Common.{sym, ap₂, ◌∙◌, arith, length-append, le-leb, ltb-true, ltb-false, leb-true}
use Rattle.std.proofs.Math.Bool.{true, false}
use mathlib.Core.List.{List, [], ◌∷◌, ◌++◌, map}
use Rattle.std.proofs.lemmas.Bool.{lt-leb}
use Rattle.laws.specs.Bools.{pick, cases, ◌and◌, allb, and_left, no_and, and_assoc, and_true, every}
use Rattle.laws.proofs.BoolLaws.{and_right, and_both, true_and, every_append}
use Rattle.laws.specs.Decides.{false_true}
use Rattle.laws.specs.Lists.{is_some}
use Rattle.laws.specs.Order.{Order, below, next, chain, rising, lookup, insert_by}
use Rattle.laws.specs.OrderLaws.{length_insert, insert_least}
use Rattle.layout.specs.Tables.{Table}
use Rattle.layout.specs.Sorted.{rising_insert}
use Rattle.model.specs.Fits.{table_fits}

-- ---- lists of tests

pub and_swap : (a b c : Bool) → (a and (b and c)) ≡ (b and (a and c))
unfolding ◌and◌
and_swap true true c = refl
and_swap true false c = refl
and_swap false true c = refl
and_swap false false c = refl

-- one test that is asked one more
pub allb_more : (bs : List Bool) (i : ℕ) (t : Bool) → i < length bs → allb (set bs i (t and get_or bs i true)) ≡ (t and allb bs)
allb_more [] i t k = absurd (omega arith)
allb_more (b ∷ bs) zero t k = and_assoc t b (allb bs)
allb_more (b ∷ bs) (suc i) t k = ap (λ (u : Bool). b and u) (allb_more bs i t (omega arith)) ∙ and_swap b t (allb bs)

-- one test that is another, where the new one follows: all were true before
pub allb_before : (bs : List Bool) (i : ℕ) (t : Bool) → i < length bs → (t ≡ true → get_or bs i true ≡ true) → allb (set bs i t) ≡ true
    → allb bs ≡ true
allb_before [] i t k f h = absurd (omega arith)
allb_before (b ∷ bs) zero t k f h = and_both _ _ (f (and_left _ _ h)) (and_right _ _ h)
allb_before (b ∷ bs) (suc i) t k f h = and_both _ _ (and_left _ _ h) (allb_before bs i t (omega arith) f (and_right _ _ h))

-- ---- tables

-- what a table in range says
pub table_every : {A : Type 0} (t : Table A) (room : ℕ) (xs : List A) → table_fits t room xs ≡ true → every t.row.good xs ≡ true
table_every t room xs h = and_left _ _ (and_right _ _ h)

pub table_room : {A : Type 0} (t : Table A) (room : ℕ) (xs : List A) → table_fits t room xs ≡ true → length xs ≤ room
table_room t room xs h = leb-true _ _ (and_left _ _ h)

pub table_rule : {A : Type 0} (t : Table A) (room : ℕ) (xs : List A) → table_fits t room xs ≡ true → t.rule xs ≡ true
table_rule t room xs h = and_right _ _ (and_right _ _ h)

-- one row more has room
one_more : (room n m : ℕ) → m ≡ n + 1 → leb m room ≡ ltb n room
one_more room n m e =
    cases (ltb n room) (λ t. le-leb m room (omega (arith, ltb-true n room t)) ∙ sym t)
    (λ t. lt-leb m room (omega (arith, ltb-false n room t)) ∙ sym t)

-- a row after the last: there is room, and it is in range
pub append_fits : {A : Type 0} (t : Table A) (room : ℕ) (xs : List A) (x : A) → every t.row.good xs ≡ true
    → (length xs < room → t.rule (xs ++ x ∷ []) ≡ true) → table_fits t room (xs ++ x ∷ []) ≡ (ltb (length xs) room and t.row.good x)
append_fits t room xs x h keeps =
    let more : leb (length (xs ++ x ∷ [])) room ≡ ltb (length xs) room =
    one_more room (length xs) (length (xs ++ x ∷ [])) (length-append xs (x ∷ [])) in
    let good : every t.row.good (xs ++ x ∷ []) ≡ t.row.good x =
    every_append t.row.good xs (x ∷ []) ∙ ap₂ (λ (u v : Bool). u and v) h (and_true (t.row.good x)) ∙ true_and _ in
    ap₂ (λ (u v : Bool). u and v and t.rule (xs ++ x ∷ [])) more good
    ∙ cases (ltb (length xs) room)
    (λ e. rw e (ap (λ (u : Bool). true and t.row.good x and u) (keeps (ltb-true _ _ e)) ∙ ap (λ (u : Bool). true and u) (and_true _)))
    (λ e. rw e (no_and _ _ refl ∙ sym (no_and _ _ refl)))

-- what fits with a row after the last fits without it
pub append_before : {A : Type 0} (t : Table A) (room : ℕ) (xs : List A) (x : A) → t.rule xs ≡ true → table_fits t room (xs ++ x ∷ []) ≡ true
    → table_fits t room xs ≡ true
append_before t room xs x rule h =
    let n : length xs ≤ room = omega (arith, table_room t room (xs ++ x ∷ []) h, length-append xs (x ∷ [])) in
    and_both _ _ (le-leb (length xs) room n)
    (and_both _ _ (and_left _ _ (sym (every_append t.row.good xs (x ∷ [])) ∙ table_every t room (xs ++ x ∷ []) h)) rule)

-- ---- a row put in by its key

module _ {K T : Type 0} (O : Order K) (key : T → K) where
  -- a row whose key is there changes nothing
  pub insert_known : (a : T) (x : List T) → is_some (lookup O key (key a) x) ≡ true → insert_by O key a x ≡ x
  unfolding insert_by lookup
  insert_known a [] h = absurd (false_true h)
  insert_known a (b ∷ x) h = by (O.before (key b) (key a)) (O.before (key a) (key b)) h (insert_known a x)
    where
      by : (p q : Bool) → is_some (pick p (lookup O key (key a) x) (pick q None (Some b))) ≡ true
          → (is_some (lookup O key (key a) x) ≡ true → insert_by O key a x ≡ x)
          → pick p (b ∷ insert_by O key a x) (pick q (a ∷ b ∷ x) (b ∷ x)) ≡ b ∷ x
      by true q h f = ap (λ (l : List T). b ∷ l) (f h)
      by false true h f = absurd (false_true h)
      by false false h f = refl

  -- one whose key is not there is one more to be tested
  pub every_new : (p : T → Bool) (a : T) (x : List T) → is_some (lookup O key (key a) x) ≡ false
      → every p (insert_by O key a x) ≡ (p a and every p x)
  unfolding insert_by lookup
  every_new p a [] h = refl
  every_new p a (b ∷ x) h = by (O.before (key b) (key a)) (O.before (key a) (key b)) h (every_new p a x)
    where
      by : (u v : Bool) → is_some (pick u (lookup O key (key a) x) (pick v None (Some b))) ≡ false
          → (is_some (lookup O key (key a) x) ≡ false → every p (insert_by O key a x) ≡ (p a and every p x))
          → every p (pick u (b ∷ insert_by O key a x) (pick v (a ∷ b ∷ x) (b ∷ x))) ≡ (p a and (p b and every p x))
      by true v h f = ap (λ (w : Bool). p b and w) (f h) ∙ and_swap (p b) (p a) (every p x)
      by false true h f = refl
      by false false h f = absurd (false_true (sym h))

  -- A row put in by its key, in range: one of its key is there; or there is room, and it is in range.
  abbrev pub insert_fits : Table T → ℕ → T → List T → Bool
  insert_fits t room a x = pick (is_some (lookup O key (key a) x)) true (ltb (length x) room and t.row.good a)

  pub insert_fits_lem : (t : Table T) (room : ℕ) (a : T) (x : List T) → ((y : List T) → t.rule y ≡ rising O (map key y))
      → table_fits t room x ≡ true → table_fits t room (insert_by O key a x) ≡ insert_fits t room a x
  insert_fits_lem t room a x keyed h =
      cases (is_some (lookup O key (key a) x))
      (λ e. ap (table_fits t room) (insert_known a x e) ∙ h
      ∙ sym (ap (λ (u : Bool). pick u true (ltb (length x) room and t.row.good a)) e)) new
    where
      new : is_some (lookup O key (key a) x) ≡ false → table_fits t room (insert_by O key a x) ≡ insert_fits t room a x
      new e =
          let n : length (insert_by O key a x) ≡ length x + 1 =
          length_insert O key a x ∙ ap (λ (u : Bool). pick u (length x) (length x + 1)) e in
          let rule : t.rule (insert_by O key a x) ≡ true =
          keyed (insert_by O key a x) ∙ rising_insert O key a x (sym (keyed x) ∙ table_rule t room x h) in
          let good : every t.row.good (insert_by O key a x) ≡ t.row.good a =
          every_new t.row.good a x e ∙ ap (λ (u : Bool). t.row.good a and u) (table_every t room x h) ∙ and_true _ in
          let fits : table_fits t room (insert_by O key a x) ≡ (ltb (length x) room and t.row.good a) =
          ap₂ (λ (u v : Bool). u and v) (one_more room (length x) (length (insert_by O key a x)) n)
          (ap₂ (λ (u v : Bool). u and v) good rule ∙ and_true _) in
          fits ∙ sym (ap (λ (u : Bool). pick u true (ltb (length x) room and t.row.good a)) e)

  -- what every row passes with it every row passes without it
  every_before : (p : T → Bool) (a : T) (x : List T) → every p (insert_by O key a x) ≡ true → every p x ≡ true
  unfolding insert_by
  every_before p a [] h = refl
  every_before p a (b ∷ x) h = by (O.before (key b) (key a)) (O.before (key a) (key b)) h (every_before p a x)
    where
      by : (u v : Bool) → every p (pick u (b ∷ insert_by O key a x) (pick v (a ∷ b ∷ x) (b ∷ x))) ≡ true
          → (every p (insert_by O key a x) ≡ true → every p x ≡ true) → every p (b ∷ x) ≡ true
      by true v h f = and_both _ _ (and_left _ _ h) (f (and_right _ _ h))
      by false true h f = and_right _ _ h
      by false false h f = h

  -- a key below the first of the rows with it is below the first without it
  next_before : (k : K) (a : T) (x : List T) → O.before k (key a) ≡ true → next (below O) k (map key (insert_by O key a x)) ≡ true
      → next (below O) k (map key x) ≡ true
  unfolding insert_by below
  next_before k a [] l h = refl
  next_before k a (c ∷ x) l h = by (O.before (key c) (key a)) (O.before (key a) (key c)) refl h
    where
      by : (u v : Bool) → O.before (key a) (key c) ≡ v
          → next (below O) k (map key (pick u (c ∷ insert_by O key a x) (pick v (a ∷ c ∷ x) (c ∷ x)))) ≡ true → O.before k (key c) ≡ true
      by true v e h = h
      by false true e h = O.transitive k (key a) (key c) l e
      by false false e h = h

  rising_before : (a : T) (x : List T) → rising O (map key (insert_by O key a x)) ≡ true → rising O (map key x) ≡ true
  unfolding insert_by chain
  rising_before a [] h = refl
  rising_before a (b ∷ x) h = by (O.before (key b) (key a)) (O.before (key a) (key b)) refl h (rising_before a x)
    where
      by : (u v : Bool) → O.before (key b) (key a) ≡ u
          → rising O (map key (pick u (b ∷ insert_by O key a x) (pick v (a ∷ b ∷ x) (b ∷ x)))) ≡ true
          → (rising O (map key (insert_by O key a x)) ≡ true → rising O (map key x) ≡ true) → rising O (map key (b ∷ x)) ≡ true
      by true v e h f = and_both _ _ (next_before (key b) a x e (and_left _ _ h)) (f (and_right _ _ h))
      by false true e h f = and_right _ _ h
      by false false e h f = h

  -- what fits with it fits without it
  pub insert_before : (t : Table T) (room : ℕ) (a : T) (x : List T) → ((y : List T) → t.rule y ≡ rising O (map key y))
      → table_fits t room (insert_by O key a x) ≡ true → table_fits t room x ≡ true
  insert_before t room a x keyed h =
      let n : length x ≤ room = omega (arith, insert_least O key a x, table_room t room (insert_by O key a x) h) in
      and_both _ _ (le-leb (length x) room n)
      (and_both _ _ (every_before t.row.good a x (table_every t room (insert_by O key a x) h))
      (keyed x ∙ rising_before a x (sym (keyed (insert_by O key a x)) ∙ table_rule t room (insert_by O key a x) h)))

-- an option that holds nothing
pub is_none : {A : Type 0} (o : Option A) → is_some o ≡ false → o ≡ None
is_none None h = refl
is_none (Some a) h = absurd (false_true (sym h))
