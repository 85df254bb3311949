-- Lists in order: where a key is, what a row put in or taken out leaves, and that keys which rise are each there once. Assumes nothing.
use Rattle.std.specs.Prelude.{◌≡◌, Bool, ◌⊎◌, ltb, length, get_or, Option, None, Some, Result, Ok, Err}
use Rattle.std.proofs.Math.Path.{refl, sym, ap, subst}
use Rattle.std.proofs.Common.{◌∙◌, lt-ltb, le-ltb}
use Rattle.std.proofs.Math.Bool.{true, false, not}
use mathlib.Core.List.{List, [], ◌∷◌, ◌++◌, map}
use Rattle.std.proofs.Math.Logic.{⊎_elim}
use Prim.Native.Nat.{ℕ, zero, suc, ◌≤◌, ◌<◌}
use native.Mathlib.Omega.{arith}
use Rattle.std.proofs.Math.Dec.{leb-suc-suc}
use Rattle.std.proofs.Math.ListN.{take, drop}
use Rattle.laws.specs.Bools.{pick, and_left, every}
use Rattle.laws.proofs.BoolLaws.{and_right, and_both, every_get}
use Rattle.laws.specs.Decides.{false_true}
use Rattle.layout.specs.Tables.{insert_at, remove_at}
use Rattle.laws.specs.Order.{Order, below, not_below, next, chain, rising, sorted, insert_by, push_by, remove_by, lookup}
use Rattle.layout.specs.Order.{first, place, last_place, later, find}

-- ---- the first element that f takes

pick_le : (b : Bool) {m n : ℕ} → m ≤ n → pick b 0 (suc m) ≤ suc n
pick_le true h = omega arith
pick_le false h = omega arith

module _ {A : Type 0} (f : A → Bool) where
  pub first_le : (x : List A) → first f x ≤ length x
  unfolding first
  first_le [] = omega arith
  first_le (a ∷ x) = pick_le (f a) (first_le x)

-- ---- orders

module _ {K : Type 0} (O : Order K) where
  pub asymmetric : (a b : K) → O.before a b ≡ true → O.before b a ≡ false
  asymmetric a b h = by (O.before b a) refl
    where
      by : (t : Bool) → O.before b a ≡ t → t ≡ false
      by true e = absurd (false_true (sym (O.irreflexive a) ∙ O.transitive a b a h e))
      by false e = refl

  -- ---- where a key is found

  -- what an answer says
  pub record Hit (k : K) (ks : List K) (i : ℕ) : Type 0 where
    pub inside : i < length ks
    pub place : i ≡ place O k ks
    pub is : (d : K) → get_or ks i d ≡ k

  pub record Miss (k : K) (ks : List K) (i : ℕ) : Type 0 where
    pub upto : i ≤ length ks
    pub place : i ≡ place O k ks

  -- the same, of any answer
  Told : K → List K → Result ℕ ℕ → Type 0
  Told k ks (Ok i) = Hit k ks i
  Told k ks (Err i) = Miss k ks i

  not_of : (b : Bool) {c : Bool} → b ≡ c → not b ≡ not c
  not_of b e = ap not e

  told : (k : K) (ks : List K) → Told k ks (find O k ks)
  unfolding Told find first not_below
  told k [] = record { upto = omega arith; place = refl }
  told k (a ∷ ks) = by (O.before a k) refl (O.before k a) refl (find O k ks) (told k ks)
    where
      by : (p : Bool) → O.before a k ≡ p → (q : Bool) → O.before k a ≡ q → (r : Result ℕ ℕ) → Told k ks r → Told k (a ∷ ks) (pick p (later r) (pick q (Err 0) (Ok 0)))
      by true e q f (Ok i) h = record { inside = omega (arith, h.inside); place = ap suc h.place ∙ rw e; is = h.is }
      by true e q f (Err i) h = record { upto = omega (arith, h.upto); place = ap suc h.place ∙ rw e }
      by false e true f r h = record { upto = omega arith; place = rw e }
      by false e false f r h = record { inside = omega arith; place = rw e; is = λ d. O.total a k e f }

  pub find_at : (k : K) (ks : List K) (i : ℕ) → find O k ks ≡ Ok i → Hit k ks i
  unfolding Told
  find_at k ks i e = subst (Told k ks) e (told k ks)

  pub find_absent : (k : K) (ks : List K) (i : ℕ) → find O k ks ≡ Err i → Miss k ks i
  unfolding Told
  find_absent k ks i e = subst (Told k ks) e (told k ks)

  -- how an answer is made of the place: past the end, before a key that is above, at a key that is not
  find_from : (k : K) (ks : List K) (d : K) → find O k ks ≡ pick (ltb (place O k ks) (length ks)) (pick (O.before k (get_or ks (place O k ks) d)) (Err (place O k ks)) (Ok (place O k ks))) (Err (place O k ks))
  unfolding find first not_below
  find_from k [] d = refl
  find_from k (a ∷ ks) d = by (O.before a k) (first (not_below O k) ks) (find_from k ks d)
    where
      shift : (t u : Bool) (m : ℕ) → later (pick t (pick u (Err m) (Ok m)) (Err m)) ≡ pick t (pick u (Err (suc m)) (Ok (suc m))) (Err (suc m))
      shift true true m = refl
      shift true false m = refl
      shift false u m = refl

      by : (p : Bool) (m : ℕ) → find O k ks ≡ pick (ltb m (length ks)) (pick (O.before k (get_or ks m d)) (Err m) (Ok m)) (Err m)
          → pick p (later (find O k ks)) (pick (O.before k a) (Err 0) (Ok 0))
          ≡ (let j = pick (not p) 0 (suc m) in pick (ltb j (suc (length ks))) (pick (O.before k (get_or (a ∷ ks) j d)) (Err j) (Ok j)) (Err j))
      by true m h =
          ap later h ∙ shift (ltb m (length ks)) (O.before k (get_or ks m d)) m
          ∙ ap (λ (t : Bool). pick t (pick (O.before k (get_or ks m d)) (Err (suc m)) (Ok (suc m))) (Err (suc m))) (sym (leb-suc-suc (suc m) (length ks)))
      by false m h = rw (lt-ltb 0 (suc (length ks)) (omega arith))

  module _ (k : K) (ks : List K) (i : ℕ) (e : i ≡ place O k ks) where
    pub found_end : length ks ≤ i → (d : K) → Err i ≡ find O k ks
    found_end h d =
        let m : length ks ≤ place O k ks = omega (arith, e) in
        sym (find_from k ks d ∙ ap (λ (t : Bool). pick t (pick (O.before k (get_or ks (place O k ks) d)) (Err (place O k ks)) (Ok (place O k ks))) (Err (place O k ks))) (le-ltb (place O k ks) (length ks) m)
        ∙ ap Err (sym e))

    module _ (h : i < length ks) (d : K) where
      at_place : find O k ks ≡ pick (O.before k (get_or ks i d)) (Err i) (Ok i)
      at_place =
          let m : place O k ks < length ks = omega (arith, e) in
          find_from k ks d ∙ ap (λ (t : Bool). pick t (pick (O.before k (get_or ks (place O k ks) d)) (Err (place O k ks)) (Ok (place O k ks))) (Err (place O k ks))) (lt-ltb (place O k ks) (length ks) m)
          ∙ ap (λ (j : ℕ). pick (O.before k (get_or ks j d)) (Err j) (Ok j)) (sym e)

      pub found_above : O.before k (get_or ks i d) ≡ true → Err i ≡ find O k ks
      found_above t = sym (at_place ∙ ap (λ (b : Bool). pick b (Err i) (Ok i)) t)

      pub found_here : O.before k (get_or ks i d) ≡ false → Ok i ≡ find O k ks
      found_here t = sym (at_place ∙ ap (λ (b : Bool). pick b (Err i) (Ok i)) t)

  -- ---- a row put in and taken out

  module _ {T : Type 0} (key : T → K) where
    -- what y is, made of x by what was found
    Inserted : T → List T → List T → Result ℕ ℕ → Type 0
    Inserted a x y (Ok i) = y ≡ x
    Inserted a x y (Err i) = y ≡ insert_at i a x

    inserted : (a : T) (x : List T) → Inserted a x (insert_by O key a x) (find O (key a) (map key x))
    unfolding Inserted find insert_by insert_at
    inserted a [] = refl
    inserted a (b ∷ x) = by (O.before (key b) (key a)) (O.before (key a) (key b)) (find O (key a) (map key x)) (inserted a x)
      where
        by : (p q : Bool) (r : Result ℕ ℕ) → Inserted a x (insert_by O key a x) r
            → Inserted a (b ∷ x) (pick p (b ∷ insert_by O key a x) (pick q (a ∷ b ∷ x) (b ∷ x))) (pick p (later r) (pick q (Err 0) (Ok 0)))
        by true q (Ok i) h = ap (λ (l : List T). b ∷ l) h
        by true q (Err i) h = ap (λ (l : List T). b ∷ l) h
        by false true r h = refl
        by false false r h = refl

    pub insert_there : (a : T) (x : List T) (i : ℕ) → find O (key a) (map key x) ≡ Ok i → insert_by O key a x ≡ x
    unfolding Inserted
    insert_there a x i e = subst (Inserted a x (insert_by O key a x)) e (inserted a x)

    pub insert_absent : (a : T) (x : List T) (i : ℕ) → find O (key a) (map key x) ≡ Err i → insert_by O key a x ≡ insert_at i a x
    unfolding Inserted
    insert_absent a x i e = subst (Inserted a x (insert_by O key a x)) e (inserted a x)

    Removed : List T → List T → Result ℕ ℕ → Type 0
    Removed x y (Ok i) = y ≡ remove_at i x
    Removed x y (Err i) = y ≡ x

    removed : (k : K) (x : List T) → Removed x (remove_by O key k x) (find O k (map key x))
    unfolding Removed find remove_by remove_at
    removed k [] = refl
    removed k (b ∷ x) = by (O.before (key b) k) (O.before k (key b)) (find O k (map key x)) (removed k x)
      where
        by : (p q : Bool) (r : Result ℕ ℕ) → Removed x (remove_by O key k x) r
            → Removed (b ∷ x) (pick p (b ∷ remove_by O key k x) (pick q (b ∷ x) x)) (pick p (later r) (pick q (Err 0) (Ok 0)))
        by true q (Ok i) h = ap (λ (l : List T). b ∷ l) h
        by true q (Err i) h = ap (λ (l : List T). b ∷ l) h
        by false true r h = refl
        by false false r h = refl

    pub remove_there : (k : K) (x : List T) (i : ℕ) → find O k (map key x) ≡ Ok i → remove_by O key k x ≡ remove_at i x
    unfolding Removed
    remove_there k x i e = subst (Removed x (remove_by O key k x)) e (removed k x)

    pub remove_absent : (k : K) (x : List T) (i : ℕ) → find O k (map key x) ≡ Err i → remove_by O key k x ≡ x
    unfolding Removed
    remove_absent k x i e = subst (Removed x (remove_by O key k x)) e (removed k x)

    pub push_at : (a : T) (x : List T) → push_by O key a x ≡ insert_at (last_place O (key a) (map key x)) a x
    unfolding push_by insert_at first below
    push_at a [] = refl
    push_at a (b ∷ x) = by (O.before (key a) (key b)) (first (below O (key a)) (map key x)) (push_at a x)
      where
        by : (p : Bool) (m : ℕ) → push_by O key a x ≡ take m x ++ a ∷ drop m x
            → pick p (a ∷ b ∷ x) (b ∷ push_by O key a x) ≡ take (pick p 0 (suc m)) (b ∷ x) ++ a ∷ drop (pick p 0 (suc m)) (b ∷ x)
        by true m h = refl
        by false m h = ap (λ (l : List T). b ∷ l) h

    -- ---- the order is kept

    next_insert : (p : K) (a : T) (x : List T) → O.before p (key a) ≡ true → next (below O) p (map key x) ≡ true → next (below O) p (map key (insert_by O key a x)) ≡ true
    unfolding insert_by below
    next_insert p a [] h k = h
    next_insert p a (b ∷ x) h k = by (O.before (key b) (key a)) (O.before (key a) (key b))
      where
        by : (s t : Bool) → next (below O) p (map key (pick s (b ∷ insert_by O key a x) (pick t (a ∷ b ∷ x) (b ∷ x)))) ≡ true
        by true t = k
        by false true = h
        by false false = k

    pub rising_insert : (a : T) (x : List T) → rising O (map key x) ≡ true → rising O (map key (insert_by O key a x)) ≡ true
    unfolding insert_by chain below
    rising_insert a [] h = and_both _ _ refl h
    rising_insert a (b ∷ x) h = by (O.before (key b) (key a)) refl (O.before (key a) (key b)) refl (rising_insert a x (and_right _ _ h))
      where
        by : (s : Bool) → O.before (key b) (key a) ≡ s → (t : Bool) → O.before (key a) (key b) ≡ t → rising O (map key (insert_by O key a x)) ≡ true
            → rising O (map key (pick s (b ∷ insert_by O key a x) (pick t (a ∷ b ∷ x) (b ∷ x)))) ≡ true
        by true e t f k = and_both _ _ (next_insert (key b) a x e (and_left _ _ h)) k
        by false e true f k = and_both _ _ f h
        by false e false f k = h

    next_push : (p : K) (a : T) (x : List T) → O.before (key a) p ≡ false → next (not_below O) p (map key x) ≡ true → next (not_below O) p (map key (push_by O key a x)) ≡ true
    unfolding push_by not_below
    next_push p a [] h k = ap not h
    next_push p a (b ∷ x) h k = by (O.before (key a) (key b))
      where
        by : (t : Bool) → next (not_below O) p (map key (pick t (a ∷ b ∷ x) (b ∷ push_by O key a x))) ≡ true
        by true = ap not h
        by false = k

    pub sorted_push : (a : T) (x : List T) → sorted O (map key x) ≡ true → sorted O (map key (push_by O key a x)) ≡ true
    unfolding push_by chain not_below
    sorted_push a [] h = and_both _ _ refl h
    sorted_push a (b ∷ x) h = by (O.before (key a) (key b)) refl (sorted_push a x (and_right _ _ h))
      where
        by : (t : Bool) → O.before (key a) (key b) ≡ t → sorted O (map key (push_by O key a x)) ≡ true
            → sorted O (map key (pick t (a ∷ b ∷ x) (b ∷ push_by O key a x))) ≡ true
        by true f k = and_both _ _ (ap not (asymmetric (key a) (key b) f)) h
        by false f k = and_both _ _ (next_push (key b) a x f (and_left _ _ h)) k

    next_over : (p q : K) (ks : List K) → O.before p q ≡ true → next (below O) q ks ≡ true → next (below O) p ks ≡ true
    unfolding below
    next_over p q [] h k = refl
    next_over p q (r ∷ ks) h k = O.transitive p q r h k

    next_remove : (p k : K) (x : List T) → next (below O) p (map key x) ≡ true → rising O (map key x) ≡ true → next (below O) p (map key (remove_by O key k x)) ≡ true
    unfolding remove_by chain below
    next_remove p k [] h c = h
    next_remove p k (b ∷ x) h c = by (O.before (key b) k) (O.before k (key b))
      where
        by : (s t : Bool) → next (below O) p (map key (pick s (b ∷ remove_by O key k x) (pick t (b ∷ x) x))) ≡ true
        by true t = h
        by false true = h
        by false false = next_over p (key b) (map key x) h (and_left _ _ c)

    pub rising_remove : (k : K) (x : List T) → rising O (map key x) ≡ true → rising O (map key (remove_by O key k x)) ≡ true
    unfolding remove_by chain
    rising_remove k [] h = h
    rising_remove k (b ∷ x) h = by (O.before (key b) k) (O.before k (key b)) (rising_remove k x (and_right _ _ h))
      where
        by : (s t : Bool) → rising O (map key (remove_by O key k x)) ≡ true → rising O (map key (pick s (b ∷ remove_by O key k x) (pick t (b ∷ x) x))) ≡ true
        by true t c = and_both _ _ (next_remove (key b) k x (and_left _ _ h) (and_right _ _ h)) c
        by false true c = h
        by false false c = and_right _ _ h

  -- ---- rows by key are a map: what was put in is there, what was taken out is not, and no other key is touched

  -- another key
  abbrev pub Other : K → K → Type 0
  Other j k = (O.before j k ≡ true) ⊎ (O.before k j ≡ true)

  module _ {T : Type 0} (key : T → K) where
    -- one row at a time: passed, above, or the row
    lookup_past : (k : K) (b : T) (x : List T) → O.before (key b) k ≡ true → lookup O key k (b ∷ x) ≡ lookup O key k x
    unfolding lookup
    lookup_past k b x h = rw h

    lookup_stop : (k : K) (b : T) (x : List T) → O.before k (key b) ≡ true → lookup O key k (b ∷ x) ≡ None
    unfolding lookup
    lookup_stop k b x h = rw (asymmetric k (key b) h, h)

    lookup_here : (k : K) (b : T) (x : List T) → O.before (key b) k ≡ false → O.before k (key b) ≡ false → lookup O key k (b ∷ x) ≡ Some b
    unfolding lookup
    lookup_here k b x h l = rw (h, l)

    lookup_again : (k : K) (b : T) (x y : List T) → lookup O key k x ≡ lookup O key k y → lookup O key k (b ∷ x) ≡ lookup O key k (b ∷ y)
    unfolding lookup
    lookup_again k b x y h = ap (λ (o : Option T). pick (O.before (key b) k) o (pick (O.before k (key b)) None (Some b))) h

    -- rows that begin above k
    lookup_below : (k : K) (x : List T) → next (below O) k (map key x) ≡ true → lookup O key k x ≡ None
    unfolding below lookup
    lookup_below k [] h = refl
    lookup_below k (b ∷ x) h = lookup_stop k b x h

    abbrev pub or_else : Option T → T → T
    or_else None a = a
    or_else (Some b) a = b

    pub lookup_inserted : (a : T) (x : List T) → lookup O key (key a) (insert_by O key a x) ≡ Some (or_else (lookup O key (key a) x) a)
    unfolding insert_by lookup
    lookup_inserted a [] = lookup_here (key a) a [] (O.irreflexive (key a)) (O.irreflexive (key a))
    lookup_inserted a (b ∷ x) = by (O.before (key b) (key a)) refl (O.before (key a) (key b)) refl (lookup_inserted a x)
      where
        by : (p : Bool) → O.before (key b) (key a) ≡ p → (q : Bool) → O.before (key a) (key b) ≡ q → lookup O key (key a) (insert_by O key a x) ≡ Some (or_else (lookup O key (key a) x) a)
            → lookup O key (key a) (pick p (b ∷ insert_by O key a x) (pick q (a ∷ b ∷ x) (b ∷ x))) ≡ Some (or_else (pick p (lookup O key (key a) x) (pick q None (Some b))) a)
        by true e q f h = lookup_past (key a) b (insert_by O key a x) e ∙ h
        by false e true f h = lookup_here (key a) a (b ∷ x) (O.irreflexive (key a)) (O.irreflexive (key a))
        by false e false f h = lookup_here (key a) b x e f

    pub lookup_insert : (j : K) (a : T) (x : List T) → Other j (key a) → lookup O key j (insert_by O key a x) ≡ lookup O key j x
    unfolding insert_by lookup
    lookup_insert j a [] o = ⊎_elim (λ l. lookup_stop j a [] l) (λ l. lookup_past j a [] l) o
    lookup_insert j a (b ∷ x) o = by (O.before (key b) (key a)) (O.before (key a) (key b)) refl (lookup_insert j a x o)
      where
        by : (p q : Bool) → O.before (key a) (key b) ≡ q → lookup O key j (insert_by O key a x) ≡ lookup O key j x
            → lookup O key j (pick p (b ∷ insert_by O key a x) (pick q (a ∷ b ∷ x) (b ∷ x))) ≡ lookup O key j (b ∷ x)
        by true q f h = lookup_again j b (insert_by O key a x) x h
        by false true f h = ⊎_elim (λ l. lookup_stop j a (b ∷ x) l ∙ sym (lookup_stop j b x (O.transitive j (key a) (key b) l f))) (λ l. lookup_past j a (b ∷ x) l) o
        by false false f h = refl

    pub lookup_removed : (k : K) (x : List T) → rising O (map key x) ≡ true → lookup O key k (remove_by O key k x) ≡ None
    unfolding remove_by chain lookup
    lookup_removed k [] r = refl
    lookup_removed k (b ∷ x) r = by (O.before (key b) k) refl (O.before k (key b)) refl (lookup_removed k x (and_right _ _ r))
      where
        by : (p : Bool) → O.before (key b) k ≡ p → (q : Bool) → O.before k (key b) ≡ q → lookup O key k (remove_by O key k x) ≡ None
            → lookup O key k (pick p (b ∷ remove_by O key k x) (pick q (b ∷ x) x)) ≡ None
        by true e q f h = lookup_past k b (remove_by O key k x) e ∙ h
        by false e true f h = lookup_stop k b x f
        by false e false f h = lookup_below k x (subst (λ (j : K). next (below O) j (map key x) ≡ true) (O.total (key b) k e f) (and_left _ _ r))

    pub lookup_remove : (j k : K) (x : List T) → rising O (map key x) ≡ true → Other j k → lookup O key j (remove_by O key k x) ≡ lookup O key j x
    unfolding remove_by chain
    lookup_remove j k [] r o = refl
    lookup_remove j k (b ∷ x) r o = by (O.before (key b) k) refl (O.before k (key b)) refl (lookup_remove j k x (and_right _ _ r) o)
      where
        by : (p : Bool) → O.before (key b) k ≡ p → (q : Bool) → O.before k (key b) ≡ q → lookup O key j (remove_by O key k x) ≡ lookup O key j x
            → lookup O key j (pick p (b ∷ remove_by O key k x) (pick q (b ∷ x) x)) ≡ lookup O key j (b ∷ x)
        by true e q f h = lookup_again j b (remove_by O key k x) x h
        by false e true f h = refl
        by false e false f h =
            let same : key b ≡ k = O.total (key b) k e f in
            ⊎_elim
            (λ l.
            let u : O.before j (key b) ≡ true = ap (O.before j) same ∙ l in
            lookup_below j x (next_over key j (key b) (map key x) u (and_left _ _ r)) ∙ sym (lookup_stop j b x u))
            (λ l. sym (lookup_past j b x (ap (λ (z : K). O.before z j) same ∙ l))) o

    -- what a search found is the row
    Looked : List T → Option T → Result ℕ ℕ → Type 0
    Looked x o (Ok i) = (d : T) → o ≡ Some (get_or x i d)
    Looked x o (Err i) = o ≡ None

    looked : (k : K) (x : List T) → Looked x (lookup O key k x) (find O k (map key x))
    unfolding Looked lookup find
    looked k [] = refl
    looked k (b ∷ x) = by (O.before (key b) k) (O.before k (key b)) (find O k (map key x)) (looked k x)
      where
        by : (p q : Bool) (f : Result ℕ ℕ) → Looked x (lookup O key k x) f
            → Looked (b ∷ x) (pick p (lookup O key k x) (pick q None (Some b))) (pick p (later f) (pick q (Err 0) (Ok 0)))
        by true q (Ok i) h = h
        by true q (Err i) h = h
        by false true f h = refl
        by false false f h = λ d. refl

    pub lookup_there : (k : K) (x : List T) (i : ℕ) (d : T) → find O k (map key x) ≡ Ok i → lookup O key k x ≡ Some (get_or x i d)
    unfolding Looked
    lookup_there k x i d e = subst (Looked x (lookup O key k x)) e (looked k x) d

    pub lookup_absent : (k : K) (x : List T) (i : ℕ) → find O k (map key x) ≡ Err i → lookup O key k x ≡ None
    unfolding Looked
    lookup_absent k x i e = subst (Looked x (lookup O key k x)) e (looked k x)

  -- ---- keys that rise are each there once

  above_all : (a b : K) (ks : List K) → O.before a b ≡ true → every (below O b) ks ≡ true → every (below O a) ks ≡ true
  unfolding below
  above_all a b [] h k = refl
  above_all a b (c ∷ ks) h k = and_both _ _ (O.transitive a b c h (and_left _ _ k)) (above_all a b ks h (and_right _ _ k))

  pub rising_all : (a : K) (ks : List K) → rising O (a ∷ ks) ≡ true → every (below O a) ks ≡ true
  unfolding chain below
  rising_all a [] h = refl
  rising_all a (b ∷ ks) h = and_both _ _ (and_left _ _ h) (above_all a b ks (and_left _ _ h) (rising_all b ks (and_right _ _ h)))

  pub once : (ks : List K) (i j : ℕ) (d : K) → rising O ks ≡ true → i < j → j < length ks → O.before (get_or ks i d) (get_or ks j d) ≡ true
  unfolding chain below
  once [] i j d h l m = absurd (omega arith)
  once (a ∷ ks) zero zero d h l m = absurd (omega arith)
  once (a ∷ ks) zero (suc j) d h l m = every_get (below O a) ks j d (omega arith) (rising_all a ks h)
  once (a ∷ ks) (suc i) zero d h l m = absurd (omega arith)
  once (a ∷ ks) (suc i) (suc j) d h l m = once ks i j d (and_right _ _ h) (omega arith) (omega arith)
