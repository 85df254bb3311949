-- What the proofs of the functions of rows.rt cite: the code's calls and tests as premises, in the code's order. Assumes nothing.
use Rattle.std.specs.Prelude.{◌≡◌, Bool, true, false, take, replicate, Option, Some, None, Ok, Err}
use Rattle.std.proofs.Math.Path.{refl, sym, ap}
use Rattle.std.proofs.Common.{ap₂, ◌∙◌, add-zero, subst, ⊎_elim, cond, div-lt_iff_lt-mul, arith, length-drop, take_all, drop-drop}
use Rattle.std.proofs.Math.Bool.{not}
use mathlib.Core.List.{List, [], ◌∷◌, map}
use Prim.Native.Nat.{ℕ, zero, suc, ◌+◌, ◌-◌, ◌*◌, ◌/◌, ◌%◌, ◌≤◌, ◌<◌}
use Rattle.std.proofs.Math.Nat.{zero-mul, suc-mul}
use Rattle.std.proofs.Math.Dec.{ltb}
use Rattle.std.proofs.Math.ListN.{length, get_or, drop}
use Rattle.std.proofs.lemmas.List.Edits.{sets}
use Rattle.std.proofs.Math.Seq.{get_or-drop}
use Rattle.std.specs.List.{range_with_len, position_or_len, FoldsTo}
use Rattle.std.proofs.lemmas.List.FromFn.{length-range_with_len}
use Rattle.std.specs.Option.{unwrap_or, MatchOption}
use Rattle.std.specs.Fn.{CalledAtTwo}
use Rattle.std.specs.Iterator.{AlwaysYields, YieldsThen, FindsPosition}
use Rattle.std.proofs.iter.Yields.{nat_range_steps}
use Rattle.std.proofs.lemmas.Iterator.{YieldsList, YieldsList-from_range, YieldsList-from_map, maps}
use Rattle.std.specs.Iterator.Adapters.{map_source, map_callee}
use Rattle.std.specs.declared.iter.Map.{Map}
use Rattle.std.proofs.lemmas.Iterator.Search.{position_from_yields_List}
use Rattle.std.specs.declared.ops.Range.{Range}
use Rattle.std.specs.Iterator.Order.{OrderTurn, ChecksNeighbours}
use denote.Ref.{Bor}
use denote.Param.Members.{Mut, Called}
use borrow.Author.Tests.{le-leb, lt-leb, eq-eqb, ne_eqb, ltb-false}
use Rattle.laws.specs.Bools.{pick, ◌and◌, no_and}
use Rattle.laws.proofs.BoolLaws.{and_no, true_and}
use Rattle.words.specs.Words.{W, allz}
use Rattle.words.specs.Lift.{length_w}
use Rattle.layout.specs.Code.{Code, parse_n}
use Rattle.layout.specs.Tables.{opened, removed, padded, rows_in}
use Rattle.layout.specs.Rows.{row_end}
use Rattle.laws.specs.Order.{Order, chain}
use Rattle.layout.specs.Order.{first, place, find, one, two, heads}
use Rattle.layout.specs.Sorted.{first_le, found_end, found_above, found_here}

-- ---- moves: `at` is where row i starts

pub open_calls : (w n i at : ℕ) (b b₁ : List ℕ) → at ≡ i * w → b₁ ≡ sets b (8 * at + 8 * w) (take (8 * (n * w) - 8 * at) (drop (8 * at) b)) → b₁ ≡ opened w n i b
unfolding opened
open_calls w n i at b b₁ e e₁ = e₁ ∙ ap (λ (k : ℕ). sets b (8 * k + 8 * w) (take (8 * (n * w) - 8 * k) (drop (8 * k) b))) e

pub remove_calls : (w n i at : ℕ) (b b₁ b₂ : List ℕ) → i < n → at ≡ i * w → b₁ ≡ sets b (8 * at) (take (8 * (n * w) - (8 * at + 8 * w)) (drop (8 * at + 8 * w) b))
    → b₂ ≡ sets b₁ (8 * (n * w) - 8 * w) (replicate (8 * (n * w) - (8 * (n * w) - 8 * w)) 0)
    → b₂ ≡ removed w n i b
unfolding removed
remove_calls w n i at b b₁ b₂ h e e₁ e₂ =
    let k : 8 * (n * w) - (8 * (n * w) - 8 * w) ≡ 8 * w = omega (arith, row_end i n w h) in
    e₂ ∙ ap₂ (λ (y : List ℕ) (j : ℕ). sets y (8 * (n * w) - 8 * w) (replicate j 0)) e₁ k
    ∙ ap (λ (j : ℕ). sets (sets b (8 * j) (take (8 * (n * w) - (8 * j + 8 * w)) (drop (8 * j + 8 * w) b))) (8 * (n * w) - 8 * w) (replicate (8 * w) 0)) e

-- ---- padding

pub pad_ragged : (w n : ℕ) (b : List ℕ) → (length b % 8 ≡ 0 → ⊥) → false ≡ padded w n b
unfolding padded
pad_ragged w n b h = sym (no_and _ _ (ne_eqb (length b % 8) 0 h))

pub pad_short : (w n : ℕ) (b : List ℕ) → 0 < w → length b / 8 / w < n → false ≡ padded w n b
unfolding padded
pad_short w n b h k = sym (and_no _ _ (no_and _ _ (lt-leb (n * w) (length b / 8) ((div-lt_iff_lt-mul h).0 k))))

pub pad_rest : (w n at : ℕ) (b : List ℕ) (r : Bool) → length b % 8 ≡ 0 → at ≡ n * w → at ≤ length b / 8 → r ≡ allz (take (length b / 8 - at) (drop at (W b))) → r ≡ padded w n b
unfolding padded
pad_rest w n at b r e p k z =
    let l : n * w ≤ length b / 8 = omega arith in
    z ∙ ap (λ (j : ℕ). allz (take (length b / 8 - j) (drop j (W b)))) p
    ∙ ap allz (take_all (length b / 8 - n * w) (drop (n * w) (W b)) (omega (arith, length-drop (n * w) (W b), length_w b)))
    ∙ sym (ap₂ (λ (p q : Bool). p and (q and allz (drop (n * w) (W b)))) (eq-eqb (length b % 8) 0 e) (le-leb (n * w) (length b / 8) l) ∙ true_and _ ∙ true_and _)

-- ---- the keys that the code reads

module _ {K : Type 0} (g : List ℕ → K) (w : ℕ) where
  pub length_heads : (n : ℕ) (ws : List ℕ) → length (heads g w n ws) ≡ n
  unfolding heads
  length_heads zero ws = refl
  length_heads (suc n) ws = ap suc (length_heads n (drop w ws))

  pub get_d_heads : (n : ℕ) (ws : List ℕ) (i : ℕ) (d : K) → i < n → get_or (heads g w n ws) i d ≡ g (drop (i * w) ws)
  unfolding heads
  get_d_heads zero ws i d h = absurd (omega arith)
  get_d_heads (suc n) ws zero d h = rw zero-mul
  get_d_heads (suc n) ws (suc i) d h =
      let e : w + i * w ≡ suc i * w = omega (arith, suc-mul i w) in
      get_d_heads n (drop w ws) i d (omega arith) ∙ ap g (drop-drop (i * w) w ws ∙ ap (λ (k : ℕ). drop k ws) e)

-- they are the keys of the rows, where a row's key is what stands in its first words
pub heads_are : {K T : Type 0} (c : Code T) (g : List ℕ → K) (key : T → K) → ((ws : List ℕ) → g ws ≡ key (c.parse ws)) → (n : ℕ) (b : List ℕ) → heads g c.size n (W b) ≡ map key (rows_in c n b)
unfolding rows_in heads
heads_are {K} c g key e n b = all n (W b)
  where
    all : (n : ℕ) (ws : List ℕ) → heads g c.size n ws ≡ map key (parse_n c n ws)
    all zero ws = refl
    all (suc n) ws = ap₂ (λ (x : K) (l : List K). x ∷ l) (e ws) (all n (drop c.size ws))

-- what `read` makes of the words at `at`
pub one_read : (ws : List ℕ) (at x : ℕ) → x ≡ get_or ws at 0 → x ≡ one (drop at ws)
unfolding one
one_read ws at x e = e ∙ sym (get_or-drop at ws 0 0 ∙ ap (λ (k : ℕ). get_or ws k 0) (add-zero at))

pub two_read : (ws : List ℕ) (at x y : ℕ) → x ≡ get_or ws at 0 → y ≡ get_or ws (at + 1) 0 → ◌≡◌ {A = ℕ × ℕ} (x, y) (two (drop at ws))
unfolding two
two_read ws at x y e f =
    let a : x ≡ get_or (drop at ws) 0 0 = e ∙ sym (get_or-drop at ws 0 0 ∙ ap (λ (k : ℕ). get_or ws k 0) (add-zero at)) in
    let b : y ≡ get_or (drop at ws) 1 0 = f ∙ sym (get_or-drop at ws 1 0) in
    λ j. (a j, b j)

-- ---- the keys as the code goes through them: one for each number below n

module _ {K : Type 0} (g : List ℕ → K) (w : ℕ) (ws : List ℕ) where
  -- the key of row i
  abbrev pub key_of_row : ℕ → K
  key_of_row i = g (drop (i * w) ws)

  heads_from : (n a : ℕ) → heads g w n (drop (a * w) ws) ≡ map key_of_row (range_with_len a n)
  unfolding heads
  heads_from zero a = refl
  heads_from (suc n) a =
      let e : a * w + w ≡ (a + 1) * w = omega arith in
      ap (λ (l : List K). key_of_row a ∷ l) (ap (heads g w n) (drop-drop w (a * w) ws ∙ ap (λ (k : ℕ). drop k ws) e) ∙ heads_from n (a + 1))

  heads_map : (n : ℕ) → heads g w n ws ≡ map key_of_row (range_with_len 0 n)
  heads_map n = ap (λ (k : ℕ). heads g w n (drop k ws)) (sym (zero-mul w)) ∙ heads_from n 0

-- ---- the place of a key

first_map : {A B : Type 0} (f : B → Bool) (h : A → B) (xs : List A) → position_or_len (λ x. f (h x)) xs ≡ first f (map h xs)
unfolding first
first_map f h [] = refl
first_map f h (x ∷ xs) = by (f (h x)) (first_map f h xs)
  where
    by : (b : Bool) → position_or_len (λ x. f (h x)) xs ≡ first f (map h xs) → cond (not b) (1 + position_or_len (λ x. f (h x)) xs) 0 ≡ pick b 0 (suc (first f (map h xs)))
    by true e = refl
    by false e = let s : 1 + position_or_len (λ x. f (h x)) xs ≡ suc (position_or_len (λ x. f (h x)) xs) = omega arith in s ∙ ap suc e

-- what `position` and `unwrap_or` make of the numbers below n, where `acts` says what the closure answers at each
module _ {K F : Type 0} (f : K → Bool) (g : List ℕ → K) (w n : ℕ) (ws : List ℕ) (m : Mut F (ℕ × Unit {0}) Bool) (c : F)
    (acts : (i : ℕ) (b : Bool) (c' : F) → Called m c (i, tt) b c' → (c' ≡ c) × (b ≡ f (g (drop (i * w) ws)))) where
  at_row : ℕ
  at_row = position_or_len (λ i. f (g (drop (i * w) ws))) (range_with_len 0 n)

  first_row : at_row ≡ first f (heads g w n ws)
  unfolding at_row
  first_row = first_map f (key_of_row g w ws) (range_with_len 0 n) ∙ ap (first f) (sym (heads_map g w ws n))

  first_within : at_row ≤ n
  first_within = omega (arith, first_row, first_le f (heads g w n ws), length_heads g w n ws)

  pub row_found : (r : Option ℕ) (u : Range ℕ) (x : ℕ) → FindsPosition nat_range_steps m (record { start = 0; end = n }) c r u → x ≡ unwrap_or r n
      → (x ≡ first f (heads g w n ws)) × (x ≤ n)
  unfolding at_row
  row_found r u x h e =
      let l : length (range_with_len 0 n) ≡ n = length-range_with_len 0 n in
      let p = position_from_yields_List (λ i. f (g (drop (i * w) ws))) u c r h (YieldsList-from_range 0 n n refl (omega arith)) acts in
      let q : x ≡ at_row = e ∙ ap (λ (o : Option ℕ). unwrap_or o n) (p ∙ ap (λ (k : ℕ). cond (ltb at_row k) (Some at_row) None) l) ∙ by (ltb at_row n) refl in
      (q ∙ first_row, omega (arith, q, first_within))
    where
      by : (b : Bool) → ltb at_row n ≡ b → unwrap_or (cond b (Some at_row) None) n ≡ at_row
      by true t = refl
      by false t = omega (arith, ltb-false at_row n t, first_within)

-- ---- what is found at a place

module _ {K : Type 0} (O : Order K) (g : List ℕ → K) (w n : ℕ) (ws : List ℕ) (i : ℕ) (k : K) (u : i ≡ place O k (heads g w n ws)) where
  pub find_end : n ≤ i → Err i ≡ find O k (heads g w n ws)
  find_end h = found_end O k (heads g w n ws) i u (omega (arith, length_heads g w n ws)) k

  module _ (x : K) (r : Bool) (h : i < n) (p : x ≡ g (drop (i * w) ws)) (q : r ≡ O.before k x) where
    here : O.before k (get_or (heads g w n ws) i x) ≡ r
    here = ap (O.before k) (get_d_heads g w n ws i x h ∙ sym p) ∙ sym q

    pub find_above : r ≡ true → Err i ≡ find O k (heads g w n ws)
    find_above t = found_above O k (heads g w n ws) i u (omega (arith, length_heads g w n ws)) x (here ∙ t)

    pub find_here : r ≡ false → Ok i ≡ find O k (heads g w n ws)
    find_here t = found_here O k (heads g w n ws) i u (omega (arith, length_heads g w n ws)) x (here ∙ t)

pub ruleset finds = (find_end, find_above, find_here)

-- ---- what `is_sorted_by` answers of the items that come from s: whether each is related to the next

module _ {S A B F : Type 0} (steps : S → Option A → S → Type 0) (v : A → B) (m : Mut F (Bor A × (Bor A × Unit {0})) Bool) (r : B → B → Bool) (f : F)
    (acts : (x y : A) (b : Bool) (f' : F) → CalledAtTwo m f x y b f' → (f' ≡ f) × (b ≡ r (v x) (v y))) where
  after : (all : List B) (xs : List A) (o : Option A) (s u : S) (last : A) (q : F × A) (b : Bool) → AlwaysYields steps v s all → YieldsThen steps s xs o u
      → FoldsTo {P = F × A} (OrderTurn m) (f, last) xs q → MatchOption o (b ≡ true) (λ y. (b ≡ false) × ((j : F) × CalledAtTwo m q.0 q.1 y false j)) → b ≡ chain r (v last ∷ all)
  unfolding chain ◌and◌
  after [] [] None s u last q b a y z e = e
  after [] [] (Some x) s u last q b a y z e = absurd (a x u (subst (λ (t : S). steps t (Some x) u) (sym y.1) y.2))
  after [] (x ∷ xs) o s u last q b a y z e = absurd (a x y.1.0 y.1.1)
  after (c ∷ all) [] None s u last q b a y z e = absurd (a.0 u (subst (λ (t : S). steps t None u) (sym y.1) y.2))
  after (c ∷ all) [] (Some x) s u last q b a y z e =
      let t = a.1 x u (subst (λ (t : S). steps t (Some x) u) (sym y.1) y.2) in
      let k = acts last x false e.1.0 (subst (λ (p : F × A). CalledAtTwo m p.0 p.1 x false e.1.0) (sym z) e.1.1) in
      e.0 ∙ sym (no_and (r (v last) c) (chain r (c ∷ all)) (ap (r (v last)) (sym t.0) ∙ sym k.1))
  after (c ∷ all) (x ∷ xs) o s u last q b a y z e =
      let t = a.1 x y.1.0 y.1.1 in
      let k = acts last x true z.0.0 z.1.0 in
      let p : z.0 ≡ (f, x) = λ i. (k.0 i, z.1.1 i) in
      after all xs o y.1.0 u x q b t.1 (y.0, y.1.2, y.2) (subst (λ (p : F × A). FoldsTo (OrderTurn m) p xs q) p z.2) e
      ∙ ap (λ (d : B). chain r (d ∷ all)) t.0
      ∙ sym (ap (λ (t : Bool). t and chain r (c ∷ all)) (ap (r (v last)) (sym t.0) ∙ sym k.1) ∙ true_and (chain r (c ∷ all)))

  pub ordered : (all : List B) (s : S) (b : Bool) → ChecksNeighbours m steps s f b → YieldsList steps v s all → b ≡ chain r all
  unfolding chain
  ordered [] s b h y = ⊎_elim (λ d. d.1) (λ n. absurd (y.runs n.0 n.5.1.0 n.5.1.1)) h
  ordered (c ∷ all) s b h y =
      ⊎_elim (λ d. absurd (y.runs.0 d.0.0 (subst (λ (t : S). steps t None d.0.0) (sym d.0.1.1) d.0.1.2)))
      (λ n. let t = y.runs.1 n.0 n.5.1.0 n.5.1.1 in
      after all n.1 n.2 n.5.1.0 n.3 n.0 n.4 b t.1 (n.5.0, n.5.1.2, n.5.2) n.6 n.7 ∙ ap (λ (d : B). chain r (d ∷ all)) t.0) h

-- the same of the keys of n rows, as `map` reads them: m reads a key, and m' compares two
pub rows_ordered : {K F G : Type 0} (r : K → K → Bool) (g : List ℕ → K) (w n : ℕ) (ws : List ℕ) (m : Mut G (ℕ × Unit {0}) K) (c : G)
    (m' : Mut F (Bor K × (Bor K × Unit {0})) Bool) (f : F) (s : Map (Range ℕ) G) (b : Bool)
    → map_source s ≡ record { start = 0; end = n } → map_callee s ≡ c
    → ((i : ℕ) (x : K) (c' : G) → Called m c (i, tt) x c' → (c' ≡ c) × (x ≡ g (drop (i * w) ws)))
    → ((x y : K) (b : Bool) (f' : F) → CalledAtTwo m' f x y b f' → (f' ≡ f) × (b ≡ r x y))
    → ChecksNeighbours m' (maps nat_range_steps m) s f b → b ≡ chain r (heads g w n ws)
rows_ordered r g w n ws m c m' f s b e e' reads compares h =
    ordered (maps nat_range_steps m) (λ x. x) m' r f compares (map (key_of_row g w ws) (range_with_len 0 n)) s b h
    (YieldsList-from_map m (key_of_row g w ws) (YieldsList-from_range 0 n n e (omega arith)) e' reads) ∙ ap (chain r) (sym (heads_map g w ws n))
