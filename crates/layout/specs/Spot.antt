-- Spots: a part of a whole content, at a word offset, whatever stands in it. `whole y` is the content of the whole with y at the spot.
-- One law for each way to reach a part; then what a lent part `&mut area[8 * a..8 * (a + n)]` holds, and what the area holds when it is
-- back. Assumes nothing.
use Rattle.std.specs.Prelude.{◌≡◌, refl, true, List, [], ◌++◌, ℕ, suc, ◌+◌, ◌*◌, ◌-◌, ◌≤◌, ◌<◌, length, take, drop, get_or, set}
use Rattle.std.proofs.Common.{sym, ap, ◌∙◌, append_assoc, append-nil, arith, length-append, take_at, drop_at, length-take-le, get_or-append-add}
use Rattle.std.proofs.Math.ListN.{get_or-append}
use Rattle.std.proofs.lemmas.List.Edits.{sets}
use Rattle.std.proofs.lemmas.List.{set_split, drop-append-le}
use Rattle.std.proofs.Math.Seq.{drop-append-add}
use Rattle.laws.specs.Bools.{every}
use Rattle.words.specs.Words.{bytes}
use Rattle.words.specs.Sets.{sets_at, part_at}
use Rattle.words.specs.Lift.{bytes_append, length_bytes}
use Rattle.layout.specs.Code.{Code, flat, lay, length_flat}
use Rattle.layout.specs.Tables.{Table, Held, content, Becomes}
use Rattle.layout.specs.Rows.{flat_append, every_take}
use Rattle.layout.specs.TableLaws.{held_rows}

pub record Spot {T : Type 0} (whole part : T → List ℕ) (a : ℕ) : Type 0 where
  pub pre : List ℕ
  pub post : List ℕ
  pub at : (y : T) → whole y ≡ pre ++ (part y ++ post)
  pub off : length pre ≡ a

-- ---- ways to reach a part

module _ {T : Type 0} where
  -- the first of two, and the second
  pub spot_first : (part : T → List ℕ) (r : List ℕ) → Spot (λ y. part y ++ r) part 0
  spot_first part r = record { pre = []; post = r; at = λ y. refl; off = refl }

  pub spot_second : (part : T → List ℕ) (l : List ℕ) (a : ℕ) → length l ≡ a → Spot (λ y. l ++ part y) part a
  spot_second part l a h = record { pre = l; post = []; at = λ y. rw append-nil; off = h }

  -- a part of a part: offsets add
  pub spot_within : {U : Type 0} {whole part : U → List ℕ} {a : ℕ} (g : T → U) (inner : T → List ℕ) (b : ℕ)
      → Spot whole part a
      → Spot (λ y. part (g y)) inner b
      → Spot (λ y. whole (g y)) inner (a + b)
  spot_within g inner b s t =
      record {
        pre = s.pre ++ t.pre;
        post = t.post ++ s.post;
        at = λ y. rw (s.at (g y), t.at y) (simp append_assoc);
        off = rw (length-append, s.off, t.off);
      }

-- element k of a list of contents
pub spot_element : {A : Type 0} (a : Code A) (xs : List A) (k : ℕ) → k < length xs → every a.good xs ≡ true → Spot (λ y. flat a.enc (set xs k y)) a.enc (k * a.size)
spot_element a xs k h g =
    record {
      pre = flat a.enc (take k xs);
      post = flat a.enc (drop (suc k) xs);
      at = λ y. rw (set_split xs k y h, flat_append);
      off = length_flat a (take k xs) (every_take a.good k xs g) ∙ ap (λ (m : ℕ). m * a.size) (length-take-le k xs (omega arith));
    }

-- ---- reading: a word of the part, and all from one of its words on

module _ {T : Type 0} {whole part : T → List ℕ} {a : ℕ} (s : Spot whole part a) where
  pub look : (y : T) (r : List ℕ) (i : ℕ) → i < length (part y) → get_or (whole y ++ r) (a + i) 0 ≡ get_or (part y) i 0
  look y r i h =
      rw (s.at y, ← s.off, append_assoc s.pre (part y ++ s.post) r, get_or-append-add s.pre ((part y ++ s.post) ++ r) i 0, append_assoc (part y) s.post r)
      (get_or-append (part y) (s.post ++ r) 0 i h)

  pub look_from : (y : T) (r : List ℕ) (i : ℕ) → i ≤ length (part y) → drop (a + i) (whole y ++ r) ≡ drop i (part y) ++ (s.post ++ r)
  look_from y r i h =
      rw (s.at y, ← s.off, append_assoc s.pre (part y ++ s.post) r, drop-append-add s.pre ((part y ++ s.post) ++ r) i, append_assoc (part y) s.post r)
      (drop-append-le i (part y) (s.post ++ r) h)

  -- ---- writing and lending: n is the part's size, r what follows the whole

  cut_spot : (y : T) (r : List ℕ) → bytes (whole y) ++ r ≡ bytes s.pre ++ (bytes (part y) ++ (bytes s.post ++ r))
  cut_spot y r =
      ap (λ (l : List ℕ). bytes l ++ r) (s.at y)
      ∙ ap (λ (l : List ℕ). l ++ r) (bytes_append s.pre (part y ++ s.post) ∙ ap (λ (l : List ℕ). bytes s.pre ++ l) (bytes_append (part y) s.post))
      ∙ append_assoc (bytes s.pre) (bytes (part y) ++ bytes s.post) r ∙ ap (λ (l : List ℕ). bytes s.pre ++ l) (append_assoc (bytes (part y)) (bytes s.post) r)

  before : length (bytes s.pre) ≡ 8 * a
  before = length_bytes s.pre ∙ ap (λ (n : ℕ). 8 * n) s.off

  module _ (y : T) (n : ℕ) (size : length (part y) ≡ n) (r : List ℕ) where
    wide : length (bytes (part y)) ≡ 8 * (a + n) - 8 * a
    wide = length_bytes (part y) ∙ ap (λ (m : ℕ). 8 * m) size ∙ (let e : 8 * n ≡ 8 * (a + n) - 8 * a = omega arith in e)

    -- what is lent
    pub spot_lent : take (8 * (a + n) - 8 * a) (drop (8 * a) (bytes (whole y) ++ r)) ≡ bytes (part y)
    spot_lent =
        ap (λ (l : List ℕ). take (8 * (a + n) - 8 * a) (drop (8 * a) l)) (cut_spot y r)
        ∙ part_at (bytes s.pre) (bytes (part y)) (bytes s.post ++ r) (8 * a) (8 * (a + n) - 8 * a) before wide

    -- the area when the part is back with z
    pub spot_back : (z : T) → take (8 * a) (bytes (whole y) ++ r) ++ (bytes (part z) ++ drop (8 * (a + n) - 8 * a) (drop (8 * a) (bytes (whole y) ++ r))) ≡ bytes (whole z) ++ r
    spot_back z =
        let p : List ℕ = bytes s.pre in
        let q : List ℕ = bytes s.post ++ r in
        ap (λ (l : List ℕ). take (8 * a) l ++ (bytes (part z) ++ drop (8 * (a + n) - 8 * a) (drop (8 * a) l))) (cut_spot y r)
        ∙ ap (λ (l : List ℕ). l ++ (bytes (part z) ++ drop (8 * (a + n) - 8 * a) (drop (8 * a) (p ++ (bytes (part y) ++ q))))) (take_at p (bytes (part y) ++ q) (8 * a) before)
        ∙ ap (λ (l : List ℕ). p ++ (bytes (part z) ++ l)) (ap (drop (8 * (a + n) - 8 * a)) (drop_at p (bytes (part y) ++ q) (8 * a) before) ∙ drop_at (bytes (part y)) q (8 * (a + n) - 8 * a) wide)
        ∙ sym (cut_spot z r)

    -- the area with z written at the spot
    pub spot_sets : (z : T) → length (part z) ≡ n → sets (bytes (whole y) ++ r) (8 * a) (bytes (part z)) ≡ bytes (whole z) ++ r
    spot_sets z l =
        ap (λ (m : List ℕ). sets m (8 * a) (bytes (part z))) (cut_spot y r)
        ∙ sets_at (bytes s.pre) (bytes (part y)) (bytes s.post ++ r) (bytes (part z)) (8 * a) before (length_bytes (part z) ∙ ap (λ (m : ℕ). 8 * m) (l ∙ sym size) ∙ sym (length_bytes (part y)))
        ∙ sym (cut_spot z r)

-- ---- a table at a spot: what is lent holds its rows, and when a function has made `op x` of them the whole has `op x` there

module _ {T : Type 0} (t : Table T) (N : ℕ) {whole : List T → List ℕ} {a : ℕ} (s : Spot whole (lay t.row N) a)
    (area r : List ℕ) (n : ℕ) (x : List T) (good : (content t N n).good x ≡ true) (e : area ≡ bytes (whole x) ++ r) where
  size : length (lay t.row N x) ≡ N
  size = (content t N n).size_enc x good

  pub table_lent : Held t N n (take (8 * (a + N) - 8 * a) (drop (8 * a) area)) x
  table_lent = record { holds = record { good = good; is = ap (λ (l : List ℕ). take (8 * (a + N) - 8 * a) (drop (8 * a) l)) e ∙ spot_lent s x N size r } }

  module _ (m : ℕ) (ys : List ℕ) (op : List T → List T) (b : Becomes t n m (take (8 * (a + N) - 8 * a) (drop (8 * a) area)) ys op) where
    after : Held t N m ys (op x)
    after = b.to N x table_lent

    pub table_good : (content t N m).good (op x) ≡ true
    table_good = after.holds.good

    pub table_count : length (op x) ≡ m
    table_count = (held_rows after).count

    pub table_back : take (8 * a) area ++ (ys ++ drop (8 * (a + N) - 8 * a) (drop (8 * a) area)) ≡ bytes (whole (op x)) ++ r
    table_back =
        ap (λ (l : List ℕ). take (8 * a) area ++ (l ++ drop (8 * (a + N) - 8 * a) (drop (8 * a) area))) after.holds.is
        ∙ ap (λ (l : List ℕ). take (8 * a) l ++ (bytes (lay t.row N (op x)) ++ drop (8 * (a + N) - 8 * a) (drop (8 * a) l))) e
        ∙ spot_back s x N size r (op x)
