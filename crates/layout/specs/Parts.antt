-- A row that is lent, `&mut s[8 * at..8 * (at + w)]`, to a function that writes or tests one row: what the table is when it is back. And a
-- row in parts, written or read: numbers first, and then a part that is lent. Assumes nothing.
use Rattle.std.specs.Prelude.{◌≡◌, refl, Bool, true, false, not, List, [], ◌++◌, ℕ, ◌+◌, ◌-◌, ◌*◌, ◌≤◌, ◌<◌, get_or, set, take, drop}
use Rattle.std.proofs.Common.{sym, ap₂, ◌∙◌, append-nil, arith, length-drop, drop_of_length-le, length-take-le, take_at, take-take, take_all, drop_at}
use Rattle.std.proofs.Math.Path.{ap}
use Rattle.std.proofs.Math.ListN.{length}
use Rattle.std.proofs.lemmas.List.Edits.{sets}
use Rattle.std.proofs.Math.Seq.{length-sets}
use Rattle.std.proofs.lemmas.Bool.{not-true, not-false}
use Rattle.laws.specs.Bools.{and_left}
use Rattle.laws.proofs.BoolLaws.{and_right, and_both}
use Rattle.words.specs.Words.{bytes, W, Bytes}
use Rattle.words.specs.Sets.{sets_at, sets_lent, length_part, part_part, cut}
use Rattle.words.specs.Numbers.{each_drop}
use Rattle.words.specs.Lift.{length_bytes, bytes_append, length_w, W-fit, W-part}
use Rattle.layout.specs.Code.{Code, pair, ok_n}
use Rattle.layout.specs.Tables.{Holds, Held, Table, Becomes, insert_at, append, opened}
use Rattle.layout.specs.Contents.{holds_length, ok_prefix}
use Rattle.layout.specs.Rows.{row_start, row_end}
use Rattle.layout.specs.TableLaws.{row_held, inserts, appends, puts, Rowed, rowed_turn, rowed_fail}

-- ---- a row that was lent and came back with a content: one run of stores

-- the w words of b from word `at`, and b when they were lent and came back as ys: the checker's forms
abbrev pub lent_row : ℕ → ℕ → List ℕ → List ℕ
lent_row at w b = take (8 * (at + w) - 8 * at) (drop (8 * at) b)

abbrev pub back_row : ℕ → ℕ → List ℕ → List ℕ → List ℕ
back_row at w b ys = take (8 * at) b ++ (ys ++ drop (8 * (at + w) - 8 * at) (drop (8 * at) b))

pub length_lent_row : (at w : ℕ) (b : List ℕ) → 8 * (at + w) ≤ length b → length (lent_row at w b) ≡ 8 * w
length_lent_row at w b r = length_part b (8 * at) (8 * (at + w) - 8 * at) (omega arith) ∙ (let e : 8 * (at + w) - 8 * at ≡ 8 * w = omega arith in e)

-- row i as it is lent
pub row_lent : {T : Type 0} {t : Table T} {N n : ℕ} {b : List ℕ} {x : List T} → Held t N n b x → (i at : ℕ) (d : T) → i < n → at ≡ i * t.row.size → Holds t.row (lent_row at t.row.size b) (get_or x i d)
row_lent {T} {t} {N} {n} {b} {x} h i at d k e =
    let w : ℕ = t.row.size in
    let s : 8 * (at + w) - 8 * at ≡ 8 * w = omega arith in
    let r = row_held h i d k in
    record { good = r.good; is = ap₂ (λ (u v : ℕ). take u (drop (8 * v) b)) s e ∙ r.is }

pub row_back : {T : Type 0} (c : Code T) (b ys : List ℕ) (at : ℕ) (a : T) → 8 * (at + c.size) ≤ length b → Holds c ys a → back_row at c.size b ys ≡ sets b (8 * at) (bytes (c.enc a))
row_back c b ys at a r h =
    sets_lent b ys (8 * at) (8 * (at + c.size)) (omega arith) r (holds_length h ∙ sym (length_lent_row at c.size b r)) ∙ ap (sets b (8 * at)) h.is

module _ {T : Type 0} (t : Table T) (n : ℕ) (b ys : List ℕ) (a : T) (h : Holds t.row ys a) where
  abbrev w : ℕ
  w = t.row.size

  -- appended, replaced, put in
  pub append_lent : 8 * (n * w + w) ≤ length b → ((x : List T) → t.rule x ≡ true → t.rule (append a x) ≡ true) → Becomes t n (n + 1) b (back_row (n * w) w b ys) (append a)
  append_lent r keeps = appends t n b a (back_row (n * w) w b ys) r h.good keeps (row_back t.row b ys (n * w) a r h)

  pub put_lent : (i : ℕ) → i < n → 8 * (n * w) ≤ length b → ((x : List T) → t.rule x ≡ true → t.rule (set x i a) ≡ true) → Becomes t n n b (back_row (i * w) w b ys) (λ x. set x i a)
  put_lent i k r keeps =
      puts t n b i a (back_row (i * w) w b ys) k h.good keeps (row_back t.row b ys (i * w) a (omega (arith, row_end i n w k)) h)

  pub insert_lent : (i : ℕ) (b₁ : List ℕ) → i ≤ n → 8 * (n * w + w) ≤ length b → ((x : List T) → t.rule x ≡ true → t.rule (insert_at i a x) ≡ true)
      → b₁ ≡ opened w n i b
      → Becomes t n (n + 1) b (back_row (i * w) w b₁ ys) (insert_at i a)
  unfolding opened
  insert_lent i b₁ k r keeps e =
      let l : length b₁ ≡ length b = ap length e ∙ length-sets b (8 * (i * w) + 8 * w) (take (8 * (n * w) - 8 * (i * w)) (drop (8 * (i * w)) b)) in
      let s : i * w ≤ n * w = row_start i n w k in
      inserts t n b i a b₁ (back_row (i * w) w b₁ ys) r k h.good keeps e (row_back t.row b₁ ys (i * w) a (omega arith) h)

-- ---- a row or a part of it that is lent to its own test: q is what it said

pub part_ok : {T : Type 0} (d : Code T) (s : List ℕ) (a e : ℕ) → Bytes s → e ≡ a + d.size → 8 * e ≤ length s → d.ok (W (take (8 * e - 8 * a) (drop (8 * a) s))) ≡ d.ok (drop a (W s))
part_ok d s a e B q r =
    let w : e - a ≡ d.size = omega arith in
    ap d.ok (W-part s a e B (omega arith) r ∙ ap (λ (j : ℕ). take j (drop a (W s))) w)
    ∙ ok_prefix d (drop a (W s)) (each_drop a (W s) (W-fit s B)) (omega (arith, length-drop a (W s), length_w s))

module _ {T : Type 0} (c : Code T) (n : ℕ) (s : List ℕ) (i at : ℕ) (q : Bool) (r : Rowed c n (W s) i) (k : i < n) (B : Bytes s) (e : at ≡ i * c.size) (h : 8 * (n * c.size) ≤ length s)
    (t : q ≡ c.ok (W (lent_row at c.size s))) where
  row_ok : q ≡ c.ok (drop (i * c.size) (W s))
  row_ok = t ∙ part_ok c s at (at + c.size) B refl (omega (arith, row_end i n c.size k)) ∙ ap (λ (j : ℕ). c.ok (drop j (W s))) e

  pub lent_fine : not q ≡ false → Rowed c n (W s) (i + 1)
  lent_fine f = rowed_turn c n (W s) i r k (sym row_ok ∙ not-false q f)

  pub lent_fails : not q ≡ true → false ≡ ok_n c n (W s)
  lent_fails f = rowed_fail c n (W s) i r k (sym row_ok ∙ not-true q f)

-- ---- a row in parts

-- numbers are stored in its first words, and the rest is lent and comes back as ys
pub head_rest : (b b₁ hs ys : List ℕ) (k : ℕ) → length hs ≡ k → 8 * k ≤ length b → b₁ ≡ sets b 0 (bytes hs) → length ys ≡ length (take (length b - 8 * k) (drop (8 * k) b₁))
    → take (8 * k) b₁ ++ (ys ++ drop (length b - 8 * k) (drop (8 * k) b₁)) ≡ bytes hs ++ ys
head_rest b b₁ hs ys k l r e m =
    let n : length (bytes hs) ≡ 8 * k = length_bytes hs ∙ ap (λ (j : ℕ). 8 * j) l in
    let f : b₁ ≡ bytes hs ++ drop (8 * k) b =
    e ∙ ap (λ (y : List ℕ). sets y 0 (bytes hs)) (cut b 0 (8 * k) (omega arith))
    ∙ sets_at [] (take (8 * k) b) (drop (8 * k) b) (bytes hs) 0 refl (n ∙ sym (length-take-le (8 * k) b r)) in
    let g : drop (8 * k) b₁ ≡ drop (8 * k) b = ap (drop (8 * k)) f ∙ drop_at (bytes hs) (drop (8 * k) b) (8 * k) n in
    let z : drop (length b - 8 * k) (drop (8 * k) b₁) ≡ [] = ap (drop (length b - 8 * k)) g ∙ drop_of_length-le (drop (8 * k) b) {i = length b - 8 * k} (omega (arith, length-drop (8 * k) b)) in
    ap₂ (λ (u v : List ℕ). u ++ (ys ++ v)) (ap (take (8 * k)) f ∙ take_at (bytes hs) (drop (8 * k) b) (8 * k) n) z ∙ ap (λ (u : List ℕ). bytes hs ++ u) (append-nil ys)

-- two contents side by side
pub pair_holds : {A B : Type 0} (c : Code A) (d : Code B) {u v : List ℕ} {x : A} {y : B} → Holds c u x → Holds d v y → Holds (pair c d) (u ++ v) (x, y)
pair_holds c d {u} {v} {x} {y} h k = record {
  good = and_both _ _ h.good k.good;
  is = ap₂ (λ (p q : List ℕ). p ++ q) h.is k.is ∙ sym (bytes_append (c.enc x) (d.enc y));
}

-- and each of them as it is lent
module _ {A B : Type 0} (c : Code A) (d : Code B) (b : List ℕ) (at m : ℕ) (e : m ≡ c.size + d.size) {x : A} {y : B} (h : Holds (pair c d) (lent_row at m b) (x, y)) where
  first_long : length (bytes (c.enc x)) ≡ 8 * c.size
  first_long = length_bytes (c.enc x) ∙ ap (λ (j : ℕ). 8 * j) (c.size_enc x (and_left _ _ h.good))

  parts : lent_row at m b ≡ bytes (c.enc x) ++ bytes (d.enc y)
  parts = h.is ∙ bytes_append (c.enc x) (d.enc y)

  pub pair_first : Holds c (lent_row at c.size b) x
  pair_first =
      let n : ℕ = 8 * (at + c.size) - 8 * at in
      record {
        good = and_left _ _ h.good;
        is = sym (take-take n (8 * (at + m) - 8 * at) (drop (8 * at) b) (omega arith)) ∙ ap (take n) parts ∙ take_at (bytes (c.enc x)) (bytes (d.enc y)) n (omega (arith, first_long));
      }

  pub pair_second : Holds d (take (8 * (at + m) - 8 * (at + c.size)) (drop (8 * (at + c.size)) b)) y
  pair_second =
      let n : ℕ = 8 * (at + m) - 8 * (at + c.size) in
      let o : 8 * at + 8 * c.size ≡ 8 * (at + c.size) = omega arith in
      record {
        good = and_right _ _ h.good;
        is = ap (λ (j : ℕ). take n (drop j b)) (sym o) ∙ sym (part_part b (8 * at) (8 * (at + m) - 8 * at) (8 * c.size) n (omega arith)) ∙ ap (λ (l : List ℕ). take n (drop (8 * c.size) l)) parts
            ∙ ap (take n) (drop_at (bytes (c.enc x)) (bytes (d.enc y)) (8 * c.size) first_long)
            ∙ take_all n (bytes (d.enc y)) (omega (arith, length_bytes (d.enc y), d.size_enc y (and_right _ _ h.good)));
      }
