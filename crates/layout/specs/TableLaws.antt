-- What a table's bytes hold after each move, and what is read of them. Each law is over every list of rows that the bytes may hold; a
-- table's own functions cite them with their row and their rule. Assumes nothing.
use Rattle.std.specs.Prelude.{◌≡◌, refl, Bool, true, false, not, get_or, set, take, drop, replicate}
use Rattle.std.proofs.Common.{sym, ◌∙◌, subst, zero-mul, suc-mul, arith, length-drop, length-set, take_all, drop-drop, get_or-drop, get_or-take}
use Rattle.std.proofs.Math.Path.{ap, ap₂}
use mathlib.Core.List.{List, [], ◌∷◌, ◌++◌}
use Prim.Native.Nat.{ℕ, zero, suc, ◌+◌, ◌-◌, ◌*◌, ◌/◌, ◌%◌, ◌≤◌, ◌<◌}
use Rattle.std.proofs.Math.Numerals.{add-one}
use Rattle.std.proofs.Math.ListN.{length, length-append}
use Rattle.std.proofs.lemmas.List.{length-replicate, replicate-append-replicate}
use Rattle.std.proofs.Math.Seq.{sets, length-sets}
use borrow.Author.Tests.{eqb-true, eq-eqb, leb-true, not-true, not-false}
use Rattle.laws.specs.Bools.{◌and◌, and_left, no_and, every}
use Rattle.laws.proofs.BoolLaws.{and_right, and_both, true_and, every_append, every_get, every_set, every_first, every_second, every_both}
use Rattle.laws.specs.Decides.{Decides, fails, false_true}
use Rattle.words.specs.Words.{bytes, W, allz, Bytes}
use Rattle.words.specs.Sets.{sets_at}
use Rattle.words.specs.Zero.{zeros_allz}
use Rattle.words.specs.Lift.{bytes_zeros, length_w, part_whole, sets_whole}
use Rattle.layout.specs.Code.{Code, such, zeros, flat, lay, ok_n, parse_n, length_flat, length_lay, length_parse_n, Fitting, fitting, fitted}
use Rattle.layout.specs.Tables.{Holds, Table, such_table, Held, Tabled, content, Becomes, Gives, rows_in, insert_at, remove_at, fill_from, append, opened, removed, padded}
use Rattle.layout.specs.Contents.{holds_length, holds_w, holds_ok, holds_parse, parse_holds}
use Rattle.layout.specs.Rows.{row_start, row_end, every_replicate, flat_zeros, every_insert_at, every_remove_at, every_fill_from, length_insert_at, length_remove_at, length_fill_from, row_at, fill_rows, put_row, insert_row, remove_row, append_row, zeros_row, opened_bytes_lem, removed_bytes}

-- ---- the rows that bytes say

module _ {T : Type 0} (c : Code T) where
  pub length_rows_in : (n : ℕ) (b : List ℕ) → length (rows_in c n b) ≡ n
  unfolding rows_in
  length_rows_in n b = length_parse_n c n (W b)

  get_d_parse_n : (n : ℕ) (ws : List ℕ) (i : ℕ) (d : T) → i < n → get_or (parse_n c n ws) i d ≡ c.parse (drop (i * c.size) ws)
  get_d_parse_n zero ws i d h = absurd (omega arith)
  get_d_parse_n (suc n) ws zero d h = rw zero-mul
  get_d_parse_n (suc n) ws (suc i) d h =
      let e : c.size + i * c.size ≡ suc i * c.size = omega (arith, suc-mul i c.size) in
      get_d_parse_n n (drop c.size ws) i d (omega arith) ∙ ap c.parse (drop-drop (i * c.size) c.size ws ∙ ap (λ (k : ℕ). drop k ws) e)

  -- row i, where it is read
  pub row_parsed : (n : ℕ) (b : List ℕ) (i : ℕ) (d : T) → i < n → get_or (rows_in c n b) i d ≡ c.parse (drop (i * c.size) (W b))
  unfolding rows_in
  row_parsed n b i d h = get_d_parse_n n (W b) i d h

  -- each row is a content, where the row's test takes all words
  pub ok_n_free : (n : ℕ) (ws : List ℕ) → ((v : List ℕ) → c.ok v ≡ true) → ok_n c n ws ≡ true
  ok_n_free zero ws f = refl
  ok_n_free (suc n) ws f = and_both _ _ (f ws) (ok_n_free n (drop c.size ws) f)

-- ---- what bytes hold

module _ {T : Type 0} {t : Table T} {N n : ℕ} {b : List ℕ} {x : List T} (h : Held t N n b x) where
  abbrev w : ℕ
  w = t.row.size

  pub held_rows : Fitting t.row N n x
  held_rows = fitting t.row N n x (and_left _ _ h.holds.good)

  pub held_rule : t.rule x ≡ true
  held_rule = and_right _ _ h.holds.good

  pub held_length : length b ≡ 8 * N
  held_length = holds_length h.holds

  -- the rows that bytes hold are those that they say
  pub rows_are : rows_in t.row n b ≡ x
  unfolding rows_in
  rows_are = holds_parse h.holds

  makes : (m : ℕ) (y : List T) (b' : List ℕ) → m * w ≤ N → length y ≡ m → every t.row.good y ≡ true → t.rule y ≡ true → b' ≡ bytes (lay t.row N y) → Held t N m b' y
  makes m y b' r l g k e = record { holds = record { good = and_both _ _ (fitted t.row N m y (record { room = r; count = l; each = g })) k; is = e } }

  words_long : length (lay t.row N x) ≡ N
  words_long = length_lay t.row N x held_rows.each (rw held_rows.count held_rows.room)

  -- row i, as its bytes
  pub row_held : (i : ℕ) (d : T) → i < n → Holds t.row (take (8 * w) (drop (8 * (i * w)) b)) (get_or x i d)
  row_held i d k =
      let f = held_rows in
      record {
        good = every_get t.row.good x i d (rw f.count k) f.each;
        is = ap (λ (l : List ℕ). take (8 * w) (drop (8 * (i * w)) l)) h.holds.is
            ∙ part_whole (lay t.row N x) (i * w) w (omega (arith, words_long, row_end i n w k, f.room))
            ∙ ap bytes (row_at t.row x f.each (zeros (N - length x * w)) i d (rw f.count k));
      }

  -- word j of row i
  pub row_word : (i j : ℕ) (d : T) → i < n → j < w → get_or (W b) (i * w + j) 0 ≡ get_or (t.row.enc (get_or x i d)) j 0
  row_word i j d k l =
      let f = held_rows in
      sym (get_or-drop (i * w) (W b) j 0) ∙ sym (get_or-take w (drop (i * w) (W b)) j 0 l) ∙ ap (λ (v : List ℕ). get_or (take w (drop (i * w) v)) j 0) (holds_w h.holds)
      ∙ ap (λ (v : List ℕ). get_or v j 0) (row_at t.row x f.each (zeros (N - length x * w)) i d (rw f.count k))

  -- row i replaced by a
  pub put_held : (i : ℕ) (a : T) (b' : List ℕ) → i < n → t.row.good a ≡ true → t.rule (set x i a) ≡ true → b' ≡ sets b (8 * (i * w)) (bytes (t.row.enc a)) → Held t N n b' (set x i a)
  put_held i a b' k g r e =
      let f = held_rows in
      let l : length (t.row.enc a) ≡ w = t.row.size_enc a g in
      makes n (set x i a) b' f.room (length-set x i a ∙ f.count) (every_set t.row.good x i a f.each g) r
      (e ∙ ap (λ (q : List ℕ). sets q (8 * (i * w)) (bytes (t.row.enc a))) h.holds.is
      ∙ sets_whole (lay t.row N x) (t.row.enc a) (i * w) (omega (arith, words_long, row_end i n w k, f.room))
      ∙ ap bytes (put_row t.row x f.each (zeros (N - length x * w)) i a g (rw f.count k) ∙ ap (λ (m : ℕ). flat t.row.enc (set x i a) ++ zeros (N - m * w)) (sym (length-set x i a))))

  module _ (room : 8 * (n * w + w) ≤ length b) where
    more : length x * w + w ≤ N
    more = rw held_rows.count (omega (arith, held_length))

    more_room : (n + 1) * w ≤ N
    more_room = rw add-one (omega (arith, suc-mul n w, held_length))

    open_up : lay t.row N x ≡ flat t.row.enc x ++ (zeros w ++ zeros (N - suc (length x) * w))
    open_up = ap (λ (q : List ℕ). flat t.row.enc x ++ q) (zeros_row N (length x) w more)

    -- a put in before row i
    pub insert_held : (i : ℕ) (a : T) (b₁ b₂ : List ℕ) → i ≤ n → t.row.good a ≡ true → t.rule (insert_at i a x) ≡ true
        → b₁ ≡ opened w n i b → b₂ ≡ sets b₁ (8 * (i * w)) (bytes (t.row.enc a))
        → Held t N (n + 1) b₂ (insert_at i a x)
    insert_held i a b₁ b₂ k g r e₁ e₂ =
        let f = held_rows in
        let m : ℕ = length x in
        let ws : List ℕ = lay t.row N x in
        let l : length (t.row.enc a) ≡ w = t.row.size_enc a g in
        let j : i ≤ m = rw f.count k in
        let u : List ℕ = sets ws (i * w + w) (take (m * w - i * w) (drop (i * w) ws)) in
        let e : b₁ ≡ bytes u =
        e₁ ∙ ap₂ (λ (q : ℕ) (v : List ℕ). opened w q i v) (sym f.count) h.holds.is ∙ opened_bytes_lem w m i ws j (omega (arith, words_long, more)) in
        let lu : length u ≡ N = length-sets ws (i * w + w) (take (m * w - i * w) (drop (i * w) ws)) ∙ words_long in
        let s : i * w ≤ m * w = row_start i m w j in
        let o : m * w + w ≤ N = more in
        makes (n + 1) (insert_at i a x) b₂ more_room (length_insert_at i a x j ∙ ap (λ (q : ℕ). q + 1) f.count) (every_insert_at t.row.good i x f.each a g) r
        (e₂ ∙ ap (λ (v : List ℕ). sets v (8 * (i * w)) (bytes (t.row.enc a))) e ∙ sets_whole u (t.row.enc a) (i * w) (omega arith)
        ∙ ap bytes (ap (λ (v : List ℕ). sets (sets v (i * w + w) (take (m * w - i * w) (drop (i * w) v))) (i * w) (t.row.enc a)) open_up
        ∙ insert_row t.row x f.each (zeros w) (zeros (N - suc m * w)) i a g j (length-replicate w zero)
        ∙ ap (λ (q : ℕ). flat t.row.enc (insert_at i a x) ++ zeros (N - q * w)) (sym (length_insert_at i a x j ∙ add-one m))))

    -- a after the last row
    pub append_held : (a : T) (b' : List ℕ) → t.row.good a ≡ true → t.rule (append a x) ≡ true → b' ≡ sets b (8 * (n * w)) (bytes (t.row.enc a)) → Held t N (n + 1) b' (append a x)
    unfolding append
    append_held a b' g r e =
        let f = held_rows in
        let m : ℕ = length x in
        let l : length (t.row.enc a) ≡ w = t.row.size_enc a g in
        let c : length (x ++ a ∷ []) ≡ m + 1 = length-append x (a ∷ []) in
        let o : m * w + w ≤ N = more in
        makes (n + 1) (x ++ a ∷ []) b' more_room (c ∙ ap (λ (q : ℕ). q + 1) f.count) (every_append t.row.good x (a ∷ []) ∙ and_both _ _ f.each (and_both _ _ g refl)) r
        (e ∙ ap₂ (λ (q : ℕ) (v : List ℕ). sets v (8 * (q * w)) (bytes (t.row.enc a))) (sym f.count) h.holds.is
        ∙ sets_whole (lay t.row N x) (t.row.enc a) (m * w) (omega (arith, words_long))
        ∙ ap bytes (ap (λ (v : List ℕ). sets v (m * w) (t.row.enc a)) open_up
        ∙ append_row t.row x f.each (zeros w) (zeros (N - suc m * w)) a g (length-replicate w zero)
        ∙ ap (λ (q : ℕ). flat t.row.enc (x ++ a ∷ []) ++ zeros (N - q * w)) (sym (c ∙ add-one m))))

  -- row i taken out
  pub remove_held : (i : ℕ) (d : T) (b' : List ℕ) → i < n → t.rule (remove_at i x) ≡ true → b' ≡ removed w n i b → Held t N (n - 1) b' (remove_at i x)
  remove_held i d b' k r e =
      let f = held_rows in
      let m : ℕ = length x in
      let ws : List ℕ = lay t.row N x in
      let j : i < m = rw f.count k in
      let p : m ≡ suc (m - 1) = omega arith in
      let s : m * w ≡ (m - 1) * w + w = ap (λ (q : ℕ). q * w) p ∙ suc-mul (m - 1) w in
      let o : m * w ≤ N = rw f.count f.room in
      makes (n - 1) (remove_at i x) b' (omega (arith, ap (λ (q : ℕ). (q - 1) * w) f.count)) (length_remove_at i x j ∙ ap (λ (q : ℕ). q - 1) f.count) (every_remove_at t.row.good i x f.each) r
      (e ∙ ap₂ (λ (q : ℕ) (v : List ℕ). removed w q i v) (sym f.count) h.holds.is ∙ removed_bytes w m i ws j (omega (arith, words_long))
      ∙ ap bytes (remove_row t.row x f.each (zeros (N - m * w)) i d j
      ∙ ap (λ (q : List ℕ). flat t.row.enc (remove_at i x) ++ q)
      (ap (λ (q : ℕ). zeros w ++ zeros (N - q * w)) p ∙ sym (zeros_row N (m - 1) w (omega arith)) ∙ ap (λ (q : ℕ). zeros (N - q * w)) (sym (length_remove_at i x j)))))

  -- the rows from i on made zero, where zeros are the content of z
  pub fill_held : (i : ℕ) (z : T) (b' : List ℕ) → i ≤ n → t.row.enc z ≡ zeros w → t.row.good z ≡ true → t.rule (fill_from i z x) ≡ true
      → b' ≡ sets b (8 * (i * w)) (zeros (8 * (n * w) - 8 * (i * w)))
      → Held t N n b' (fill_from i z x)
  fill_held i z b' k ez gz r e =
      let f = held_rows in
      let m : ℕ = length x in
      let j : i ≤ m = rw f.count k in
      let o : m * w ≤ N = rw f.count f.room in
      let s : i * w ≤ m * w = row_start i m w j in
      let d : 8 * (m * w) - 8 * (i * w) ≡ 8 * (m * w - i * w) = omega arith in
      let l : length (fill_from i z x) ≡ m = length_fill_from i z x j in
      makes n (fill_from i z x) b' f.room (l ∙ f.count) (every_fill_from t.row.good i x f.each z gz) r
      (e ∙ ap₂ (λ (c : ℕ) (v : List ℕ). sets v (8 * (i * w)) (zeros (8 * (c * w) - 8 * (i * w)))) (sym f.count) h.holds.is
      ∙ ap (sets (bytes (lay t.row N x)) (8 * (i * w))) (ap zeros d ∙ sym (bytes_zeros (m * w - i * w)))
      ∙ sets_whole (lay t.row N x) (zeros (m * w - i * w)) (i * w) (omega (arith, words_long, length-replicate (m * w - i * w) zero))
      ∙ ap bytes (fill_rows t.row x f.each (zeros (N - m * w)) i z j ez ∙ ap (λ (c : ℕ). flat t.row.enc (fill_from i z x) ++ zeros (N - c * w)) (sym l)))

  -- all rows made zero
  pub clear_held : (b' : List ℕ) → t.rule [] ≡ true → b' ≡ sets b 0 (zeros (8 * (n * w))) → Held t N 0 b' []
  clear_held b' r e =
      let f = held_rows in
      let m : ℕ = length x in
      let o : m * w ≤ N = rw f.count f.room in
      let z : List ℕ = zeros (N - m * w) in
      let s : m * w + (N - m * w) ≡ N - 0 * w = omega (arith, zero-mul w) in
      makes 0 [] b' (omega (arith, zero-mul w)) refl refl r
      (e ∙ ap₂ (λ (q : ℕ) (v : List ℕ). sets v 0 (zeros (8 * (q * w)))) (sym f.count) h.holds.is
      ∙ ap (sets (bytes (lay t.row N x)) 0) (sym (bytes_zeros (m * w)))
      ∙ sets_whole (lay t.row N x) (zeros (m * w)) 0 (omega (arith, words_long, length-replicate (m * w) zero))
      ∙ ap bytes (sets_at [] (flat t.row.enc x) z (zeros (m * w)) 0 refl (length-replicate (m * w) zero ∙ sym (length_flat t.row x f.each))
      ∙ replicate-append-replicate (m * w) (N - m * w) zero ∙ ap zeros s))

-- bytes that are all zero are the empty table
pub empty_held : {T : Type 0} (t : Table T) (N : ℕ) (b : List ℕ) → length b ≡ 8 * N → t.rule [] ≡ true → allz b ≡ true → Held t N 0 b []
empty_held t N b l r z =
    let e : N ≡ N - 0 * t.row.size = omega (arith, zero-mul t.row.size) in
    record {
      holds = record {
        good = and_both _ _ (fitted t.row N 0 [] (record { room = omega (arith, zero-mul t.row.size); count = refl; each = refl })) r;
        is = zeros_allz b z ∙ ap zeros l ∙ sym (bytes_zeros N) ∙ ap (λ (q : ℕ). bytes (zeros q)) e;
      };
    }

-- bytes that are all zero are n rows z, where zeros are the content of z
pub blank_held : {T : Type 0} (t : Table T) (N n : ℕ) (z : T) (b : List ℕ) → length b ≡ 8 * N → n * t.row.size ≤ N → t.row.enc z ≡ zeros t.row.size → t.row.good z ≡ true
    → t.rule (replicate n z) ≡ true → b ≡ zeros (length b)
    → Held t N n b (replicate n z)
blank_held t N n z b l h e g r o =
    let k : ℕ = n * t.row.size in
    let m : k + (N - k) ≡ N = omega arith in
    record {
      holds = record {
        good = and_both _ _ (fitted t.row N n (replicate n z) (record { room = h; count = length-replicate n z; each = every_replicate t.row.good n z g })) r;
        is = o ∙ ap zeros l ∙ sym (bytes_zeros N)
            ∙ ap bytes (ap zeros (sym m) ∙ sym (replicate-append-replicate k (N - k) zero) ∙ ap₂ (λ (u : List ℕ) (c : ℕ). u ++ zeros (N - c * t.row.size)) (sym (flat_zeros t.row n z e)) (sym (length-replicate n z)));
      };
    }

-- an answer that is right of the rows that the bytes say
pub gives : {T R : Type 0} (t : Table T) (n : ℕ) (b : List ℕ) (r : R) (f : List T → R) → r ≡ f (rows_in t.row n b) → Gives t n b r f
gives t n b r f e = record { to = λ N x h. e ∙ ap f (rows_are h) }

-- one move after another
pub then : {T : Type 0} {t : Table T} {n m k : ℕ} {b c d : List ℕ} {f g : List T → List T} → Becomes t n m b c f → Becomes t m k c d g → Becomes t n k b d (λ x. g (f x))
then {f = f} p q = record { to = λ N x h. q.to N (f x) (p.to N x h) }

-- ---- the moves, for a table's own functions: `keeps` is what its rule says of the move

module _ {T : Type 0} (t : Table T) (n : ℕ) (b : List ℕ) where
  pub puts : (i : ℕ) (a : T) (b' : List ℕ) → i < n → t.row.good a ≡ true → ((x : List T) → t.rule x ≡ true → t.rule (set x i a) ≡ true)
      → b' ≡ sets b (8 * (i * t.row.size)) (bytes (t.row.enc a))
      → Becomes t n n b b' (λ x. set x i a)
  puts i a b' k g keeps e = record { to = λ N x h. put_held h i a b' k g (keeps x (held_rule h)) e }

  pub inserts : (i : ℕ) (a : T) (b₁ b₂ : List ℕ) → 8 * (n * t.row.size + t.row.size) ≤ length b → i ≤ n → t.row.good a ≡ true
      → ((x : List T) → t.rule x ≡ true → t.rule (insert_at i a x) ≡ true)
      → b₁ ≡ opened t.row.size n i b → b₂ ≡ sets b₁ (8 * (i * t.row.size)) (bytes (t.row.enc a))
      → Becomes t n (n + 1) b b₂ (insert_at i a)
  inserts i a b₁ b₂ r k g keeps e₁ e₂ = record { to = λ N x h. insert_held h r i a b₁ b₂ k g (keeps x (held_rule h)) e₁ e₂ }

  pub appends : (a : T) (b' : List ℕ) → 8 * (n * t.row.size + t.row.size) ≤ length b → t.row.good a ≡ true
      → ((x : List T) → t.rule x ≡ true → t.rule (append a x) ≡ true)
      → b' ≡ sets b (8 * (n * t.row.size)) (bytes (t.row.enc a))
      → Becomes t n (n + 1) b b' (append a)
  appends a b' r g keeps e = record { to = λ N x h. append_held h r a b' g (keeps x (held_rule h)) e }

  pub removes : (i : ℕ) (d : T) (b' : List ℕ) → i < n → ((x : List T) → t.rule x ≡ true → t.rule (remove_at i x) ≡ true)
      → b' ≡ removed t.row.size n i b
      → Becomes t n (n - 1) b b' (remove_at i)
  removes i d b' k keeps e = record { to = λ N x h. remove_held h i d b' k (keeps x (held_rule h)) e }

-- ---- whether bytes are a table of n rows

module _ {T : Type 0} (t : Table T) (n : ℕ) (b : List ℕ) (B : Bytes b) where
  abbrev w' : ℕ
  w' = t.row.size

  tail_is : allz (take (length b / 8 - n * w') (drop (n * w') (W b))) ≡ allz (drop (n * w') (W b))
  tail_is = ap allz (take_all (length b / 8 - n * w') (drop (n * w') (W b)) (omega (arith, length-drop (n * w') (W b), length_w b)))

  -- true: room, the rows and the rule
  tabled : padded w' n b ≡ true → ok_n t.row n (W b) ≡ true → t.rule (rows_in t.row n b) ≡ true → Tabled t n b
  unfolding padded rows_in
  tabled p q r =
      let m : length b % 8 ≡ 0 = eqb-true _ 0 (and_left _ _ p) in
      record {
        words = length b / 8;
        value = rows_in t.row n b;
        held = record {
          holds = parse_holds (content t (length b / 8) n) b B (omega arith)
              (and_both _ _ (and_both _ _ (and_left _ _ (and_right _ _ p)) (and_both _ _ q (tail_is ∙ and_right _ _ (and_right _ _ p)))) r);
        };
      }

  -- and back
  module _ (k : Tabled t n b) where
    here : Held t (length b / 8) n b k.value
    here = subst (λ (N : ℕ). Held t N n b k.value) (let e : k.words ≡ length b / 8 = omega (arith, held_length k.held) in e) k.held

    is_padded : padded w' n b ≡ true
    unfolding padded
    is_padded =
        let o = and_left _ _ (holds_ok here.holds) in
        and_both _ _ (eq-eqb (length b % 8) 0 (omega (arith, held_length k.held))) (and_both _ _ (and_left _ _ o) (sym tail_is ∙ and_right _ _ (and_right _ _ o)))

    is_rows : ok_n t.row n (W b) ≡ true
    is_rows = and_left _ _ (and_right _ _ (and_left _ _ (holds_ok here.holds)))

    is_ruled : t.rule (rows_in t.row n b) ≡ true
    unfolding rows_in
    is_ruled = and_right _ _ (holds_ok here.holds)

  -- the answers of a check, in the order of its tests: p is what `padding` said, q what the rows' own tests said, r what the rule's
  pub check_padding : (p : Bool) → p ≡ padded w' n b → not p ≡ true → Decides false (Tabled t n b)
  check_padding p e f = fails (λ k. false_true (sym (not-true p f) ∙ e ∙ is_padded k))

  pub check_rows : (q : Bool) → q ≡ ok_n t.row n (W b) → not q ≡ true → Decides false (Tabled t n b)
  check_rows q e f = fails (λ k. false_true (sym (not-true q f) ∙ e ∙ is_rows k))

  pub check_rule : (p q r : Bool) → p ≡ padded w' n b → not p ≡ false → q ≡ ok_n t.row n (W b) → not q ≡ false → r ≡ t.rule (rows_in t.row n b) → Decides r (Tabled t n b)
  check_rule p q r e f e' f' e'' = record {
    yes = λ y. tabled (sym e ∙ not-false p f) (sym e' ∙ not-false q f') (sym e'' ∙ y);
    no = λ y k. false_true (sym y ∙ e'' ∙ is_ruled k);
  }

  -- where the rule takes every list, the rows' own tests are the last
  pub check_free : (p q : Bool) → p ≡ padded w' n b → not p ≡ false → q ≡ ok_n t.row n (W b) → ((x : List T) → t.rule x ≡ true) → Decides q (Tabled t n b)
  check_free p q e f e' r = record { yes = λ y. tabled (sym e ∙ not-false p f) (sym e' ∙ y) (r (rows_in t.row n b)); no = λ y k. false_true (sym y ∙ e' ∙ is_rows k) }

-- what `padding` shows where it says yes
pub padding_room : (w n : ℕ) (b : List ℕ) (p : Bool) → p ≡ padded w n b → not p ≡ false → 8 * (n * w) ≤ length b
unfolding padded
padding_room w n b p e f =
    let l : n * w ≤ length b / 8 = leb-true _ _ (and_left _ _ (and_right _ _ (sym e ∙ not-false p f))) in
    omega arith

pub ruleset checks = (check_padding, check_rows, check_rule, check_free, padding_room)

-- ---- the loop over the rows' own tests: those before row i say yes

pub record Rowed {T : Type 0} (c : Code T) (n : ℕ) (ws : List ℕ) (i : ℕ) : Type 0 where
  pub is : ok_n c n ws ≡ ok_n c (n - i) (drop (i * c.size) ws)
  pub upto : i ≤ n

module _ {T : Type 0} (c : Code T) (n : ℕ) (ws : List ℕ) where
  pub rowed_start : Rowed c n ws 0
  rowed_start =
      let e : n - 0 ≡ n = omega arith in
      record { is = sym (ap₂ (λ (m : ℕ) (k : ℕ). ok_n c m (drop k ws)) e (zero-mul c.size)); upto = omega arith }

  module _ (i : ℕ) (r : Rowed c n ws i) (h : i < n) where
    row_split : ok_n c n ws ≡ (c.ok (drop (i * c.size) ws) and ok_n c (n - (i + 1)) (drop ((i + 1) * c.size) ws))
    row_split =
        let e : n - i ≡ suc (n - (i + 1)) = omega arith in
        let s : i * c.size + c.size ≡ (i + 1) * c.size = sym (ap (λ (m : ℕ). m * c.size) (add-one i) ∙ suc-mul i c.size) in
        r.is ∙ ap (λ (m : ℕ). ok_n c m (drop (i * c.size) ws)) e
        ∙ ap (λ (l : List ℕ). c.ok (drop (i * c.size) ws) and ok_n c (n - (i + 1)) l) (drop-drop c.size (i * c.size) ws ∙ ap (λ (m : ℕ). drop m ws) s)

    pub rowed_turn : c.ok (drop (i * c.size) ws) ≡ true → Rowed c n ws (i + 1)
    rowed_turn t = record { is = row_split ∙ ap (λ (b : Bool). b and ok_n c (n - (i + 1)) (drop ((i + 1) * c.size) ws)) t ∙ true_and _; upto = omega arith }

    pub rowed_fail : c.ok (drop (i * c.size) ws) ≡ false → false ≡ ok_n c n ws
    rowed_fail t = sym (row_split ∙ no_and _ _ t)

  pub rowed_done : (i : ℕ) → Rowed c n ws i → n ≤ i → true ≡ ok_n c n ws
  rowed_done i r h = sym (r.is ∙ ap (λ (m : ℕ). ok_n c m (drop (i * c.size) ws)) (let e : n - i ≡ 0 = omega arith in e))

-- ---- a table whose rows are asked one more test: it is held where the plain one is and every row passes

module _ {T : Type 0} (t : Table T) (q : T → Bool) {N n : ℕ} {b : List ℕ} {x : List T} where
  pub such_plain : Held (such_table t q) N n b x → Held t N n b x
  such_plain h =
      let f = held_rows h in
      record { holds = record { good = and_both _ _ (fitted t.row N n x (record { room = f.room; count = f.count; each = every_first t.row.good q x f.each })) (held_rule h); is = h.holds.is } }

  pub such_tested : Held (such_table t q) N n b x → every q x ≡ true
  such_tested h = every_second t.row.good q x (held_rows h).each

  pub plain_such : Held t N n b x → every q x ≡ true → Held (such_table t q) N n b x
  plain_such h e =
      let f = held_rows h in
      record {
        holds = record {
          good = and_both _ _ (fitted (such t.row q) N n x (record { room = f.room; count = f.count; each = every_both t.row.good q x f.each e })) (held_rule h);
          is = h.holds.is;
        };
      }
