-- From bytes to words. `bytes` (words to bytes) is the easy direction: what is said of words is carried to bytes by it, once, so that
-- above this crate offsets are in words and nothing speaks of bytes. Assumes nothing.
use Rattle.std.specs.Prelude.{◌≡◌, refl, Bool, List, [], ◌∷◌, ◌++◌, ℕ, zero, suc, ◌+◌, ◌*◌, ◌-◌, ◌/◌, ◌%◌, ◌^◌, ◌≤◌, ◌<◌, eqb, length, get_or, take, drop, set, replicate}
use Rattle.std.proofs.Common.{sym, ap, ap₂, ◌∙◌, append_assoc, append-nil, pow-suc, zero-add, suc-add, add-one, arith, length-append, length-drop, take-append-drop, drop_of_length-le, take_at, drop_at, drop-drop, take-suc, take_all, length-take-le, eq-eqb, ne_eqb}
use Rattle.std.proofs.Math.Nat.{pow-zero}
use Rattle.std.proofs.lemmas.List.Edits.{sets}
use Rattle.std.proofs.Math.Seq.{length-sets}
use Rattle.laws.specs.Bools.{◌and◌, no_and}
use Rattle.laws.proofs.BoolLaws.{true_and}
use Rattle.words.specs.Words.{le, bytes_of, le_at, bytes, words, W, allz, Bytes, Fit}
use Rattle.words.specs.Sets.{sets_at, sets_append, part_at, cut, length_part}
use Rattle.words.specs.Numbers.{each_take, each_drop, each_append, length_bytes_of, le_bytes_of, bytes_of_le_at, le_at_lt, bytes_of_each}
use Rattle.words.specs.Zero.{allz_append}

-- ---- words to bytes

pub bytes_append : (xs ys : List ℕ) → bytes (xs ++ ys) ≡ bytes xs ++ bytes ys
unfolding bytes
bytes_append [] ys = refl
bytes_append (x ∷ xs) ys = ap (λ (r : List ℕ). bytes_of 8 x ++ r) (bytes_append xs ys) ∙ sym (append_assoc (bytes_of 8 x) (bytes xs) (bytes ys))

pub length_bytes : (ws : List ℕ) → length (bytes ws) ≡ 8 * length ws
unfolding bytes
length_bytes [] = refl
length_bytes (w ∷ ws) = omega (arith, length-append (bytes_of 8 w) (bytes ws), length_bytes_of 8 w, length_bytes ws)

pub bytes_one : (v : ℕ) → bytes (v ∷ []) ≡ bytes_of 8 v
unfolding bytes
bytes_one v = append-nil (bytes_of 8 v)

pub bytes_each : (ws : List ℕ) → Bytes (bytes ws)
unfolding bytes
bytes_each [] k = omega arith
bytes_each (w ∷ ws) k = each_append (bytes_of 8 w) (bytes ws) (bytes_of_each 8 w) (bytes_each ws) k

pub bytes_zeros : (n : ℕ) → bytes (replicate n 0) ≡ replicate (8 * n) 0
unfolding bytes bytes_of
bytes_zeros zero = refl
bytes_zeros (suc n) =
    let e : 8 * suc n ≡ suc (suc (suc (suc (suc (suc (suc (suc (8 * n)))))))) = omega arith in
    rw (e, bytes_zeros n)

-- ---- an area `bytes ws ++ r`, cut, read and written by words

pub cut_bytes : (ws r : List ℕ) (i n : ℕ) → i + n ≤ length ws
    → bytes ws ++ r ≡ bytes (take i ws) ++ (bytes (take n (drop i ws)) ++ (bytes (drop n (drop i ws)) ++ r))
cut_bytes ws r i n h =
    let p : List ℕ = take i ws in
    let m : List ℕ = take n (drop i ws) in
    let q : List ℕ = drop n (drop i ws) in
    ap (λ (l : List ℕ). bytes l ++ r) (cut ws i n h)
    ∙ ap (λ (l : List ℕ). l ++ r) (bytes_append p (m ++ q) ∙ ap (λ (l : List ℕ). bytes p ++ l) (bytes_append m q))
    ∙ append_assoc (bytes p) (bytes m ++ bytes q) r ∙ ap (λ (l : List ℕ). bytes p ++ l) (append_assoc (bytes m) (bytes q) r)

before : (ws : List ℕ) (i : ℕ) → i ≤ length ws → length (bytes (take i ws)) ≡ 8 * i
before ws i h = length_bytes (take i ws) ∙ ap (λ (k : ℕ). 8 * k) (length-take-le i ws h)

within : (ws : List ℕ) (i n : ℕ) → i + n ≤ length ws → length (bytes (take n (drop i ws))) ≡ 8 * n
within ws i n h = length_bytes (take n (drop i ws)) ∙ ap (λ (k : ℕ). 8 * k) (length_part ws i n h)

pub part_bytes : (ws r : List ℕ) (i n : ℕ) → i + n ≤ length ws → take (8 * n) (drop (8 * i) (bytes ws ++ r)) ≡ bytes (take n (drop i ws))
part_bytes ws r i n h =
    ap (λ (l : List ℕ). take (8 * n) (drop (8 * i) l)) (cut_bytes ws r i n h)
    ∙ part_at (bytes (take i ws)) (bytes (take n (drop i ws))) (bytes (drop n (drop i ws)) ++ r) (8 * i) (8 * n) (before ws i (omega arith)) (within ws i n h)

-- a run of words that is written
pub sets_bytes : (ws r vs : List ℕ) (i : ℕ) → i + length vs ≤ length ws → sets (bytes ws ++ r) (8 * i) (bytes vs) ≡ bytes (sets ws i vs) ++ r
sets_bytes ws r vs i h =
    let n : ℕ = length vs in
    let p : List ℕ = take i ws in
    let m : List ℕ = take n (drop i ws) in
    let q : List ℕ = drop n (drop i ws) in
    let lp : length p ≡ i = length-take-le i ws (omega arith) in
    let lm : length vs ≡ length m = sym (length_part ws i n h) in
    ap (λ (l : List ℕ). sets l (8 * i) (bytes vs)) (cut_bytes ws r i n h)
    ∙ sets_at (bytes p) (bytes m) (bytes q ++ r) (bytes vs) (8 * i) (before ws i (omega arith)) (length_bytes vs ∙ sym (within ws i n h))
    ∙ sym (ap (λ (l : List ℕ). bytes l ++ r) (ap (λ (l : List ℕ). sets l i vs) (cut ws i n h) ∙ sets_at p m q vs i lp lm)
    ∙ ap (λ (l : List ℕ). l ++ r) (bytes_append p (vs ++ q) ∙ ap (λ (l : List ℕ). bytes p ++ l) (bytes_append vs q))
    ∙ append_assoc (bytes p) (bytes vs ++ bytes q) r ∙ ap (λ (l : List ℕ). bytes p ++ l) (append_assoc (bytes vs) (bytes q) r))

-- the same of an area of whole words
pub part_whole : (ws : List ℕ) (i n : ℕ) → i + n ≤ length ws → take (8 * n) (drop (8 * i) (bytes ws)) ≡ bytes (take n (drop i ws))
part_whole ws i n h = ap (λ (l : List ℕ). take (8 * n) (drop (8 * i) l)) (sym (append-nil (bytes ws))) ∙ part_bytes ws [] i n h

pub sets_whole : (ws vs : List ℕ) (i : ℕ) → i + length vs ≤ length ws → sets (bytes ws) (8 * i) (bytes vs) ≡ bytes (sets ws i vs)
sets_whole ws vs i h =
    ap (λ (l : List ℕ). sets l (8 * i) (bytes vs)) (sym (append-nil (bytes ws))) ∙ sets_bytes ws [] vs i h ∙ append-nil (bytes (sets ws i vs))

-- one word that is written
pub set_bytes : (ws r : List ℕ) (i v : ℕ) → i < length ws → sets (bytes ws ++ r) (8 * i) (bytes_of 8 v) ≡ bytes (set ws i v) ++ r
set_bytes ws r i v h = ap (sets (bytes ws ++ r) (8 * i)) (sym (bytes_one v)) ∙ sets_bytes ws r (v ∷ []) i (omega arith)

-- ---- bytes to words

pub length_words : (n : ℕ) (bs : List ℕ) → length (words n bs) ≡ n
unfolding words
length_words zero bs = refl
length_words (suc n) bs = ap suc (length_words n (drop 8 bs))

words_fit_lem : (n : ℕ) (bs : List ℕ) → 8 * n ≤ length bs → Bytes bs → Fit (words n bs)
unfolding words
words_fit_lem zero bs h B k = omega arith
words_fit_lem (suc n) bs h B zero = record { fits = le_at_lt 8 bs 0 (omega arith) B }
words_fit_lem (suc n) bs h B (suc k) = words_fit_lem n (drop 8 bs) (omega (arith, length-drop 8 bs)) (each_drop 8 bs B) k

words_append : (ws r : List ℕ) (m : ℕ) → Fit ws → words (length ws + m) (bytes ws ++ r) ≡ ws ++ words m r
unfolding words bytes
words_append [] r m f = rw zero-add
words_append (w ∷ ws) r m f =
    let e : (bytes_of 8 w ++ bytes ws) ++ r ≡ bytes_of 8 w ++ (bytes ws ++ r) = append_assoc (bytes_of 8 w) (bytes ws) r in
    rw suc-add
    (ap₂ (λ (x : ℕ) (l : List ℕ). x ∷ words (length ws + m) l)
    (ap (le_at 8) e ◂ 0 ∙ ap le (take_at (bytes_of 8 w) (bytes ws ++ r) 8 (length_bytes_of 8 w)) ∙ le_bytes_of 8 w (f 0).fits)
    (ap (drop 8) e ∙ drop_at (bytes_of 8 w) (bytes ws ++ r) 8 (length_bytes_of 8 w))
    ∙ ap (λ (l : List ℕ). w ∷ l) (words_append ws r m (λ k. f (suc k))))
  where
    infixl 60 ◌◂◌
    ◌◂◌ : {f g : ℕ → ℕ} → f ≡ g → (k : ℕ) → f k ≡ g k
    e ◂ k = ap (λ (h : ℕ → ℕ). h k) e

bytes_words : (n : ℕ) (bs : List ℕ) → Bytes bs → 8 * n ≤ length bs → bytes (words n bs) ++ drop (8 * n) bs ≡ bs
unfolding words bytes
bytes_words zero bs B h = refl
bytes_words (suc n) bs B h =
    let k : 8 + 8 * n ≡ 8 * suc n = omega arith in
    append_assoc (bytes_of 8 (le_at 8 bs 0)) (bytes (words n (drop 8 bs))) (drop (8 * suc n) bs)
    ∙ ap₂ (λ (x y : List ℕ). x ++ y) (bytes_of_le_at 8 bs 0 (omega arith) B)
    (ap (λ (l : List ℕ). bytes (words n (drop 8 bs)) ++ l) (ap (λ (m : ℕ). drop m bs) (sym k) ∙ sym (drop-drop (8 * n) 8 bs))
    ∙ bytes_words n (drop 8 bs) (each_drop 8 bs B) (omega (arith, length-drop 8 bs)))
    ∙ take-append-drop 8 bs

get_d_words : (n : ℕ) (bs : List ℕ) (i : ℕ) → i < n → le_at 8 bs (8 * i) ≡ get_or (words n bs) i 0
unfolding words
get_d_words zero bs i h = absurd (omega arith)
get_d_words (suc n) bs zero h = refl
get_d_words (suc n) bs (suc i) h =
    let k : 8 * suc i ≡ 8 + 8 * i = omega arith in
    rw (k, ← drop-drop) (get_d_words n (drop 8 bs) i (omega arith))

-- ---- all the words of an area

pub length_w : (bs : List ℕ) → length (W bs) ≡ length bs / 8
unfolding W
length_w bs = length_words (length bs / 8) bs

pub W-fit : (bs : List ℕ) → Bytes bs → Fit (W bs)
unfolding W
W-fit bs B = words_fit_lem (length bs / 8) bs (omega arith) B

pub W-append : (ws r : List ℕ) → Fit ws → W (bytes ws ++ r) ≡ ws ++ W r
unfolding W
W-append ws r f =
    let n : length (bytes ws ++ r) / 8 ≡ length ws + length r / 8 = omega (arith, length-append (bytes ws) r, length_bytes ws) in
    ap (λ (k : ℕ). words k (bytes ws ++ r)) n ∙ words_append ws r (length r / 8) f

pub W-bytes : (ws : List ℕ) → Fit ws → W (bytes ws) ≡ ws
unfolding W words
W-bytes ws f = ap W (sym (append-nil (bytes ws))) ∙ W-append ws [] f ∙ append-nil ws

-- an area is the bytes of its words, and at most seven more
pub W-back : (bs : List ℕ) → Bytes bs → bytes (W bs) ++ drop (8 * (length bs / 8)) bs ≡ bs
unfolding W
W-back bs B = bytes_words (length bs / 8) bs B (omega arith)

-- an area of whole words
pub W-whole : (bs : List ℕ) (n : ℕ) → Bytes bs → length bs ≡ 8 * n → bytes (W bs) ≡ bs
W-whole bs n B e =
    let z : drop (8 * (length bs / 8)) bs ≡ [] = drop_of_length-le bs {i = 8 * (length bs / 8)} (omega arith) in
    sym (ap (λ (l : List ℕ). bytes (W bs) ++ l) z ∙ append-nil (bytes (W bs))) ∙ W-back bs B

-- an area whose words begin with xs
pub W-split : (bs xs ys : List ℕ) (n : ℕ) → Bytes bs → W bs ≡ xs ++ ys → length xs ≡ n → bs ≡ bytes xs ++ drop (8 * n) bs
W-split bs xs ys n B e l =
    let r : List ℕ = drop (8 * (length bs / 8)) bs in
    let s : bs ≡ bytes xs ++ (bytes ys ++ r) =
    sym (W-back bs B) ∙ ap (λ (ws : List ℕ). bytes ws ++ r) e ∙ ap (λ (q : List ℕ). q ++ r) (bytes_append xs ys) ∙ append_assoc (bytes xs) (bytes ys) r in
    let d : drop (8 * n) bs ≡ bytes ys ++ r =
    ap (drop (8 * n)) s ∙ drop_at (bytes xs) (bytes ys ++ r) (8 * n) (length_bytes xs ∙ ap (λ (m : ℕ). 8 * m) l) in
    s ∙ ap (λ (q : List ℕ). bytes xs ++ q) (sym d)

-- the words of a part of an area of whole words
pub W-part : (bs : List ℕ) (a e : ℕ) → Bytes bs → a ≤ e → 8 * e ≤ length bs → W (take (8 * e - 8 * a) (drop (8 * a) bs)) ≡ take (e - a) (drop a (W bs))
W-part bs a e B h k =
    let d : 8 * e - 8 * a ≡ 8 * (e - a) = omega arith in
    let r : List ℕ = drop (8 * (length bs / 8)) bs in
    let f : Fit (take (e - a) (drop a (W bs))) = each_take (e - a) (drop a (W bs)) (each_drop a (W bs) (W-fit bs B)) in
    ap (λ (m : ℕ). W (take m (drop (8 * a) bs))) d
    ∙ ap (λ (l : List ℕ). W (take (8 * (e - a)) (drop (8 * a) l))) (sym (W-back bs B))
    ∙ ap W (part_bytes (W bs) r a (e - a) (omega (arith, length_w bs)))
    ∙ W-bytes (take (e - a) (drop a (W bs))) f

-- ---- what `load` reads

pub load_w : (bs : List ℕ) (i r : ℕ) → 8 * i + 8 ≤ length bs → r ≡ le_at 8 bs (8 * i) → r ≡ get_or (W bs) i 0
unfolding W
load_w bs i r h e = e ∙ get_d_words (length bs / 8) bs i (omega arith)

-- ---- zeros: the bytes of a run of words are all zero where the words are

both_zero : (a b : ℕ) → (eqb a 0 and eqb b 0) ≡ eqb (a + 256 * b) 0
both_zero zero zero = true_and (eqb 0 0)
both_zero zero (suc b) = true_and (eqb (suc b) 0) ∙ ne_eqb (suc b) 0 (omega arith) ∙ sym (ne_eqb (zero + 256 * suc b) 0 (omega arith))
both_zero (suc a) b = no_and (eqb (suc a) 0) (eqb b 0) (ne_eqb (suc a) 0 (omega arith)) ∙ sym (ne_eqb (suc a + 256 * b) 0 (omega arith))

allz_bytes_of : (n v : ℕ) → v < 256 ^ n → allz (bytes_of n v) ≡ eqb v 0
unfolding allz bytes_of
allz_bytes_of zero v h = sym (eq-eqb v 0 (omega (arith, pow-zero 256)))
allz_bytes_of (suc n) v h =
    let e : v % 256 + 256 * (v / 256) ≡ v = omega arith in
    ap (λ (b : Bool). eqb (v % 256) 0 and b) (allz_bytes_of n (v / 256) (omega (arith, pow-suc 256 n)))
    ∙ both_zero (v % 256) (v / 256) ∙ ap (λ (x : ℕ). eqb x 0) e

pub allz_bytes : (ws : List ℕ) → Fit ws → allz (bytes ws) ≡ allz ws
unfolding allz bytes
allz_bytes [] f = refl
allz_bytes (w ∷ ws) f = allz_append (bytes_of 8 w) (bytes ws) ∙ ap₂ (λ (a b : Bool). a and b) (allz_bytes_of 8 w (f 0).fits) (allz_bytes ws (λ k. f (suc k)))

-- what `zero_words` answers
pub zero_part : (bs : List ℕ) (a e : ℕ) (r : Bool) → Bytes bs → a ≤ e → 8 * e ≤ length bs
    → r ≡ allz (take (8 * e - 8 * a) (drop (8 * a) bs))
    → r ≡ allz (take (e - a) (drop a (W bs)))
zero_part bs a e r B h k z =
    let d : 8 * e - 8 * a ≡ 8 * (e - a) = omega arith in
    let t : List ℕ = take (e - a) (drop a (W bs)) in
    z ∙ ap (λ (m : ℕ). allz (take m (drop (8 * a) bs))) d
    ∙ ap (λ (l : List ℕ). allz (take (8 * (e - a)) (drop (8 * a) l))) (sym (W-back bs B))
    ∙ ap allz (part_bytes (W bs) (drop (8 * (length bs / 8)) bs) a (e - a) (omega (arith, length_w bs)))
    ∙ allz_bytes t (each_take (e - a) (drop a (W bs)) (each_drop a (W bs) (W-fit bs B)))

-- ---- the loop of `store_all`: the first k of the words vs are stored in d from word i, which gave s

pub record Stored (d vs : List ℕ) (i : ℕ) (s : List ℕ) (k : ℕ) : Type 0 where
  pub is : s ≡ sets d (8 * i) (bytes (take k vs))
  pub len : length s ≡ length d
  pub upto : k ≤ length vs

pub stored_start : {d vs : List ℕ} {i : ℕ} → Stored d vs i d 0
unfolding bytes
stored_start = record { is = refl; len = refl; upto = omega arith }

pub stored_turn : {d vs : List ℕ} {i : ℕ} {s : List ℕ} {k : ℕ} (t : List ℕ) → Stored d vs i s k → k < length vs → t ≡ sets s (8 * (i + k)) (bytes_of 8 (get_or vs k 0)) → Stored d vs i t (k + 1)
stored_turn {d} {vs} {i} {s} {k} t u h e =
    let p : List ℕ = take k vs in
    let v : ℕ = get_or vs k 0 in
    rw add-one (record {
      is = e ∙ ap (λ (l : List ℕ). sets l (8 * (i + k)) (bytes_of 8 v)) u.is
          ∙ sets_append (bytes p) d (bytes_of 8 v) (8 * i) (8 * (i + k)) (omega (arith, length_bytes p, length-take-le k vs (omega arith)))
          ∙ ap (λ (l : List ℕ). sets d (8 * i) l) (ap (λ (l : List ℕ). bytes p ++ l) (sym (bytes_one v)) ∙ sym (bytes_append p (v ∷ [])) ∙ ap bytes (sym (take-suc vs k 0 h)));
      len = ap length e ∙ length-sets s (8 * (i + k)) (bytes_of 8 v) ∙ u.len;
      upto = h;
    })

pub stored_done : {d vs : List ℕ} {i : ℕ} {s : List ℕ} {k : ℕ} → Stored d vs i s k → length vs ≤ k → s ≡ sets d (8 * i) (bytes vs)
stored_done {d} {vs} {i} {s} {k} u h = u.is ∙ ap (λ (l : List ℕ). sets d (8 * i) (bytes l)) (take_all k vs h)

pub ruleset stored = (stored_start, stored_turn, stored_done)
