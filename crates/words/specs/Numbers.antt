-- Numbers as bytes, the lowest first, at any count of bytes; and lists whose elements fit a width. Assumes nothing.
use Rattle.std.specs.Prelude.{◌≡◌, refl, List, [], ◌∷◌, ◌++◌, ℕ, zero, suc, ◌+◌, ◌-◌, ◌*◌, ◌/◌, ◌%◌, ◌^◌, ◌≤◌, ◌<◌, length, get_or, take, drop, replicate, Result, Ok, IsOk, MatchResult, ◌≢◌}
use Rattle.std.proofs.Common.{sym, ap, ap₂, ◌∙◌, subst, pow-suc, mul_assoc, mul_comm, one-mul, add-zero, suc-add, div-one, arith, pow_pos, length-take-le, take-suc, take_all, get_or-drop}
use Rattle.std.proofs.Math.Nat.{pow-zero, div-div-eq-div-mul}
use Rattle.std.proofs.lemmas.List.Edits.{sets}
use Rattle.std.specs.Int.{Width, w32, w64, byte_at, byte_worth, bytes_low_first, sum_through, to_le_bytes, from_le_bytes}
use Rattle.std.specs.Array.{IsWholeChunk}
use mir.Val.{Fits, bits}
use Rattle.words.specs.Words.{le, bytes_of, le_at, Each, Bytes}
use Rattle.words.specs.Sets.{part_at, length_part, part_sets, part_sets_below, part_sets_above}

-- ---- lists whose elements fit a width

module _ {w : Width} where
  zero_fits : Fits w 0
  zero_fits = record { fits = pow_pos (bits w) }

  pub each_take : (n : ℕ) (l : List ℕ) → Each w l → Each w (take n l)
  each_take zero l h k = zero_fits
  each_take (suc n) [] h k = h k
  each_take (suc n) (x ∷ l) h zero = h zero
  each_take (suc n) (x ∷ l) h (suc k) = each_take n l (λ j. h (suc j)) k

  pub each_drop : (n : ℕ) (l : List ℕ) → Each w l → Each w (drop n l)
  each_drop n l h k = rw get_or-drop (h (n + k))

  pub each_append : (a b : List ℕ) → Each w a → Each w b → Each w (a ++ b)
  each_append [] b f g k = g k
  each_append (x ∷ a) b f g zero = f zero
  each_append (x ∷ a) b f g (suc k) = each_append a b (λ j. f (suc j)) g k

  pub each_left : (a b : List ℕ) → Each w (a ++ b) → Each w a
  each_left [] b h k = zero_fits
  each_left (x ∷ a) b h zero = h zero
  each_left (x ∷ a) b h (suc k) = each_left a b (λ j. h (suc j)) k

  pub each_right : (a b : List ℕ) → Each w (a ++ b) → Each w b
  each_right [] b h k = h k
  each_right (x ∷ a) b h k = each_right a b (λ j. h (suc j)) k

  pub each_zeros : (n : ℕ) → Each w (replicate n 0)
  each_zeros zero k = zero_fits
  each_zeros (suc n) zero = zero_fits
  each_zeros (suc n) (suc k) = each_zeros n k

-- ---- the round trips

pub length_bytes_of : (n v : ℕ) → length (bytes_of n v) ≡ n
unfolding bytes_of
length_bytes_of zero v = refl
length_bytes_of (suc n) v = ap suc (length_bytes_of n (v / 256))

pub le_bytes_of : (n v : ℕ) → v < 256 ^ n → le (bytes_of n v) ≡ v
unfolding bytes_of le
le_bytes_of zero v h = omega (arith, pow-zero 256)
le_bytes_of (suc n) v h =
    omega (arith, le_bytes_of n (v / 256) (omega (arith, pow-suc 256 n)))

pub bytes_of_le : (l : List ℕ) → Bytes l → bytes_of (length l) (le l) ≡ l
unfolding bytes_of le
bytes_of_le [] h = refl
bytes_of_le (b ∷ l) h =
    let s : b < 256 = (h 0).fits in
    ap₂ (λ (x y : ℕ). x ∷ bytes_of (length l) y) (omega arith) (omega arith)
    ∙ ap (λ (r : List ℕ). b ∷ r) (bytes_of_le l (λ k. h (suc k)))

pub le_lt : (l : List ℕ) → Bytes l → le l < 256 ^ length l
unfolding le
le_lt [] h = omega (arith, pow-zero 256)
le_lt (b ∷ l) h = omega (arith, h 0, le_lt l (λ k. h (suc k)), pow-suc 256 (length l))

-- the bytes of a number are bytes
pub bytes_of_each : (n v : ℕ) → Bytes (bytes_of n v)
unfolding bytes_of
bytes_of_each zero v k = omega arith
bytes_of_each (suc n) v zero = omega arith
bytes_of_each (suc n) v (suc k) = bytes_of_each n (v / 256) k

-- ---- std's bytes of a number, and the number of bytes

pub le_append : (a b : List ℕ) → le (a ++ b) ≡ le a + 256 ^ length a * le b
unfolding le
le_append [] b = omega (arith, ap (λ (p : ℕ). p * le b) (pow-zero 256), one-mul (le b))
le_append (x ∷ a) b =
    omega (arith, le_append a b, ap (λ (p : ℕ). p * le b) (pow-suc 256 (length a) ∙ mul_comm (256 ^ length a) 256), mul_assoc 256 (256 ^ length a) (le b))

sum_le : (k : ℕ) (l : List ℕ) → k < length l → sum_through (λ i. byte_worth i (get_or l i 0)) k ≡ le (take (suc k) l)
unfolding le
sum_le zero [] h = absurd (omega arith)
sum_le zero (x ∷ l) h = omega arith
sum_le (suc k) l h =
    let x : ℕ = get_or l (suc k) 0 in
    ap (λ (p : ℕ). p + x * 256 ^ suc k) (sum_le k l (omega arith))
    ∙ sym (ap le (take-suc l (suc k) 0 h) ∙ le_append (take (suc k) l) (x ∷ [])
    ∙ ap₂ (λ (p q : ℕ). le (take (suc k) l) + p * q) (ap (λ (n : ℕ). 256 ^ n) (length-take-le (suc k) l (omega arith))) (add-zero x)
    ∙ ap (λ (p : ℕ). le (take (suc k) l) + p) (mul_comm (256 ^ suc k) x))

byte_is : (i v : ℕ) → byte_at i v ≡ v / 256 ^ i % 256
byte_is zero v = ap (λ (x : ℕ). x % 256) (sym (div-one v))
byte_is (suc i) v = refl

low_first : (i n v : ℕ) → bytes_low_first i n v ≡ bytes_of n (v / 256 ^ i)
unfolding bytes_of
low_first i zero v = refl
low_first i (suc n) v =
    ap₂ (λ (x : ℕ) (l : List ℕ). x ∷ l) (byte_is i v)
    (low_first (suc i) n v ∙ ap (bytes_of n) (ap (λ (p : ℕ). v / p) (pow-suc 256 i) ∙ sym (div-div-eq-div-mul v (256 ^ i) 256)))

take_bytes_of : (n m v : ℕ) → take n (bytes_of (n + m) v) ≡ bytes_of n v
unfolding bytes_of
take_bytes_of zero m v = refl
take_bytes_of (suc n) m v = rw suc-add (ap (λ (r : List ℕ). v % 256 ∷ r) (take_bytes_of n m (v / 256)))

-- ---- a number that was written: read at its place, and elsewhere

pub get_put : (n : ℕ) (s : List ℕ) (at v : ℕ) → at + n ≤ length s → v < 256 ^ n → le_at n (sets s at (bytes_of n v)) at ≡ v
get_put n s at v h hv =
    let e : length (bytes_of n v) ≡ n = length_bytes_of n v in
    ap (λ (k : ℕ). le_at k (sets s at (bytes_of n v)) at) (sym e) ∙ ap le (part_sets s (bytes_of n v) at (omega arith)) ∙ le_bytes_of n v hv

pub get_put_below : (n : ℕ) (s : List ℕ) (at v j : ℕ) → j + n ≤ at → le_at n (sets s at (bytes_of n v)) j ≡ le_at n s j
get_put_below n s at v j h = ap le (part_sets_below s (bytes_of n v) at j n h)

pub get_put_above : (n : ℕ) (s : List ℕ) (at v j : ℕ) → at + n ≤ j → le_at n (sets s at (bytes_of n v)) j ≡ le_at n s j
get_put_above n s at v j h = ap le (part_sets_above s (bytes_of n v) at j n (omega (arith, length_bytes_of n v)))

-- a number that stands in a list that is cut there
pub le_at_at : (n : ℕ) (p q : List ℕ) (v i : ℕ) → length p ≡ i → v < 256 ^ n → le_at n (p ++ (bytes_of n v ++ q)) i ≡ v
le_at_at n p q v i e h = ap le (part_at p (bytes_of n v) q i n e (length_bytes_of n v)) ∙ le_bytes_of n v h

-- ---- what the bytes of a slice say is a number that has those bytes

pub bytes_of_le_at : (n : ℕ) (s : List ℕ) (at : ℕ) → at + n ≤ length s → Bytes s → bytes_of n (le_at n s at) ≡ take n (drop at s)
bytes_of_le_at n s at h B =
    ap (λ (k : ℕ). bytes_of k (le_at n s at)) (sym (length_part s at n h)) ∙ bytes_of_le (take n (drop at s)) (each_take n (drop at s) (each_drop at s B))

pub le_at_lt : (n : ℕ) (s : List ℕ) (at : ℕ) → at + n ≤ length s → Bytes s → le_at n s at < 256 ^ n
le_at_lt n s at h B = subst (λ (k : ℕ). le_at n s at < 256 ^ k) (length_part s at n h) (le_lt (take n (drop at s)) (each_take n (drop at s) (each_drop at s B)))

-- ---- what the proofs of `get64`, `put64` and the like cite

pub byte_fits : (l : List ℕ) (k : ℕ) → Bytes l → Fits w64 (get_or l k 0)
byte_fits l k B = omega (arith, (B k).fits)

sum_le_at : (k : ℕ) (s y : List ℕ) (at : ℕ) → at + suc k ≤ length s → y ≡ take (suc k) (drop at s) → sum_through (λ i. byte_worth i (get_or y i 0)) k ≡ le_at (suc k) s at
sum_le_at k s y at h e =
    let l : length y ≡ suc k = ap length e ∙ length_part s at (suc k) h in
    sum_le k y (omega arith) ∙ ap le (take_all (suc k) y (omega arith) ∙ e)

-- bytes that were read as an array, q, and the number that they say
pub get_32 : (s : List ℕ) (at : ℕ) {E : Type 0} {q : Result (List ℕ) E} {y : List ℕ} {r : ℕ} → at + 4 ≤ length s
    → (length (take (at + 4 - at) (drop at s)) ≡ 4 → IsOk q) × MatchResult q (λ y. IsWholeChunk (take (at + 4 - at) (drop at s)) y 4) (λ _. length (take (at + 4 - at) (drop at s)) ≢ 4)
    → q ≡ Ok y → r ≡ from_le_bytes w32 y → r ≡ le_at 4 s at
get_32 s at {y = y} h c o e =
    e ∙ sum_le_at 3 s y at h ((rw o at c.1).same ∙ ap (λ (n : ℕ). take n (drop at s)) (let d : at + 4 - at ≡ 4 = omega arith in d))

pub get_64 : (s : List ℕ) (at : ℕ) {E : Type 0} {q : Result (List ℕ) E} {y : List ℕ} {r : ℕ} → at + 8 ≤ length s
    → (length (take (at + 8 - at) (drop at s)) ≡ 8 → IsOk q) × MatchResult q (λ y. IsWholeChunk (take (at + 8 - at) (drop at s)) y 8) (λ _. length (take (at + 8 - at) (drop at s)) ≢ 8)
    → q ≡ Ok y → r ≡ from_le_bytes w64 y → r ≡ le_at 8 s at
get_64 s at {y = y} h c o e =
    e ∙ sum_le_at 7 s y at h ((rw o at c.1).same ∙ ap (λ (n : ℕ). take n (drop at s)) (let d : at + 8 - at ≡ 8 = omega arith in d))

-- the bytes of a number, and the lowest four of them
pub eight_bytes : (v : ℕ) → to_le_bytes w64 v ≡ bytes_of 8 v
eight_bytes v = low_first 0 8 v ∙ ap (bytes_of 8) (div-one v)

pub four_bytes : (v : ℕ) → take 4 (to_le_bytes w64 v) ≡ bytes_of 4 v
four_bytes v = ap (take 4) (eight_bytes v) ∙ take_bytes_of 4 4 v
