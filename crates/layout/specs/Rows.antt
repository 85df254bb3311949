-- Tables: what is done to the bytes is what is done to the list of rows. `i * w` is a product of two unknowns here, and no law computes
-- with it: it is the length of the rows before row i (`length_flat`), and the laws of `sets` ask only lengths. Assumes nothing.
use Rattle.std.specs.Prelude.{◌≡◌, refl, Bool, true, get_or, set}
use Rattle.std.proofs.Math.Path.{sym, ap}
use Rattle.std.proofs.Common.{ap₂, ◌∙◌, zero-mul, add-mul, mul-le-mul_right, arith, length-drop, take-append-drop, length-take-le}
use mathlib.Core.List.{List, [], ◌∷◌, ◌++◌, append_assoc, append-nil}
use Prim.Native.Nat.{ℕ, zero, suc, ◌+◌, ◌-◌, ◌*◌, ◌≤◌, ◌<◌}
use Rattle.std.proofs.Math.Nat.{suc-mul}
use Rattle.std.proofs.Math.ListN.{length, take, drop, replicate, length-append}
use Rattle.std.proofs.lemmas.List.{length-replicate, replicate-append-replicate, set_split}
use Rattle.std.proofs.Math.Seq.{sets, split_at, length-sets}
use Rattle.laws.specs.Bools.{and_left, every}
use Rattle.laws.proofs.BoolLaws.{and_right, and_both, every_append, every_get}
use Rattle.words.specs.Words.{bytes}
use Rattle.words.specs.Sets.{sets_at, part_at, gap_put, gap_close}
use Rattle.words.specs.Lift.{bytes_zeros, part_whole, sets_whole}
use Rattle.layout.specs.Code.{Code, zeros, flat, length_flat}
use Rattle.layout.specs.Tables.{insert_at, remove_at, fill_from, opened, removed}

-- ---- the facts on products that bounds of a table want: list them after `arith`

pub row_start : (i n w : ℕ) → i ≤ n → i * w ≤ n * w
row_start i n w h = mul-le-mul_right w h

pub row_end : (i n w : ℕ) → i < n → i * w + w ≤ n * w
row_end i n w h = omega (arith, mul-le-mul_right {m = suc i} {n = n} w h, suc-mul i w)

-- ---- a test of every element, in parts

module _ {A : Type 0} (f : A → Bool) (i : ℕ) (x : List A) (h : every f x ≡ true) where
  parts : every f (take i x ++ drop i x) ≡ true
  parts = ap (every f) (take-append-drop i x) ∙ h

  pub every_take : every f (take i x) ≡ true
  every_take = and_left _ _ (sym (every_append f (take i x) (drop i x)) ∙ parts)

  pub every_drop : every f (drop i x) ≡ true
  every_drop = and_right _ _ (sym (every_append f (take i x) (drop i x)) ∙ parts)

pub every_replicate : {A : Type 0} (f : A → Bool) (n : ℕ) (a : A) → f a ≡ true → every f (replicate n a) ≡ true
every_replicate f zero a k = refl
every_replicate f (suc n) a k = and_both _ _ k (every_replicate f n a k)

module _ {A : Type 0} (f : A → Bool) (i : ℕ) (x : List A) (h : every f x ≡ true) where
  pub every_insert_at : (a : A) → f a ≡ true → every f (insert_at i a x) ≡ true
  unfolding insert_at
  every_insert_at a k = every_append f (take i x) (a ∷ drop i x) ∙ and_both _ _ (every_take f i x h) (and_both _ _ k (every_drop f i x h))

  pub every_remove_at : every f (remove_at i x) ≡ true
  unfolding remove_at
  every_remove_at = every_append f (take i x) (drop (suc i) x) ∙ and_both _ _ (every_take f i x h) (every_drop f (suc i) x h)

  pub every_fill_from : (a : A) → f a ≡ true → every f (fill_from i a x) ≡ true
  unfolding fill_from
  every_fill_from a k = every_append f (take i x) (replicate (length x - i) a) ∙ and_both _ _ (every_take f i x h) (every_replicate f (length x - i) a k)

pub length_insert_at : {A : Type 0} (i : ℕ) (a : A) (x : List A) → i ≤ length x → length (insert_at i a x) ≡ length x + 1
unfolding insert_at
length_insert_at i a x h = omega (arith, length-append (take i x) (a ∷ drop i x), length-take-le i x h, length-drop i x)

pub length_remove_at : {A : Type 0} (i : ℕ) (x : List A) → i < length x → length (remove_at i x) ≡ length x - 1
unfolding remove_at
length_remove_at i x h = omega (arith, length-append (take i x) (drop (suc i) x), length-take-le i x (omega arith), length-drop (suc i) x)

pub length_fill_from : {A : Type 0} (i : ℕ) (a : A) (x : List A) → i ≤ length x → length (fill_from i a x) ≡ length x
unfolding fill_from
length_fill_from i a x h = omega (arith, length-append (take i x) (replicate (length x - i) a), length-take-le i x h, length-replicate (length x - i) a)

-- ---- the words of rows: those of x, and then z

pub flat_append : {A : Type 0} (f : A → List ℕ) (xs ys : List A) → flat f (xs ++ ys) ≡ flat f xs ++ flat f ys
flat_append f [] ys = refl
flat_append f (x ∷ xs) ys = rw (flat_append f xs ys, append_assoc)

-- rows whose content is zeros
pub flat_zeros : {T : Type 0} (c : Code T) (k : ℕ) (a : T) → c.enc a ≡ zeros c.size → flat c.enc (replicate k a) ≡ zeros (k * c.size)
flat_zeros c zero a e = ap zeros (sym (zero-mul c.size))
flat_zeros c (suc k) a e =
    let d : c.size + k * c.size ≡ suc k * c.size = omega (arith, suc-mul k c.size) in
    ap₂ (λ (u v : List ℕ). u ++ v) e (flat_zeros c k a e) ∙ replicate-append-replicate c.size (k * c.size) zero ∙ ap zeros d

module _ {T : Type 0} (c : Code T) (x : List T) (g : every c.good x ≡ true) where
  abbrev w : ℕ
  w = c.size

  before : (i : ℕ) → i ≤ length x → length (flat c.enc (take i x)) ≡ i * w
  before i h = length_flat c (take i x) (every_take c.good i x g) ∙ ap (λ (k : ℕ). k * w) (length-take-le i x h)

  after : (i : ℕ) → i ≤ length x → length (flat c.enc (drop i x)) ≡ length x * w - i * w
  after i h =
      let q : length (flat c.enc (drop i x)) ≡ length (drop i x) * w = length_flat c (drop i x) (every_drop c.good i x g) in
      omega (arith, ap (λ (k : ℕ). k * w) (length-drop i x), add-mul (length x - i) i w, ap (λ (k : ℕ). k * w) (let e : length x - i + i ≡ length x = omega arith in e))

  cut_at : (z : List ℕ) (i : ℕ) → flat c.enc x ++ z ≡ flat c.enc (take i x) ++ (flat c.enc (drop i x) ++ z)
  cut_at z i =
      ap (λ (l : List T). flat c.enc l ++ z) (sym (take-append-drop i x)) ∙ ap (λ (l : List ℕ). l ++ z) (flat_append c.enc (take i x) (drop i x))
      ∙ append_assoc (flat c.enc (take i x)) (flat c.enc (drop i x)) z

  cut_row : (z : List ℕ) (i : ℕ) (d : T) → i < length x → flat c.enc x ++ z ≡ flat c.enc (take i x) ++ (c.enc (get_or x i d) ++ (flat c.enc (drop (suc i) x) ++ z))
  cut_row z i d h =
      ap (λ (l : List T). flat c.enc l ++ z) (split_at x i d h) ∙ ap (λ (l : List ℕ). l ++ z) (flat_append c.enc (take i x) (get_or x i d ∷ drop (suc i) x))
      ∙ append_assoc (flat c.enc (take i x)) (c.enc (get_or x i d) ++ flat c.enc (drop (suc i) x)) z
      ∙ ap (λ (l : List ℕ). flat c.enc (take i x) ++ l) (append_assoc (c.enc (get_or x i d)) (flat c.enc (drop (suc i) x)) z)

  -- row i, read
  pub row_at : (z : List ℕ) (i : ℕ) (d : T) → i < length x → take w (drop (i * w) (flat c.enc x ++ z)) ≡ c.enc (get_or x i d)
  row_at z i d h =
      ap (λ (l : List ℕ). take w (drop (i * w) l)) (cut_row z i d h)
      ∙ part_at (flat c.enc (take i x)) (c.enc (get_or x i d)) _ (i * w) w (before i (omega arith)) (c.size_enc (get_or x i d) (every_get c.good x i d h g))

  -- row i, replaced
  pub put_row : (z : List ℕ) (i : ℕ) (a : T) → c.good a ≡ true → i < length x → sets (flat c.enc x ++ z) (i * w) (c.enc a) ≡ flat c.enc (set x i a) ++ z
  put_row z i a ga h =
      let p : List ℕ = flat c.enc (take i x) in
      let q : List ℕ = flat c.enc (drop (suc i) x) in
      ap (λ (l : List ℕ). sets l (i * w) (c.enc a)) (cut_row z i a h)
      ∙ sets_at p (c.enc (get_or x i a)) (q ++ z) (c.enc a) (i * w) (before i (omega arith)) (c.size_enc a ga ∙ sym (c.size_enc (get_or x i a) (every_get c.good x i a h g)))
      ∙ sym (ap (λ (l : List T). flat c.enc l ++ z) (set_split x i a h) ∙ ap (λ (l : List ℕ). l ++ z) (flat_append c.enc (take i x) (a ∷ drop (suc i) x))
      ∙ append_assoc p (c.enc a ++ q) z ∙ ap (λ (l : List ℕ). p ++ l) (append_assoc (c.enc a) q z))

  -- a row put in before row i: the rows from i on are moved up by a row, over z
  pub insert_row : (z r : List ℕ) (i : ℕ) (a : T) → c.good a ≡ true → i ≤ length x → length z ≡ w
      → sets (sets (flat c.enc x ++ (z ++ r)) (i * w + w) (take (length x * w - i * w) (drop (i * w) (flat c.enc x ++ (z ++ r))))) (i * w) (c.enc a)
      ≡ flat c.enc (insert_at i a x) ++ r
  unfolding insert_at
  insert_row z r i a ga h lz =
      let p : List ℕ = flat c.enc (take i x) in
      let q : List ℕ = flat c.enc (drop i x) in
      let lp : length p ≡ i * w = before i h in
      let la : length (c.enc a) ≡ w = c.size_enc a ga in
      let e : flat c.enc x ++ (z ++ r) ≡ p ++ (q ++ (z ++ r)) = cut_at (z ++ r) i in
      let m : take (length x * w - i * w) (drop (i * w) (p ++ (q ++ (z ++ r)))) ≡ q = part_at p q (z ++ r) (i * w) (length x * w - i * w) lp (after i h) in
      ap (λ (l : List ℕ). sets (sets l (i * w + w) (take (length x * w - i * w) (drop (i * w) l))) (i * w) (c.enc a)) e
      ∙ ap (λ (l : List ℕ). sets (sets (p ++ (q ++ (z ++ r))) (i * w + w) l) (i * w) (c.enc a)) m
      ∙ gap_put p q z (c.enc a) r (i * w) (i * w + w) lp (omega arith) (lz ∙ sym la)
      ∙ sym (ap (λ (l : List ℕ). l ++ r) (flat_append c.enc (take i x) (a ∷ drop i x)) ∙ append_assoc p (c.enc a ++ q) r ∙ ap (λ (l : List ℕ). p ++ l) (append_assoc (c.enc a) q r))

  -- row i taken out: the rows after i are moved down by a row, and the last becomes zeros
  pub remove_row : (z : List ℕ) (i : ℕ) (d : T) → i < length x
      → sets (sets (flat c.enc x ++ z) (i * w) (take (length x * w - (i * w + w)) (drop (i * w + w) (flat c.enc x ++ z)))) (length x * w - w) (zeros w)
      ≡ flat c.enc (remove_at i x) ++ (zeros w ++ z)
  unfolding remove_at
  remove_row z i d h =
      let p : List ℕ = flat c.enc (take i x) in
      let a : List ℕ = c.enc (get_or x i d) in
      let q : List ℕ = flat c.enc (drop (suc i) x) in
      let lp : length p ≡ i * w = before i (omega arith) in
      let la : length a ≡ w = c.size_enc (get_or x i d) (every_get c.good x i d h g) in
      let lq : length q ≡ length x * w - suc i * w = after (suc i) h in
      let s : suc i * w ≡ i * w + w = suc-mul i w in
      let t : i * w + w ≤ length x * w = row_end i (length x) w h in
      let e : flat c.enc x ++ z ≡ p ++ (a ++ (q ++ z)) = cut_row z i d h in
      let m : take (length x * w - (i * w + w)) (drop (i * w + w) (p ++ (a ++ (q ++ z)))) ≡ q =
      ap (λ (l : List ℕ). take (length x * w - (i * w + w)) (drop (i * w + w) l)) (sym (append_assoc p a (q ++ z)))
      ∙ part_at (p ++ a) q z (i * w + w) (length x * w - (i * w + w)) (omega (arith, length-append p a)) (omega arith) in
      ap (λ (l : List ℕ). sets (sets l (i * w) (take (length x * w - (i * w + w)) (drop (i * w + w) l))) (length x * w - w) (zeros w)) e
      ∙ ap (λ (l : List ℕ). sets (sets (p ++ (a ++ (q ++ z))) (i * w) l) (length x * w - w) (zeros w)) m
      ∙ gap_close p a q (zeros w) z (i * w) (length x * w - w) lp (omega arith) (length-replicate w zero ∙ sym la)
      ∙ sym (ap (λ (l : List ℕ). l ++ (zeros w ++ z)) (flat_append c.enc (take i x) (drop (suc i) x)) ∙ append_assoc p q (zeros w ++ z))

  -- the rows from i on made zero, where zeros are the content of a
  pub fill_rows : (z : List ℕ) (i : ℕ) (a : T) → i ≤ length x → c.enc a ≡ zeros w → sets (flat c.enc x ++ z) (i * w) (zeros (length x * w - i * w)) ≡ flat c.enc (fill_from i a x) ++ z
  unfolding fill_from
  fill_rows z i a h e =
      let p : List ℕ = flat c.enc (take i x) in
      let y : List T = replicate (length x - i) a in
      let lq : length (flat c.enc (drop i x)) ≡ length x * w - i * w = after i h in
      let r : (length x - i) * w ≡ length x * w - i * w = ap (λ (k : ℕ). k * w) (sym (length-drop i x)) ∙ sym (length_flat c (drop i x) (every_drop c.good i x g)) ∙ lq in
      ap (λ (l : List ℕ). sets l (i * w) (zeros (length x * w - i * w))) (cut_at z i)
      ∙ sets_at p (flat c.enc (drop i x)) z (zeros (length x * w - i * w)) (i * w) (before i h) (length-replicate (length x * w - i * w) zero ∙ sym lq)
      ∙ ap (λ (l : List ℕ). p ++ (l ++ z)) (sym (flat_zeros c (length x - i) a e ∙ ap zeros r))
      ∙ sym (ap (λ (l : List ℕ). l ++ z) (flat_append c.enc (take i x) y) ∙ append_assoc p (flat c.enc y) z)

  -- a row after the last
  pub append_row : (z r : List ℕ) (a : T) → c.good a ≡ true → length z ≡ w → sets (flat c.enc x ++ (z ++ r)) (length x * w) (c.enc a) ≡ flat c.enc (x ++ a ∷ []) ++ r
  append_row z r a ga lz =
      sets_at (flat c.enc x) z r (c.enc a) (length x * w) (length_flat c x g) (c.size_enc a ga ∙ sym lz)
      ∙ sym (ap (λ (l : List ℕ). l ++ r) (flat_append c.enc x (a ∷ []) ∙ ap (λ (l : List ℕ). flat c.enc x ++ l) (append-nil (c.enc a)))
      ∙ append_assoc (flat c.enc x) (c.enc a) r)

-- ---- the same of bytes

-- zeros that begin with a row of zeros
pub zeros_row : (N n w : ℕ) → n * w + w ≤ N → zeros (N - n * w) ≡ zeros w ++ zeros (N - suc n * w)
zeros_row N n w h =
    ap zeros (let e : N - n * w ≡ w + (N - suc n * w) = omega (arith, suc-mul n w) in e) ∙ sym (replicate-append-replicate w (N - suc n * w) zero)

pub opened_bytes_lem : (w n i : ℕ) (ws : List ℕ) → i ≤ n → n * w + w ≤ length ws
    → opened w n i (bytes ws) ≡ bytes (sets ws (i * w + w) (take (n * w - i * w) (drop (i * w) ws)))
unfolding opened
opened_bytes_lem w n i ws h k =
    let s : i * w ≤ n * w = row_start i n w h in
    let e : 8 * (n * w) - 8 * (i * w) ≡ 8 * (n * w - i * w) = omega arith in
    let f : 8 * (i * w) + 8 * w ≡ 8 * (i * w + w) = omega arith in
    let v : List ℕ = take (n * w - i * w) (drop (i * w) ws) in
    let lv : length v ≡ n * w - i * w = length-take-le (n * w - i * w) (drop (i * w) ws) (omega (arith, length-drop (i * w) ws)) in
    ap₂ (λ (m o : ℕ). sets (bytes ws) m (take o (drop (8 * (i * w)) (bytes ws)))) f e
    ∙ ap (sets (bytes ws) (8 * (i * w + w))) (part_whole ws (i * w) (n * w - i * w) (omega arith)) ∙ sets_whole ws v (i * w + w) (omega arith)

pub removed_bytes : (w n i : ℕ) (ws : List ℕ) → i < n → n * w ≤ length ws
    → removed w n i (bytes ws) ≡ bytes (sets (sets ws (i * w) (take (n * w - (i * w + w)) (drop (i * w + w) ws))) (n * w - w) (zeros w))
unfolding removed
removed_bytes w n i ws h k =
    let s : i * w + w ≤ n * w = row_end i n w h in
    let e : 8 * (n * w) - (8 * (i * w) + 8 * w) ≡ 8 * (n * w - (i * w + w)) = omega arith in
    let f : 8 * (i * w) + 8 * w ≡ 8 * (i * w + w) = omega arith in
    let o : 8 * (n * w) - 8 * w ≡ 8 * (n * w - w) = omega arith in
    let v : List ℕ = take (n * w - (i * w + w)) (drop (i * w + w) ws) in
    let lv : length v ≡ n * w - (i * w + w) = length-take-le (n * w - (i * w + w)) (drop (i * w + w) ws) (omega (arith, length-drop (i * w + w) ws)) in
    ap₂ (λ (m j : ℕ). sets (sets (bytes ws) (8 * (i * w)) (take m (drop j (bytes ws)))) (8 * (n * w) - 8 * w) (zeros (8 * w))) e f
    ∙ ap (λ (l : List ℕ). sets (sets (bytes ws) (8 * (i * w)) l) (8 * (n * w) - 8 * w) (zeros (8 * w))) (part_whole ws (i * w + w) (n * w - (i * w + w)) (omega arith))
    ∙ ap (λ (l : List ℕ). sets l (8 * (n * w) - 8 * w) (zeros (8 * w))) (sets_whole ws v (i * w) (omega arith))
    ∙ ap₂ (λ (m : ℕ) (l : List ℕ). sets (bytes (sets ws (i * w) v)) m l) o (sym (bytes_zeros w))
    ∙ sets_whole (sets ws (i * w) v) (zeros w) (n * w - w) (omega (arith, length-sets ws (i * w) v, length-replicate w zero))
