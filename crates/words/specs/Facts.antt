-- Facts of the definitions: a store beside a run of stores, zeros by one byte more, and a number in two parts. Assumes nothing.
use Rattle.std.specs.Prelude.{◌≡◌, refl, List, [], ◌∷◌, ◌++◌, ℕ, zero, suc, ◌+◌, ◌*◌, ◌/◌, ◌%◌, ◌^◌, ◌≤◌, ◌<◌, Bool, eqb, length, get_or, set, take, drop}
use Rattle.std.proofs.Common.{sym, ap, ◌∙◌, pow-suc, mul_comm, add-zero, zero-add, add-suc, suc-add, div-one, arith, length-drop, length-take-le, take-suc, take-add, drop-drop, drop-cons, get_or-set_other}
use Rattle.std.proofs.Math.Nat.{pow-zero, div-div-eq-div-mul}
use Rattle.std.proofs.lemmas.List.Edits.{sets}
use Rattle.std.proofs.lemmas.List.{set_comm}
use Rattle.laws.specs.Bools.{◌and◌, and_true}
use Rattle.words.specs.Words.{allz, le, bytes_of, le_at}
use Rattle.words.specs.Sets.{sets_append}
use Rattle.words.specs.Numbers.{le_append, length_bytes_of}
use Rattle.words.specs.Zero.{allz_append}

-- ---- a store beside a run of stores

module _ {ℓ} {A : Type ℓ} where
  -- after it
  pub sets_snoc : (vs l : List A) (i : ℕ) (a : A) → set (sets l i vs) (i + length vs) a ≡ sets l i (vs ++ a ∷ [])
  sets_snoc [] l i a = rw add-zero
  sets_snoc (b ∷ vs) l i a = rw (add-suc, ← suc-add i (length vs)) (sets_snoc vs (set l i b) (suc i) a)

  -- element k of vs after its first k
  pub sets_up : (l vs : List A) (i k : ℕ) (z : A) → k < length vs
      → set (sets l i (take k vs)) (i + k) (get_or vs k z) ≡ sets l i (take (suc k) vs)
  sets_up l vs i k z h =
      ap (λ (n : ℕ). set (sets l i (take k vs)) (i + n) (get_or vs k z)) (sym (length-take-le k vs (omega arith)))
      ∙ sets_snoc (take k vs) l i (get_or vs k z) ∙ ap (sets l i) (sym (take-suc vs k z h))

  -- below it, where it may as well come first
  pub set_sets : (vs l : List A) (i p : ℕ) (a : A) → p < i → set (sets l i vs) p a ≡ sets (set l p a) i vs
  set_sets [] l i p a h = refl
  set_sets (b ∷ vs) l i p a h =
      set_sets vs (set l i b) (suc i) p a (omega arith) ∙ ap (λ (m : List A). sets m (suc i) vs) (set_comm l i p b a (omega arith))

  -- just below it
  pub sets_down : (vs l : List A) (p : ℕ) (a : A) → set (sets l (suc p) vs) p a ≡ sets l p (a ∷ vs)
  sets_down vs l p a = set_sets vs l (suc p) p a (omega arith)

  -- what is read below it and above
  pub get_d_sets_below : (vs l : List A) (i k : ℕ) (z : A) → k < i → get_or (sets l i vs) k z ≡ get_or l k z
  get_d_sets_below [] l i k z h = refl
  get_d_sets_below (b ∷ vs) l i k z h = get_d_sets_below vs (set l i b) (suc i) k z (omega arith) ∙ get_or-set_other l i k b z (omega arith)

  pub get_d_sets_above : (vs l : List A) (i k : ℕ) (z : A) → i + length vs ≤ k → get_or (sets l i vs) k z ≡ get_or l k z
  get_d_sets_above [] l i k z h = refl
  get_d_sets_above (b ∷ vs) l i k z h = get_d_sets_above vs (set l i b) (suc i) k z (omega arith) ∙ get_or-set_other l i k b z (omega arith)

-- ---- a run of zeros, by one byte more

pub allz_suc : (l : List ℕ) (i : ℕ) → i < length l → allz (take (suc i) l) ≡ (allz (take i l) and eqb (get_or l i 0) 0)
unfolding allz
allz_suc l i h =
    ap allz (take-suc l i 0 h) ∙ allz_append (take i l) (get_or l i 0 ∷ [])
    ∙ ap (λ (t : Bool). allz (take i l) and t) (and_true (eqb (get_or l i 0) 0))

-- ---- a number of one byte, and a number of two parts side by side: what is read, and what is written

pub get_8 : (s : List ℕ) (at : ℕ) → at < length s → get_or s at 0 ≡ le_at 1 s at
unfolding le
get_8 s at h = sym (ap (λ (r : List ℕ). le (take 1 r)) (drop-cons s at 0 h) ∙ add-zero (get_or s at 0))

pub get_join : (n m : ℕ) (s : List ℕ) (at : ℕ) → at + n ≤ length s → le_at n s at + 256 ^ n * le_at m s (at + n) ≡ le_at (n + m) s at
get_join n m s at h =
    let e : length (take n (drop at s)) ≡ n = length-take-le n (drop at s) (rw length-drop (omega arith)) in
    sym (ap le (take-add n m (drop at s) ∙ ap (λ (r : List ℕ). take n (drop at s) ++ take m r) (drop-drop n at s))
    ∙ le_append (take n (drop at s)) (take m (drop (at + n) s))
    ∙ ap (λ (k : ℕ). le_at n s at + 256 ^ k * le_at m s (at + n)) e)

pub get_16 : (s : List ℕ) (at a b : ℕ) → at + 2 ≤ length s → a ≡ le_at 1 s at → b ≡ le_at 1 s (at + 1) → a + 256 * b ≡ le_at 2 s at
get_16 s at a b h p q = omega (arith, get_join 1 1 s at (omega arith))

pub bytes_of_append : (n m v : ℕ) → bytes_of n v ++ bytes_of m (v / 256 ^ n) ≡ bytes_of (n + m) v
unfolding bytes_of
bytes_of_append zero m v = rw (pow-zero, div-one, zero-add)
bytes_of_append (suc n) m v =
    rw (suc-add, pow-suc, mul_comm (256 ^ n) 256, ← div-div-eq-div-mul) (ap (λ (r : List ℕ). v % 256 ∷ r) (bytes_of_append n m (v / 256)))

pub put_join : (n m : ℕ) (s s₁ : List ℕ) (at v : ℕ) → s₁ ≡ sets s at (bytes_of n v)
    → sets s₁ (at + n) (bytes_of m (v / 256 ^ n)) ≡ sets s at (bytes_of (n + m) v)
put_join n m s s₁ at v e =
    ap (λ (l : List ℕ). sets l (at + n) (bytes_of m (v / 256 ^ n))) e
    ∙ sets_append (bytes_of n v) s (bytes_of m (v / 256 ^ n)) at (at + n) (omega (arith, length_bytes_of n v))
    ∙ ap (sets s at) (bytes_of_append n m v)
