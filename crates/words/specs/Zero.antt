-- A run of zeros as a test, and the loops that look for one. Assumes nothing.
use Rattle.std.specs.Prelude.{◌≡◌, refl, Bool, true, false, List, [], ◌∷◌, ◌++◌, ℕ, zero, suc, ◌+◌, ◌*◌, ◌/◌, eqb, ◌&&◌, fold, take, drop, length, replicate}
use Rattle.std.proofs.Common.{sym, ap, ◌∙◌, zero-mul, arith, take-append-drop, take-add, eqb-true, ne_eqb}
use Rattle.std.specs.Int.Bits.{bit_or, or_zero_l, or_add_and}
use Rattle.std.proofs.lemmas.Nat.{and_le_r}
use Rattle.std.specs.List.{list_all}
use Rattle.std.specs.Simd.{first_chunks}
use Rattle.laws.specs.Bools.{◌and◌, and_left, and_true, and_assoc, no_and}
use Rattle.laws.proofs.BoolLaws.{every_append, and_right, true_and}
use Rattle.words.specs.Words.{allz}

pub allz_append : (a b : List ℕ) → allz (a ++ b) ≡ (allz a and allz b)
unfolding allz
allz_append a b = every_append (λ x. eqb x 0) a b

pub allz_add : (l : List ℕ) (i n : ℕ) → allz (take (i + n) l) ≡ (allz (take i l) and allz (take n (drop i l)))
allz_add l i n = ap allz (take-add i n l) ∙ allz_append (take i l) (take n (drop i l))

pub allz_split : (l : List ℕ) (i : ℕ) → allz l ≡ (allz (take i l) and allz (drop i l))
allz_split l i = ap allz (sym (take-append-drop i l)) ∙ allz_append (take i l) (drop i l)

pub allz_zeros : (n : ℕ) → allz (replicate n 0) ≡ true
unfolding allz ◌and◌
allz_zeros zero = refl
allz_zeros (suc n) = allz_zeros n

pub zeros_allz : (l : List ℕ) → allz l ≡ true → l ≡ replicate (length l) 0
unfolding allz
zeros_allz [] e = refl
zeros_allz (x ∷ l) e = rw (eqb-true x 0 (and_left _ _ e), ← zeros_allz l (and_right _ _ e))

-- the or of two numbers is 0 where both are
or_eqb : (a b : ℕ) → eqb (bit_or a b) 0 ≡ (eqb a 0 and eqb b 0)
or_eqb zero b = ap (λ (x : ℕ). eqb x 0) (or_zero_l b) ∙ sym (true_and (eqb b 0))
or_eqb (suc a) b =
    ne_eqb (bit_or (suc a) b) 0 (λ (e : bit_or (suc a) b ≡ 0). omega (arith, or_add_and (suc a) b, and_le_r (suc a) b))
    ∙ sym (no_and (eqb (suc a) 0) (eqb b 0) (ne_eqb (suc a) 0 (omega arith)))

-- ---- what the proofs of `none_set` and `all_zero` cite

or_allz : (l : List ℕ) (a : ℕ) → eqb (fold bit_or a l) 0 ≡ (eqb a 0 and allz l)
unfolding allz
or_allz [] a = sym (and_true (eqb a 0))
or_allz (x ∷ l) a = or_allz l (bit_or a x) ∙ ap (λ (b : Bool). b and allz l) (or_eqb a x) ∙ and_assoc (eqb a 0) (eqb x 0) (allz l)

pub ored : (l : List ℕ) {a : ℕ} → a ≡ fold bit_or 0 l → eqb a 0 ≡ allz l
ored l e = ap (λ (x : ℕ). eqb x 0) e ∙ or_allz l 0 ∙ true_and (allz l)

both : (a b : Bool) → (a && b) ≡ (a and b)
unfolding ◌and◌
both true b = refl
both false b = refl

chunks_allz : (n k : ℕ) (l : List ℕ) → list_all allz (first_chunks n k l) ≡ allz (take (k * n) l)
unfolding allz
chunks_allz n zero l = ap (λ (m : ℕ). allz (take m l)) (sym (zero-mul n))
chunks_allz n (suc k) l =
    both (allz (take n l)) (list_all allz (first_chunks n k (drop n l)))
    ∙ ap (λ (b : Bool). allz (take n l) and b) (chunks_allz n k (drop n l))
    ∙ sym (ap (λ (m : ℕ). allz (take m l)) (let e : suc k * n ≡ n + k * n = omega arith in e) ∙ allz_add l n (k * n))

-- r is the answer at the whole chunks, and q at the rest
pub chunks_zero : (l : List ℕ) {rest : List ℕ} {r q : Bool} → r ≡ list_all allz (first_chunks 1024 (length l / 1024) l) → r ≡ true
    → rest ≡ drop (length l / 1024 * 1024) l → q ≡ allz rest → q ≡ allz l
chunks_zero l e t d f =
    let n : ℕ = length l / 1024 * 1024 in
    f ∙ ap allz d ∙ sym (allz_split l n ∙ ap (λ (b : Bool). b and allz (drop n l)) (sym (chunks_allz 1024 (length l / 1024) l) ∙ sym e ∙ t) ∙ true_and _)

pub chunks_not : (l : List ℕ) {r : Bool} → r ≡ list_all allz (first_chunks 1024 (length l / 1024) l) → r ≡ false → r ≡ allz l
chunks_not l e t =
    let n : ℕ = length l / 1024 * 1024 in
    t ∙ sym (allz_split l n ∙ no_and _ _ (sym (chunks_allz 1024 (length l / 1024) l) ∙ sym e ∙ t))
