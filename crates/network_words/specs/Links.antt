-- The blocked links as one word: bit k is link k, the first link the lowest bit. Assumes nothing.
use Rattle.std.specs.Prelude.{◌≡◌, refl, Bool, true, false, List, [], ◌∷◌, ◌++◌, ℕ, zero, suc, ◌+◌, ◌*◌, ◌/◌, ◌%◌, ◌^◌, ◌<◌, eqb, length, get_or, drop}
use Rattle.std.proofs.Common.{ap, ap₂, ◌∙◌, subst, pow-suc, arith, lt-ltb, eqb-true, eq-eqb, ne_eqb}
use Rattle.std.proofs.Math.Nat.{pow-zero}
use Rattle.laws.specs.Bools.{pick}
use Rattle.layout.specs.Code.{Code, fit_one, word_back}

-- The number with these bits, the first the lowest.
unfoldable pub from_bits : List Bool → ℕ
from_bits [] = 0
from_bits (b ∷ bs) = pick b 1 0 + 2 * from_bits bs

-- The n lowest bits of a number.
unfoldable pub bits : ℕ → ℕ → List Bool
bits zero v = []
bits (suc n) v = eqb (v % 2) 1 ∷ bits n (v / 2)

-- ---- the round trips

pub length_bits : (n v : ℕ) → length (bits n v) ≡ n
unfolding bits
length_bits zero v = refl
length_bits (suc n) v = ap suc (length_bits n (v / 2))

pub bit_small : (b : Bool) → pick b 1 0 < 2
bit_small true = omega arith
bit_small false = omega arith

pub from_bits_lt : (bs : List Bool) → from_bits bs < 2 ^ length bs
unfolding from_bits
from_bits_lt [] = omega (arith, pow-zero 2)
from_bits_lt (b ∷ bs) = omega (arith, bit_small b, from_bits_lt bs, pow-suc 2 (length bs))

bit_back : (m : ℕ) → m < 2 → pick (eqb m 1) 1 0 ≡ m
bit_back zero h = refl
bit_back (suc zero) h = refl
bit_back (suc (suc m)) h = absurd (omega arith)

pub from_bits_back : (n v : ℕ) → v < 2 ^ n → from_bits (bits n v) ≡ v
unfolding from_bits bits
from_bits_back zero v h = omega (arith, pow-zero 2)
from_bits_back (suc n) v h = omega (arith, bit_back (v % 2) (omega arith), from_bits_back n (v / 2) (omega (arith, pow-suc 2 n)))

bit_first : (b : Bool) (m : ℕ) → eqb ((pick b 1 0 + 2 * m) % 2) 1 ≡ b
bit_first true m = eq-eqb ((1 + 2 * m) % 2) 1 (omega arith)
bit_first false m = ne_eqb ((0 + 2 * m) % 2) 1 (omega arith)

pub bits_from : (bs : List Bool) → bits (length bs) (from_bits bs) ≡ bs
unfolding from_bits bits
bits_from [] = refl
bits_from (b ∷ bs) =
    let s : pick b 1 0 < 2 = bit_small b in
    ap₂ (λ (x : Bool) (y : ℕ). x ∷ bits (length bs) y) (bit_first b (from_bits bs)) (omega arith) ∙ ap (λ (l : List Bool). b ∷ l) (bits_from bs)

-- ---- the code

pub from_bits_fits : (bs : List Bool) → eqb (length bs) 64 ≡ true → from_bits bs < 2 ^ 64
from_bits_fits bs h = subst (λ (n : ℕ). from_bits bs < 2 ^ n) (eqb-true (length bs) 64 h) (from_bits_lt bs)

pub bits_back : (bs : List Bool) → eqb (length bs) 64 ≡ true → bits 64 (from_bits bs) ≡ bs
bits_back bs h = subst (λ (n : ℕ). bits n (from_bits bs) ≡ bs) (eqb-true (length bs) 64 h) (bits_from bs)

-- How 64 links lie in one word.
abbrev pub links : Code (List Bool)
links =
    record {
      size = 1;
      enc = λ bs. from_bits bs ∷ [];
      good = λ bs. eqb (length bs) 64;
      ok = λ ws. true;
      parse = λ ws. bits 64 (get_or ws 0 0);
      size_enc = λ bs h. refl;
      fit_enc = λ bs h. fit_one (from_bits bs) (lt-ltb _ _ (from_bits_fits bs h));
      ok_enc = λ bs r h. refl;
      parse_enc = λ bs r h. bits_back bs h;
      enc_parse = λ ws f h k. ap (λ (m : ℕ). (m ∷ []) ++ drop 1 ws) (from_bits_back 64 (get_or ws 0 0) (f 0).fits) ∙ word_back ws h;
      good_parse = λ ws f h k. eq-eqb _ 64 (length_bits 64 (get_or ws 0 0));
    }
