-- The code of lists of up to k numbers: how many, then the numbers, padded with zeros to k words. Assumes nothing.
use Rattle.std.specs.Prelude.{◌≡◌, refl, Bool, true, List, [], ◌∷◌, ◌++◌, ℕ, zero, suc, ◌+◌, ◌-◌, ◌^◌, ◌≤◌, ◌<◌, leb, ltb, length, take, drop, get_or}
use Rattle.std.proofs.Common.{sym, ap, ap₂, ◌∙◌, append_assoc, arith, length-append, length-drop, take-append-drop, take_at, drop_at, drop-drop, take-take, length-take-le, Fits, leb-true, le-leb, ltb-true, lt-ltb}
use Rattle.std.proofs.lemmas.List.{length-replicate}
use Rattle.std.specs.Int.{w64}
use Rattle.laws.specs.Bools.{◌and◌, and_left, every}
use Rattle.laws.proofs.BoolLaws.{and_right, and_both}
use Rattle.words.specs.Words.{Fit, allz}
use Rattle.words.specs.Numbers.{each_append, each_take, each_drop, each_zeros}
use Rattle.words.specs.Zero.{allz_zeros, zeros_allz}
use Rattle.layout.specs.Code.{Code, zeros, word_back}

-- Whether a number has 64 bits.
abbrev pub is64 : ℕ → Bool
is64 n = ltb n (2 ^ 64)

pub is64_fits : (n : ℕ) → Fits w64 n → is64 n ≡ true
is64_fits n f = lt-ltb n (2 ^ 64) f.fits

pub each_fit : (d : List ℕ) → every is64 d ≡ true → Fit d
each_fit [] h k = omega arith
each_fit (n ∷ d) h zero = record { fits = ltb-true n (2 ^ 64) (and_left _ _ h) }
each_fit (n ∷ d) h (suc k) = each_fit d (and_right _ _ h) k

pub fit_each : (d : List ℕ) → Fit d → every is64 d ≡ true
fit_each [] h = refl
fit_each (n ∷ d) h = and_both _ _ (lt-ltb n (2 ^ 64) (h 0).fits) (fit_each d (λ k. h (suc k)))

module _ (k : ℕ) (small : k < 2 ^ 64) where
  -- The words of a list: how many, the numbers, zeros.
  abbrev pub enc_u : List ℕ → List ℕ
  enc_u d = length d ∷ (d ++ zeros (k - length d))

  -- The lists that have a content: up to k numbers of 64 bits.
  abbrev pub good_u : List ℕ → Bool
  good_u d = leb (length d) k and every is64 d

  -- Whether words begin with a list: a count up to k, and zeros behind the numbers.
  abbrev pub ok_u : List ℕ → Bool
  ok_u ws = leb (get_or ws 0 0) k and allz (drop (get_or ws 0 0) (take k (drop 1 ws)))

  -- The list that words begin with.
  abbrev pub parse_u : List ℕ → List ℕ
  parse_u ws = take (get_or ws 0 0) (drop 1 ws)

  pub short : (d : List ℕ) → good_u d ≡ true → length d ≤ k
  short d h = leb-true _ k (and_left _ _ h)

  long : (d : List ℕ) → good_u d ≡ true → length (d ++ zeros (k - length d)) ≡ k
  long d h = omega (arith, length-append d (zeros (k - length d)), length-replicate (k - length d) zero, short d h)

  pub size_enc_u : (d : List ℕ) → good_u d ≡ true → length (enc_u d) ≡ 1 + k
  size_enc_u d h = omega (arith, long d h)

  pub fit_enc_u : (d : List ℕ) → good_u d ≡ true → Fit (enc_u d)
  fit_enc_u d h zero = record { fits = omega (arith, short d h) }
  fit_enc_u d h (suc j) = each_append d (zeros (k - length d)) (each_fit d (and_right _ _ h)) (each_zeros (k - length d)) j

  pub ok_enc_u : (d r : List ℕ) → good_u d ≡ true → ok_u (enc_u d ++ r) ≡ true
  ok_enc_u d r h =
      and_both _ _ (and_left _ _ h)
      (ap (λ (l : List ℕ). allz (drop (length d) l)) (take_at (d ++ zeros (k - length d)) r k (long d h)) ∙ ap allz (drop_at d (zeros (k - length d)) (length d) refl) ∙ allz_zeros (k - length d))

  pub parse_enc_u : (d r : List ℕ) → good_u d ≡ true → parse_u (enc_u d ++ r) ≡ d
  parse_enc_u d r h = ap (take (length d)) (append_assoc d (zeros (k - length d)) r) ∙ take_at d (zeros (k - length d) ++ r) (length d) refl

  module _ (ws : List ℕ) (f : Fit ws) (h : 1 + k ≤ length ws) (t : ok_u ws ≡ true) where
    abbrev n : ℕ
    n = get_or ws 0 0

    abbrev v : List ℕ
    v = drop 1 ws

    most : n ≤ k
    most = leb-true n k (and_left _ _ t)

    count : length (take n v) ≡ n
    count = length-take-le n v (omega (arith, most, length-drop 1 ws))

    rest : zeros (k - n) ≡ drop n (take k v)
    rest =
        sym (zeros_allz (drop n (take k v)) (and_right _ _ t)
        ∙ ap zeros (length-drop n (take k v) ∙ ap (λ (m : ℕ). m - n) (length-take-le k v (omega (arith, length-drop 1 ws)))))

    pub enc_parse_u : enc_u (parse_u ws) ++ drop (1 + k) ws ≡ ws
    enc_parse_u =
        ap (λ (m : ℕ). m ∷ ((take n v ++ zeros (k - m)) ++ drop (1 + k) ws)) count
        ∙ ap (λ (l : List ℕ). n ∷ (l ++ drop (1 + k) ws)) (ap₂ (λ (p q : List ℕ). p ++ q) (sym (take-take n k v most)) rest ∙ take-append-drop n (take k v))
        ∙ ap (λ (l : List ℕ). n ∷ (take k v ++ l)) (sym (drop_one k))
        ∙ ap (λ (l : List ℕ). n ∷ l) (take-append-drop k v) ∙ word_back ws (omega arith)
      where
        drop_one : (j : ℕ) → drop j (drop 1 ws) ≡ drop (1 + j) ws
        drop_one j = drop-drop j 1 ws

    pub good_parse_u : good_u (parse_u ws) ≡ true
    good_parse_u = and_both _ _ (le-leb _ k (omega (arith, count, most))) (fit_each (take n v) (each_take n v (each_drop 1 ws f)))

  -- A list of up to k numbers, in 1 + k words.
  abbrev pub up_to : Code (List ℕ)
  up_to =
      record {
        size = 1 + k;
        enc = enc_u;
        good = good_u;
        ok = ok_u;
        parse = parse_u;
        size_enc = size_enc_u;
        fit_enc = fit_enc_u;
        ok_enc = ok_enc_u;
        parse_enc = parse_enc_u;
        enc_parse = enc_parse_u;
        good_parse = good_parse_u;
      }

-- the numbers of a padded list, also past its end
pub get_d_padded : (d : List ℕ) (m j : ℕ) → get_or (d ++ zeros m) j 0 ≡ get_or d j 0
get_d_padded [] zero j = refl
get_d_padded [] (suc m) zero = refl
get_d_padded [] (suc m) (suc j) = get_d_padded [] m j
get_d_padded (n ∷ d) m zero = refl
get_d_padded (n ∷ d) m (suc j) = get_d_padded d m j
