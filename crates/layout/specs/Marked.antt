-- Values that are a number and bytes, in words: the number, which also says how many bytes there are, and then the bytes, padded with zeros
-- to whole words. A payload and the bytes of a message are two such values. Assumes nothing.
use Rattle.std.specs.Prelude.{◌≡◌, Bool, true, ℕ, zero, suc, ◌+◌, ◌*◌, ◌-◌, ◌/◌, ◌^◌, ◌≤◌, ◌<◌, leb, ltb, drop, get_or}
use Rattle.std.proofs.Math.Path.{refl, ap}
use Rattle.std.proofs.Common.{sym, ap₂, ◌∙◌, arith, drop_at, length-take-le, drop-drop, leb-true, le-leb, ltb-true, lt-ltb}
use mathlib.Core.List.{List, [], ◌∷◌, ◌++◌}
use Rattle.std.proofs.Math.ListN.{length, take, length-append, length-drop, length-replicate, take-append-drop}
use Rattle.std.proofs.Math.Seq.{take_at}
use Rattle.laws.specs.Bools.{◌and◌, and_left, every}
use Rattle.laws.proofs.BoolLaws.{and_right, and_both}
use Rattle.words.specs.Words.{bytes, W, Fit, Bytes, allz}
use Rattle.words.specs.Numbers.{each_append, each_take, each_drop, each_zeros}
use Rattle.words.specs.Zero.{allz_zeros, zeros_allz}
use Rattle.words.specs.Lift.{length_bytes, length_w, bytes_each, W-fit, W-bytes, W-whole}
use Rattle.layout.specs.Code.{Code, zeros, word_back}

-- How many words p bytes take.
abbrev pub words_for : ℕ → ℕ
words_for p = (p + 7) / 8

-- How a value is a number and bytes: both, the count of bytes that a number says, which numbers there are, and the way back.
pub record Marking (X : Type 0) : Type 0 where
  pub mark : X → ℕ
  pub body : X → List ℕ
  pub count : ℕ → ℕ
  pub valid : ℕ → Bool
  pub make : ℕ → List ℕ → X
  pub count_mark : (x : X) → length (body x) ≡ count (mark x)
  pub valid_mark : (x : X) → valid (mark x) ≡ true
  pub make_mark : (x : X) → make (mark x) (body x) ≡ x
  pub mark_make : (k : ℕ) (d : List ℕ) → valid k ≡ true → length d ≡ count k → mark (make k d) ≡ k
  pub body_make : (k : ℕ) (d : List ℕ) → valid k ≡ true → length d ≡ count k → body (make k d) ≡ d

-- Bytes, and then zeros to the end of the words for p bytes.
unfoldable pub padded_to : ℕ → List ℕ → List ℕ
padded_to p bs = bs ++ zeros (8 * words_for p - length bs)

-- The bytes of the words after the first.
unfoldable pub body_in : ℕ → List ℕ → List ℕ
body_in p ws = bytes (take (words_for p) (drop 1 ws))

-- Whether a number is a byte.
abbrev pub is_byte : ℕ → Bool
is_byte b = ltb b 256

each_byte : (bs : List ℕ) → every is_byte bs ≡ true → Bytes bs
each_byte [] h k = omega arith
each_byte (b ∷ bs) h zero = record { fits = ltb-true b 256 (and_left _ _ h) }
each_byte (b ∷ bs) h (suc k) = each_byte bs (and_right _ _ h) k

byte_each : (bs : List ℕ) → Bytes bs → every is_byte bs ≡ true
byte_each [] h = refl
byte_each (b ∷ bs) h = and_both _ _ (lt-ltb b 256 (h 0).fits) (byte_each bs (λ k. h (suc k)))

-- ---- bytes padded to whole words

module _ (p : ℕ) (bs : List ℕ) (l : length bs ≤ p) where
  pub length_padded : length (padded_to p bs) ≡ 8 * words_for p
  unfolding padded_to
  length_padded = omega (arith, length-append bs (zeros (8 * words_for p - length bs)), length-replicate (8 * words_for p - length bs) zero)

  padded_each : Bytes bs → Bytes (padded_to p bs)
  unfolding padded_to
  padded_each B = each_append bs (zeros (8 * words_for p - length bs)) B (each_zeros (8 * words_for p - length bs))

  pub padded_back : Bytes bs → bytes (W (padded_to p bs)) ≡ padded_to p bs
  padded_back B = W-whole (padded_to p bs) (words_for p) (padded_each B) length_padded

  length_padded_w : length (W (padded_to p bs)) ≡ words_for p
  length_padded_w = omega (arith, length_w (padded_to p bs), length_padded)

  padded_zero : allz (drop (length bs) (padded_to p bs)) ≡ true
  unfolding padded_to
  padded_zero = ap allz (drop_at bs (zeros (8 * words_for p - length bs)) (length bs) refl) ∙ allz_zeros (8 * words_for p - length bs)

  padded_body : take (length bs) (padded_to p bs) ≡ bs
  unfolding padded_to
  padded_body = take_at bs (zeros (8 * words_for p - length bs)) (length bs) refl

-- ---- the code, for values of up to p bytes

module _ {X : Type 0} (M : Marking X) (p : ℕ) where
  -- The words of a value: its number, and its bytes padded with zeros to whole words.
  abbrev pub enc_m : X → List ℕ
  enc_m x = M.mark x ∷ W (padded_to p (M.body x))

  -- The values that have a content: at most p bytes.
  abbrev pub good_m : X → Bool
  good_m x = ltb (M.mark x) (2 ^ 64) and (leb (length (M.body x)) p and every is_byte (M.body x))

  -- Whether words begin with a content: a number that there is, and zeros behind the bytes that it counts.
  abbrev pub ok_m : List ℕ → Bool
  ok_m ws = M.valid (get_or ws 0 0) and (leb (M.count (get_or ws 0 0)) p and allz (drop (M.count (get_or ws 0 0)) (body_in p ws)))

  -- The value that words begin with.
  abbrev pub parse_m : List ℕ → X
  parse_m ws = M.make (get_or ws 0 0) (take (M.count (get_or ws 0 0)) (body_in p ws))

  -- what is known of a value that has a content
  pub record Sound (x : X) : Type 0 where
    pub marked : M.mark x < 2 ^ 64
    pub short : length (M.body x) ≤ p
    pub each : Bytes (M.body x)

  pub sound : (x : X) → good_m x ≡ true → Sound x
  sound x h = record { marked = ltb-true _ _ (and_left _ _ h); short = leb-true _ _ (and_left _ _ (and_right _ _ h)); each = each_byte (M.body x) (and_right _ _ (and_right _ _ h)) }

  pub sounds : (x : X) → Sound x → good_m x ≡ true
  sounds x s = and_both _ _ (lt-ltb _ _ s.marked) (and_both _ _ (le-leb _ _ s.short) (byte_each (M.body x) s.each))

  pub size_enc_m : (x : X) → good_m x ≡ true → length (enc_m x) ≡ 1 + words_for p
  size_enc_m x h = omega (arith, length_padded_w p (M.body x) (sound x h).short)

  pub fit_enc_m : (x : X) → good_m x ≡ true → Fit (enc_m x)
  fit_enc_m x h zero = record { fits = (sound x h).marked }
  fit_enc_m x h (suc k) = W-fit (padded_to p (M.body x)) (padded_each p (M.body x) (sound x h).short (sound x h).each) k

  -- the bytes that a content says
  body_enc : (x : X) (r : List ℕ) → Sound x → body_in p (enc_m x ++ r) ≡ padded_to p (M.body x)
  unfolding body_in
  body_enc x r s = ap bytes (take_at (W (padded_to p (M.body x))) r (words_for p) (length_padded_w p (M.body x) s.short)) ∙ padded_back p (M.body x) s.short s.each

  pub ok_enc_m : (x : X) (r : List ℕ) → good_m x ≡ true → ok_m (enc_m x ++ r) ≡ true
  ok_enc_m x r h =
      let s = sound x h in
      ap₂ (λ (n : ℕ) (c : List ℕ). M.valid (M.mark x) and (leb n p and allz (drop n c))) (sym (M.count_mark x)) (body_enc x r s)
      ∙ and_both _ _ (M.valid_mark x) (and_both _ _ (le-leb _ _ s.short) (padded_zero p (M.body x) s.short))

  pub parse_enc_m : (x : X) (r : List ℕ) → good_m x ≡ true → parse_m (enc_m x ++ r) ≡ x
  parse_enc_m x r h =
      let s = sound x h in
      ap₂ (λ (n : ℕ) (c : List ℕ). M.make (M.mark x) (take n c)) (sym (M.count_mark x)) (body_enc x r s) ∙ ap (M.make (M.mark x)) (padded_body p (M.body x) s.short) ∙ M.make_mark x

  -- words that begin with a content
  module _ (ws : List ℕ) (f : Fit ws) (h : 1 + words_for p ≤ length ws) (k : ok_m ws ≡ true) where
    abbrev n : ℕ
    n = M.count (get_or ws 0 0)

    abbrev c : List ℕ
    c = body_in p ws

    most : n ≤ p
    most = leb-true _ _ (and_left _ _ (and_right _ _ k))

    c_long : length c ≡ 8 * words_for p
    unfolding body_in
    c_long = length_bytes (take (words_for p) (drop 1 ws)) ∙ ap (λ (m : ℕ). 8 * m) (length-take-le (words_for p) (drop 1 ws) (omega (arith, length-drop 1 ws)))

    c_each : Bytes c
    unfolding body_in
    c_each = bytes_each (take (words_for p) (drop 1 ws))

    c_w : W c ≡ take (words_for p) (drop 1 ws)
    unfolding body_in
    c_w = W-bytes (take (words_for p) (drop 1 ws)) (each_take (words_for p) (drop 1 ws) (each_drop 1 ws f))

    c_zero : drop n c ≡ zeros (8 * words_for p - n)
    c_zero = zeros_allz (drop n c) (and_right _ _ (and_right _ _ k)) ∙ ap zeros (length-drop n c ∙ ap (λ (m : ℕ). m - n) c_long)

    -- its first n bytes, and then zeros
    first_bytes : length (take n c) ≡ n
    first_bytes = length-take-le n c (omega (arith, most, c_long))

    c_is : padded_to p (take n c) ≡ c
    unfolding padded_to
    c_is = ap (λ (m : ℕ). take n c ++ zeros (8 * words_for p - m)) first_bytes ∙ ap (λ (l : List ℕ). take n c ++ l) (sym c_zero) ∙ take-append-drop n c

    mark_is : M.mark (parse_m ws) ≡ get_or ws 0 0
    mark_is = M.mark_make (get_or ws 0 0) (take n c) (and_left _ _ k) first_bytes

    body_is : M.body (parse_m ws) ≡ take n c
    body_is = M.body_make (get_or ws 0 0) (take n c) (and_left _ _ k) first_bytes

    pub enc_parse_m : enc_m (parse_m ws) ++ drop (1 + words_for p) ws ≡ ws
    enc_parse_m =
        ap₂ (λ (m : ℕ) (l : List ℕ). (m ∷ l) ++ drop (1 + words_for p) ws) mark_is (ap (λ (l : List ℕ). W (padded_to p l)) body_is ∙ ap W c_is ∙ c_w)
        ∙ ap (λ (l : List ℕ). get_or ws 0 0 ∷ (take (words_for p) (drop 1 ws) ++ l)) (sym (drop-drop (words_for p) 1 ws))
        ∙ ap (λ (l : List ℕ). get_or ws 0 0 ∷ l) (take-append-drop (words_for p) (drop 1 ws)) ∙ word_back ws (omega arith)

    pub good_parse_m : good_m (parse_m ws) ≡ true
    good_parse_m =
        sounds (parse_m ws) (record {
          marked = omega (arith, mark_is, (f 0).fits);
          short = omega (arith, ap length body_is, first_bytes, most);
          each = λ j. rw body_is (each_take n c c_each j);
        })

  -- A value of a number and up to p bytes, in one word and those for p bytes.
  abbrev pub marked : Code X
  marked =
      record {
        size = 1 + words_for p;
        enc = enc_m;
        good = good_m;
        ok = ok_m;
        parse = parse_m;
        size_enc = size_enc_m;
        fit_enc = fit_enc_m;
        ok_enc = ok_enc_m;
        parse_enc = parse_enc_m;
        enc_parse = enc_parse_m;
        good_parse = good_parse_m;
      }
