-- Codes: how a value of a type lies in 64-bit words, with the test that words are such a content. The laws are proved once for each way to
-- put codes together; the code of a state is built from them and brings its laws with it. They speak of words that BEGIN with a content
-- (`enc x ++ r`), so that codes are put side by side with no cutting. Assumes nothing.
use Rattle.std.specs.Prelude.{◌≡◌, refl, Bool, true, false, List, [], ◌∷◌, ◌++◌, ℕ, zero, suc, ◌+◌, ◌*◌, ◌-◌, ◌^◌, ◌≤◌, ◌<◌, leb, ltb, eqb, length, take, drop, get_or, replicate, Option, None, Some}
use Rattle.std.proofs.Common.{sym, ap, ◌∙◌, append_assoc, zero-mul, suc-mul, add_comm, arith, length-append, length-drop, take-append-drop, take_at, drop_at, drop-drop, length-take-le, leb-true, le-leb, ltb-true, lt-ltb, eqb-true, eq-eqb, ne_eqb}
use Rattle.std.proofs.lemmas.List.{length-replicate}
use Rattle.laws.specs.Bools.{pick, ◌and◌, and_left, every}
use Rattle.laws.proofs.BoolLaws.{and_right, and_both}
use Rattle.words.specs.Words.{Fit, allz}
use Rattle.words.specs.Numbers.{each_append, each_drop, each_zeros}
use Rattle.words.specs.Zero.{allz_zeros, zeros_allz}

-- How values of a type lie in words: each that has a content has one only, and each list of words that passes the test begins with one.
pub record Code (T : Type 0) : Type 1 where
  -- how many words a content takes, and the content of a value
  pub size : ℕ
  pub enc : T → List ℕ
  -- the values that have a content
  pub good : T → Bool
  -- whether a list of words begins with a content, and the value that it begins with
  pub ok : List ℕ → Bool
  pub parse : List ℕ → T
  pub size_enc : (x : T) → good x ≡ true → length (enc x) ≡ size
  pub fit_enc : (x : T) → good x ≡ true → Fit (enc x)
  pub ok_enc : (x : T) (r : List ℕ) → good x ≡ true → ok (enc x ++ r) ≡ true
  pub parse_enc : (x : T) (r : List ℕ) → good x ≡ true → parse (enc x ++ r) ≡ x
  pub enc_parse : (ws : List ℕ) → Fit ws → size ≤ length ws → ok ws ≡ true → enc (parse ws) ++ drop size ws ≡ ws
  pub good_parse : (ws : List ℕ) → Fit ws → size ≤ length ws → ok ws ≡ true → good (parse ws) ≡ true

-- ---- one word: any number of 64 bits

pub fit_one : (x : ℕ) → ltb x (2 ^ 64) ≡ true → Fit (x ∷ [])
fit_one x h zero = record { fits = ltb-true x (2 ^ 64) h }
fit_one x h (suc k) = omega arith

pub word_back : (ws : List ℕ) → 1 ≤ length ws → (get_or ws 0 0 ∷ []) ++ drop 1 ws ≡ ws
word_back [] h = absurd (omega arith)
word_back (w ∷ ws) h = refl

-- One word: any number of 64 bits.
abbrev pub word : Code ℕ
word =
    record {
      size = 1;
      enc = λ x. x ∷ [];
      good = λ x. ltb x (2 ^ 64);
      ok = λ ws. true;
      parse = λ ws. get_or ws 0 0;
      size_enc = λ x h. refl;
      fit_enc = fit_one;
      ok_enc = λ x r h. refl;
      parse_enc = λ x r h. refl;
      enc_parse = λ ws f h k. word_back ws h;
      good_parse = λ ws f h k. lt-ltb _ _ (f 0).fits;
    }

-- ---- n zeros

-- n zeros.
abbrev pub zeros : ℕ → List ℕ
zeros n = replicate n 0

pub zeros_back : (n : ℕ) (ws : List ℕ) → n ≤ length ws → allz (take n ws) ≡ true → zeros n ++ drop n ws ≡ ws
zeros_back n ws h k =
    let e : zeros n ≡ take n ws = ap zeros (sym (length-take-le n ws h)) ∙ sym (zeros_allz (take n ws) k) in
    rw (e, take-append-drop n ws)

pub zeros_ok : (n : ℕ) (r : List ℕ) → allz (take n (zeros n ++ r)) ≡ true
zeros_ok n r = ap allz (take_at (zeros n) r n (length-replicate n zero)) ∙ allz_zeros n

-- n words that say nothing: zeros.
abbrev pub blank : ℕ → Code (Unit {0})
blank n =
    record {
      size = n;
      enc = λ x. zeros n;
      good = λ x. true;
      ok = λ ws. allz (take n ws);
      parse = λ ws. tt;
      size_enc = λ x h. length-replicate n zero;
      fit_enc = λ x h. each_zeros n;
      ok_enc = λ x r h. zeros_ok n r;
      parse_enc = λ x r h. refl;
      enc_parse = λ ws f h k. zeros_back n ws h k;
      good_parse = λ ws f h k. refl;
    }

-- ---- one after the other

module _ {A B : Type 0} (a : Code A) (b : Code B) where
  -- Two contents, one after the other.
  abbrev pub pair : Code (A × B)
  pair =
      record {
        size = a.size + b.size;
        enc = λ x. a.enc x.0 ++ b.enc x.1;
        good = λ x. a.good x.0 and b.good x.1;
        ok = λ ws. a.ok ws and b.ok (drop a.size ws);
        parse = λ ws. (a.parse ws, b.parse (drop a.size ws));
        size_enc = λ x h.
            rw (length-append, a.size_enc x.0 (and_left _ _ h), b.size_enc x.1 (and_right _ _ h));
        fit_enc = λ x h. each_append (a.enc x.0) (b.enc x.1) (a.fit_enc x.0 (and_left _ _ h)) (b.fit_enc x.1 (and_right _ _ h));
        ok_enc = λ x r h.
            rw (append_assoc, drop_at (a.enc x.0) (b.enc x.1 ++ r) a.size (a.size_enc x.0 (and_left _ _ h)))
            (and_both _ _ (a.ok_enc x.0 (b.enc x.1 ++ r) (and_left _ _ h)) (b.ok_enc x.1 r (and_right _ _ h)));
        parse_enc = λ x r h.
            rw (append_assoc, drop_at (a.enc x.0) (b.enc x.1 ++ r) a.size (a.size_enc x.0 (and_left _ _ h)), a.parse_enc x.0 (b.enc x.1 ++ r) (and_left _ _ h), b.parse_enc x.1 r (and_right _ _ h));
        enc_parse = λ ws f h k.
            rw (append_assoc, ← drop-drop, b.enc_parse (drop a.size ws) (each_drop a.size ws f) (rw length-drop (omega arith)) (and_right _ _ k))
            (a.enc_parse ws f (omega arith) (and_left _ _ k));
        good_parse = λ ws f h k.
            and_both _ _ (a.good_parse ws f (omega arith) (and_left _ _ k)) (b.good_parse (drop a.size ws) (each_drop a.size ws f) (rw length-drop (omega arith)) (and_right _ _ k));
      }

-- ---- another type with the same content: `from` need be undone by `to` only at values that have a content

module _ {A B : Type 0} (a : Code A) (to : A → B) (from : B → A) (to_from : (x : B) → to (from x) ≡ x) (from_to : (x : A) → a.good x ≡ true → from (to x) ≡ x) where
  -- Values of another type, told by a value of this one.
  abbrev pub iso : Code B
  iso =
      record {
        size = a.size;
        enc = λ x. a.enc (from x);
        good = λ x. a.good (from x);
        ok = a.ok;
        parse = λ ws. to (a.parse ws);
        size_enc = λ x. a.size_enc (from x);
        fit_enc = λ x. a.fit_enc (from x);
        ok_enc = λ x. a.ok_enc (from x);
        parse_enc = λ x r h. ap to (a.parse_enc (from x) r h) ∙ to_from x;
        enc_parse = λ ws f h k. ap (λ (x : A). a.enc x ++ drop a.size ws) (from_to (a.parse ws) (a.good_parse ws f h k)) ∙ a.enc_parse ws f h k;
        good_parse = λ ws f h k. ap a.good (from_to (a.parse ws) (a.good_parse ws f h k)) ∙ a.good_parse ws f h k;
      }

-- ---- a code with one more test of its values

module _ {A : Type 0} (a : Code A) (p : A → Bool) where
  -- The values that pass one more test.
  abbrev pub such : Code A
  such =
      record {
        size = a.size;
        enc = a.enc;
        good = λ x. a.good x and p x;
        ok = λ ws. a.ok ws and p (a.parse ws);
        parse = a.parse;
        size_enc = λ x h. a.size_enc x (and_left _ _ h);
        fit_enc = λ x h. a.fit_enc x (and_left _ _ h);
        ok_enc = λ x r h. and_both _ _ (a.ok_enc x r (and_left _ _ h)) (rw (a.parse_enc x r (and_left _ _ h)) (and_right _ _ h));
        parse_enc = λ x r h. a.parse_enc x r (and_left _ _ h);
        enc_parse = λ ws f h k. a.enc_parse ws f h (and_left _ _ k);
        good_parse = λ ws f h k. and_both _ _ (a.good_parse ws f h (and_left _ _ k)) (and_right _ _ k);
      }

-- ---- the same code, its size written another way: so that offsets are the program's own expressions

module _ {A : Type 0} (a : Code A) (n : ℕ) (e : a.size ≡ n) where
  -- The same code, its size written as n.
  abbrev pub sized : Code A
  sized =
      record {
        size = n;
        enc = a.enc;
        good = a.good;
        ok = a.ok;
        parse = a.parse;
        size_enc = λ x h. a.size_enc x h ∙ e;
        fit_enc = a.fit_enc;
        ok_enc = a.ok_enc;
        parse_enc = a.parse_enc;
        enc_parse = λ ws f h k. rw (← e) (a.enc_parse ws f (rw e h) k);
        good_parse = λ ws f h k. a.good_parse ws f (rw e h) k;
      }

-- ---- the same code, its test and its parse written as the program reads them

module _ {A : Type 0} (a : Code A) (ok' : List ℕ → Bool) (parse' : List ℕ → A) (eo : (ws : List ℕ) → a.ok ws ≡ ok' ws) (ep : (ws : List ℕ) → a.parse ws ≡ parse' ws) where
  abbrev pub read_as : Code A
  read_as =
      record {
        size = a.size;
        enc = a.enc;
        good = a.good;
        ok = ok';
        parse = parse';
        size_enc = a.size_enc;
        fit_enc = a.fit_enc;
        ok_enc = λ x r h. sym (eo (a.enc x ++ r)) ∙ a.ok_enc x r h;
        parse_enc = λ x r h. sym (ep (a.enc x ++ r)) ∙ a.parse_enc x r h;
        enc_parse = λ ws f h k. ap (λ (x : A). a.enc x ++ drop a.size ws) (sym (ep ws)) ∙ a.enc_parse ws f h (eo ws ∙ k);
        good_parse = λ ws f h k. ap a.good (sym (ep ws)) ∙ a.good_parse ws f h (eo ws ∙ k);
      }

-- ---- a place that may be empty: zeros, or a content, none of which begins with a zero

module _ {A : Type 0} (a : Code A) where
  -- The words of a place: zeros where it is empty.
  abbrev pub enc_o : Option A → List ℕ
  enc_o None = zeros a.size
  enc_o (Some x) = a.enc x

  -- The places that have a content.
  abbrev pub good_o : Option A → Bool
  good_o None = true
  good_o (Some x) = a.good x

  -- Whether words begin with a place: a first word of 0 says that it is empty.
  abbrev pub ok_o : List ℕ → Bool
  ok_o ws = pick (eqb (get_or ws 0 0) 0) (allz (take a.size ws)) (a.ok ws)

  -- The place that words begin with.
  abbrev pub parse_o : List ℕ → Option A
  parse_o ws = pick (eqb (get_or ws 0 0) 0) None (Some (a.parse ws))

  pub size_enc_o : (x : Option A) → good_o x ≡ true → length (enc_o x) ≡ a.size
  size_enc_o None h = length-replicate a.size zero
  size_enc_o (Some x) h = a.size_enc x h

  pub fit_enc_o : (x : Option A) → good_o x ≡ true → Fit (enc_o x)
  fit_enc_o None h = each_zeros a.size
  fit_enc_o (Some x) h = a.fit_enc x h

  module _ (some_size : 0 < a.size) (marked : (x : A) (r : List ℕ) → a.good x ≡ true → 0 < get_or (a.enc x ++ r) 0 0) where
    zero_first : (n : ℕ) (r : List ℕ) → 0 < n → get_or (zeros n ++ r) 0 0 ≡ 0
    zero_first zero r h = absurd (omega arith)
    zero_first (suc n) r h = refl

    pub ok_enc_o : (x : Option A) (r : List ℕ) → good_o x ≡ true → ok_o (enc_o x ++ r) ≡ true
    ok_enc_o None r h = rw (eq-eqb _ 0 (zero_first a.size r some_size)) (zeros_ok a.size r)
    ok_enc_o (Some x) r h =
        let m : 0 < get_or (a.enc x ++ r) 0 0 = marked x r h in
        rw (ne_eqb (get_or (a.enc x ++ r) 0 0) 0 (omega arith)) (a.ok_enc x r h)

    pub parse_enc_o : (x : Option A) (r : List ℕ) → good_o x ≡ true → parse_o (enc_o x ++ r) ≡ x
    parse_enc_o None r h = rw (eq-eqb _ 0 (zero_first a.size r some_size))
    parse_enc_o (Some x) r h =
        let m : 0 < get_or (a.enc x ++ r) 0 0 = marked x r h in
        rw (ne_eqb (get_or (a.enc x ++ r) 0 0) 0 (omega arith), a.parse_enc x r h)

    pub enc_parse_o : (ws : List ℕ) → Fit ws → a.size ≤ length ws → ok_o ws ≡ true → enc_o (parse_o ws) ++ drop a.size ws ≡ ws
    enc_parse_o ws f h k = by (eqb (get_or ws 0 0) 0) k
      where
        by : (b : Bool) → pick b (allz (take a.size ws)) (a.ok ws) ≡ true → enc_o (pick b None (Some (a.parse ws))) ++ drop a.size ws ≡ ws
        by true k = zeros_back a.size ws h k
        by false k = a.enc_parse ws f h k

    pub good_parse_o : (ws : List ℕ) → Fit ws → a.size ≤ length ws → ok_o ws ≡ true → good_o (parse_o ws) ≡ true
    good_parse_o ws f h k = by (eqb (get_or ws 0 0) 0) k
      where
        by : (b : Bool) → pick b (allz (take a.size ws)) (a.ok ws) ≡ true → good_o (pick b None (Some (a.parse ws))) ≡ true
        by true k = refl
        by false k = a.good_parse ws f h k

    -- A place that may be empty.
    abbrev pub optional : Code (Option A)
    optional =
        record {
          size = a.size;
          enc = enc_o;
          good = good_o;
          ok = ok_o;
          parse = parse_o;
          size_enc = size_enc_o;
          fit_enc = fit_enc_o;
          ok_enc = ok_enc_o;
          parse_enc = parse_enc_o;
          enc_parse = enc_parse_o;
          good_parse = good_parse_o;
        }

-- ---- n of them side by side; and n of them, then zeros up to N words

-- The words of each, one after the other.
abbrev pub flat : {A : Type 0} → (A → List ℕ) → List A → List ℕ
flat f [] = []
flat f (x ∷ xs) = f x ++ flat f xs

module _ {A : Type 0} (a : Code A) where
  -- Whether words begin with n contents.
  abbrev pub ok_n : ℕ → List ℕ → Bool
  ok_n zero ws = true
  ok_n (suc n) ws = a.ok ws and ok_n n (drop a.size ws)

  -- The n values that words begin with.
  abbrev pub parse_n : ℕ → List ℕ → List A
  parse_n zero ws = []
  parse_n (suc n) ws = a.parse ws ∷ parse_n n (drop a.size ws)

  pub length_flat : (xs : List A) → every a.good xs ≡ true → length (flat a.enc xs) ≡ length xs * a.size
  length_flat [] h = sym (zero-mul a.size)
  length_flat (x ∷ xs) h =
      rw (length-append, a.size_enc x (and_left _ _ h), length_flat xs (and_right _ _ h), suc-mul, add_comm a.size)

  pub fit_flat : (xs : List A) → every a.good xs ≡ true → Fit (flat a.enc xs)
  fit_flat [] h k = omega arith
  fit_flat (x ∷ xs) h k = each_append (a.enc x) (flat a.enc xs) (a.fit_enc x (and_left _ _ h)) (fit_flat xs (and_right _ _ h)) k

  pub ok_flat : (xs : List A) (r : List ℕ) → every a.good xs ≡ true → ok_n (length xs) (flat a.enc xs ++ r) ≡ true
  ok_flat [] r h = refl
  ok_flat (x ∷ xs) r h =
      rw (append_assoc, drop_at (a.enc x) (flat a.enc xs ++ r) a.size (a.size_enc x (and_left _ _ h)))
      (and_both _ _ (a.ok_enc x (flat a.enc xs ++ r) (and_left _ _ h)) (ok_flat xs r (and_right _ _ h)))

  pub parse_flat : (xs : List A) (r : List ℕ) → every a.good xs ≡ true → parse_n (length xs) (flat a.enc xs ++ r) ≡ xs
  parse_flat [] r h = refl
  parse_flat (x ∷ xs) r h =
      rw (append_assoc, drop_at (a.enc x) (flat a.enc xs ++ r) a.size (a.size_enc x (and_left _ _ h)), a.parse_enc x (flat a.enc xs ++ r) (and_left _ _ h), parse_flat xs r (and_right _ _ h))

  pub length_parse_n : (n : ℕ) (ws : List ℕ) → length (parse_n n ws) ≡ n
  length_parse_n zero ws = refl
  length_parse_n (suc n) ws = ap suc (length_parse_n n (drop a.size ws))

  more : (n : ℕ) → suc n * a.size ≡ a.size + n * a.size
  more n = suc-mul n a.size ∙ add_comm (n * a.size) a.size

  pub flat_parse_n : (n : ℕ) (ws : List ℕ) → Fit ws → n * a.size ≤ length ws → ok_n n ws ≡ true → flat a.enc (parse_n n ws) ++ drop (n * a.size) ws ≡ ws
  flat_parse_n zero ws f h k = rw zero-mul
  flat_parse_n (suc n) ws f h k =
      let l : a.size + n * a.size ≤ length ws = rw (more n) at h in
      rw (more n, append_assoc, ← drop-drop, flat_parse_n n (drop a.size ws) (each_drop a.size ws f) (rw length-drop (omega arith)) (and_right _ _ k))
      (a.enc_parse ws f (omega arith) (and_left _ _ k))

  pub good_parse_n : (n : ℕ) (ws : List ℕ) → Fit ws → n * a.size ≤ length ws → ok_n n ws ≡ true → every a.good (parse_n n ws) ≡ true
  good_parse_n zero ws f h k = refl
  good_parse_n (suc n) ws f h k =
      let l : a.size + n * a.size ≤ length ws = rw (more n) at h in
      and_both _ _ (a.good_parse ws f (omega arith) (and_left _ _ k)) (good_parse_n n (drop a.size ws) (each_drop a.size ws f) (rw length-drop (omega arith)) (and_right _ _ k))

  -- n contents side by side.
  abbrev pub rep : ℕ → Code (List A)
  rep n =
      record {
        size = n * a.size;
        enc = flat a.enc;
        good = λ xs. eqb (length xs) n and every a.good xs;
        ok = ok_n n;
        parse = parse_n n;
        size_enc = λ xs h. length_flat xs (and_right _ _ h) ∙ ap (λ (m : ℕ). m * a.size) (eqb-true (length xs) n (and_left _ _ h));
        fit_enc = λ xs h. fit_flat xs (and_right _ _ h);
        ok_enc = λ xs r h. rw (← eqb-true (length xs) n (and_left _ _ h)) (ok_flat xs r (and_right _ _ h));
        parse_enc = λ xs r h. rw (← eqb-true (length xs) n (and_left _ _ h)) (parse_flat xs r (and_right _ _ h));
        enc_parse = flat_parse_n n;
        good_parse = λ ws f h k. and_both _ _ (eq-eqb _ n (length_parse_n n ws)) (good_parse_n n ws f h k);
      }

  -- the words of rows in N words
  abbrev pub lay : ℕ → List A → List ℕ
  lay N xs = flat a.enc xs ++ zeros (N - length xs * a.size)

  -- there is room for n rows; they are rows; the rest is zero
  abbrev pub ok_r : ℕ → ℕ → List ℕ → Bool
  ok_r N n ws = leb (n * a.size) N and (ok_n n ws and allz (take (N - n * a.size) (drop (n * a.size) ws)))

  -- n rows that have a content, and there is room for them.
  abbrev pub good_r : ℕ → ℕ → List A → Bool
  good_r N n xs = leb (n * a.size) N and (eqb (length xs) n and every a.good xs)

  pub length_lay : (N : ℕ) (xs : List A) → every a.good xs ≡ true → length xs * a.size ≤ N → length (lay N xs) ≡ N
  length_lay N xs g h = omega (arith, length-append (flat a.enc xs) (zeros (N - length xs * a.size)), length_flat xs g, length-replicate (N - length xs * a.size) zero)

  -- what is known of rows that have a content
  pub record Fitting (N n : ℕ) (xs : List A) : Type 0 where
    pub room : n * a.size ≤ N
    pub count : length xs ≡ n
    pub each : every a.good xs ≡ true

  pub fitting : (N n : ℕ) (xs : List A) → good_r N n xs ≡ true → Fitting N n xs
  fitting N n xs h = record { room = leb-true _ N (and_left _ _ h); count = eqb-true _ n (and_left _ _ (and_right _ _ h)); each = and_right _ _ (and_right _ _ h) }

  pub fitted : (N n : ℕ) (xs : List A) → Fitting N n xs → good_r N n xs ≡ true
  fitted N n xs f = and_both _ _ (le-leb _ N f.room) (and_both _ _ (eq-eqb _ n f.count) f.each)

  module _ (N n : ℕ) where
    pub size_lay : (xs : List A) → good_r N n xs ≡ true → length (lay N xs) ≡ N
    size_lay xs h = let f = fitting N n xs h in length_lay N xs f.each (rw f.count f.room)

    pub ok_lay : (xs : List A) (r : List ℕ) → good_r N n xs ≡ true → ok_r N n (lay N xs ++ r) ≡ true
    ok_lay xs r h =
        let f = fitting N n xs h in
        let d : drop (length xs * a.size) (flat a.enc xs ++ (zeros (N - length xs * a.size) ++ r)) ≡ zeros (N - length xs * a.size) ++ r =
        drop_at (flat a.enc xs) (zeros (N - length xs * a.size) ++ r) (length xs * a.size) (length_flat xs f.each) in
        rw (append_assoc, ← f.count, d)
        (and_both _ _ (le-leb _ N (rw f.count f.room)) (and_both _ _ (ok_flat xs (zeros (N - length xs * a.size) ++ r) f.each) (zeros_ok (N - length xs * a.size) r)))

    pub parse_lay : (xs : List A) (r : List ℕ) → good_r N n xs ≡ true → parse_n n (lay N xs ++ r) ≡ xs
    parse_lay xs r h =
        let f = fitting N n xs h in
        rw (append_assoc, ← f.count) (parse_flat xs (zeros (N - length xs * a.size) ++ r) f.each)

    pub lay_parse : (ws : List ℕ) → Fit ws → N ≤ length ws → ok_r N n ws ≡ true → lay N (parse_n n ws) ++ drop N ws ≡ ws
    lay_parse ws f h k =
        let w : ℕ = n * a.size in
        let l : w ≤ N = leb-true _ N (and_left _ _ k) in
        let e : w + (N - w) ≡ N = omega arith in
        let z : zeros (N - w) ++ drop N ws ≡ drop w ws =
        ap (λ (m : ℕ). zeros (N - w) ++ drop m ws) (sym e) ∙ ap (λ (q : List ℕ). zeros (N - w) ++ q) (sym (drop-drop (N - w) w ws))
        ∙ zeros_back (N - w) (drop w ws) (rw length-drop (omega arith)) (and_right _ _ (and_right _ _ k)) in
        rw (length_parse_n, append_assoc, z) (flat_parse_n n ws f (omega arith) (and_left _ _ (and_right _ _ k)))

    pub good_lay : (ws : List ℕ) → Fit ws → N ≤ length ws → ok_r N n ws ≡ true → good_r N n (parse_n n ws) ≡ true
    good_lay ws f h k =
        let l : n * a.size ≤ N = leb-true _ N (and_left _ _ k) in
        fitted N n (parse_n n ws) (record { room = l; count = length_parse_n n ws; each = good_parse_n n ws f (omega arith) (and_left _ _ (and_right _ _ k)) })

    -- n rows, and then zeros up to N words.
    abbrev pub rows : Code (List A)
    rows =
        record {
          size = N;
          enc = lay N;
          good = good_r N n;
          ok = ok_r N n;
          parse = parse_n n;
          size_enc = size_lay;
          fit_enc = λ xs h. each_append (flat a.enc xs) (zeros (N - length xs * a.size)) (fit_flat xs (fitting N n xs h).each) (each_zeros (N - length xs * a.size));
          ok_enc = ok_lay;
          parse_enc = parse_lay;
          enc_parse = lay_parse;
          good_parse = good_lay;
        }
