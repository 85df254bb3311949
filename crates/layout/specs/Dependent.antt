-- Two more ways to make codes: a second code that depends on the first value (a table whose count stands elsewhere), and a code of values told by
-- others where what is not stored follows from a content being good. Assumes nothing.
use Rattle.std.specs.Prelude.{◌≡◌, Bool, true, List, ◌++◌, ℕ, ◌+◌, ◌≤◌, length, drop}
use Rattle.std.proofs.Common.{sym, ap, ap₂, ◌∙◌, append_assoc, arith, length-append, length-drop, drop_at, drop-drop}
use Rattle.laws.specs.Bools.{◌and◌, and_left}
use Rattle.laws.proofs.BoolLaws.{and_right, and_both}
use Rattle.words.specs.Numbers.{each_append, each_drop}
use Rattle.layout.specs.Code.{Code}

module _ {A B : Type 0} (a : Code A) (b : A → Code B) (n : ℕ) (e : (x : A) → (b x).size ≡ n) where
  pub after : (x : A) (y : B) (r : List ℕ) → a.good x ≡ true → drop a.size ((a.enc x ++ (b x).enc y) ++ r) ≡ (b x).enc y ++ r
  after x y r h = ap (drop a.size) (append_assoc (a.enc x) ((b x).enc y) r) ∙ drop_at (a.enc x) ((b x).enc y ++ r) a.size (a.size_enc x h)

  pub first : (x : A) (y : B) (r : List ℕ) → a.good x ≡ true → a.parse ((a.enc x ++ (b x).enc y) ++ r) ≡ x
  first x y r h = ap a.parse (append_assoc (a.enc x) ((b x).enc y) r) ∙ a.parse_enc x ((b x).enc y ++ r) h

  -- Two contents, one after the other; how the second lies depends on the first value.
  abbrev pub dep : Code (A × B)
  dep =
      record {
        size = a.size + n;
        enc = λ x. a.enc x.0 ++ (b x.0).enc x.1;
        good = λ x. a.good x.0 and (b x.0).good x.1;
        ok = λ ws. a.ok ws and (b (a.parse ws)).ok (drop a.size ws);
        parse = λ ws. (a.parse ws, (b (a.parse ws)).parse (drop a.size ws));
        size_enc = λ x h. omega (arith, length-append (a.enc x.0) ((b x.0).enc x.1), a.size_enc x.0 (and_left _ _ h), (b x.0).size_enc x.1 (and_right _ _ h), e x.0);
        fit_enc = λ x h. each_append (a.enc x.0) ((b x.0).enc x.1) (a.fit_enc x.0 (and_left _ _ h)) ((b x.0).fit_enc x.1 (and_right _ _ h));
        ok_enc = λ x r h.
            and_both _ _ (ap a.ok (append_assoc (a.enc x.0) ((b x.0).enc x.1) r) ∙ a.ok_enc x.0 ((b x.0).enc x.1 ++ r) (and_left _ _ h))
            (ap₂ (λ (z : A) (l : List ℕ). (b z).ok l) (first x.0 x.1 r (and_left _ _ h)) (after x.0 x.1 r (and_left _ _ h)) ∙ (b x.0).ok_enc x.1 r (and_right _ _ h));
        parse_enc = λ x r h.
            ap₂ (λ (z : A) (l : List ℕ). (z, (b z).parse l)) (first x.0 x.1 r (and_left _ _ h)) (after x.0 x.1 r (and_left _ _ h))
            ∙ ap (λ (y : B). (x.0, y)) ((b x.0).parse_enc x.1 r (and_right _ _ h));
        enc_parse = λ ws f h k.
            let z : A = a.parse ws in
            let l : a.size + (b z).size ≤ length ws = omega (arith, e z) in
            append_assoc (a.enc z) ((b z).enc ((b z).parse (drop a.size ws))) (drop (a.size + n) ws)
            ∙ ap (λ (t : List ℕ). a.enc z ++ ((b z).enc ((b z).parse (drop a.size ws)) ++ t)) (ap (λ (m : ℕ). drop (a.size + m) ws) (sym (e z)) ∙ sym (drop-drop (b z).size a.size ws))
            ∙ ap (λ (t : List ℕ). a.enc z ++ t) ((b z).enc_parse (drop a.size ws) (each_drop a.size ws f) (omega (arith, length-drop a.size ws)) (and_right _ _ k))
            ∙ a.enc_parse ws f (omega arith) (and_left _ _ k);
        good_parse = λ ws f h k.
            let z : A = a.parse ws in
            and_both _ _ (a.good_parse ws f (omega arith) (and_left _ _ k)) ((b z).good_parse (drop a.size ws) (each_drop a.size ws f) (omega (arith, length-drop a.size ws, e z)) (and_right _ _ k));
      }

-- A value's parts, and the value of parts: they are each other's on values that fit and parts that have a content.
pub record Stating {A B : Type 0} (a : Code A) (from : B → A) (to : A → B) (fits : B → Bool) : Type 0 where
  pub good : (x : B) → fits x ≡ true → a.good (from x) ≡ true
  pub back : (x : B) → to (from x) ≡ x
  pub fitting : (y : A) → a.good y ≡ true → fits (to y) ≡ true
  pub again : (y : A) → a.good y ≡ true → from (to y) ≡ y

module _ {A B : Type 0} (a : Code A) (from : B → A) (to : A → B) (fits : B → Bool) (t : Stating a from to fits) where
  -- Values told by their parts.
  abbrev pub stated : Code B
  stated =
      record {
        size = a.size;
        enc = λ x. a.enc (from x);
        good = fits;
        ok = a.ok;
        parse = λ ws. to (a.parse ws);
        size_enc = λ x h. a.size_enc (from x) (t.good x h);
        fit_enc = λ x h. a.fit_enc (from x) (t.good x h);
        ok_enc = λ x r h. a.ok_enc (from x) r (t.good x h);
        parse_enc = λ x r h. ap to (a.parse_enc (from x) r (t.good x h)) ∙ t.back x;
        enc_parse = λ ws f h k. ap (λ (y : A). a.enc y ++ drop a.size ws) (t.again (a.parse ws) (a.good_parse ws f h k)) ∙ a.enc_parse ws f h k;
        good_parse = λ ws f h k. t.fitting (a.parse ws) (a.good_parse ws f h k);
      }
