-- The code of a type whose values are told by numbers: the values that fit, and the numbers that pass a test, are each other's. Assumes nothing.
use Rattle.std.specs.Prelude.{◌≡◌, Bool, true, ◌++◌, drop}
use Rattle.std.proofs.Common.{ap, ◌∙◌}
use Rattle.laws.specs.Bools.{◌and◌, and_left}
use Rattle.laws.proofs.BoolLaws.{and_right, and_both}
use Rattle.layout.specs.Code.{Code}

-- numbers A of a value B, and the value of numbers
pub record Telling {A B : Type 0} (a : Code A) (from : B → A) (to : A → B) (fits : B → Bool) (test : A → Bool) : Type 0 where
  pub fits_good : (x : B) → fits x ≡ true → a.good (from x) ≡ true
  pub fits_test : (x : B) → fits x ≡ true → test (from x) ≡ true
  pub to_from : (x : B) → fits x ≡ true → to (from x) ≡ x
  pub test_fits : (y : A) → a.good y ≡ true → test y ≡ true → fits (to y) ≡ true
  pub from_to : (y : A) → test y ≡ true → from (to y) ≡ y

module _ {A B : Type 0} (a : Code A) (from : B → A) (to : A → B) (fits : B → Bool) (test : A → Bool) (t : Telling a from to fits test) where
  -- Values told by numbers that pass a test.
  abbrev pub coded : Code B
  coded =
      record {
        size = a.size;
        enc = λ x. a.enc (from x);
        good = fits;
        ok = λ ws. a.ok ws and test (a.parse ws);
        parse = λ ws. to (a.parse ws);
        size_enc = λ x h. a.size_enc (from x) (t.fits_good x h);
        fit_enc = λ x h. a.fit_enc (from x) (t.fits_good x h);
        ok_enc = λ x r h. and_both _ _ (a.ok_enc (from x) r (t.fits_good x h)) (ap test (a.parse_enc (from x) r (t.fits_good x h)) ∙ t.fits_test x h);
        parse_enc = λ x r h. ap to (a.parse_enc (from x) r (t.fits_good x h)) ∙ t.to_from x h;
        enc_parse = λ ws f h k. ap (λ (y : A). a.enc y ++ drop a.size ws) (t.from_to (a.parse ws) (and_right _ _ k)) ∙ a.enc_parse ws f h (and_left _ _ k);
        good_parse = λ ws f h k. t.test_fits (a.parse ws) (a.good_parse ws f h (and_left _ _ k)) (and_right _ _ k);
      }
