-- What the proofs of questions cite: the code of a refusal, and what flags make of the counts. Assumes nothing.
use Rattle.std.specs.Prelude.{◌≡◌, ◌⊎◌, refl, Bool, true, false, Ok, Err, ℕ, ◌+◌, ◌-◌, ◌^◌, ◌≤◌, ◌<◌, leb, ltb}
use Rattle.std.proofs.Common.{inl, inr, arith, Fits, lt-ltb, le-ltb, le-leb}
use Rattle.std.specs.Int.{w64}
use Rattle.std.proofs.lemmas.Bool.{lt-leb}
use Rattle.laws.specs.Bools.{pick, cases, ◌and◌, no_and}
use Rattle.laws.proofs.BoolLaws.{and_both, and_no}
use Rattle.units.specs.declared.refusal.Refusal.{Refusal}
use Rattle.units.specs.declared.refusal.Refusal.TheVariants.{Room}
use Rattle.units.specs.Refusals.{answer_number}
use Rattle.checks.specs.Asked.{counts_code, where_fits}

module _ (rows room total reports : ℕ) where
  no_room : room < rows → (leb rows room and ltb (total + reports) (2 ^ 64)) ≡ false
  no_room h = no_and _ (ltb (total + reports) (2 ^ 64)) (lt-leb rows room h)

  no_total : 18446744073709551615 - reports < total → (leb rows room and ltb (total + reports) (2 ^ 64)) ≡ false
  no_total h = and_no (leb rows room) _ (le-ltb (total + reports) (2 ^ 64) (omega arith))

  -- as a code
  pub rows_past : room < rows → 10 ≡ counts_code rows room (total + reports)
  unfolding counts_code
  rows_past h = rw (no_room h)

  pub total_past : 18446744073709551615 - reports < total → 10 ≡ counts_code rows room (total + reports)
  unfolding counts_code
  total_past h = rw (no_total h)

  pub counts_fit_lem : rows ≤ room → Fits w64 reports → total ≤ 18446744073709551615 - reports → 0 ≡ counts_code rows room (total + reports)
  unfolding counts_code
  counts_fit_lem h f k = rw (and_both _ _ (le-leb rows room h) (lt-ltb (total + reports) (2 ^ 64) (omega (arith, f.fits))))

  -- as an answer
  pub counts_past : {A : Type 0} (a : A) → (room < rows) ⊎ ((rows ≤ room) × (18446744073709551615 - reports < total))
      → Err Room ≡ where_fits rows room (total + reports) a
  unfolding where_fits
  counts_past a (inl h) = rw (no_room h)
  counts_past a (inr h) = rw (no_total h.1)

  pub counts_held : {A : Type 0} (a : A) → rows ≤ room → Fits w64 reports → total ≤ 18446744073709551615 - reports
      → Ok a ≡ where_fits rows room (total + reports) a
  unfolding where_fits
  counts_held a h f k = rw (and_both _ _ (le-leb rows room h) (lt-ltb (total + reports) (2 ^ 64) (omega (arith, f.fits))))

pub ruleset fitting = (counts_past, counts_held)

-- the number of the answer
pub answer_number_is : {A : Type 0} (rows room total : ℕ) (a : A) → answer_number (where_fits rows room total a) ≡ counts_code rows room total
unfolding where_fits counts_code
answer_number_is rows room total a = cases (leb rows room and ltb total (2 ^ 64)) (λ e. rw e) (λ e. rw e)

-- what an answer says of the test
pub picked_ok : {A : Type 0} (t : Bool) (a b : A) → Ok b ≡ pick t (Ok a) (Err Room) → (t ≡ true) × (a ≡ b)
picked_ok true a b e = (refl, cc)
picked_ok false a b e = absurd cc

pub picked_err : {A : Type 0} (t : Bool) (a : A) (refusal : Refusal) → Err refusal ≡ pick t (Ok a) (Err Room) → t ≡ false
picked_err true a refusal e = absurd cc
picked_err false a refusal e = refl

-- the answer by another test of the same number
pub where_coded : {A : Type 0} (rows room total : ℕ) (t : Bool) (a : A) → counts_code rows room total ≡ pick t 0 10
    → where_fits rows room total a ≡ pick t (Ok a) (Err Room)
unfolding where_fits counts_code
where_coded rows room total t a = by (leb rows room and ltb total (2 ^ 64)) t
  where
    by : (u v : Bool) → ◌≡◌ {A = ℕ} (pick u 0 10) (pick v 0 10) → pick u (Ok a) (Err Room) ≡ pick v (Ok a) (Err Room)
    by true true e = refl
    by true false e = absurd (omega arith)
    by false true e = absurd (omega arith)
    by false false e = refl
