-- Violations reported one after another: all are counted, and the first 32 are kept. Assumes nothing.
use Rattle.std.specs.Prelude.{◌≡◌, refl, Bool, true, false, List, [], ◌∷◌, ◌++◌, ℕ, ◌+◌, ◌≤◌, ◌<◌, min, ltb, length, take, replicate}
use Rattle.std.proofs.Common.{sym, ◌∙◌, append_assoc, append-nil, arith, length-append, length-take, take_all, ltb-true, ltb-false}
use Rattle.std.proofs.lemmas.List.{take-append-le}
use Rattle.laws.specs.Bools.{pick}
use Rattle.units.specs.declared.SimTime.{SimTime}
use Rattle.checks.specs.Checks.{Checker, Violation, new_checker, max_recorded, report, report_if}
use Rattle.checks.specs.declared.Check.{Check}
use Rattle.checks.specs.declared.Check.TheVariants.{ElectionSafety}

-- Violations reported in order.
unfoldable pub report_all : Checker → List Violation → Checker
report_all c [] = c
report_all c (v ∷ vs) = report_all (report c v.time v.check v.detail) vs

-- A violation reported so many times, from no report on (C12).
unfoldable pub reports : ℕ → Checker
reports n = report_all new_checker (replicate n (record { time = record { 0 = 0 }; check = ElectionSafety; detail = [] }))

pub report_total : (c : Checker) (v : Violation) → (report c v.time v.check v.detail).total ≡ c.total + 1
unfolding report
report_total c v = refl

-- a violation that is due, or none: the total, and the tables as they were
pub total_if : (t : Bool) (c : Checker) (time : SimTime) (k : Check) (d : List ℕ) → (report_if t c time k d).total ≡ c.total + pick t 1 0
unfolding report
total_if true c time k d = refl
total_if false c time k d = omega arith

pub applied_if_lem : (t : Bool) (c : Checker) (time : SimTime) (k : Check) (d : List ℕ) → (report_if t c time k d).applied ≡ c.applied
unfolding report
applied_if_lem true c time k d = refl
applied_if_lem false c time k d = refl

pub entries_if : (t : Bool) (c : Checker) (time : SimTime) (k : Check) (d : List ℕ) → (report_if t c time k d).entries ≡ c.entries
unfolding report
entries_if true c time k d = refl
entries_if false c time k d = refl

pub leaders_if : (t : Bool) (c : Checker) (time : SimTime) (k : Check) (d : List ℕ) → (report_if t c time k d).leaders ≡ c.leaders
unfolding report
leaders_if true c time k d = refl
leaders_if false c time k d = refl

-- what was counted was due
pub one_due : (t : Bool) (n : ℕ) → n ≡ pick t 1 0 → 0 < n → t ≡ true
one_due true n e h = refl
one_due false n e h = absurd (omega arith)

pub all_counted : (c : Checker) (vs : List Violation) → (report_all c vs).total ≡ c.total + length vs
unfolding report_all report
all_counted c [] = omega arith
all_counted c (v ∷ vs) = omega (arith, all_counted (report c v.time v.check v.detail) vs)

-- one more violation, while there is room and when there is none: what is kept stays the start of all that came
keep_one : (kept later : List Violation) (v : Violation) (next : List Violation) → length kept ≤ max_recorded
    → next ≡ pick (ltb (length kept) max_recorded) (kept ++ v ∷ []) kept
    → (length next ≤ max_recorded) × (take max_recorded (next ++ later) ≡ take max_recorded (kept ++ v ∷ later))
keep_one kept later v next h e = by (ltb (length kept) max_recorded) refl e
  where
    by : (b : Bool) → ltb (length kept) max_recorded ≡ b → next ≡ pick b (kept ++ v ∷ []) kept
        → (length next ≤ max_recorded) × (take max_recorded (next ++ later) ≡ take max_recorded (kept ++ v ∷ later))
    by true t e = (rw e (simp length-append (omega (arith, ltb-true (length kept) max_recorded t))), rw (e, append_assoc))
    by false t e = (
      rw e h,
      rw (
        e,
        take-append-le max_recorded kept later
            (ltb-false (length kept) max_recorded t),
        take-append-le max_recorded kept (v ∷ later) (ltb-false (length kept) max_recorded t),
      ),
    )

first_kept : (c : Checker) (vs : List Violation) → length c.violations ≤ max_recorded
    → (report_all c vs).violations ≡ take max_recorded (c.violations ++ vs)
unfolding report_all report
first_kept c [] h = rw append-nil (sym (take_all max_recorded c.violations h))
first_kept c (v ∷ vs) h =
    let next = report c v.time v.check v.detail in
    let k = keep_one c.violations vs v next.violations h refl in
    first_kept next vs k.0 ∙ k.1

-- from a checker that has reported nothing, the first 32 are kept
pub first_32_kept : (vs : List Violation) → (report_all new_checker vs).violations ≡ take max_recorded vs
first_32_kept vs = first_kept new_checker vs (omega arith)

pub kept_count : (vs : List Violation) → length (report_all new_checker vs).violations ≡ min max_recorded (length vs)
kept_count vs = rw first_32_kept (length-take max_recorded vs)
