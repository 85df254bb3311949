-- Violations as a table (violations.rt): rows of 8 words, the time, the check's number, how many numbers, and five numbers padded with zeros. Assumes nothing.
use Rattle.std.specs.Prelude.{◌≡◌, refl, Bool, true, List, [], ◌∷◌, map, ℕ, zero, suc, ◌+◌, ◌^◌, ◌≤◌, ◌<◌, ltb, leb, length, get_or, Option, None, Some}
use Rattle.std.proofs.Common.{ap, ◌∙◌, arith, ltb-true}
use Rattle.laws.specs.Bools.{pick, and_left}
use Rattle.laws.proofs.BoolLaws.{and_right}
use Rattle.laws.specs.Lists.{list_from}
use Rattle.units.specs.declared.SimTime.{SimTime}
use Rattle.layout.specs.Code.{Code, word, pair, iso, such}
use Rattle.layout.specs.Tables.{Table, Held}
use Rattle.layout.specs.UpTo.{up_to}
use Rattle.checks.specs.declared.Check.{Check}
use Rattle.checks.specs.declared.Check.TheVariants.{ElectionSafety, StateMachineSafety, ApplyOrder, UniqueEntries, Durability, Liveness, LogMatching, LeaderCompleteness}
use Rattle.checks.specs.declared.violations.Tally.{Tally}
use Rattle.checks.specs.declared.violations.Violation.{Violation as Numbers}
use Rattle.checks.specs.Checks.{Checker, Violation, check_number, max_recorded, report, report_if}

-- ---- a row

-- The checks in the order of their numbers.
abbrev pub checks : List Check
checks = ElectionSafety ∷ StateMachineSafety ∷ ApplyOrder ∷ UniqueEntries ∷ Durability ∷ Liveness ∷ LogMatching ∷ LeaderCompleteness ∷ []

-- The check with a number.
unfoldable pub check_of : ℕ → Check
check_of n = get_or checks n ElectionSafety

pub of_number : (c : Check) → check_of (check_number c) ≡ c
unfolding check_of
of_number ElectionSafety = refl
of_number StateMachineSafety = refl
of_number ApplyOrder = refl
of_number UniqueEntries = refl
of_number Durability = refl
of_number Liveness = refl
of_number LogMatching = refl
of_number LeaderCompleteness = refl

get_number : (cs : List Check) (n : ℕ) → check_number (get_or cs n ElectionSafety) ≡ get_or (map check_number cs) n 0
get_number [] n = refl
get_number (c ∷ cs) zero = refl
get_number (c ∷ cs) (suc n) = get_number cs n

get_from : (i n k : ℕ) → k < n → get_or (list_from i n (λ m. m)) k 0 ≡ i + k
unfolding list_from
get_from i zero k h = absurd (omega arith)
get_from i (suc n) zero h = omega arith
get_from i (suc n) (suc k) h = omega (arith, get_from (suc i) n k (omega arith))

numbered : map check_number checks ≡ list_from 0 8 (λ m. m)
unfolding list_from
numbered = refl

pub number_of : (n : ℕ) → n < 8 → check_number (check_of n) ≡ n
unfolding check_of
number_of n h = get_number checks n ∙ ap (λ (l : List ℕ). get_or l n 0) numbered ∙ (let e : 0 + n ≡ n = omega arith in get_from 0 8 n h ∙ e)

-- The numbers of a row: the time, the check's number, the numbers of the text.
abbrev pub triple : Code (ℕ × (ℕ × List ℕ))
triple = pair word (pair (such word (λ n. ltb n 8)) (up_to 5 (omega arith)))

-- The violation of a row's numbers.
abbrev pub from_triple : ℕ × (ℕ × List ℕ) → Violation
from_triple x = record { time = record { 0 = x.0 }; check = check_of x.1.0; detail = x.1.1 }

-- A row's numbers of a violation.
abbrev pub to_triple : Violation → ℕ × (ℕ × List ℕ)
to_triple v = (v.time.0, (check_number v.check, v.detail))

pub to_from : (v : Violation) → from_triple (to_triple v) ≡ v
to_from v = ap (λ (c : Check). record { time = v.time; check = c; detail = v.detail }) (of_number v.check)

pub from_to : (x : ℕ × (ℕ × List ℕ)) → triple.good x ≡ true → to_triple (from_triple x) ≡ x
from_to x h = ap (λ (n : ℕ). (x.0, (n, x.1.1))) (number_of x.1.0 (ltb-true _ 8 (and_right _ _ (and_left _ _ (and_right _ _ h)))))

-- A violation in 8 words.
abbrev pub violation_row : Code Violation
violation_row = iso triple from_triple to_triple to_from from_to

-- At most 32 violations, in the order in which they were reported.
abbrev pub violations : Table Violation
violations = record { row = violation_row; rule = λ x. leb (length x) max_recorded }

-- ---- what the code passes and answers

-- A violation as the code hands it out: its numbers, those that are not there as zeros.
abbrev pub given : Violation → Numbers
given v = record {
  time = v.time;
  check = check_number v.check;
  count = length v.detail;
  numbers = get_or v.detail 0 0 ∷ get_or v.detail 1 0 ∷ get_or v.detail 2 0 ∷ get_or v.detail 3 0 ∷ get_or v.detail 4 0 ∷ [];
}

-- Any violation, for `get_or`.
abbrev pub no_violation : Violation
no_violation = record { time = record { 0 = 0 }; check = ElectionSafety; detail = [] }

-- How many are kept after one more report.
abbrev pub kept_after : ℕ → ℕ
kept_after kept = pick (ltb kept max_recorded) (kept + 1) kept

-- The counts after one more report, if the total has 64 bits.
unfoldable pub tally : ℕ → ℕ → Option Tally
tally kept total = pick (ltb (total + 1) (2 ^ 64)) (Some (record { kept = kept_after kept; total = total + 1 })) None

-- A violation that is due was kept in b, which held `kept` of a checker's: how many are kept now, and what b' holds.
pub record Keeps (due : Bool) (time : SimTime) (check : Check) (detail : List ℕ) (kept r : ℕ) (b b' : List ℕ) : Type 0 where
  pub count : r ≡ pick due (kept_after kept) kept
  pub to : (c : Checker) (N : ℕ) → Held violations N kept b c.violations → Held violations N r b' (report_if due c time check detail).violations

-- A violation was reported to b, which held `kept` of the `total` violations of a checker: the counts, and what b' holds; nothing changed where the total is past 64 bits.
pub record Reports (time : SimTime) (check : Check) (detail : List ℕ) (kept total : ℕ) (r : Option Tally) (b b' : List ℕ) : Type 0 where
  pub answer : r ≡ tally kept total
  pub counted : total + 1 < 2 ^ 64 → (c : Checker) (N : ℕ) → Held violations N kept b c.violations
      → Held violations N (kept_after kept) b' (report c time check detail).violations
  pub past : 2 ^ 64 ≤ total + 1 → b' ≡ b
