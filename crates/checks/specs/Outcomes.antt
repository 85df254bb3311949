-- What the checks that ask for the total first have in common: the violations due, counted, and what became of the regions. Assumes
-- nothing.
use Rattle.std.specs.Prelude.{◌≡◌, Bool, List, ℕ, ◌^◌, ◌≤◌, Option, None, Some}
use Rattle.laws.specs.Bools.{pick}
use Rattle.layout.specs.Tables.{Held}
use Rattle.checks.specs.declared.violations.Tally.{Tally}
use Rattle.checks.specs.Checks.{Checker}
use Rattle.checks.specs.Violations.{violations}

-- One where a test is true.
abbrev pub one_if : Bool → ℕ
one_if b = pick b 1 0

-- What became of the region v of violations, where the unlimited definition gives the checks c: it holds its violations, and the counts are
-- its own; or its total is past
-- 64 bits, and nothing changed.
pub record Told (M : ℕ) (v' : List ℕ) (c : Checker) (kept total : ℕ) : Type 0 where
  pub held : Held violations M kept v' c.violations
  pub counted : c.total ≡ total

pub record Untold (v v' : List ℕ) (c : Checker) : Type 0 where
  pub same : v' ≡ v
  pub past : 2 ^ 64 ≤ c.total

abbrev pub Outcome : Option Tally → (M : ℕ) (v v' : List ℕ) → Checker → Type 0
Outcome (Some t) M v v' c = Told M v' c t.kept t.total
Outcome None M v v' c = Untold v v' c
