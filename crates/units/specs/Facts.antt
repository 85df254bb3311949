-- Facts of the definitions: what a sum of times and a difference are, case by case. Assumes nothing.
use Rattle.std.specs.Prelude.{◌≡◌, ℕ, ◌+◌, ◌^◌, ◌≤◌, ◌<◌, None, Some}
use Rattle.std.proofs.Common.{ap, arith, lt-ltb, le-ltb}
use Rattle.units.specs.declared.SimTime.{SimTime}
use Rattle.units.specs.declared.Duration.{Duration}
use Rattle.units.specs.Time.{plus, minus, plus_number}

pub plus_fits : (t : SimTime) (d : Duration) → t.0 + d.0 < 2 ^ 64 → Some (record { 0 = t.0 + d.0 }) ≡ plus t d
unfolding plus
plus_fits t d h = simp (lt-ltb (t.0 + d.0) (2 ^ 64) h)

pub plus_past : (t : SimTime) (d : Duration) → 2 ^ 64 ≤ t.0 + d.0 → None ≡ plus t d
unfolding plus
plus_past t d h = simp (le-ltb (t.0 + d.0) (2 ^ 64) h)

pub number_fits : (t : SimTime) (d : Duration) → t.0 + d.0 < 2 ^ 64 → 0 ≡ plus_number t d
unfolding plus_number
number_fits t d h = simp (lt-ltb (t.0 + d.0) (2 ^ 64) h)

pub number_past : (t : SimTime) (d : Duration) → 2 ^ 64 ≤ t.0 + d.0 → 10 ≡ plus_number t d
unfolding plus_number
number_past t d h = simp (le-ltb (t.0 + d.0) (2 ^ 64) h)

pub minus_later : (t earlier : SimTime) → t.0 < earlier.0 → record { 0 = 0 } ≡ minus t earlier
unfolding minus
minus_later t earlier h = ap (λ (n : ℕ). record { 0 = n }) (omega arith)
