-- Simulated time (time.rs). Assumes nothing.
use Rattle.std.specs.Prelude.{ℕ, ◌+◌, ◌-◌, ◌^◌, ltb, Option, None, Some}
use Rattle.laws.specs.Bools.{pick}
use Rattle.units.specs.declared.SimTime.{SimTime}
use Rattle.units.specs.declared.Duration.{Duration}

-- The time so long after a time, if it fits 64 bits.
unfoldable pub plus : SimTime → Duration → Option SimTime
plus t d = pick (ltb (t.0 + d.0) (2 ^ 64)) (Some (record { 0 = t.0 + d.0 })) None

-- The time from an earlier time to a later one, and zero between times in the other order: ℕ's difference is never below zero.
unfoldable pub minus : SimTime → SimTime → Duration
minus t earlier = record { 0 = t.0 - earlier.0 }

-- Document 01's number for what a sum answers.
abbrev pub sum_number : Option SimTime → ℕ
sum_number (Some t) = 0
sum_number None = 10

-- Question 10 of a sum: it fits 64 bits.
unfoldable pub plus_number : SimTime → Duration → ℕ
plus_number t d = pick (ltb (t.0 + d.0) (2 ^ 64)) 0 10
