-- Facts of the definitions: a draw below zero, and the number of what a draw below a bound answers, case by case. Assumes nothing.
use Rattle.std.specs.Prelude.{◌≡◌, ◌≢◌, ℕ, None}
use Rattle.std.proofs.Common.{eq-eqb, ne_eqb}
use Rattle.rng.specs.declared.Rng.{Rng}
use Rattle.rng.specs.Rng.{below, below_number}

pub below_zero : (g : Rng) (bound : ℕ) → bound ≡ 0 → record { value = None; next = g } ≡ below g bound
unfolding below
below_zero g bound e = simp (eq-eqb bound 0 e)

pub number_zero : (bound : ℕ) → bound ≡ 0 → 9 ≡ below_number bound
unfolding below_number
number_zero bound e = simp (eq-eqb bound 0 e)

pub number_positive : (bound : ℕ) → (bound ≢ 0) → 0 ≡ below_number bound
unfolding below_number
number_positive bound n = simp (ne_eqb bound 0 n)
