-- Facts of the definitions: document 01's number for a total with more reports, by whether it fits 64 bits. Assumes nothing.
use Rattle.std.specs.Prelude.{◌≡◌, Bool, ℕ, ◌+◌, ◌-◌, ◌^◌, ◌≤◌, ◌<◌, ltb}
use Rattle.std.proofs.Common.{sym, ap, arith, Fits, lt-ltb, le-ltb}
use Rattle.std.specs.Int.{w64}
use Rattle.laws.specs.Bools.{pick}

-- Document 01's number for a total: 10 where it does not fit 64 bits.
unfoldable pub total_code : ℕ → ℕ
total_code total = pick (ltb total (2 ^ 64)) 0 10

module _ (total more : ℕ) where
  pub total_past : 18446744073709551615 - more < total → 10 ≡ total_code (total + more)
  unfolding total_code
  total_past h = sym (ap (λ (b : Bool). pick b 0 10) (le-ltb (total + more) (2 ^ 64) (omega arith)))

  pub total_fits : Fits w64 more → total ≤ 18446744073709551615 - more → 0 ≡ total_code (total + more)
  unfolding total_code
  total_fits f h = sym (ap (λ (b : Bool). pick b 0 10) (lt-ltb (total + more) (2 ^ 64) (omega (arith, f.fits))))

pub ruleset total_codes = (total_past, total_fits)
