-- Facts of the definitions: a kind that is none of the first n, and a kind that is none of all. Assumes nothing.
use Rattle.std.specs.Prelude.{◌≡◌, ℕ, zero, suc, ◌≤◌, None}
use Rattle.std.proofs.Common.{sym, arith}
use Rattle.std.proofs.Math.ListN.{get_or-eq_default}
use Rattle.faults.specs.Fault.{faults_of, fault_of}

-- A kind is none of the first n.
abbrev pub Others : ℕ → ℕ → Type 0
Others kind zero = Unit {0}
Others kind (suc n) = Others kind n × (kind ≡ n → ⊥)

pub others_above : (kind n : ℕ) → Others kind n → n ≤ kind
others_above kind zero h = omega arith
others_above kind (suc n) h = omega (arith, others_above kind n h.0, h.1)

pub no_arm : (kind a b : ℕ) → Others kind 12 → None ≡ fault_of kind a b
unfolding fault_of
no_arm kind a b h = sym (get_or-eq_default (faults_of a b) None (others_above kind 12 h))
