-- Facts of the definitions: what the second number of a waiting write must be, by the mark of its kind. Assumes nothing.
use Rattle.std.specs.Prelude.{◌≡◌, refl, true, ℕ, zero, suc, ◌≤◌, ◌<◌, eqb}
use Rattle.std.proofs.Common.{arith}
use Rattle.storage.specs.Waiting.{plain_mark}

pub plain_state : (m b : ℕ) → m < 1 → eqb b 0 ≡ plain_mark m b
unfolding plain_mark
plain_state zero b h = refl
plain_state (suc m) b h = absurd (omega arith)

pub plain_vote : (m b : ℕ) → 1 ≤ m → m < 2 → true ≡ plain_mark m b
unfolding plain_mark
plain_vote zero b h k = absurd (omega arith)
plain_vote (suc zero) b h k = refl
plain_vote (suc (suc m)) b h k = absurd (omega arith)

pub plain_truncate : (m b : ℕ) → 2 ≤ m → m < 3 → eqb b 0 ≡ plain_mark m b
unfolding plain_mark
plain_truncate zero b h k = absurd (omega arith)
plain_truncate (suc zero) b h k = absurd (omega arith)
plain_truncate (suc (suc zero)) b h k = refl
plain_truncate (suc (suc (suc m))) b h k = absurd (omega arith)

pub plain_put : (m b : ℕ) → 3 ≤ m → true ≡ plain_mark m b
unfolding plain_mark
plain_put zero b h = absurd (omega arith)
plain_put (suc zero) b h = absurd (omega arith)
plain_put (suc (suc zero)) b h = absurd (omega arith)
plain_put (suc (suc (suc m))) b h = refl
