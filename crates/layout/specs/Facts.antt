-- Facts of the definitions: so many rows as a part of that many words has room for lie in it. Assumes nothing.
use Rattle.std.specs.Prelude.{ℕ, ◌*◌, ◌/◌, ◌≤◌, ◌<◌}
use Rattle.std.proofs.Common.{le-div_iff_mul-le}

pub room : (n w x : ℕ) → 0 < w → n ≤ x / w → n * w ≤ x
room n w x h k = (le-div_iff_mul-le h).0 k
