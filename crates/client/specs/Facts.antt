-- Facts of the definitions: what is too short has no key. Assumes nothing.
use Rattle.std.specs.Prelude.{◌≡◌, List, ℕ, ◌<◌, length, None}
use Rattle.std.proofs.Common.{lt-ltb}
use Rattle.client.specs.Key.{decode}

pub short : (command : List ℕ) → length command < 12 → None ≡ decode command
unfolding decode
short command h = rw (lt-ltb _ _ h)
