-- Servers against the highest acknowledged index (servers.rt). Assumes nothing.
use Rattle.std.specs.Prelude.{◌≡◌, List, [], ◌∷◌, ℕ, suc, ◌+◌, ◌≤◌, ltb}
use Rattle.laws.specs.Bools.{pick}
use Rattle.checks.specs.Checks.{AppliedUpTo}

-- How far each server has applied, from an id on.
unfoldable pub servers_from : ℕ → List ℕ → List AppliedUpTo
servers_from id [] = []
servers_from id (k ∷ ks) = record { server = record { 0 = id }; up_to = k } ∷ servers_from (suc id) ks

-- How many have applied less than the highest index.
unfoldable pub below : ℕ → List ℕ → ℕ
below highest [] = 0
below highest (k ∷ ks) = pick (ltb k highest) 1 0 + below highest ks

-- r of some servers, at most 8, have applied less than the highest index.
pub record CountsBelow (highest : ℕ) (up_to : List ℕ) (r : ℕ) : Type 0 where
  pub is : r ≡ below highest up_to
  pub most : r ≤ 8
