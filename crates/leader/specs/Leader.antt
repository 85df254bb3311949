-- The leader of a cluster (simulation.rs, leader): of the running servers that lead, the one with the highest term; among equals the last. Assumes nothing.
use Rattle.std.specs.Prelude.{Bool, true, ◌&&◌, List, [], ◌∷◌, ℕ, leb, Option, None, Some}
use Rattle.std.specs.Option.{unwrap_or}
use Rattle.laws.specs.Bools.{pick}
use Rattle.protocol.specs.Numbers.{role_of, leads}
use Rattle.protocol.specs.declared.Role.TheVariants.{Follower}
use Rattle.leader.specs.declared.Reported.{Reported}
use Rattle.leader.specs.declared.Leading.{Leading}

-- Whether a server's term is at least that of the leader so far, if there is one.
abbrev pub not_below : Option Leading → Reported → Bool
not_below None r = true
not_below (Some l) r = leb l.term.0 r.status.term.0

-- The leader so far, or the next server where it leads and its term is not below.
unfoldable pub better : Option Leading → Reported → Option Leading
better best r = pick (leads r.status.role && not_below best r) (Some (record { id = r.id; term = r.status.term })) best

-- The leader so far after the servers that are left.
unfoldable pub leader_from : Option Leading → List Reported → Option Leading
leader_from best [] = best
leader_from best (r ∷ rs) = leader_from (better best r) rs

-- The leader of a list of servers.
unfoldable pub leader : List Reported → Option Leading
leader reported = leader_from None reported

-- ---- servers as numbers

-- A server from its id, its role's number and its term; a number that is no role's counts as a follower's. What the choice of a leader does not
-- look at is left out: it follows none, and has committed nothing.
unfoldable pub reported_of : ℕ → ℕ → ℕ → Reported
reported_of id role term = record {
  id = record { 0 = id };
  status = record { role = unwrap_or (role_of role) Follower; term = record { 0 = term }; leader = None; commit_index = record { 0 = 0 } };
}

-- The servers of three lists of numbers, place by place.
unfoldable pub zip_reported : List ℕ → List ℕ → List ℕ → List Reported
zip_reported [] roles terms = []
zip_reported (id ∷ ids) [] terms = []
zip_reported (id ∷ ids) (role ∷ roles) [] = []
zip_reported (id ∷ ids) (role ∷ roles) (term ∷ terms) = reported_of id role term ∷ zip_reported ids roles terms
