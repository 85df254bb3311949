-- The simulated network (network.rs). Assumes nothing.
use Rattle.std.specs.Prelude.{Bool, true, false, not, ◌&&◌, ◌||◌, List, [], ◌∷◌, ◌≡◌, ℕ, zero, suc, ◌+◌, ◌-◌, ◌*◌, ◌/◌, ◌%◌, ◌^◌, ◌≤◌, max, leb, ltb, eqb, length, get_or, set, replicate, None, Some}
use Rattle.laws.specs.Bools.{pick, ◌and◌}
use Rattle.laws.specs.Lists.{list_from}
use Rattle.units.specs.declared.NodeId.{NodeId}
use Rattle.units.specs.declared.Duration.{Duration}
use Rattle.rng.specs.Rng.{under}
use Rattle.rng.specs.declared.Rng.{Rng}
use Rattle.network.specs.declared.Network.{Network}
use Rattle.network.specs.declared.Route.{Route}
use Rattle.network.specs.declared.Route.TheVariants.{Dropped, Delivered}
use Rattle.network.specs.declared.Routed.{Routed}
use Rattle.network.specs.declared.Delayed.{Delayed}
use Rattle.network.specs.declared.Chance.{Chance}

-- The denominator of probabilities in parts per million (PPM).
abbrev pub ppm : ℕ
ppm = 1_000_000

-- The network with another generator.
abbrev pub with_rng : Network → Rng → Network
with_rng n g =
    record {
      base_delay = n.base_delay;
      loss_ppm = n.loss_ppm;
      duplicate_ppm = n.duplicate_ppm;
      delay_factor = n.delay_factor;
      blocked = n.blocked;
      rng = g;
    }

-- The network with other blocked links.
abbrev pub with_blocked : Network → List Bool → Network
with_blocked n links =
    record {
      base_delay = n.base_delay;
      loss_ppm = n.loss_ppm;
      duplicate_ppm = n.duplicate_ppm;
      delay_factor = n.delay_factor;
      blocked = links;
      rng = n.rng;
    }

-- The network with other rates and another delay factor.
abbrev pub with_rates : Network → ℕ → ℕ → ℕ → Network
with_rates n loss duplication factor =
    record {
      base_delay = n.base_delay;
      loss_ppm = loss;
      duplicate_ppm = duplication;
      delay_factor = factor;
      blocked = n.blocked;
      rng = n.rng;
    }

-- No link blocked.
abbrev pub no_links : List Bool
no_links = replicate 64 false

-- A network without faults (Network::new).
abbrev pub new : Duration → Rng → Network
new delay g = record { base_delay = delay; loss_ppm = 0; duplicate_ppm = 0; delay_factor = 1; blocked = no_links; rng = g }

-- One message's delay (delay): half the base delay, rounded down, plus a draw up to the base delay, times the factor.
unfoldable pub delay : Network → Delayed
delay n =
    let d = n.base_delay.0 in
    let sample = under n.rng (d + 1) in
    record { delay = record { 0 = (d / 2 + sample.value) * n.delay_factor }; network = with_rng n sample.next }

-- Whether something of a probability happens (chance): a rate of 0 draws nothing.
unfoldable pub chance : Network → ℕ → Chance
chance n rate =
    let sample = under n.rng ppm in
    pick (eqb rate 0)
    (record { happens = false; draws = 0; network = n })
    (record { happens = ltb sample.value rate; draws = 1; network = with_rng n sample.next })

-- The place of a link among the blocked ones.
unfoldable pub link : NodeId → NodeId → ℕ
link from to = 8 * (from.0 - 1) + (to.0 - 1)

-- A delivered message: its delay, then perhaps a second copy with its own, after the draws so far.
unfoldable pub delivered : Network → ℕ → Routed
delivered n draws =
    let first = delay n in
    let twice = chance first.network n.duplicate_ppm in
    let second = delay twice.network in
    pick twice.happens
    (record { route = Delivered first.delay (Some second.delay); draws = draws + 1 + twice.draws + 1; network = second.network })
    (record { route = Delivered first.delay None; draws = draws + 1 + twice.draws; network = twice.network })

-- The fate of a message (route): a blocked link drops it without a draw; then loss, delay, duplication, second delay.
unfoldable pub route : Network → NodeId → NodeId → Routed
route n from to =
    let lost = chance n n.loss_ppm in
    pick (get_or n.blocked (link from to) false)
    (record { route = Dropped; draws = 0; network = n })
    (pick lost.happens
    (record { route = Dropped; draws = lost.draws; network = lost.network })
    (delivered lost.network lost.draws))

-- Whether server s is in group i of a partition: bit s - 1 of byte i.
abbrev pub in_group : ℕ → ℕ → ℕ → Bool
in_group groups i s = eqb (groups / 2 ^ (8 * i + (s - 1)) % 2) 1

-- Whether any of n numbers from i on passes a test.
unfoldable pub any_from : ℕ → ℕ → (ℕ → Bool) → Bool
any_from i zero f = false
any_from i (suc n) f = f i || any_from (suc i) n f

-- Whether server s is in a group other than group i.
unfoldable pub elsewhere : ℕ → ℕ → ℕ → Bool
elsewhere groups i s = any_from 0 8 (λ j. not (eqb i j) && in_group groups j s)

-- Whether servers a and b are in different groups of a partition; so is a server from itself, if it is in two.
unfoldable pub separated : ℕ → ℕ → ℕ → Bool
separated groups a b = any_from 0 8 (λ i. in_group groups i a && elsewhere groups i b)

-- Every link between servers in different groups blocked, in both directions (partition).
unfoldable pub partition : Network → ℕ → Network
partition n groups = with_blocked n (list_from 0 64 (λ k. get_or n.blocked k false || separated groups (k / 8 + 1) (k % 8 + 1)))

-- One link blocked (block).
abbrev pub block : Network → NodeId → NodeId → Network
block n from to = with_blocked n (set n.blocked (link from to) true)

-- One link unblocked (unblock).
abbrev pub unblock : Network → NodeId → NodeId → Network
unblock n from to = with_blocked n (set n.blocked (link from to) false)

-- Every link unblocked (heal_links).
abbrev pub heal_links : Network → Network
heal_links n = with_blocked n no_links

-- The loss rate set (simulation.rs, apply_fault).
abbrev pub set_loss : Network → ℕ → Network
set_loss n rate = with_rates n rate n.duplicate_ppm n.delay_factor

-- The duplication rate set.
abbrev pub set_duplication : Network → ℕ → Network
set_duplication n rate = with_rates n n.loss_ppm rate n.delay_factor

-- The delay factor set; 0 acts as 1.
abbrev pub set_delay_factor : Network → ℕ → Network
set_delay_factor n factor = with_rates n n.loss_ppm n.duplicate_ppm (max factor 1)

-- Links, rates and factor without faults (simulation.rs, HealAll).
abbrev pub heal_all : Network → Network
heal_all n = with_rates (heal_links n) 0 0 1

-- Whether the link at a place has both ends in a cluster of S servers.
unfoldable pub link_within : ℕ → ℕ → Bool
link_within S k = ltb (k / 8) S and ltb (k % 8) S

-- Whether each blocked link of a list, whose first stands at place k, has both ends in a cluster of S servers.
unfoldable pub links_within : ℕ → ℕ → List Bool → Bool
links_within S k [] = true
links_within S k (b ∷ bs) = pick b (link_within S k) true and links_within S (suc k) bs

-- Whether every field is in its range in a cluster of S servers: document 01's limits, 64 links, and none blocked beyond S.
unfoldable pub network_in_range : ℕ → Network → Bool
network_in_range S n =
    leb n.base_delay.0 (2 ^ 40)
    and ltb n.loss_ppm (2 ^ 32)
    and ltb n.duplicate_ppm (2 ^ 32)
    and leb 1 n.delay_factor
    and leb n.delay_factor 65_536
    and eqb (length n.blocked) 64
    and links_within S 0 n.blocked

-- The number of ordered pairs of servers whose link is blocked.
unfoldable pub count_true : List Bool → ℕ
count_true [] = 0
count_true (b ∷ bs) = pick b 1 0 + count_true bs

-- The ordered pairs of servers whose link is blocked.
abbrev pub blocked_pairs : Network → ℕ
blocked_pairs n = count_true n.blocked

-- A base delay and a factor whose delays fit 64 bits.
pub record DelaysFit (n : Network) : Type 0 where
  pub base : n.base_delay.0 ≤ 2 ^ 40
  pub factor : n.delay_factor ≤ 65_536

-- Whether the delays of a route are below 2 ^ 57 nanoseconds.
abbrev pub delays_below : Route → Bool
delays_below Dropped = true
delays_below (Delivered d None) = ltb d.0 (2 ^ 57)
delays_below (Delivered d (Some e)) = ltb d.0 (2 ^ 57) and ltb e.0 (2 ^ 57)

-- The bounds of a route for its caller.
pub record Bounds (r : Routed) : Type 0 where
  pub few : r.draws ≤ 4
  pub below : delays_below r.route ≡ true
  pub delays : DelaysFit r.network
