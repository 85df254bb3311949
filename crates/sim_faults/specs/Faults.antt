-- Faults that happen (apply_fault): what the contracts cite, question 10 of each, and what it asks of a state. Assumes nothing.
use Rattle.std.specs.Prelude.{◌≡◌, Bool, true, List, ℕ, ◌+◌, ◌≤◌, Option, None, Some}
use Rattle.laws.specs.Bools.{pick}
use Rattle.units.specs.declared.NodeId.{NodeId}
use Rattle.units.specs.declared.SimTime.{SimTime}
use Rattle.units.specs.declared.Duration.{Duration}
use Rattle.config.specs.declared.SimConfig.{SimConfig}
use Rattle.config.specs.declared.Limits.{Limits}
use Rattle.faults.specs.declared.Fault.{Fault}
use Rattle.faults.specs.declared.Fault.TheVariants.{Crash, CrashDuringNextInput, Restart, CrashLeader, Partition, Block, Unblock, HealLinks, SetLoss, SetDuplication, SetDelayFactor, HealAll}
use Rattle.network.specs.Network as network
use Rattle.network.specs.Ranges.{InRange}
use Rattle.network.specs.declared.Network.{Network}
use Rattle.queue.specs.Range.{word}
use Rattle.queue.specs.declared.Event.TheVariants as event
use Rattle.model.specs.State.{State, Server, Phase, slot_of}
use Rattle.model.specs.Fields.{with_network, with_crash_on_next_input}
use Rattle.model.specs.Simulation.{Moved, on_server, later, running, idle, leader_of, schedule_fault, stop_server, apply_fault}
use Rattle.state.specs.declared.Capacity.{Capacity}
use Rattle.state.specs.declared.ServerState.{ServerState}
use Rattle.answers.specs.declared.InputNumbers.{InputNumbers}
use Rattle.state_queue.specs.Events.{pushed, plain}
use Rattle.sim_owed.specs.Servers.{Opens, stop_at, restart_test}
use Rattle.sim_owed.specs.Closes.{heal_test, Settled}
use Rattle.leader.specs.declared.Leading.{Leading}

-- ---- what happens

-- A fault happens.
unfoldable pub fault_at : Fault → State → Moved
fault_at fault s = apply_fault s fault

-- The network after a fault of it; any other fault leaves it.
unfoldable pub network_after : Fault → Network → Network
network_after (Crash id) n = n
network_after (CrashDuringNextInput id) n = n
network_after (Restart id) n = n
network_after (CrashLeader downtime) n = n
network_after (Partition groups) n = network.partition n groups
network_after (Block from to) n = network.block n from to
network_after (Unblock from to) n = network.unblock n from to
network_after HealLinks n = network.heal_links n
network_after (SetLoss rate) n = network.set_loss n rate
network_after (SetDuplication rate) n = network.set_duplication n rate
network_after (SetDelayFactor factor) n = network.set_delay_factor n factor
network_after HealAll n = network.heal_all n

-- A fault of the network happens: no input opens.
unfoldable pub network_move : Fault → State → Moved
network_move fault s = idle (with_network s (network_after fault s.network))

-- A server's state with its next input cut.
unfoldable pub crashing_state : ServerState → ServerState
crashing_state x = record {
  status = x.status;
  incarnation = x.incarnation;
  election = x.election;
  heartbeat = x.heartbeat;
  crash_on_next_input = true;
  next_apply = x.next_apply;
  pending = x.pending;
  leading = x.leading;
}

-- The simulation with the crash flag of the server at a place set.
unfoldable pub crashing_at : ℕ → State → State
crashing_at slot s = on_server s slot (λ v. with_crash_on_next_input v true)

-- The simulation with a server stopped and its restart scheduled at a time.
unfoldable pub stop_scheduled : NodeId → SimTime → State → State
stop_scheduled id time s = pushed (plain time (event.Fault (Restart id))) (stop_at (slot_of id) s)

-- A server is stopped and its restart scheduled: no input opens.
unfoldable pub stop_move : NodeId → Duration → State → Moved
stop_move id downtime s = idle (schedule_fault (stop_server s (slot_of id)) (later s.now downtime) (Restart id))

-- ---- question 10

-- Of a leader that is stopped: its restart is due at a time of 64 bits.
unfoldable pub leader_test : Option Leading → SimTime → Duration → Bool
leader_test None time downtime = true
leader_test (Some l) time downtime = word (time.0 + downtime.0)

-- The same of the leader of a state.
unfoldable pub leader_fits : SimTime → Duration → State → Bool
leader_fits time downtime s = leader_test (leader_of s) time downtime

-- Of a restart: a server that runs does not restart.
unfoldable pub restart_fits : NodeId → State → Bool
restart_fits id s = pick (running s (slot_of id)) true (restart_test (slot_of id) s)

-- Whether a fault that happens at a time gives a state that fits, where there is room for an event. It reads only settings and servers.
unfoldable pub fault_test : Fault → SimTime → State → Bool
fault_test (Crash id) time s = true
fault_test (CrashDuringNextInput id) time s = true
fault_test (Restart id) time s = restart_fits id s
fault_test (CrashLeader downtime) time s = leader_fits time downtime s
fault_test (Partition groups) time s = true
fault_test (Block from to) time s = true
fault_test (Unblock from to) time s = true
fault_test HealLinks time s = true
fault_test (SetLoss rate) time s = true
fault_test (SetDuplication rate) time s = true
fault_test (SetDelayFactor factor) time s = true
fault_test HealAll time s = heal_test 0 s.config.servers true s

-- The phase, the servers and the network of a state are in range, and there are at most 8 servers.
pub record Ready (config : SimConfig) (limits : Limits) (at : Phase) (vs : List Server) (n : Network) : Type 0 where
  pub settled : Settled config limits at vs
  pub network : InRange config.servers n
  pub delay : n.base_delay.0 ≡ config.one_way_delay.0
  pub rng : word n.rng.state ≡ true
  pub few : config.servers ≤ 8

-- Those of this state are.
abbrev pub ReadyIn : State → Type 0
ReadyIn t = Ready t.config t.limits t.phase t.servers t.network

-- ---- what the code asks

-- The id is one of the cluster's.
pub record Known (F : Capacity) (id : NodeId) : Type 0 where
  pub low : 1 ≤ id.0
  pub high : id.0 ≤ F.servers

-- The servers of a link that a fault names have ids of 1 to 8.
pub record Aimed (fault : Fault) : Type 0 where
  pub block : (from to : NodeId) → fault ≡ Block from to → ((1 ≤ from.0) × (from.0 ≤ 8)) × ((1 ≤ to.0) × (to.0 ≤ 8))
  pub unblock : (from to : NodeId) → fault ≡ Unblock from to → ((1 ≤ from.0) × (from.0 ≤ 8)) × ((1 ≤ to.0) × (to.0 ≤ 8))

-- Where the id is one of the cluster's, its server is stopped and its restart scheduled.
pub record StopsKnown (b b' : List ℕ) (F : Capacity) (id : NodeId) (downtime : Duration) (r : InputNumbers) : Type 0 where
  pub to : Known F id → Opens b b' F r (stop_move id downtime)
