-- What goes on once an input is closed: what the contracts of closes.rt cite, and what a caller says of the state in which it closes one. Assumes nothing.
use Rattle.std.specs.Prelude.{◌≡◌, Bool, true, false, List, map, ℕ, zero, suc, ◌+◌, ◌-◌, ◌≤◌, max, eqb, ltb, length, get_or, set}
use Rattle.laws.specs.Bools.{pick}
use Rattle.laws.specs.Lists.{is_some}
use Rattle.config.specs.declared.SimConfig.{SimConfig}
use Rattle.config.specs.declared.Limits.{Limits}
use Rattle.model.specs.State.{State, Server, Owed, nothing, construction, healing, Phase}
use Rattle.model.specs.Fields.{with_crash_on_next_input}
use Rattle.model.specs.Simulation.{Moved, on_server, running, idle, construct_from, heal_from, close_input}
use Rattle.model.specs.Fits.{phase_fits}
use Rattle.state.specs.declared.Capacity.{Capacity}
use Rattle.state.specs.declared.ServerState.{ServerState}
use Rattle.state.specs.Area.{Area, capacity_of}
use Rattle.state.specs.Lens.{ServersIn}
use Rattle.state.specs.Changes.{Inside, Changes, Reads}
use Rattle.state_queue.specs.Events.{queue_room}
use Rattle.answers.specs.declared.InputNumbers.{InputNumbers}
use Rattle.sim_owed.specs.Servers.{Opens, can_rise, restart_test}

-- ---- nothing is owed

-- No input is open.
unfoldable pub idle_at : State → Moved
idle_at s = idle s

-- ---- the construction

-- The construction from a place on.
unfoldable pub construct_at : ℕ → State → Moved
construct_at place s = construct_from s place

-- Whether it can go on, behind so many pushes: after the last server each client needs room for an event.
unfoldable pub construct_test : ℕ → ℕ → State → Bool
construct_test place more s = pick (ltb place s.config.servers) true (queue_room (more + s.config.clients) s)

-- ---- a HealAll

-- Whether the server at a place runs.
unfoldable pub runs_at : ℕ → State → Bool
runs_at place s = running s place

-- Whether it runs, if the server at `slot` does as told.
unfoldable pub runs_as : ℕ → ℕ → Bool → State → Bool
runs_as place slot runs s = pick (eqb place slot) runs (running s place)

-- Whether each server runs, in order.
unfoldable pub flags_of : State → List Bool
flags_of s = map (λ v. is_some v.status) s.servers

-- The first place from one on, of so many, whose flag is false; else the place behind them.
unfoldable pub first_stopped : List Bool → ℕ → ℕ → ℕ
first_stopped flags place zero = place
first_stopped flags place (suc left) = pick (get_or flags place false) (first_stopped flags (suc place) left) place

-- The first place from one on where a server is stopped, if the one at `slot` runs as told; else the place behind the last server.
unfoldable pub stopped_from : ℕ → ℕ → Bool → State → ℕ
stopped_from place slot runs s = first_stopped (set (flags_of s) slot runs) place (s.config.servers - place)

-- The servers from one place up to another run: the search from the first goes on from the second.
pub record Seeking (b : List ℕ) (F : Capacity) (place slot : ℕ) (runs : Bool) (k : ℕ) : Type 0 where
  pub same : (s : State) → Area b s → F ≡ capacity_of s → stopped_from place slot runs s ≡ stopped_from k slot runs s

-- The same, with the second place at most the first or the end.
pub record Sought (b : List ℕ) (F : Capacity) (place slot : ℕ) (runs : Bool) (k : ℕ) : Type 0 where
  pub seeking : Seeking b F place slot runs k
  pub upto : k ≤ max place F.servers

-- Whether the server at a place, if there is one, can restart.
unfoldable pub stopped_test : ℕ → State → Bool
stopped_test place s = pick (ltb place s.config.servers) (restart_test place s) true

-- Whether a HealAll can go on from a place, if the server at `slot` runs as told.
unfoldable pub heal_test : ℕ → ℕ → Bool → State → Bool
heal_test place slot runs s = stopped_test (stopped_from place slot runs s) s

-- A HealAll from a place on.
unfoldable pub heal_at : ℕ → State → Moved
heal_at place s = heal_from s place (length s.servers - place)

-- A server's state with its next input not cut.
unfoldable pub uncrashed_state : ServerState → ServerState
uncrashed_state x = record {
  status = x.status;
  incarnation = x.incarnation;
  election = x.election;
  heartbeat = x.heartbeat;
  crash_on_next_input = false;
  next_apply = x.next_apply;
  pending = x.pending;
  leading = x.leading;
}

-- The simulation with the crash flag of the server at a place cleared.
unfoldable pub uncrashed_at : ℕ → State → State
uncrashed_at place s = on_server s place (λ v. with_crash_on_next_input v false)

-- The crash flag of the server at a place is cleared, and r says whether it runs.
pub record HealsOne (b b' : List ℕ) (F : Capacity) (place : ℕ) (r : Bool) : Type 0 where
  pub changes : Changes b b' F (uncrashed_at place)
  pub runs : Reads b F r (runs_at place)

-- The servers from one place up to another run, and their crash flags are cleared: what a HealAll does from the second on does it from the first.
pub record HealedTo (b : List ℕ) (F : Capacity) (place : ℕ) (b' : List ℕ) (k : ℕ) : Type 0 where
  pub inside : Inside b' F
  pub long : length b' ≡ length b
  pub whole : (b₂ : List ℕ) (r : InputNumbers) → Opens b' b₂ F r (heal_at k) → Opens b b₂ F r (heal_at place)

-- ---- an input is closed

-- What was owed goes on.
unfoldable pub close_at : Owed → State → Moved
close_at owed s = close_input s owed

-- Whether it can, behind so many pushes, if the server at `slot` runs as told.
unfoldable pub close_test : Owed → ℕ → ℕ → Bool → State → Bool
close_test nothing more slot runs s = true
close_test (construction place) more slot runs s = construct_test place more s
close_test (healing place) more slot runs s = heal_test place slot runs s

-- The phase and the servers of a state are in range.
pub record Settled (config : SimConfig) (limits : Limits) (at : Phase) (vs : List Server) : Type 0 where
  pub phase : phase_fits config limits at ≡ true
  pub servers : ServersIn config limits vs

-- Those of this state are.
abbrev pub SettledIn : State → Type 0
SettledIn t = Settled t.config t.limits t.phase t.servers

-- t is s behind a caller's changes: phase and servers in range, so many events more, and the server at `slot` running as told; its incarnations and
-- generations are those of s.
pub record Agrees (s : State) (more slot : ℕ) (runs : Bool) (t : State) : Type 0 where
  pub capacity : capacity_of t ≡ capacity_of s
  pub settled : SettledIn t
  pub queue : length t.queue ≡ length s.queue + more
  pub rise : map can_rise t.servers ≡ map can_rise s.servers
  pub flags : flags_of t ≡ set (flags_of s) slot runs
