-- A server started, stopped or restarted: what the contracts of servers.rt cite. Assumes nothing.
use Rattle.std.specs.Prelude.{◌≡◌, Bool, true, false, List, ℕ, ◌+◌, ◌^◌, ◌<◌, ltb, None}
use Rattle.laws.specs.Bools.{◌and◌}
use Rattle.seeds.specs.Seeds.{stream_seed}
use Rattle.seeds.specs.declared.Stream.TheVariants as stream
use Rattle.queue.specs.Range.{word}
use Rattle.model.specs.State.{State, Server, Owed, nothing, construction, healing, server_at, id_of}
use Rattle.model.specs.Simulation.{open_start, Moved, start_server, stop_server, restart_server}
use Rattle.model.specs.Fits.{state_fits}
use Rattle.state.specs.declared.Capacity.{Capacity}
use Rattle.state.specs.declared.ServerState.{ServerState}
use Rattle.state.specs.Area.{Area, capacity_of}
use Rattle.state.specs.Changes.{Changes}
use Rattle.answers.specs.declared.InputNumbers.{InputNumbers}
use Rattle.answers.specs.Answers.{input_of}
use Rattle.sim_owed.specs.declared.Owed.{Owed as OwedKind}
use Rattle.sim_owed.specs.declared.Owed.TheVariants.{Nothing, Construction, Healing}

-- ---- what is owed

-- What is owed, as the model has it.
unfoldable pub owed_of : OwedKind → Owed
owed_of Nothing = nothing
owed_of (Construction place) = construction place
owed_of (Healing place) = healing place

-- Its number in an open input.
unfoldable pub kind_of : OwedKind → ℕ
kind_of Nothing = 0
kind_of (Construction place) = 1
kind_of (Healing place) = 2

-- The place from which it goes on, or 0.
unfoldable pub place_of : OwedKind → ℕ
place_of Nothing = 0
place_of (Construction place) = place
place_of (Healing place) = place

-- ---- a move that may open an input

-- Whatever state with these counts the bytes b hold: where the state that a move gives fits, b' hold it, and r are the numbers of the input that it opens.
pub record Opens (b b' : List ℕ) (F : Capacity) (r : InputNumbers) (move : State → Moved) : Type 0 where
  pub changes : Changes b b' F (λ s. (move s).state)
  pub input : (s : State) → Area b s → F ≡ capacity_of s → state_fits (move s).state ≡ true → r ≡ input_of (move s).opening

-- ---- a start

-- r are the numbers of the start of the server at a place, in an incarnation of 32 bits.
pub record StartsAs (seed slot incarnation : ℕ) (r : InputNumbers) : Type 0 where
  pub is : incarnation < 2 ^ 32 → r ≡ input_of (open_start (id_of slot) incarnation (stream_seed seed (stream.Server (id_of slot) incarnation)))

-- The start of the server at a place, with what is owed behind it.
unfoldable pub start_at : ℕ → Owed → State → Moved
start_at slot owed s = start_server s slot owed

-- ---- a stop

-- The state of a server that has stopped.
unfoldable pub stopped_state : ServerState → ServerState
stopped_state x = record {
  status = None;
  incarnation = x.incarnation;
  election = x.election;
  heartbeat = x.heartbeat;
  crash_on_next_input = false;
  next_apply = x.next_apply;
  pending = x.pending;
  leading = None;
}

-- The simulation with the server at a place stopped.
unfoldable pub stop_at : ℕ → State → State
stop_at slot s = stop_server s slot

-- ---- a restart

-- The state of a server that restarts.
unfoldable pub restarted_state : ServerState → ServerState
restarted_state x = record {
  status = x.status;
  incarnation = x.incarnation + 1;
  election = x.election + 1;
  heartbeat = x.heartbeat + 1;
  crash_on_next_input = x.crash_on_next_input;
  next_apply = 1;
  pending = x.pending;
  leading = x.leading;
}

-- r is the state x restarted, where its three numbers have 64 bits then.
pub record Restarts (x r : ServerState) : Type 0 where
  pub is : word (x.incarnation + 1) ≡ true → word (x.election + 1) ≡ true → word (x.heartbeat + 1) ≡ true → r ≡ restarted_state x

-- Whether a server's incarnation has 32 bits and its timer generations have 64 once it is restarted.
unfoldable pub can_rise : Server → Bool
can_rise v = ltb (v.incarnation + 1) (2 ^ 32) and (word (v.election + 1) and word (v.heartbeat + 1))

-- Whether the server at a place can restart.
unfoldable pub restart_test : ℕ → State → Bool
restart_test slot s = can_rise (server_at s slot)

-- The restart of the server at a place, with what is owed behind it.
unfoldable pub restart_at : ℕ → Owed → State → Moved
restart_at slot owed s = restart_server s slot owed
