-- What an event asks and does once it is taken: what the contracts cite. Assumes nothing.
use Rattle.std.specs.Prelude.{◌≡◌, Bool, true, false, not, ◌&&◌, List, ℕ, ◌≤◌, eqb, length, Option, None, Some}
use Rattle.laws.specs.Bools.{pick}
use Rattle.units.specs.declared.NodeId.{NodeId}
use Rattle.protocol.specs.declared.Timer.{Timer}
use Rattle.protocol.specs.declared.Role.{Role}
use Rattle.protocol.specs.declared.Role.TheVariants.{Follower, Candidate, Leader}
use Rattle.metrics.specs.Metrics.{counters_fit, deliver_to_leader}
use Rattle.queue.specs.declared.Event.{Event}
use Rattle.model.specs.State.{State, from_client, message_input, timer_input, propose_input, nothing, writing, server_at, slot_of}
use Rattle.model.specs.Fields.{with_metrics, with_phase}
use Rattle.model.specs.Simulation.{Moved, running, contends, process}
use Rattle.state.specs.declared.Capacity.{Capacity}
use Rattle.state.specs.declared.OpenInput.{OpenInput}
use Rattle.state.specs.declared.ServerState.{ServerState}
use Rattle.state_server.specs.Servers.{pending_room, status_runs}
use Rattle.answers.specs.declared.InputNumbers.{InputNumbers}
use Rattle.sim_outputs.specs.Timers.{generation_in}
use Rattle.sim_owed.specs.Servers.{Opens}
use Rattle.protocol.specs.declared.Status.{Status}

-- ---- the move

-- What an event does.
unfoldable pub processed : Event → List ℕ → State → Moved
processed event message s = process s event message

-- An event was processed: whatever message of so many bytes it has, b' hold the state after it, and r are the numbers of the input that it opens.
pub record Processes (b b' : List ℕ) (F : Capacity) (r : InputNumbers) (event : Event) (size : ℕ) : Type 0 where
  pub to : (message : List ℕ) → length message ≡ size → Opens b b' F r (processed event message)

-- ---- inputs that open

-- The numbers of a server's open input: its kind, and of a client's proposal its client, sequence number and attempt.
abbrev pub input_opened : ℕ → ℕ → ℕ → ℕ → ℕ → OpenInput
input_opened slot input client seq attempt =
    record { phase = 1; slot = slot; input = input; client = client; seq = seq; attempt = attempt; verdict = 0; leader = 0; owed = 0; next = 0 }

-- The state with a message's input of the server at a place open.
unfoldable pub message_open : ℕ → State → State
message_open slot s = with_phase s (writing slot message_input nothing)

-- The state with a timer's input open.
unfoldable pub timer_open : ℕ → State → State
timer_open slot s = with_phase s (writing slot timer_input nothing)

-- The state with a client's proposal open.
unfoldable pub proposal_open : ℕ → ℕ → ℕ → ℕ → State → State
proposal_open slot c seq attempt s = with_phase s (writing slot (propose_input (from_client c seq attempt)) nothing)

-- ---- a start, a timer

-- Whether a server in this state has never started.
unfoldable pub fresh_in : ServerState → Bool
fresh_in x = not (status_runs x.status) && eqb x.incarnation 0

-- Whether a server in this state runs, and a timer's event of a generation is the last.
unfoldable pub fires_in : ServerState → Timer → ℕ → Bool
fires_in x timer generation = status_runs x.status && eqb (generation_in x timer) generation

-- ---- a message

-- Whether a role takes part in an election or leads.
unfoldable pub role_contends : Role → Bool
role_contends Follower = false
role_contends Candidate = true
role_contends Leader = true

-- Whether a server of a status does.
unfoldable pub status_contends : Option Status → Bool
status_contends None = false
status_contends (Some x) = role_contends x.role

-- The id of a server of the cluster.
pub record ServerId (F : Capacity) (id : NodeId) : Type 0 where
  pub low : 1 ≤ id.0
  pub most : id.0 ≤ F.servers
  pub few : F.servers ≤ 8

-- Whether the counters with so many entries more that reach a leader have 64 bits.
unfoldable pub delivery_room : ℕ → State → Bool
delivery_room entries s = counters_fit (deliver_to_leader s.metrics entries)

-- Question 10 of a message with so many entries.
unfoldable pub deliver_test : NodeId → ℕ → State → Bool
deliver_test to entries s = pick (contends (server_at s (slot_of to)).status) (delivery_room entries s) true

-- The state with the entries of a message counted, if that is due.
unfoldable pub delivery_counted : Bool → ℕ → State → State
delivery_counted due entries s = pick due (with_metrics s (deliver_to_leader s.metrics entries)) s

-- ---- a command's arrival

-- Question 10 of a command's arrival: a server that runs has room for its key.
unfoldable pub arrive_test : ℕ → ℕ → ℕ → State → Bool
arrive_test slot c seq s = pick (running s slot) (pending_room slot (record { client = c; seq = seq }) s) true
