-- The bytes of the input that an event opens. Assumes nothing.
use Rattle.std.specs.Prelude.{◌≡◌, refl, Bool, true, false, not, ◌&&◌, List, [], ℕ, zero, suc, ◌-◌, eqb, length}
use Rattle.laws.specs.Bools.{pick}
use Rattle.units.specs.declared.SimTime.{SimTime}
use Rattle.faults.specs.declared.Fault.{Fault}
use Rattle.faults.specs.declared.Fault.TheVariants.{Crash, CrashDuringNextInput, Restart, CrashLeader, Partition, Block, Unblock, HealLinks, SetLoss, SetDuplication, SetDelayFactor, HealAll}
use Rattle.network.specs.Network as network
use Rattle.queue.specs.declared.Event.{Event}
use Rattle.queue.specs.declared.Event.TheVariants as event
use Rattle.model.specs.State.{State, Owed, nothing, healing, server_at, slot_of}
use Rattle.model.specs.Fields.{with_network, with_crash_on_next_input}
use Rattle.model.specs.Simulation.{Moved, on_server, running, generation_of, idle, start_server, restart_server, heal_from, apply_fault, opened_timer, deliver, client_arrive, process}
use Rattle.answers.specs.Numbers.{input_bytes}
use Rattle.state_queue.specs.Events.{dequeued}
use Rattle.state_header.specs.Header.{now_set, events_set}
use Rattle.sim_events.specs.Moves.{processed}
use Rattle.sim_step.specs.Steps.{popped, opened_bytes}

-- Nothing was opened that has bytes.
abbrev Silent : Moved → Type 0
Silent m = input_bytes m.opening ≡ []

either : (t : Bool) (m n : Moved) → Silent m → Silent n → Silent (pick t m n)
either true m n p q = p
either false m n p q = q

start_silent : (s : State) (slot : ℕ) (owed : Owed) → Silent (start_server s slot owed)
unfolding start_server
start_silent s slot owed = refl

restart_silent : (s : State) (slot : ℕ) (owed : Owed) → Silent (restart_server s slot owed)
unfolding restart_server start_server
restart_silent s slot owed = refl

heal_silent : (left slot : ℕ) (s : State) → Silent (heal_from s slot left)
unfolding heal_from
heal_silent zero slot s = refl
heal_silent (suc left) slot s =
    let cleared : State = on_server s slot (λ v. with_crash_on_next_input v false) in
    either (running s slot) (heal_from cleared (suc slot) left) (restart_server cleared slot (healing (suc slot))) (heal_silent left (suc slot) cleared) (restart_silent cleared slot (healing (suc slot)))

fault_silent : (s : State) (f : Fault) → Silent (apply_fault s f)
unfolding apply_fault
fault_silent s (Crash id) = refl
fault_silent s (CrashDuringNextInput id) = refl
fault_silent s (Restart id) = either (running s (slot_of id)) (idle s) (restart_server s (slot_of id) nothing) refl (restart_silent s (slot_of id) nothing)
fault_silent s (CrashLeader downtime) = refl
fault_silent s (Partition groups) = refl
fault_silent s (Block from to) = refl
fault_silent s (Unblock from to) = refl
fault_silent s HealLinks = refl
fault_silent s (SetLoss rate) = refl
fault_silent s (SetDuplication rate) = refl
fault_silent s (SetDelayFactor factor) = refl
fault_silent s HealAll = heal_silent (length s.servers) 0 (with_network s (network.heal_all s.network))

chosen : (t : Bool) (m n : Moved) (l : List ℕ) → input_bytes m.opening ≡ l → Silent n → input_bytes (pick t m n).opening ≡ pick t l []
chosen true m n l p q = p
chosen false m n l p q = q

-- what an event opens has the bytes of its message, if it is a delivery to a server that runs
pub bytes_opened : (e : Event) (message : List ℕ) (s : State) → input_bytes (processed e message s).opening ≡ opened_bytes e message s
unfolding processed process opened_bytes deliver client_arrive
bytes_opened (event.Start slot) message s =
    either (not (running s slot) && eqb (server_at s slot).incarnation 0) (start_server s slot nothing) (idle s) (start_silent s slot nothing) refl
bytes_opened (event.Deliver from to entries) message s = chosen (running s (to.0 - 1)) _ (idle s) message refl refl
bytes_opened (event.Timer slot timer generation) message s =
    either (running s slot && eqb (generation_of (server_at s slot) timer) generation) (opened_timer s slot timer) (idle s) refl refl
bytes_opened (event.Fault f) message s = fault_silent s f
bytes_opened (event.ClientSend c) message s = refl
bytes_opened (event.ClientArrive slot c seq attempt) message s = either (running s slot) _ (idle s) refl refl
bytes_opened (event.ClientRedirect c attempt hint) message s = refl
bytes_opened (event.ClientRetry c attempt) message s = refl
bytes_opened (event.ClientReply c seq index) message s = refl
bytes_opened (event.ClientTimeout c attempt) message s = refl

-- the same before the event is taken
pub bytes_popped : (e : Event) (message : List ℕ) (time : SimTime) (s : State) → opened_bytes e message (popped time s) ≡ opened_bytes e message s
unfolding opened_bytes popped events_set now_set dequeued
bytes_popped e message time s = refl
