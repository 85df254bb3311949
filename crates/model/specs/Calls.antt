-- Every call (document 01): the questions that it meets, in order, and what it does. Of the questions, 4 and 5 are asked of the area's bytes and 10 of the state
-- that a call gives; here are 6 to 9. A refused call gives the number of the first question answered no. Assumes nothing.
use Rattle.std.specs.Prelude.{Bool, true, false, List, [], ◌∷◌, ℕ, suc, ◌+◌, ◌-◌, ◌*◌, ◌^◌, max, leb, ltb, eqb, length, get_or, Option, None, Some}
use Rattle.laws.specs.Bools.{pick, every, ◌and◌}
use Rattle.units.specs.Types.{payload_of}
use Rattle.units.specs.declared.NodeId.{NodeId}
use Rattle.units.specs.declared.Term.{Term}
use Rattle.units.specs.declared.LogIndex.{LogIndex}
use Rattle.units.specs.declared.SimTime.{SimTime}
use Rattle.units.specs.declared.Duration.{Duration}
use Rattle.client.specs.Key as client
use Rattle.protocol.specs.declared.Timer.{Timer}
use Rattle.protocol.specs.declared.Timer.TheVariants.{Election, Heartbeat}
use Rattle.protocol.specs.declared.Role.{Role}
use Rattle.protocol.specs.declared.Role.TheVariants.{Follower, Candidate, Leader}
use Rattle.protocol.specs.declared.RequestId.{RequestId}
use Rattle.protocol.specs.declared.Status.{Status}
use Rattle.faults.specs.Fault as faults
use Rattle.faults.specs.declared.Fault.{Fault}
use Rattle.config.specs.declared.SimConfig.{SimConfig}
use Rattle.config.specs.declared.Limits.{Limits}
use Rattle.config.specs.Limits.{judge, judged_number}
use Rattle.storage.specs.Storage.{Write, write_hard_state, write_put, write_truncate, unsynced}
use Rattle.queue.specs.Queue.{Popped, empty, taken, pop}
use Rattle.checks.specs.Checks.{ServerLog, AppliedUpTo, check_log_matching, check_durability}
use Rattle.checks_durability.specs.Acknowledged.{acknowledged_from}
use Rattle.model.specs.State.{State, Server, direct, Input, start_input, message_input, timer_input, propose_input, confirm_input, Verdict, accepted, not_leader, Owed, nothing, Phase, closed, writing, sending, server_at, id_of, slot_of}
use Rattle.model.specs.Fields.{with_now, with_queue, with_checker, with_direct_seq, with_events, with_phase}
use Rattle.model.specs.Simulation.{Opening, no_input, open_proposal, open_confirmation, running, opened_timer, schedule_fault, process, begin, write_at, cut_input, sync_input, send, set_timer, cancel_timer, apply, confirm, end_input}

-- What a call gives: a refusal's number, or an answer and the next state.
pub data Out (A : Type 0) : Type 0 where
  refused : ℕ → Out A
  done : A → State → Out A

-- One question: its number where it is answered no.
abbrev pub ask : {A : Type 0} → Bool → ℕ → Out A → Out A
ask yes' number next = pick yes' next (refused number)

-- ---- arguments

-- A flag is 0 or 1.
abbrev pub is_flag : ℕ → Bool
is_flag n = leb n 1

-- A server that may be absent, from a flag and an id; of an absent one the id is not looked at.
abbrev pub node_option : ℕ → ℕ → Option NodeId
node_option present id = pick (eqb present 1) (Some (record { 0 = id })) None

-- Kinds of timer and role by their numbers.
abbrev pub timer_of : ℕ → Timer
timer_of kind = get_or (Election ∷ Heartbeat ∷ []) kind Election

-- The role of a number.
abbrev pub role_of : ℕ → Role
role_of kind = get_or (Follower ∷ Candidate ∷ Leader ∷ []) kind Follower

-- Whether kind and bytes make a payload within the limit; a noop has no bytes.
abbrev pub is_payload : State → ℕ → List ℕ → Bool
is_payload s kind bytes = is_flag kind and leb (length bytes) (pick (eqb kind 0) 0 s.limits.payload)

-- Whether a server is in the cluster.
abbrev pub in_cluster : State → ℕ → Bool
in_cluster s id = faults.in_cluster (length s.servers) (record { 0 = id })

-- ---- phases

-- Whether no input is open.
abbrev pub is_closed : Phase → Bool
is_closed closed = true
is_closed (writing slot input owed) = false
is_closed (sending slot input verdict owed) = false

-- A call that belongs to writing, given the open input.
abbrev pub while_writing : {A : Type 0} → Phase → (ℕ → Input → Owed → Out A) → Out A
while_writing closed f = refused 6
while_writing (writing slot input owed) f = f slot input owed
while_writing (sending slot input verdict owed) f = refused 6

-- A call that belongs to sending, given the sealed input.
abbrev pub while_sending : {A : Type 0} → Phase → (ℕ → Input → Verdict → Owed → Out A) → Out A
while_sending closed f = refused 6
while_sending (writing slot input owed) f = refused 6
while_sending (sending slot input verdict owed) f = f slot input verdict owed

-- Whether the node took the input.
abbrev pub is_accepted : Verdict → Bool
is_accepted accepted = true
is_accepted (not_leader hint) = false

-- An output call: after a refusal none belongs.
abbrev pub output : {A : Type 0} → Phase → (ℕ → Out A) → Out A
output phase f = while_sending phase (λ slot input verdict owed. ask (is_accepted verdict) 6 (f slot))

-- ---- start

-- A simulation begins, whatever was before it: questions 1 to 3 (with_observer, and the limits of document 01).
unfoldable pub start : SimConfig → Limits → ℕ → Out Opening
start config limits seed =
    let moved = begin config limits seed in
    ask (eqb (judged_number (judge config limits)) 0) (judged_number (judge config limits)) (done moved.opening moved.state)

-- ---- step and the direct calls

-- What a step answers: whether an event was due, and the input that it opened.
pub record Stepped : Type 0 where
  pub due : Bool
  pub opening : Opening

-- The first event at or before the deadline happens; where there is none, now rises to the deadline (run_until_condition, one event).
abbrev pub stepped : State → SimTime → Popped → Out Stepped
stepped s deadline empty = done (record { due = false; opening = no_input }) (with_now s (record { 0 = max s.now.0 deadline.0 }))
stepped s deadline (taken e rest) =
    let moved = process (with_events (with_now (with_queue s rest) e.time) (s.events + 1)) e.event e.message in
    pick (leb e.time.0 deadline.0)
    (done (record { due = true; opening = moved.opening }) moved.state)
    (done (record { due = false; opening = no_input }) (with_now s (record { 0 = max s.now.0 deadline.0 })))

-- One event, into a lent buffer of so many bytes.
unfoldable pub step : SimTime → ℕ → State → Out Stepped
step deadline buffer s =
    ask (is_closed s.phase) 6
    (ask (leb deadline.0 (2 ^ 62) and leb s.limits.message buffer) 9 (stepped s deadline (pop s.queue)))

-- What a direct proposal or confirmation answers: the input that it opened, or that a stopped server does not lead and names nobody.
pub data Asked : Type 0 where
  asked : Opening → Asked
  stopped : Asked

-- A direct proposal (propose): a sequence number is used in either case.
unfoldable pub propose : ℕ → State → Out Asked
propose id s =
    let slot = slot_of (record { 0 = id }) in
    let used = with_direct_seq s (s.direct_seq + 1) in
    ask (is_closed s.phase) 6
    (ask (in_cluster s id) 7
    (pick (running s slot)
    (done (asked (open_proposal (id_of slot) client.direct s.direct_seq)) (with_phase used (writing slot (propose_input direct) nothing)))
    (done stopped used)))

-- A timer fired now, whether or not it is pending (fire_timer): a stopped server does nothing.
unfoldable pub fire_timer : ℕ → ℕ → State → Out Opening
fire_timer id timer s =
    let slot = slot_of (record { 0 = id }) in
    let moved = opened_timer s slot (timer_of timer) in
    ask (is_closed s.phase) 6
    (ask (in_cluster s id) 7
    (ask (is_flag timer) 9
    (pick (running s slot) (done moved.opening moved.state) (done no_input s))))

-- Leadership to be confirmed (confirm_leadership).
unfoldable pub confirm_leadership : ℕ → RequestId → State → Out Asked
confirm_leadership id request s =
    let slot = slot_of (record { 0 = id }) in
    ask (is_closed s.phase) 6
    (ask (in_cluster s id) 7
    (pick (running s slot)
    (done (asked (open_confirmation (id_of slot) request)) (with_phase s (writing slot confirm_input nothing)))
    (done stopped s)))

-- ---- schedule

-- The word of a partition's groups, one byte a group, the first lowest.
unfoldable pub groups_word : List ℕ → ℕ
groups_word [] = 0
groups_word (g ∷ gs) = g + 256 * groups_word gs

-- The fault of a kind's number, two numbers and groups, as `faults` reads it; a number that the kind does not use is not looked at.
unfoldable pub fault_given : ℕ → ℕ → ℕ → List ℕ → Option Fault
fault_given kind a b groups =
    faults.fault_of kind
    (get_or (a ∷ a ∷ a ∷ a ∷ groups_word groups ∷ a ∷ a ∷ 0 ∷ a ∷ a ∷ a ∷ []) kind 0)
    (get_or (0 ∷ 0 ∷ 0 ∷ 0 ∷ 0 ∷ b ∷ b ∷ []) kind 0)

-- Whether every target is in the cluster; numbers that are no fault's name none.
abbrev pub targets_known : State → Option Fault → Bool
targets_known s None = true
targets_known s (Some fault) = faults.targets_known (length s.servers) fault

-- Whether every member of every group is in the cluster, however many groups there are.
abbrev pub members_known : State → List ℕ → Bool
members_known s groups = every (λ g. ltb g (2 ^ length s.servers)) groups

-- A fault with its numbers within limits, and what is done with it; all else is question 9's.
abbrev pub with_fault : {A : Type 0} → Option Fault → (Fault → Out A) → Out A
with_fault None f = refused 9
with_fault (Some fault) f = ask (faults.within_limits fault) 9 (f fault)

-- A fault scheduled (schedule): kind 4 is a partition, with at most 8 groups.
unfoldable pub schedule : SimTime → ℕ → ℕ → ℕ → List ℕ → State → Out (Unit {0})
schedule time kind a b groups s =
    let partitions = eqb kind 4 in
    let fault = fault_given kind a b groups in
    ask (is_closed s.phase) 6
    (ask (pick partitions (members_known s groups) (targets_known s fault)) 7
    (ask (leb time.0 (2 ^ 62) and pick partitions (leb (length groups) 8) true) 9
    (with_fault fault (λ f. done tt (schedule_fault s time f)))))

-- ---- writes and the seal

-- A write of the open input's server.
abbrev pub written : State → ℕ → Write → Out (Unit {0})
written s slot w = done tt (write_at s slot w)

-- Term and vote written; the flag says whether there is a vote (set_hard_state).
unfoldable pub write_hard_state_call : Term → ℕ → ℕ → State → Out (Unit {0})
write_hard_state_call term present vote s =
    while_writing s.phase
    (λ slot input owed. ask (is_flag present) 9 (written s slot (write_hard_state (record { term = term; voted_for = node_option present vote }))))

-- An entry put at an index of the log (put).
unfoldable pub write_put_call : LogIndex → Term → ℕ → List ℕ → State → Out (Unit {0})
write_put_call index term kind bytes s =
    while_writing s.phase
    (λ slot input owed. ask (leb 1 index.0 and leb index.0 s.limits.log_indexes) 8
    (ask (is_payload s kind bytes) 9 (written s slot (write_put index (record { term = term; payload = payload_of kind bytes })))))

-- The log truncated from an index on (truncate).
unfoldable pub write_truncate_call : LogIndex → State → Out (Unit {0})
write_truncate_call from s = while_writing s.phase (λ slot input owed. written s slot (write_truncate from))

-- How a seal ended: it synced writes, it had nothing to sync, or it cut the input.
pub data Sealing : Type 0 where
  synced : Sealing
  nothing_to_sync : Sealing
  cut : Sealing

-- Document 01 leaves the numbers of these open; they are counted from 1.
abbrev pub sealing_number : Sealing → ℕ
sealing_number synced = 1
sealing_number nothing_to_sync = 2
sealing_number cut = 3

-- What a seal answers: how it ended, and, of one that cut, the start that it opened, if one was owed.
pub record Sealed : Type 0 where
  pub sealing : Sealing
  pub opening : Opening

-- Only a proposal and a confirmation can be refused.
abbrev pub can_be_refused : Input → Bool
can_be_refused start_input = false
can_be_refused message_input = false
can_be_refused timer_input = false
can_be_refused (propose_input proposer) = true
can_be_refused confirm_input = true

-- Whether the node took the input, from the flags; of an input that is taken the hint is not looked at.
abbrev pub verdict_of : ℕ → ℕ → ℕ → Verdict
verdict_of refusal present leader = pick (eqb refusal 1) (not_leader (node_option present leader)) accepted

-- The seal of an input (finish_input, up to its outputs).
unfoldable pub sealed : State → ℕ → Input → Owed → Verdict → Out Sealed
sealed s slot input owed verdict =
    let v = server_at s slot in
    let cutting = cut_input s slot input verdict owed in
    pick v.crash_on_next_input
    (done (record { sealing = cut; opening = cutting.opening }) cutting.state)
    (done (record { sealing = pick (unsynced v.storage) synced nothing_to_sync; opening = no_input }) (sync_input s slot input verdict owed))

-- The seal of the open input, told whether the node refused and which leader it named.
unfoldable pub seal : ℕ → ℕ → ℕ → State → Out Sealed
seal refusal present leader s =
    while_writing s.phase
    (λ slot input owed. ask (is_flag refusal and (pick (eqb refusal 1) (is_flag present and can_be_refused input) true)) 9
    (sealed s slot input owed (verdict_of refusal present leader)))

-- ---- outputs and the end

-- A message sent to a server (Output::Send).
unfoldable pub output_send : ℕ → List ℕ → ℕ → State → Out (Unit {0})
output_send to message entries s =
    output s.phase
    (λ slot. ask (in_cluster s to) 7
    (ask (leb (length message) s.limits.message and ltb entries (2 ^ 32)) 9 (done tt (send s slot (record { 0 = to }) message entries))))

-- A timer set (Output::SetTimer).
unfoldable pub output_set_timer : ℕ → Duration → State → Out (Unit {0})
output_set_timer timer after s =
    output s.phase (λ slot. ask (is_flag timer and leb after.0 (2 ^ 40)) 9 (done tt (set_timer s slot (timer_of timer) after)))

-- A timer cancelled (Output::CancelTimer).
unfoldable pub output_cancel_timer : ℕ → State → Out (Unit {0})
output_cancel_timer timer s = output s.phase (λ slot. ask (is_flag timer) 9 (done tt (cancel_timer s slot (timer_of timer))))

-- An entry applied (Output::Apply).
unfoldable pub output_apply : LogIndex → ℕ → List ℕ → State → Out (Unit {0})
output_apply index kind bytes s =
    output s.phase
    (λ slot. ask (leb index.0 s.limits.log_indexes) 8 (ask (is_payload s kind bytes) 9 (done tt (apply s slot index (payload_of kind bytes)))))

-- Leadership confirmed, with the read index (Output::LeadershipConfirmed).
unfoldable pub output_confirmed : RequestId → LogIndex → State → Out (Unit {0})
output_confirmed request read_index s = output s.phase (λ slot. done tt (confirm s request (Some read_index)))

-- Leadership lost (Output::LeadershipLost).
unfoldable pub output_lost : RequestId → State → Out (Unit {0})
output_lost request s = output s.phase (λ slot. done tt (confirm s request None))

-- The end of an input gives the status; the start that is opened then, if one was owed, is the answer.
unfoldable pub end : ℕ → Term → ℕ → ℕ → LogIndex → State → Out Opening
end role term present leader commit s =
    let status : Status = record { role = role_of role; term = term; leader = node_option present leader; commit_index = commit } in
    while_sending s.phase
    (λ slot input verdict owed. ask (leb role 2 and is_flag present) 9
    (let moved = end_input s slot input verdict owed status in done moved.opening moved.state))

-- ---- checks on request

-- The servers' logs, from a place on, those of stopped servers too.
unfoldable pub logs_from : ℕ → List Server → List ServerLog
logs_from slot [] = []
logs_from slot (v ∷ vs) = record { server = id_of slot; log = v.storage.current.log } ∷ logs_from (suc slot) vs

-- Log matching checked over every pair of logs (check_log_matching).
unfoldable pub check_log_matching_call : State → Out (Unit {0})
check_log_matching_call s = ask (is_closed s.phase) 6 (done tt (with_checker s (check_log_matching s.checker s.now (logs_from 0 s.servers))))

-- How far each server has applied since it last started; next_apply is 1 more.
unfoldable pub applied_from : ℕ → List Server → List AppliedUpTo
applied_from slot [] = []
applied_from slot (v ∷ vs) = record { server = id_of slot; up_to = v.next_apply - 1 } ∷ applied_from (suc slot) vs

-- Durability checked (check_durability).
unfoldable pub check_durability_call : State → Out (Unit {0})
check_durability_call s =
    ask (is_closed s.phase) 6
    (done tt
    (with_checker s
    (check_durability s.checker s.now (acknowledged_from s.config.command_bytes s.replies) (applied_from 0 s.servers))))
