-- What happens in a simulation (simulation.rs), on the state without limits: one Rust function to one definition. Assumes nothing.
use Rattle.std.specs.Prelude.{Bool, true, false, not, ◌&&◌, List, [], ◌∷◌, ◌++◌, ℕ, zero, suc, ◌+◌, ◌-◌, max, leb, ltb, eqb, length, Option, None, Some}
use Rattle.laws.specs.Bools.{pick}
use Rattle.laws.specs.Lists.{modify, is_some}
use Rattle.laws.specs.Order.{pairs, lookup, insert_by, remove_by}
use Rattle.units.specs.Types.{Payload, noop, command}
use Rattle.units.specs.declared.NodeId.{NodeId}
use Rattle.units.specs.declared.LogIndex.{LogIndex}
use Rattle.units.specs.declared.SimTime.{SimTime}
use Rattle.units.specs.declared.Duration.{Duration}
use Rattle.rng.specs.Rng.{under}
use Rattle.rng.specs.declared.Rng.{Rng}
use Rattle.seeds.specs.Seeds.{stream_seed, stream_rng}
use Rattle.seeds.specs.declared.Stream.TheVariants.{Workload, Startup}
use Rattle.seeds.specs.declared.Stream.TheVariants as stream
use Rattle.config.specs.declared.SimConfig.{SimConfig}
use Rattle.config.specs.declared.Limits.{Limits}
use Rattle.client.specs.Key.{decode, key_of}
use Rattle.client.specs.Key as client
use Rattle.protocol.specs.declared.Timer.{Timer}
use Rattle.protocol.specs.declared.Timer.TheVariants.{Election, Heartbeat}
use Rattle.protocol.specs.declared.Role.{Role}
use Rattle.protocol.specs.declared.Role.TheVariants.{Follower, Candidate, Leader}
use Rattle.protocol.specs.declared.RequestId.{RequestId}
use Rattle.protocol.specs.declared.Status.{Status}
use Rattle.faults.specs.declared.Fault.{Fault}
use Rattle.faults.specs.declared.Fault.TheVariants.{Crash, CrashDuringNextInput, Restart, CrashLeader, Partition, Block, Unblock, HealLinks, SetLoss, SetDuplication, SetDelayFactor, HealAll}
use Rattle.network.specs.Network as network
use Rattle.network.specs.declared.Network.{Network}
use Rattle.network.specs.declared.Route.{Route}
use Rattle.network.specs.declared.Route.TheVariants.{Dropped, Delivered}
use Rattle.metrics.specs.Metrics.{no_metrics, record_send, deliver_to_leader, record_sync, record_reply}
use Rattle.raft_log.specs.Log.{gaps}
use Rattle.storage.specs.Storage.{Write, sync, unsynced, unsynced_bytes, written}
use Rattle.storage.specs.Storage as storage
use Rattle.queue.specs.Queue.{push}
use Rattle.queue.specs.declared.Event.{Event}
use Rattle.queue.specs.declared.Event.TheVariants as event
use Rattle.checks.specs.Checks.{new_checker, on_apply, on_writes, on_status}
use Rattle.leader.specs.Leader.{leader}
use Rattle.leader.specs.declared.Reported.{Reported}
use Rattle.checks_durability.specs.declared.replies.Reply.{Reply}
use Rattle.model.specs.State.{State, Server, new_server, Client, Outstanding, direct, from_client, Input, start_input, message_input, timer_input, propose_input, confirm_input, Verdict, accepted, not_leader, Owed, nothing, construction, healing, closed, writing, sending, server_at, client_at, id_of, slot_of}
use Rattle.model.specs.Fields.{with_queue, with_servers, with_network, with_clients, with_workload, with_metrics, with_checker, with_replies, with_confirmations, with_max_log_gaps, with_phase, with_status, with_storage, with_incarnation, with_election, with_heartbeat, with_crash_on_next_input, with_next_apply, with_pending, with_leading, with_target, with_attempt, with_outstanding}
use Rattle.leader.specs.declared.Leading.{Leading}
use Rattle.client.specs.declared.ClientKey.{ClientKey}

-- ---- parts of the state

-- A time so long after another.
abbrev pub later : SimTime → Duration → SimTime
later t d = record { 0 = t.0 + d.0 }

-- One server changed.
abbrev pub on_server : State → ℕ → (Server → Server) → State
on_server s slot f = with_servers s (modify slot f s.servers)

-- One client changed.
abbrev pub on_client : State → ℕ → (Client → Client) → State
on_client s c f = with_clients s (modify c f s.clients)

-- Whether the server at a place runs.
abbrev pub running : State → ℕ → Bool
running s slot = is_some (server_at s slot).status

-- An event pushed that delivers no message.
abbrev pub push_event : State → SimTime → Event → State
push_event s time e = with_queue s (push s.queue time e [])

-- A network delay drawn: the state after it, and the time so long after now.
pub record Arrival : Type 0 where
  pub state : State
  pub time : SimTime

-- One delay drawn.
abbrev pub arrival : State → Arrival
arrival s =
    let d = network.delay s.network in
    record { state = with_network s d.network; time = later s.now d.delay }

-- ---- what a call hands to the host

-- The input that the host must now give to its node: none, or one of five.
pub data Opening : Type 0 where
  no_input : Opening
  -- a server starts: its incarnation, and the seed of its own generator
  open_start : NodeId → (incarnation seed : ℕ) → Opening
  -- a message: who receives it, who sent it, the entries that it carries and its bytes
  open_message : NodeId → NodeId → (entries : ℕ) → List ℕ → Opening
  open_timer : NodeId → Timer → Opening
  -- a proposal: the host builds the command from the client's number and the sequence number
  open_proposal : NodeId → (client seq : ℕ) → Opening
  open_confirmation : NodeId → RequestId → Opening

-- A state, and the input that was opened in it.
pub record Moved : Type 0 where
  pub opening : Opening
  pub state : State

-- Nothing was opened.
abbrev pub idle : State → Moved
idle s = record { opening = no_input; state = with_phase s closed }

-- ---- starting and stopping

-- A server's start input opens (start_server).
unfoldable pub start_server : State → ℕ → Owed → Moved
start_server s slot owed =
    let incarnation = (server_at s slot).incarnation in
    record {
      opening = open_start (id_of slot) incarnation (stream_seed s.seed (stream.Server (id_of slot) incarnation));
      state = with_phase s (writing slot start_input owed);
    }

-- A server stops: its unsynced writes and pending keys go, its timer generations stay (stop_server).
unfoldable pub stop_server : State → ℕ → State
stop_server s slot =
    on_server s slot
    (λ v. with_leading (with_crash_on_next_input (with_pending (with_storage (with_status v None) (storage.crash v.storage)) []) false) None)

-- A stopped server starts again: incarnation and timer generations rise (restart_server).
unfoldable pub restart_server : State → ℕ → Owed → Moved
restart_server s slot owed =
    start_server
    (on_server s slot
    (λ v. with_next_apply (with_heartbeat (with_election (with_incarnation v (v.incarnation + 1)) (v.election + 1)) (v.heartbeat + 1)) 1))
    slot
    owed

-- ---- what is owed after an input

-- A first event for each of n clients from client c on (with_observer).
unfoldable pub first_sends : State → ℕ → ℕ → State
first_sends s c zero = s
first_sends s c (suc n) = first_sends (push_event s s.now (event.ClientSend c)) (suc c) n

-- The construction from a place on: the next server's start, and after the last one the clients' first events.
unfoldable pub construct_from : State → ℕ → Moved
construct_from s slot =
    pick (ltb slot (length s.servers))
    (start_server s slot (construction (suc slot)))
    (idle (first_sends s 0 (length s.clients)))

-- A HealAll at one server after another, of which so many are left: its crash flag is cleared, and it restarts if it is stopped.
unfoldable pub heal_from : State → ℕ → ℕ → Moved
heal_from s slot zero = idle s
heal_from s slot (suc left) =
    let cleared = on_server s slot (λ v. with_crash_on_next_input v false) in
    pick (running s slot) (heal_from cleared (suc slot) left) (restart_server cleared slot (healing (suc slot)))

-- An input is closed: what was owed goes on.
abbrev pub close_input : State → Owed → Moved
close_input s nothing = idle s
close_input s (construction slot) = construct_from s slot
close_input s (healing slot) = heal_from s slot (length s.servers - slot)

-- ---- faults

-- The running servers from a place on, with their status.
abbrev pub reported_status : ℕ → Option Status → List Reported → List Reported
reported_status slot None more = more
reported_status slot (Some status) more = record { id = id_of slot; status = status } ∷ more

-- The running servers of a list, the first of which has this place.
unfoldable pub reported_from : ℕ → List Server → List Reported
reported_from slot [] = []
reported_from slot (v ∷ vs) = reported_status slot v.status (reported_from (suc slot) vs)

-- The running server that leads the highest term, with that term, if any (leader).
abbrev pub leader_of : State → Option Leading
leader_of s = leader (reported_from 0 s.servers)

-- A fault scheduled; a time before now becomes now (schedule).
abbrev pub schedule_fault : State → SimTime → Fault → State
schedule_fault s time fault = push_event s (record { 0 = max time.0 s.now.0 }) (event.Fault fault)

-- The leader stopped, and its restart scheduled.
abbrev pub crash_leader : State → Option Leading → Duration → State
crash_leader s None downtime = s
crash_leader s (Some l) downtime = schedule_fault (stop_server s (slot_of l.id)) (later s.now downtime) (Restart l.id)

-- A fault happens (apply_fault).
unfoldable pub apply_fault : State → Fault → Moved
apply_fault s (Crash id) = idle (pick (running s (slot_of id)) (stop_server s (slot_of id)) s)
apply_fault s (CrashDuringNextInput id) =
    idle (pick (running s (slot_of id)) (on_server s (slot_of id) (λ v. with_crash_on_next_input v true)) s)
apply_fault s (Restart id) = pick (running s (slot_of id)) (idle s) (restart_server s (slot_of id) nothing)
apply_fault s (CrashLeader downtime) = idle (crash_leader s (leader_of s) downtime)
apply_fault s (Partition groups) = idle (with_network s (network.partition s.network groups))
apply_fault s (Block from to) = idle (with_network s (network.block s.network from to))
apply_fault s (Unblock from to) = idle (with_network s (network.unblock s.network from to))
apply_fault s HealLinks = idle (with_network s (network.heal_links s.network))
apply_fault s (SetLoss rate) = idle (with_network s (network.set_loss s.network rate))
apply_fault s (SetDuplication rate) = idle (with_network s (network.set_duplication s.network rate))
apply_fault s (SetDelayFactor factor) = idle (with_network s (network.set_delay_factor s.network factor))
apply_fault s HealAll = heal_from (with_network s (network.heal_all s.network)) 0 (length s.servers)

-- ---- clients

-- The place of a server drawn at random, with the state after the draw (random_server).
pub record Target : Type 0 where
  pub slot : ℕ
  pub state : State

-- One draw below the number of servers (random_server).
abbrev pub random_server : State → Target
random_server s =
    let d = under s.workload (length s.servers) in
    record { slot = d.value; state = with_workload s d.next }

-- The outstanding command sent to the client's target, to arrive at a time, with its timeout; without one nothing is sent.
abbrev pub send_outstanding : State → ℕ → Option Outstanding → SimTime → State
send_outstanding s c None time = s
send_outstanding s c (Some o) time =
    let attempt = (client_at s c).attempt + 1 in
    let sent = on_client s c (λ k. with_attempt k attempt) in
    push_event
    (push_event sent time (event.ClientArrive (client_at s c).target c o.seq attempt))
    (later s.now s.config.client_timeout)
    (event.ClientTimeout c attempt)

-- A client sends its outstanding command (client_attempt): the delay is drawn before it is looked whether there is one.
unfoldable pub client_attempt : State → ℕ → State
client_attempt s c =
    let a = arrival s in
    send_outstanding a.state c (client_at s c).outstanding a.time

-- A client with nothing outstanding begins its next command (client_send).
unfoldable pub client_send : State → ℕ → State
client_send s c =
    let k = client_at s c in
    let begun : Client = record { target = k.target; next_seq = k.next_seq + 1; attempt = k.attempt; outstanding = Some (record { seq = k.next_seq; first_sent = s.now }) } in
    pick (is_some k.outstanding) s (client_attempt (on_client s c (λ _. begun)) c)

-- A command reaches a server (client_arrive): where it runs its key is registered, and a proposal opens.
unfoldable pub client_arrive : State → (slot client seq attempt : ℕ) → Moved
client_arrive s slot c seq attempt =
    pick (running s slot)
    (record {
      opening = open_proposal (id_of slot) c seq;
      state =
          with_phase
          (on_server s slot (λ v. with_pending v (insert_by pairs key_of (record { client = c; seq = seq }) v.pending)))
          (writing slot (propose_input (from_client c seq attempt)) nothing);
    })
    (idle s)

-- The place of a named server, if it is in the cluster.
abbrev pub known_slot : State → Option NodeId → Option ℕ
known_slot s None = None
known_slot s (Some id) = pick (leb 1 id.0 && leb id.0 (length s.servers)) (Some (slot_of id)) None

-- A redirect: to a known leader at once; else to a random server after the backoff, under the same attempt number.
abbrev pub follow : State → ℕ → ℕ → Option ℕ → State
follow s c attempt (Some slot) = client_attempt (on_client s c (λ k. with_target k slot)) c
follow s c attempt None =
    let t = random_server s in
    push_event (on_client t.state c (λ k. with_target k t.slot)) (later s.now s.config.client_backoff) (event.ClientRetry c attempt)

-- Whether an attempt is the client's latest.
abbrev pub latest : State → ℕ → ℕ → Bool
latest s c attempt = eqb (client_at s c).attempt attempt

-- A redirect reaches its client (client_redirect); an old one, or one with nothing outstanding, is ignored.
unfoldable pub client_redirect : State → ℕ → ℕ → Option NodeId → State
client_redirect s c attempt hint =
    pick (latest s c attempt && is_some (client_at s c).outstanding) (follow s c attempt (known_slot s hint)) s

-- A timeout: a random target, and a new attempt.
unfoldable pub client_timeout : State → ℕ → ℕ → State
client_timeout s c attempt =
    let t = random_server s in
    pick (latest s c attempt && is_some (client_at s c).outstanding)
    (client_attempt (on_client t.state c (λ k. with_target k t.slot)) c)
    s

-- A reply that answers the outstanding command: it is recorded, and the client goes on; its attempt rises, so that the timeout is old.
abbrev pub take_reply : State → ℕ → ℕ → LogIndex → Option Outstanding → State
take_reply s c seq index None = s
take_reply s c seq index (Some o) =
    let reply : Reply = record { sent = o.first_sent; received = s.now; index = index; client = c; seq = seq } in
    let replied = with_metrics (with_replies s (s.replies ++ (reply ∷ []))) (record_reply s.metrics) in
    pick (eqb o.seq seq)
    (push_event (on_client replied c (λ k. with_attempt (with_outstanding k None) (k.attempt + 1))) s.now (event.ClientSend c))
    s

-- A reply reaches its client (client_reply).
unfoldable pub client_reply : State → ℕ → ℕ → LogIndex → State
client_reply s c seq index = take_reply s c seq index (client_at s c).outstanding

-- ---- events

-- Whether a server takes part in an election or leads.
abbrev pub contends : Option Status → Bool
contends None = false
contends (Some status) = not (is_follower status.role)
  where
    is_follower : Role → Bool
    is_follower Follower = true
    is_follower Candidate = false
    is_follower Leader = false

-- A message reaches a server (deliver): a stopped one loses it.
unfoldable pub deliver : State → NodeId → NodeId → ℕ → List ℕ → Moved
deliver s from to entries message =
    let slot = slot_of to in
    let counted = pick (contends (server_at s slot).status) (with_metrics s (deliver_to_leader s.metrics entries)) s in
    pick (running s slot)
    (record { opening = open_message to from entries message; state = with_phase counted (writing slot message_input nothing) })
    (idle s)

-- The generation of one of a server's timers.
abbrev pub generation_of : Server → Timer → ℕ
generation_of v Election = v.election
generation_of v Heartbeat = v.heartbeat

-- A timer's input opens.
abbrev pub opened_timer : State → ℕ → Timer → Moved
opened_timer s slot timer = record { opening = open_timer (id_of slot) timer; state = with_phase s (writing slot timer_input nothing) }

-- An event happens (process).
unfoldable pub process : State → Event → List ℕ → Moved
process s (event.Start slot) message =
    pick (not (running s slot) && eqb (server_at s slot).incarnation 0) (start_server s slot nothing) (idle s)
process s (event.Deliver from to entries) message = deliver s from to entries message
process s (event.Timer slot timer generation) message =
    pick (running s slot && eqb (generation_of (server_at s slot) timer) generation) (opened_timer s slot timer) (idle s)
process s (event.Fault fault) message = apply_fault s fault
process s (event.ClientSend c) message = idle (client_send s c)
process s (event.ClientArrive slot c seq attempt) message = client_arrive s slot c seq attempt
process s (event.ClientRedirect c attempt hint) message = idle (client_redirect s c attempt hint)
process s (event.ClientRetry c attempt) message = idle (pick (latest s c attempt) (client_attempt s c) s)
process s (event.ClientReply c seq index) message = idle (client_reply s c seq index)
process s (event.ClientTimeout c attempt) message = idle (client_timeout s c attempt)

-- ---- construction

-- A target drawn for each of n clients (with_observer).
pub record Targets : Type 0 where
  pub clients : List Client
  pub next : Rng

-- Clients with the targets drawn for them, in order.
unfoldable pub draw_targets : ℕ → ℕ → Rng → Targets
draw_targets servers zero g = record { clients = []; next = g }
draw_targets servers (suc n) g =
    let d = under g servers in
    let more = draw_targets servers n d.next in
    record { clients = record { target = d.value; next_seq = 0; attempt = 0; outstanding = None } ∷ more.clients; next = more.next }

-- A Start event for each of so many servers from a place on, at a time drawn below the spread.
unfoldable pub spread_starts : State → ℕ → ℕ → ℕ → Rng → State
spread_starts s spread slot zero g = s
spread_starts s spread slot (suc n) g =
    let d = under g spread in
    spread_starts (push_event s (record { 0 = d.value }) (event.Start slot)) spread (suc slot) n d.next

-- n servers that have never started.
unfoldable pub new_servers : ℕ → ℕ → List Server
new_servers zero indexes = []
new_servers (suc n) indexes = new_server indexes ∷ new_servers n indexes

-- A simulation before its servers start.
unfoldable pub unstarted : SimConfig → Limits → ℕ → State
unstarted config limits seed =
    let t = draw_targets config.servers config.clients (stream_rng seed Workload) in
    record {
      config = config;
      limits = limits;
      seed = seed;
      now = record { 0 = 0 };
      queue = [];
      servers = new_servers config.servers limits.log_indexes;
      network = network.new config.one_way_delay (stream_rng seed stream.Network);
      clients = t.clients;
      workload = t.next;
      metrics = no_metrics;
      checker = new_checker;
      replies = [];
      confirmations = [];
      max_log_gaps = 0;
      direct_seq = 0;
      events = 0;
      phase = closed;
    }

-- A simulation begins (with_observer): with no spread the first server's start opens, else each server has a Start event.
unfoldable pub begin : SimConfig → Limits → ℕ → Moved
begin config limits seed =
    let s = unstarted config limits seed in
    let spread = config.start_spread.0 in
    pick (eqb spread 0)
    (construct_from s 0)
    (idle (first_sends (spread_starts s spread 0 (length s.servers) (stream_rng seed Startup)) 0 (length s.clients)))

-- ---- an input's writes, seal, outputs and end

-- A write of the open input's server.
unfoldable pub write_at : State → ℕ → Write → State
write_at s slot w = on_server s slot (λ v. with_storage v (storage.write v.storage w))

-- A client's refused proposal: its key goes, a delay is drawn and its redirect pushed (client_arrive).
abbrev pub redirect : State → ℕ → Input → Verdict → State
redirect s slot (propose_input (from_client c seq attempt)) (not_leader hint) =
    let a = arrival (on_server s slot (λ v. with_pending v (remove_by pairs key_of (c, seq) v.pending))) in
    push_event a.state a.time (event.ClientRedirect c attempt hint)
redirect s slot (propose_input (from_client c seq attempt)) accepted = s
redirect s slot (propose_input direct) verdict = s
redirect s slot start_input verdict = s
redirect s slot message_input verdict = s
redirect s slot timer_input verdict = s
redirect s slot confirm_input verdict = s

-- A seal cuts the input of a server whose crash flag is set (finish_input): it stops before the sync.
unfoldable pub cut_input : State → ℕ → Input → Verdict → Owed → Moved
cut_input s slot input verdict owed = close_input (redirect (stop_server s slot) slot input verdict) owed

-- A seal that does not cut (finish_input): the sync is counted if it wrote, and each written index is checked.
unfoldable pub sync_input : State → ℕ → Input → Verdict → Owed → State
sync_input s slot input verdict owed =
    let v = server_at s slot in
    let synced = on_server s slot (λ v. with_storage v (sync v.storage)) in
    let counted = pick (unsynced v.storage) (with_metrics synced (record_sync s.metrics (unsynced_bytes v.storage.waiting))) synced in
    with_phase
    (with_checker counted (on_writes s.checker s.now (id_of slot) v.storage.current.log (written v.storage.waiting)))
    (sending slot input verdict owed)

-- A message sent (send): counted, then routed, a second copy pushed before the first.
abbrev pub push_copy : State → NodeId → NodeId → ℕ → List ℕ → Option Duration → State
push_copy s from to entries message None = s
push_copy s from to entries message (Some delay) =
    with_queue s (push s.queue (later s.now delay) (event.Deliver from to entries) message)

-- A routed message pushed, its copy first; a dropped one is not.
abbrev pub push_routed : State → NodeId → NodeId → ℕ → List ℕ → Route → State
push_routed s from to entries message Dropped = s
push_routed s from to entries message (Delivered delay second) =
    let copied = push_copy s from to entries message second in
    with_queue copied (push copied.queue (later s.now delay) (event.Deliver from to entries) message)

-- A message sent by the server at a place (send).
unfoldable pub send : State → ℕ → NodeId → List ℕ → ℕ → State
send s slot to message entries =
    let from = id_of slot in
    let bytes = pick (eqb s.config.count_bytes 1) (length message) 0 in
    let r = network.route s.network from to in
    push_routed (with_network (with_metrics s (record_send s.metrics from bytes entries)) r.network) from to entries message r.route

-- One of a server's timers with its next generation.
abbrev pub raised : Server → Timer → Server
raised v Election = with_election v (v.election + 1)
raised v Heartbeat = with_heartbeat v (v.heartbeat + 1)

-- A timer set, in the place of one that is pending (carry_out, SetTimer).
unfoldable pub set_timer : State → ℕ → Timer → Duration → State
set_timer s slot timer after =
    push_event (on_server s slot (λ v. raised v timer)) (later s.now after) (event.Timer slot timer (generation_of (server_at s slot) timer + 1))

-- A timer cancelled (carry_out, CancelTimer).
unfoldable pub cancel_timer : State → ℕ → Timer → State
cancel_timer s slot timer = on_server s slot (λ v. raised v timer)

-- A client's command applied by a server that had accepted it: its key goes, a delay is drawn and the reply pushed.
abbrev pub reply_to : State → ℕ → LogIndex → Option ClientKey → State
reply_to s slot index None = s
reply_to s slot index (Some k) =
    let a = arrival (on_server s slot (λ v. with_pending v (remove_by pairs key_of (key_of k) v.pending))) in
    pick (is_some (lookup pairs key_of (key_of k) (server_at s slot).pending))
    (push_event a.state a.time (event.ClientReply k.client k.seq index))
    s

-- The reply that an applied payload makes due: only a command has a key.
abbrev pub reply_for : State → ℕ → LogIndex → Payload → State
reply_for s slot index noop = s
reply_for s slot index (command bytes) = reply_to s slot index (decode bytes)

-- An entry applied (apply).
unfoldable pub apply : State → ℕ → LogIndex → Payload → State
apply s slot index payload =
    let checked = with_checker s (on_apply s.checker s.now (id_of slot) index payload (server_at s slot).next_apply) in
    reply_for (on_server checked slot (λ v. with_next_apply v (index.0 + 1))) slot index payload

-- A leadership check answered (carry_out, LeadershipConfirmed and LeadershipLost).
unfoldable pub confirm : State → RequestId → Option LogIndex → State
confirm s request read_index = with_confirmations s (s.confirmations ++ (record { request = request; read_index = read_index } ∷ []))

-- The end of an input (finish_input): the status checks, the gaps of the log, a refused client's redirect, and what is owed.
unfoldable pub end_input : State → ℕ → Input → Verdict → Owed → Status → Moved
end_input s slot input verdict owed status =
    let v = server_at s slot in
    let log = v.storage.current.log in
    let checked = on_status (eqb s.config.raft_checks 1) s.checker s.now (id_of slot) status log v.leading in
    let ended = on_server (with_checker s checked.checker) slot (λ v. with_leading (with_status v (Some status)) checked.leading) in
    close_input (redirect (with_max_log_gaps ended (max s.max_log_gaps (gaps log))) slot input verdict) owed
