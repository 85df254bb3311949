-- A state, a server or a client with one field changed. Assumes nothing.
use Rattle.std.specs.Prelude.{Bool, List, ℕ, Option}
use Rattle.units.specs.declared.Term.{Term}
use Rattle.units.specs.declared.SimTime.{SimTime}
use Rattle.rng.specs.declared.Rng.{Rng}
use Rattle.client.specs.declared.ClientKey.{ClientKey}
use Rattle.protocol.specs.declared.Status.{Status}
use Rattle.network.specs.declared.Network.{Network}
use Rattle.metrics.specs.declared.Metrics.{Metrics}
use Rattle.storage.specs.Storage.{Storage}
use Rattle.queue.specs.Queue.{Queue}
use Rattle.checks.specs.Checks.{Checker}
use Rattle.checks_durability.specs.declared.replies.Reply.{Reply}
use Rattle.model.specs.State.{State, Server, Client, Outstanding, Confirmation, Phase}

-- ---- the state

abbrev pub with_now : State → SimTime → State
with_now s x = record { config = s.config; limits = s.limits; seed = s.seed; now = x; queue = s.queue; servers = s.servers; network = s.network; clients = s.clients; workload = s.workload; metrics = s.metrics; checker = s.checker; replies = s.replies; confirmations = s.confirmations; max_log_gaps = s.max_log_gaps; direct_seq = s.direct_seq; events = s.events; phase = s.phase }

abbrev pub with_queue : State → Queue → State
with_queue s x = record { config = s.config; limits = s.limits; seed = s.seed; now = s.now; queue = x; servers = s.servers; network = s.network; clients = s.clients; workload = s.workload; metrics = s.metrics; checker = s.checker; replies = s.replies; confirmations = s.confirmations; max_log_gaps = s.max_log_gaps; direct_seq = s.direct_seq; events = s.events; phase = s.phase }

abbrev pub with_servers : State → List Server → State
with_servers s x = record { config = s.config; limits = s.limits; seed = s.seed; now = s.now; queue = s.queue; servers = x; network = s.network; clients = s.clients; workload = s.workload; metrics = s.metrics; checker = s.checker; replies = s.replies; confirmations = s.confirmations; max_log_gaps = s.max_log_gaps; direct_seq = s.direct_seq; events = s.events; phase = s.phase }

abbrev pub with_network : State → Network → State
with_network s x = record { config = s.config; limits = s.limits; seed = s.seed; now = s.now; queue = s.queue; servers = s.servers; network = x; clients = s.clients; workload = s.workload; metrics = s.metrics; checker = s.checker; replies = s.replies; confirmations = s.confirmations; max_log_gaps = s.max_log_gaps; direct_seq = s.direct_seq; events = s.events; phase = s.phase }

abbrev pub with_clients : State → List Client → State
with_clients s x = record { config = s.config; limits = s.limits; seed = s.seed; now = s.now; queue = s.queue; servers = s.servers; network = s.network; clients = x; workload = s.workload; metrics = s.metrics; checker = s.checker; replies = s.replies; confirmations = s.confirmations; max_log_gaps = s.max_log_gaps; direct_seq = s.direct_seq; events = s.events; phase = s.phase }

abbrev pub with_workload : State → Rng → State
with_workload s x = record { config = s.config; limits = s.limits; seed = s.seed; now = s.now; queue = s.queue; servers = s.servers; network = s.network; clients = s.clients; workload = x; metrics = s.metrics; checker = s.checker; replies = s.replies; confirmations = s.confirmations; max_log_gaps = s.max_log_gaps; direct_seq = s.direct_seq; events = s.events; phase = s.phase }

abbrev pub with_metrics : State → Metrics → State
with_metrics s x = record { config = s.config; limits = s.limits; seed = s.seed; now = s.now; queue = s.queue; servers = s.servers; network = s.network; clients = s.clients; workload = s.workload; metrics = x; checker = s.checker; replies = s.replies; confirmations = s.confirmations; max_log_gaps = s.max_log_gaps; direct_seq = s.direct_seq; events = s.events; phase = s.phase }

abbrev pub with_checker : State → Checker → State
with_checker s x = record { config = s.config; limits = s.limits; seed = s.seed; now = s.now; queue = s.queue; servers = s.servers; network = s.network; clients = s.clients; workload = s.workload; metrics = s.metrics; checker = x; replies = s.replies; confirmations = s.confirmations; max_log_gaps = s.max_log_gaps; direct_seq = s.direct_seq; events = s.events; phase = s.phase }

abbrev pub with_replies : State → List Reply → State
with_replies s x = record { config = s.config; limits = s.limits; seed = s.seed; now = s.now; queue = s.queue; servers = s.servers; network = s.network; clients = s.clients; workload = s.workload; metrics = s.metrics; checker = s.checker; replies = x; confirmations = s.confirmations; max_log_gaps = s.max_log_gaps; direct_seq = s.direct_seq; events = s.events; phase = s.phase }

abbrev pub with_confirmations : State → List Confirmation → State
with_confirmations s x = record { config = s.config; limits = s.limits; seed = s.seed; now = s.now; queue = s.queue; servers = s.servers; network = s.network; clients = s.clients; workload = s.workload; metrics = s.metrics; checker = s.checker; replies = s.replies; confirmations = x; max_log_gaps = s.max_log_gaps; direct_seq = s.direct_seq; events = s.events; phase = s.phase }

abbrev pub with_max_log_gaps : State → ℕ → State
with_max_log_gaps s x = record { config = s.config; limits = s.limits; seed = s.seed; now = s.now; queue = s.queue; servers = s.servers; network = s.network; clients = s.clients; workload = s.workload; metrics = s.metrics; checker = s.checker; replies = s.replies; confirmations = s.confirmations; max_log_gaps = x; direct_seq = s.direct_seq; events = s.events; phase = s.phase }

abbrev pub with_direct_seq : State → ℕ → State
with_direct_seq s x = record { config = s.config; limits = s.limits; seed = s.seed; now = s.now; queue = s.queue; servers = s.servers; network = s.network; clients = s.clients; workload = s.workload; metrics = s.metrics; checker = s.checker; replies = s.replies; confirmations = s.confirmations; max_log_gaps = s.max_log_gaps; direct_seq = x; events = s.events; phase = s.phase }

abbrev pub with_events : State → ℕ → State
with_events s x = record { config = s.config; limits = s.limits; seed = s.seed; now = s.now; queue = s.queue; servers = s.servers; network = s.network; clients = s.clients; workload = s.workload; metrics = s.metrics; checker = s.checker; replies = s.replies; confirmations = s.confirmations; max_log_gaps = s.max_log_gaps; direct_seq = s.direct_seq; events = x; phase = s.phase }

abbrev pub with_phase : State → Phase → State
with_phase s x = record { config = s.config; limits = s.limits; seed = s.seed; now = s.now; queue = s.queue; servers = s.servers; network = s.network; clients = s.clients; workload = s.workload; metrics = s.metrics; checker = s.checker; replies = s.replies; confirmations = s.confirmations; max_log_gaps = s.max_log_gaps; direct_seq = s.direct_seq; events = s.events; phase = x }

-- ---- a server

abbrev pub with_status : Server → Option Status → Server
with_status s x = record { status = x; storage = s.storage; incarnation = s.incarnation; election = s.election; heartbeat = s.heartbeat; crash_on_next_input = s.crash_on_next_input; next_apply = s.next_apply; pending = s.pending; leading = s.leading }

abbrev pub with_storage : Server → Storage → Server
with_storage s x = record { status = s.status; storage = x; incarnation = s.incarnation; election = s.election; heartbeat = s.heartbeat; crash_on_next_input = s.crash_on_next_input; next_apply = s.next_apply; pending = s.pending; leading = s.leading }

abbrev pub with_incarnation : Server → ℕ → Server
with_incarnation s x = record { status = s.status; storage = s.storage; incarnation = x; election = s.election; heartbeat = s.heartbeat; crash_on_next_input = s.crash_on_next_input; next_apply = s.next_apply; pending = s.pending; leading = s.leading }

abbrev pub with_election : Server → ℕ → Server
with_election s x = record { status = s.status; storage = s.storage; incarnation = s.incarnation; election = x; heartbeat = s.heartbeat; crash_on_next_input = s.crash_on_next_input; next_apply = s.next_apply; pending = s.pending; leading = s.leading }

abbrev pub with_heartbeat : Server → ℕ → Server
with_heartbeat s x = record { status = s.status; storage = s.storage; incarnation = s.incarnation; election = s.election; heartbeat = x; crash_on_next_input = s.crash_on_next_input; next_apply = s.next_apply; pending = s.pending; leading = s.leading }

abbrev pub with_crash_on_next_input : Server → Bool → Server
with_crash_on_next_input s x = record { status = s.status; storage = s.storage; incarnation = s.incarnation; election = s.election; heartbeat = s.heartbeat; crash_on_next_input = x; next_apply = s.next_apply; pending = s.pending; leading = s.leading }

abbrev pub with_next_apply : Server → ℕ → Server
with_next_apply s x = record { status = s.status; storage = s.storage; incarnation = s.incarnation; election = s.election; heartbeat = s.heartbeat; crash_on_next_input = s.crash_on_next_input; next_apply = x; pending = s.pending; leading = s.leading }

abbrev pub with_pending : Server → List ClientKey → Server
with_pending s x = record { status = s.status; storage = s.storage; incarnation = s.incarnation; election = s.election; heartbeat = s.heartbeat; crash_on_next_input = s.crash_on_next_input; next_apply = s.next_apply; pending = x; leading = s.leading }

abbrev pub with_leading : Server → Option Term → Server
with_leading s x = record { status = s.status; storage = s.storage; incarnation = s.incarnation; election = s.election; heartbeat = s.heartbeat; crash_on_next_input = s.crash_on_next_input; next_apply = s.next_apply; pending = s.pending; leading = x }

-- ---- a client

abbrev pub with_target : Client → ℕ → Client
with_target s x = record { target = x; next_seq = s.next_seq; attempt = s.attempt; outstanding = s.outstanding }

abbrev pub with_attempt : Client → ℕ → Client
with_attempt s x = record { target = s.target; next_seq = s.next_seq; attempt = x; outstanding = s.outstanding }

abbrev pub with_outstanding : Client → Option Outstanding → Client
with_outstanding s x = record { target = s.target; next_seq = s.next_seq; attempt = s.attempt; outstanding = x }
