-- The calls that only read (document 01): what each answers of the state. A read belongs to every phase and leaves the state as it is. Assumes nothing.
use Rattle.std.specs.Prelude.{List, [], ◌∷◌, ℕ, zero, suc, ◌+◌, ◌-◌, ◌^◌, leb, ltb, length, Option, None}
use Rattle.laws.specs.Lists.{at}
use Rattle.units.specs.Types.{Payload, Entry}
use Rattle.units.specs.declared.SimTime.{SimTime}
use Rattle.config.specs.declared.Limits.{Limits}
use Rattle.protocol.specs.declared.Status.{Status}
use Rattle.metrics.specs.Metrics.{sent_by}
use Rattle.metrics.specs.declared.Counts.{Counts}
use Rattle.metrics.specs.declared.Metrics.{Metrics}
use Rattle.raft_log.specs.Log.{count, last_index, gaps, entry_at}
use Rattle.storage.specs.declared.HardState.{HardState}
use Rattle.checks.specs.Checks.{Violation}
use Rattle.checks_durability.specs.declared.replies.Reply.{Reply}
use Rattle.model.specs.State.{State, Server, Confirmation, Phase, server_at}
use Rattle.model.specs.Simulation.{leader_of}
use Rattle.model.specs.Calls.{Out, done, ask, in_cluster}
use Rattle.leader.specs.declared.Leading.{Leading}

-- The server of an id.
abbrev pub named : State → ℕ → Server
named s id = server_at s (id - 1)

-- A read of one server.
abbrev pub of_server : {A : Type 0} → ℕ → (Server → A) → State → Out A
of_server id f s = ask (in_cluster s id) 7 (done (f (named s id)) s)

-- A server's status, none while it is stopped or starting (status).
unfoldable pub read_status : ℕ → State → Out (Option Status)
read_status id = of_server id (λ v. v.status)

-- A server's term and vote as written so far (storage, hard_state).
unfoldable pub read_hard_state : ℕ → State → Out HardState
read_hard_state id = of_server id (λ v. v.storage.current.hard_state)

-- A server's log as written so far: how many entries, the last index, the gaps.
pub record LogRead : Type 0 where
  pub entries : ℕ
  pub last : ℕ
  pub missing : ℕ

-- A server's log as written so far, in numbers.
unfoldable pub read_log : ℕ → State → Out LogRead
read_log id = of_server id (λ v. let log = v.storage.current.log in record { entries = count log; last = last_index log; missing = gaps log })

-- The entry at any index of a server's log, into a lent buffer of so many bytes (storage, entry).
unfoldable pub read_entry : ℕ → ℕ → ℕ → State → Out (Option Entry)
read_entry id index buffer s =
    ask (in_cluster s id) 7 (ask (leb s.limits.payload buffer) 9 (done (entry_at (named s id).storage.current.log index) s))

-- The running server that leads the highest term (leader).
unfoldable pub read_leader : State → Out (Option Leading)
read_leader s = done (leader_of s) s

-- The highest index a server has applied since it last started (applied).
unfoldable pub read_applied : ℕ → State → Out ℕ
read_applied id = of_server id (λ v. v.next_apply - 1)

-- The first payload that any server applied at an index, if one did.
abbrev pub applied_at : List Payload → ℕ → Option Payload
applied_at applied zero = None
applied_at applied (suc place) = at applied place

-- The same, into a lent buffer of so many bytes.
unfoldable pub read_applied_entry : ℕ → ℕ → State → Out (Option Payload)
read_applied_entry index buffer s = ask (leb s.limits.payload buffer) 9 (done (applied_at s.checker.applied index) s)

-- The entries that all servers have discarded so far (discarded_entries).
unfoldable pub discarded_by : List Server → ℕ
discarded_by [] = 0
discarded_by (v ∷ vs) = v.storage.discarded + discarded_by vs

-- The counters so far (metrics), with discarded_entries and max_log_gaps.
pub record MetricsRead : Type 0 where
  pub metrics : Metrics
  pub discarded : ℕ
  pub max_log_gaps : ℕ

-- The counters so far; 10 where the discarded entries of all servers together pass 64 bits.
unfoldable pub read_metrics : State → Out MetricsRead
read_metrics s =
    ask (ltb (discarded_by s.servers) (2 ^ 64)) 10
    (done (record { metrics = s.metrics; discarded = discarded_by s.servers; max_log_gaps = s.max_log_gaps }) s)

-- One server's messages.
unfoldable pub read_sent_by : ℕ → State → Out Counts
read_sent_by id s = ask (in_cluster s id) 7 (done (sent_by s.metrics (record { 0 = id })) s)

-- A client's reply, a confirmation, a kept violation, each by its place from 0 (replies, confirmations, violations).
unfoldable pub read_reply : ℕ → State → Out (Option Reply)
read_reply place s = done (at s.replies place) s

-- A confirmation by its place from 0.
unfoldable pub read_confirmation : ℕ → State → Out (Option Confirmation)
read_confirmation place s = done (at s.confirmations place) s

-- A kept violation by its place from 0.
unfoldable pub read_violation : ℕ → State → Out (Option Violation)
read_violation place s = done (at s.checker.violations place) s

-- The run as a whole: now, events, seed, violation_count, how many replies, confirmations and events are held, and the open input.
pub record RunRead : Type 0 where
  pub now : SimTime
  pub events : ℕ
  pub seed : ℕ
  pub phase : Phase
  pub queued : ℕ
  pub replies : ℕ
  pub confirmations : ℕ
  pub violations : ℕ

-- The run as a whole.
unfoldable pub read_run : State → Out RunRead
read_run s =
    done
    (record {
      now = s.now;
      events = s.events;
      seed = s.seed;
      phase = s.phase;
      queued = length s.queue;
      replies = length s.replies;
      confirmations = length s.confirmations;
      violations = s.checker.total;
    })
    s

-- How many servers and clients there are, and the six limits.
pub record SettingsRead : Type 0 where
  pub servers : ℕ
  pub clients : ℕ
  pub limits : Limits

-- The counts by which a host sizes its buffers.
unfoldable pub read_settings : State → Out SettingsRead
read_settings s = done (record { servers = s.config.servers; clients = s.config.clients; limits = s.limits }) s
