-- The state of a simulation (simulation.rs Simulation, without observers, drop rules and the flag of stop_clients), with the open input added. Assumes nothing.
use Rattle.std.specs.Prelude.{Bool, false, List, [], ℕ, ◌+◌, ◌-◌, get_or, Option, None}
use Rattle.units.specs.declared.NodeId.{NodeId}
use Rattle.units.specs.declared.Term.{Term}
use Rattle.units.specs.declared.LogIndex.{LogIndex}
use Rattle.units.specs.declared.SimTime.{SimTime}
use Rattle.rng.specs.declared.Rng.{Rng}
use Rattle.config.specs.declared.SimConfig.{SimConfig}
use Rattle.config.specs.declared.Limits.{Limits}
use Rattle.client.specs.declared.ClientKey.{ClientKey}
use Rattle.protocol.specs.declared.RequestId.{RequestId}
use Rattle.protocol.specs.declared.Status.{Status}
use Rattle.network.specs.declared.Network.{Network}
use Rattle.metrics.specs.declared.Metrics.{Metrics}
use Rattle.storage.specs.Storage.{Storage, empty_storage}
use Rattle.queue.specs.Queue.{Queue}
use Rattle.checks.specs.Checks.{Checker}
use Rattle.checks_durability.specs.declared.replies.Reply.{Reply}
pub use Rattle.clients.specs.declared.Outstanding.{Outstanding}
pub use Rattle.clients.specs.declared.Client.{Client}
pub use Rattle.clients.specs.declared.confirmations.Confirmation.{Confirmation}

-- ---- servers

-- One server (Slot). Its id is its place plus one; it runs while it has a status.
pub record Server : Type 0 where
  -- as of the end of its last input; none while it is stopped, and while its start input is open
  pub status : Option Status
  pub storage : Storage
  -- how often it was restarted
  pub incarnation : ℕ
  -- the generations of its two timers: a timer event of an older one is ignored
  pub election : ℕ
  pub heartbeat : ℕ
  -- whether its next input is cut before the sync
  pub crash_on_next_input : Bool
  -- the index its state machine is expected to apply next
  pub next_apply : ℕ
  -- the commands of clients that it accepted and has not yet applied
  pub pending : List ClientKey
  -- the term that it leads, if any (Checker's leading)
  pub leading : Option Term

-- A server that has never started, with a log of so many indexes.
abbrev pub new_server : ℕ → Server
new_server indexes =
    record {
      status = None;
      storage = empty_storage indexes;
      incarnation = 0;
      election = 0;
      heartbeat = 0;
      crash_on_next_input = false;
      next_apply = 1;
      pending = [];
      leading = None;
    }

-- ---- the open input

-- Who proposed: the host itself, or a client with a sequence number, in an attempt.
pub data Proposer : Type 0 where
  direct : Proposer
  from_client : (client seq attempt : ℕ) → Proposer

-- What a server is given (Input), as far as it matters once it is open.
pub data Input : Type 0 where
  start_input : Input
  message_input : Input
  timer_input : Input
  propose_input : Proposer → Input
  confirm_input : Input

-- Whether the server took the input, or refused it and named a leader or none (NotLeader).
pub data Verdict : Type 0 where
  accepted : Verdict
  not_leader : Option NodeId → Verdict

-- What is left of a loop over the servers once the open input is closed: nothing; the construction, or a HealAll, from a place on.
pub data Owed : Type 0 where
  nothing : Owed
  construction : ℕ → Owed
  healing : ℕ → Owed

-- Document 01's phases: closed; writing, an input is open; sending, it is sealed by a sync.
pub data Phase : Type 0 where
  closed : Phase
  writing : (slot : ℕ) → Input → Owed → Phase
  sending : (slot : ℕ) → Input → Verdict → Owed → Phase

-- ---- the whole

-- A simulation between two calls.
pub record State : Type 0 where
  pub config : SimConfig
  pub limits : Limits
  pub seed : ℕ
  pub now : SimTime
  pub queue : Queue
  pub servers : List Server
  pub network : Network
  pub clients : List Client
  -- the generator of clients' choices
  pub workload : Rng
  pub metrics : Metrics
  pub checker : Checker
  pub replies : List Reply
  pub confirmations : List Confirmation
  pub max_log_gaps : ℕ
  -- the sequence number of the next direct proposal
  pub direct_seq : ℕ
  -- how many events were taken
  pub events : ℕ
  pub phase : Phase

-- The server at a place.
abbrev pub server_at : State → ℕ → Server
server_at s slot = get_or s.servers slot (new_server 0)

-- The client at a place.
abbrev pub client_at : State → ℕ → Client
client_at s c = get_or s.clients c (record { target = 0; next_seq = 0; attempt = 0; outstanding = None })

-- The id of the server at a place, and the place of a server.
abbrev pub id_of : ℕ → NodeId
id_of slot = record { 0 = slot + 1 }

-- The place of a server.
abbrev pub slot_of : NodeId → ℕ
slot_of id = id.0 - 1
