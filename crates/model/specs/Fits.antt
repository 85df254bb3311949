-- The state fits: every field in its range and every table within its limit. Question 5 asks it of the state that an area's bytes lay out, reachable or not, and question 10 of
-- the state that a call gives. Assumes nothing.
use Rattle.std.specs.Prelude.{Bool, true, false, List, [], ◌∷◌, ℕ, ◌+◌, ◌^◌, leb, ltb, eqb, length, Option, None, Some}
use Rattle.laws.specs.Bools.{◌and◌, allb, every}
use Rattle.units.specs.declared.Term.{Term}
use Rattle.config.specs.declared.SimConfig.{SimConfig}
use Rattle.config.specs.declared.Limits.{Limits}
use Rattle.config.specs.Limits.{judge, judged_number}
use Rattle.layout.specs.Tables.{Table}
use Rattle.layout.specs.Keys.{keys}
use Rattle.layout.specs.Applied.{applied}
use Rattle.protocol.specs.declared.Status.{Status}
use Rattle.network.specs.Network.{network_in_range}
use Rattle.metrics.specs.Metrics.{metrics_fit}
use Rattle.raft_log.specs.Places.{place}
use Rattle.storage.specs.Storage.{Disk, Storage}
use Rattle.storage.specs.Waiting.{waiting_in}
use Rattle.storage.specs.declared.HardState.{HardState}
use Rattle.queue.specs.Queue.{Queue}
use Rattle.queue.specs.Range.{word}
use Rattle.queue.specs.Table.{events}
use Rattle.checks.specs.Checks.{Checker, max_recorded}
use Rattle.checks.specs.Leaders.{leaders}
use Rattle.checks.specs.Entries.{seen_in}
use Rattle.checks.specs.Violations.{violations}
use Rattle.checks_durability.specs.Replies.{replies}
use Rattle.model.specs.State.{State, Server, Client, Outstanding, Confirmation, direct, from_client, Input, start_input, message_input, timer_input, propose_input, confirm_input, Verdict, accepted, not_leader, Owed, nothing, construction, healing, Phase, closed, writing, sending}
use Rattle.units.specs.declared.NodeId.{NodeId}

-- ---- numbers

-- What an option holds is in range.
abbrev pub if_some : {A : Type 0} → (A → Bool) → Option A → Bool
if_some f None = true
if_some f (Some a) = f a

-- Votes and leader hints may name anyone.
abbrev pub node_fits : Option NodeId → Bool
node_fits None = true
node_fits (Some id) = word id.0

-- A table of at most so many rows, each in the range that the table's module gives it, and all in the table's order.
abbrev pub table_fits : {A : Type 0} → Table A → ℕ → List A → Bool
table_fits table room rows = leb (length rows) room and every table.row.good rows and table.rule rows

-- A list of at most so many elements, each in range.
abbrev pub at_most : {A : Type 0} → ℕ → (A → Bool) → List A → Bool
at_most room f xs = leb (length xs) room and every f xs

module _ (config : SimConfig) (limits : Limits) where
  -- The counts by document 01's letters: servers.
  abbrev pub S : ℕ
  S = config.servers

  -- Clients.
  abbrev pub C : ℕ
  C = config.clients

  -- Log indexes.
  abbrev pub L : ℕ
  L = limits.log_indexes

  -- Payload bytes.
  abbrev pub P : ℕ
  P = limits.payload

  -- History: the rows of a table.
  abbrev pub H : ℕ
  H = limits.history

  -- A server by its place.
  abbrev pub slot_fits : ℕ → Bool
  slot_fits slot = ltb slot S

  -- A client's number.
  abbrev pub client_fits : ℕ → Bool
  client_fits c = ltb c C

  -- ---- storage

  -- Any term, and a vote for anyone.
  abbrev pub hard_state_fits : HardState → Bool
  hard_state_fits h = word h.term.0 and node_fits h.voted_for

  -- A log of L places, each an entry in range or none.
  abbrev pub disk_fits : Disk → Bool
  disk_fits d = hard_state_fits d.hard_state and eqb (length d.log) L and every (place P).good d.log

  -- A server's disk, with at most W waiting writes.
  abbrev pub storage_fits : Storage → Bool
  storage_fits d =
      disk_fits d.current
      and disk_fits d.durable
      and table_fits (waiting_in L P) limits.writes d.waiting
      and word d.discarded

  -- ---- servers and clients

  -- A status of any term and commit index.
  abbrev pub status_fits : Status → Bool
  status_fits status = word status.term.0 and node_fits status.leader and word status.commit_index.0

  -- Next-apply is 1 to L + 1, the incarnation has 32 bits, and a pending key is of a client.
  abbrev pub server_tests : Server → List Bool
  server_tests v =
      if_some status_fits v.status
      ∷ storage_fits v.storage
      ∷ ltb v.incarnation (2 ^ 32)
      ∷ word v.election
      ∷ word v.heartbeat
      ∷ leb 1 v.next_apply
      ∷ leb v.next_apply (L + 1)
      ∷ table_fits (keys C) H v.pending
      ∷ if_some (λ (term : Term). word term.0) v.leading
      ∷ []

  -- Every field of a server.
  abbrev pub server_fits : Server → Bool
  server_fits v = allb (server_tests v)

  -- An outstanding command.
  abbrev pub outstanding_fits : Outstanding → Bool
  outstanding_fits o = word o.seq and word o.first_sent.0

  -- A client, whose target is in the cluster.
  abbrev pub client_state_fits : Client → Bool
  client_state_fits k = slot_fits k.target and word k.next_seq and word k.attempt and if_some outstanding_fits k.outstanding

  -- At most Q events, in order of time.
  abbrev pub queue_fits : Queue → Bool
  queue_fits q = table_fits (events S C L limits.message) limits.events q

  -- ---- checks and records

  -- What the checks remember.
  abbrev pub checker_fits : Checker → Bool
  checker_fits c =
      allb (
      table_fits (leaders S) H c.leaders
      ∷ table_fits (applied P) L c.applied
      ∷ table_fits (seen_in L P) H c.entries
      ∷ table_fits violations max_recorded c.violations
      ∷ word c.total
      ∷ [])

  -- A confirmation of any request and read index.
  abbrev pub confirmation_fits : Confirmation → Bool
  confirmation_fits c = word c.request.0 and if_some (λ index. word index.0) c.read_index

  -- ---- the open input

  -- An open input.
  abbrev pub input_fits : Input → Bool
  input_fits start_input = true
  input_fits message_input = true
  input_fits timer_input = true
  input_fits (propose_input direct) = true
  input_fits (propose_input (from_client c seq attempt)) = client_fits c and word seq and word attempt
  input_fits confirm_input = true

  -- Only a proposal and a confirmation can be refused.
  abbrev pub verdict_fits : Input → Verdict → Bool
  verdict_fits input accepted = true
  verdict_fits start_input (not_leader hint) = false
  verdict_fits message_input (not_leader hint) = false
  verdict_fits timer_input (not_leader hint) = false
  verdict_fits (propose_input proposer) (not_leader hint) = node_fits hint
  verdict_fits confirm_input (not_leader hint) = node_fits hint

  -- What is owed, from a place up to the last server's.
  abbrev pub owed_fits : Owed → Bool
  owed_fits nothing = true
  owed_fits (construction slot) = leb slot S
  owed_fits (healing slot) = leb slot S

  -- The phase with its input.
  abbrev pub phase_fits : Phase → Bool
  phase_fits closed = true
  phase_fits (writing slot input owed) = slot_fits slot and input_fits input and owed_fits owed
  phase_fits (sending slot input verdict owed) = slot_fits slot and input_fits input and verdict_fits input verdict and owed_fits owed

-- ---- the whole

-- Every field of the state.
abbrev pub state_tests : State → List Bool
state_tests s =
    eqb (judged_number (judge s.config s.limits)) 0
    ∷ word s.seed
    ∷ word s.now.0
    ∷ queue_fits s.config s.limits s.queue
    ∷ eqb (length s.servers) s.config.servers
    ∷ every (server_fits s.config s.limits) s.servers
    ∷ network_in_range s.config.servers s.network
    ∷ eqb s.network.base_delay.0 s.config.one_way_delay.0
    ∷ word s.network.rng.state
    ∷ eqb (length s.clients) s.config.clients
    ∷ every (client_state_fits s.config s.limits) s.clients
    ∷ word s.workload.state
    ∷ metrics_fit s.config.servers s.metrics
    ∷ checker_fits s.config s.limits s.checker
    ∷ table_fits (replies s.limits.log_indexes s.config.clients) s.limits.history s.replies
    ∷ at_most s.limits.history (confirmation_fits s.config s.limits) s.confirmations
    ∷ word s.max_log_gaps
    ∷ word s.direct_seq
    ∷ word s.events
    ∷ phase_fits s.config s.limits s.phase
    ∷ word s.config.consensus.max_entries_per_message
    ∷ word s.config.consensus.max_entries_in_flight
    ∷ []

-- Every field of the state.
unfoldable pub state_fits : State → Bool
state_fits s = allb (state_tests s)
