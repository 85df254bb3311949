-- Measurements (metrics.rs), over numbers without limit. Assumes nothing.
use Rattle.std.specs.Prelude.{◌≡◌, Bool, ℕ, ◌+◌, ◌-◌, ◌^◌, ltb, eqb, length, get_or, drop, replicate, Option, None, Some}
use Rattle.laws.specs.Bools.{pick, every, ◌and◌}
use Rattle.laws.specs.Lists.{modify}
use Rattle.units.specs.declared.NodeId.{NodeId}
use Rattle.metrics.specs.declared.Counts.{Counts}
use Rattle.metrics.specs.declared.Metrics.{Metrics}

-- Nothing counted (Counts::default).
abbrev pub no_counts : Counts
no_counts = record { messages = 0; bytes = 0; entries = 0 }

-- Nothing counted yet (Metrics::default).
abbrev pub no_metrics : Metrics
no_metrics =
    record { sent = no_counts; by_sender = replicate 8 no_counts; entries_to_leaders = 0; fsyncs = 0; storage_bytes = 0; client_replies = 0 }

-- One message more (Counts::add).
unfoldable pub add : ℕ → ℕ → Counts → Counts
add bytes entries c = record { messages = c.messages + 1; bytes = c.bytes + bytes; entries = c.entries + entries }

-- One message sent by a server, in total and by sender (record_send).
unfoldable pub record_send : Metrics → NodeId → ℕ → ℕ → Metrics
record_send m from bytes entries =
    record {
      sent = add bytes entries m.sent;
      by_sender = modify (from.0 - 1) (add bytes entries) m.by_sender;
      entries_to_leaders = m.entries_to_leaders;
      fsyncs = m.fsyncs;
      storage_bytes = m.storage_bytes;
      client_replies = m.client_replies;
    }

-- The totals of one server's messages (sent_by).
abbrev pub sent_by : Metrics → NodeId → Counts
sent_by m server = get_or m.by_sender (server.0 - 1) no_counts

-- Entries delivered to a candidate or leader.
unfoldable pub deliver_to_leader : Metrics → ℕ → Metrics
deliver_to_leader m entries =
    record {
      sent = m.sent;
      by_sender = m.by_sender;
      entries_to_leaders = m.entries_to_leaders + entries;
      fsyncs = m.fsyncs;
      storage_bytes = m.storage_bytes;
      client_replies = m.client_replies;
    }

-- A sync that wrote so many bytes.
unfoldable pub record_sync : Metrics → ℕ → Metrics
record_sync m bytes =
    record {
      sent = m.sent;
      by_sender = m.by_sender;
      entries_to_leaders = m.entries_to_leaders;
      fsyncs = m.fsyncs + 1;
      storage_bytes = m.storage_bytes + bytes;
      client_replies = m.client_replies;
    }

-- A command acknowledged to its client.
unfoldable pub record_reply : Metrics → Metrics
record_reply m =
    record {
      sent = m.sent;
      by_sender = m.by_sender;
      entries_to_leaders = m.entries_to_leaders;
      fsyncs = m.fsyncs;
      storage_bytes = m.storage_bytes;
      client_replies = m.client_replies + 1;
    }

-- Whether a server's or the cluster's totals fit 64 bits.
unfoldable pub totals_fit : Counts → Bool
totals_fit c = ltb c.messages (2 ^ 64) and ltb c.bytes (2 ^ 64) and ltb c.entries (2 ^ 64)

-- Whether every counter fits 64 bits.
unfoldable pub counters_fit : Metrics → Bool
counters_fit m =
    totals_fit m.sent
    and every totals_fit m.by_sender
    and ltb m.entries_to_leaders (2 ^ 64)
    and ltb m.fsyncs (2 ^ 64)
    and ltb m.storage_bytes (2 ^ 64)
    and ltb m.client_replies (2 ^ 64)

-- Whether nothing is counted in some totals.
unfoldable pub none_counted : Counts → Bool
none_counted c = eqb c.messages 0 and eqb c.bytes 0 and eqb c.entries 0

-- Whether the metrics are in range in a cluster of S servers: eight senders, nothing counted for those beyond S, and counters of 64 bits.
unfoldable pub metrics_fit : ℕ → Metrics → Bool
metrics_fit S m = eqb (length m.by_sender) 8 and every none_counted (drop S m.by_sender) and counters_fit m

-- A value if it passes a test.
unfoldable pub checked : {A : Type 0} → (A → Bool) → A → Option A
checked fits x = pick (fits x) (Some x) None

-- What counting answers: the next metrics if every counter fits.
abbrev pub counted : Metrics → Option Metrics
counted next = checked counters_fit next

-- Document 01's number for what counting answers: 0 where every counter fits, else question 10's.
unfoldable pub counted_number : Option Metrics → ℕ
counted_number (Some next) = 0
counted_number None = 10

-- An answer to counting up to some metrics, with its number.
pub record Counting (next : Metrics) (answer : Option Metrics) : Type 0 where
  pub value : answer ≡ counted next
  pub number : counted_number answer ≡ pick (counters_fit next) 0 10
