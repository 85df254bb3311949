-- A server's disk (consensus/storage.rs MemStorage, sim/storage.rs TrackedStorage). What follows from the waiting writes is not stored:
-- the written indexes, and the bytes not yet synced. Assumes nothing.
use Rattle.std.specs.Prelude.{Bool, false, not, List, [], ◌∷◌, ◌++◌, ℕ, ◌+◌, ltb, length, Option, None, Some}
use Rattle.std.specs.Bool.{then_some}
use Rattle.laws.specs.Bools.{pick}
use Rattle.units.specs.Types.{Entry, same_payload}
use Rattle.units.specs.declared.LogIndex.{LogIndex}
use Rattle.record.specs.Postcard.{record_bytes, hard_state_record, put_record, truncate_record}
use Rattle.storage.specs.declared.HardState.{HardState}
use Rattle.raft_log.specs.Log.{Log, empty_log, entry_at, put_at, truncate_at, removed_by}

-- Term, vote and log together (State of consensus/storage.rs).
pub record Disk : Type 0 where
  pub hard_state : HardState
  pub log : Log

-- A disk on which nothing was written.
abbrev pub empty_disk : ℕ → Disk
empty_disk indexes = record { hard_state = record { term = record { 0 = 0 }; voted_for = None }; log = empty_log indexes }

-- One write (Write).
pub data Write : Type 0 where
  write_hard_state : HardState → Write
  write_put : LogIndex → Entry → Write
  write_truncate : LogIndex → Write

-- A disk after a write (State::apply).
abbrev pub apply_write : Disk → Write → Disk
apply_write d (write_hard_state h) = record { hard_state = h; log = d.log }
apply_write d (write_put index e) = record { hard_state = d.hard_state; log = put_at d.log index.0 e }
apply_write d (write_truncate from) = record { hard_state = d.hard_state; log = truncate_at d.log from.0 }

-- A disk after writes, in order.
unfoldable pub apply_writes : Disk → List Write → Disk
apply_writes d [] = d
apply_writes d (w ∷ ws) = apply_writes (apply_write d w) ws

-- The length of a write's record (record_bytes).
abbrev pub write_bytes : Write → ℕ
write_bytes (write_hard_state h) = record_bytes (hard_state_record h.term h.voted_for)
write_bytes (write_put index e) = record_bytes (put_record index e)
write_bytes (write_truncate from) = record_bytes (truncate_record from)

-- The bytes of writes not yet synced (unsynced_bytes).
unfoldable pub unsynced_bytes : List Write → ℕ
unsynced_bytes [] = 0
unsynced_bytes (w ∷ ws) = write_bytes w + unsynced_bytes ws

-- A put's index, in front of others.
abbrev pub put_index : Write → List LogIndex → List LogIndex
put_index (write_hard_state h) is = is
put_index (write_put index e) is = index ∷ is
put_index (write_truncate from) is = is

-- The indexes put since the last sync, in write order (written).
unfoldable pub written : List Write → List LogIndex
written [] = []
written (w ∷ ws) = put_index w (written ws)

-- A server's storage: the disk with unsynced writes, the disk as of the last sync, the writes since, and the entries discarded so far.
pub record Storage : Type 0 where
  pub current : Disk
  pub durable : Disk
  pub waiting : List Write
  pub discarded : ℕ

-- Storage on which nothing was written.
abbrev pub empty_storage : ℕ → Storage
empty_storage indexes = record { current = empty_disk indexes; durable = empty_disk indexes; waiting = []; discarded = 0 }

-- Whether an entry is there with another payload.
abbrev pub differs : Option Entry → Entry → Bool
differs None new = false
differs (Some old) new = not (same_payload old.payload new.payload)

-- The entries that a write discards: one that is put over with another payload, those that a truncation removes.
abbrev pub discards : Log → Write → ℕ
discards log (write_hard_state h) = 0
discards log (write_put index e) = pick (differs (entry_at log index.0) e) 1 0
discards log (write_truncate from) = removed_by log from.0

-- A write: seen at once, durable at the next sync (set_hard_state, put, truncate).
unfoldable pub write : Storage → Write → Storage
write s w =
    record {
      current = apply_write s.current w;
      durable = s.durable;
      waiting = s.waiting ++ (w ∷ []);
      discarded = s.discarded + discards s.current.log w;
    }

-- The waiting writes made durable (sync).
unfoldable pub sync : Storage → Storage
sync s = record { current = s.current; durable = apply_writes s.durable s.waiting; waiting = []; discarded = s.discarded }

-- Whether a sync has anything to write.
abbrev pub unsynced : Storage → Bool
unsynced s = ltb 0 (length s.waiting)

-- What a sync writes: the bytes of the waiting writes, if there are any.
abbrev pub synced_bytes : Storage → Option ℕ
synced_bytes s = then_some (unsynced s) (unsynced_bytes s.waiting)

-- The waiting writes lost (crash); what was discarded stays counted.
unfoldable pub crash : Storage → Storage
crash s = record { current = s.durable; durable = s.durable; waiting = []; discarded = s.discarded }
