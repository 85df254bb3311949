-- What the functions of replay.rt leave and answer. Assumes nothing.
use Rattle.std.specs.Prelude.{◌≡◌, List, ℕ, ◌+◌, ◌*◌, ◌≤◌, get_or, take, drop}
use Rattle.units.specs.Types.{Payload, noop, command, Entry}
use Rattle.layout.specs.Marked.{words_for}
use Rattle.layout.specs.Tables.{Gives}
use Rattle.raft_log.specs.Log.{Log, truncate_at}
use Rattle.record.specs.Postcard.{record_bytes, hard_state_record, truncate_record, put_bytes}
use Rattle.units.specs.declared.PayloadShape.{PayloadShape}
use Rattle.units.specs.declared.PayloadShape.TheVariants.{Noop, Command}
use Rattle.raft_log.specs.declared.EntryShape.{EntryShape}
use Rattle.storage.specs.declared.HardState.{HardState}
use Rattle.storage.specs.declared.waiting.Shape.{Shape}
use Rattle.storage.specs.Storage.{Write, apply_write, apply_writes, unsynced_bytes}
use Rattle.storage.specs.Waiting.{waiting, length_of, nothing, shape_at}
use Rattle.storage.specs.Stores.{Parts}

-- The length of the record of a write of this shape.
abbrev pub shape_bytes : Shape → ℕ
shape_bytes (Shape.HardState h) = record_bytes (hard_state_record h.term h.voted_for)
shape_bytes (Shape.Put index e) = put_bytes index e.term e.payload
shape_bytes (Shape.Truncate from) = record_bytes (truncate_record from)

-- r is the length of the record.
pub record Sizes (s : Shape) (r : ℕ) : Type 0 where
  pub is : r ≡ shape_bytes s
  pub most : r ≤ 36 + length_of s

-- r is the bytes of the m waiting writes that s holds; a record has at most 36 bytes and its command.
pub record Sums (p m r : ℕ) (s : List ℕ) : Type 0 where
  pub is : Gives (waiting p) m s r unsynced_bytes
  pub most : r ≤ 292 * m

-- The first d bytes of the command of write k, on a disk of L places a log.
unfoldable pub body_at : ℕ → ℕ → ℕ → ℕ → List ℕ → List ℕ
body_at p L k d b = take d (drop (16 * (L * (2 + words_for p)) + 8 * (k * (3 + words_for p) + 1)) b)

-- The payload of write k, which has this shape.
abbrev pub payload_at : ℕ → ℕ → ℕ → PayloadShape → List ℕ → Payload
payload_at p L k Noop b = noop
payload_at p L k (Command d) b = command (body_at p L k d b)

-- The entry of write k, which has this shape.
abbrev pub entry_at : ℕ → ℕ → ℕ → EntryShape → List ℕ → Entry
entry_at p L k e b = record { term = e.term; payload = payload_at p L k e.payload b }

-- The first d bytes of the command of write k are at the front of a buffer.
pub record ReadsCommand (p L k d : ℕ) (b z : List ℕ) : Type 0 where
  pub is : take d z ≡ body_at p L k d b

-- The log without the entries at an index or later.
unfoldable pub truncate_from : ℕ → Log → Log
truncate_from from y = truncate_at y from

-- Whatever the parts of b were, the durable log is `op` of what it was.
pub record Changes (p L W : ℕ) (b b' : List ℕ) (op : Log → Log) : Type 0 where
  pub to : (m : ℕ) (x y : Log) (ws : List Write) → Parts p L W m b x y ws → Parts p L W m b' x (op y) ws

-- r is write k of the m that b has, without the bytes of its command, which has at most p.
pub record Tells (p L W m k : ℕ) (r : Shape) (b : List ℕ) : Type 0 where
  pub is : (x y : Log) (ws : List Write) → Parts p L W m b x y ws → r ≡ shape_at k ws
  pub most : length_of r ≤ p

-- Write k is made on the durable log and on a hard state.
pub record Applies (p L W m k : ℕ) (state state' : HardState) (b b' : List ℕ) : Type 0 where
  pub to : (x y : Log) (ws : List Write) → Parts p L W m b x y ws → Parts p L W m b' x (apply_write (record { hard_state = state; log = y }) (get_or ws k nothing)).log ws
  pub hard : (x y : Log) (ws : List Write) → Parts p L W m b x y ws → state' ≡ (apply_write (record { hard_state = state; log = y }) (get_or ws k nothing)).hard_state

-- The same of all m waiting writes, in order.
pub record Replays (p L W m : ℕ) (state state' : HardState) (b b' : List ℕ) : Type 0 where
  pub to : (x y : Log) (ws : List Write) → Parts p L W m b x y ws → Parts p L W m b' x (apply_writes (record { hard_state = state; log = y }) ws).log ws
  pub hard : (x y : Log) (ws : List Write) → Parts p L W m b x y ws → state' ≡ (apply_writes (record { hard_state = state; log = y }) ws).hard_state
