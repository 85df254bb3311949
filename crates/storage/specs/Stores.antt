-- What a server's disk is in its one region and its fixed part, and what the functions of lib.rt leave. Assumes nothing.
use Rattle.std.specs.Prelude.{◌≡◌, List, ◌++◌, ℕ, ◌+◌, ◌*◌, ◌≤◌, Some}
use Rattle.layout.specs.Tables.{Held}
use Rattle.layout.specs.Marked.{words_for}
use Rattle.raft_log.specs.Log.{Log}
use Rattle.raft_log.specs.Places.{places}
use Rattle.storage.specs.declared.StorageState.{StorageState}
use Rattle.storage.specs.declared.Synced.{Synced}
use Rattle.storage.specs.Storage.{Write, Storage, sync, crash, synced_bytes}
use Rattle.storage.specs.Waiting.{waiting}

-- The bytes of a disk: two logs of L places and W rows of waiting writes, with payloads of up to p bytes.
abbrev pub disk_bytes : ℕ → ℕ → ℕ → ℕ
disk_bytes p L W = 8 * (L * (2 + words_for p) + (L * (2 + words_for p) + W * (3 + words_for p)))

-- The region b is three parts side by side: the current log x, the durable log y, and m waiting writes ws.
pub record Parts (p L W m : ℕ) (b : List ℕ) (x y : Log) (ws : List Write) : Type 0 where
  pub first : List ℕ
  pub second : List ℕ
  pub third : List ℕ
  pub side : b ≡ first ++ (second ++ third)
  pub current : Held (places p) (L * (2 + words_for p)) L first x
  pub durable : Held (places p) (L * (2 + words_for p)) L second y
  pub writes : Held (waiting p) (W * (3 + words_for p)) m third ws

-- The region b and the fixed part v are the storage x.
pub record Stores (p L W : ℕ) (v : StorageState) (b : List ℕ) (x : Storage) : Type 0 where
  pub parts : Parts p L W v.waiting b x.current.log x.durable.log x.waiting
  pub current : v.current ≡ x.current.hard_state
  pub durable : v.durable ≡ x.durable.hard_state
  pub discarded : v.discarded ≡ x.discarded

-- Whatever storage x was there, `sync x` is there after, and what it wrote is answered, at most 292 bytes a write.
pub record Syncs (p L W : ℕ) (v : StorageState) (r : Synced) (b b' : List ℕ) : Type 0 where
  pub to : (x : Storage) → Stores p L W v b x → Stores p L W r.state b' (sync x)
  pub written : (x : Storage) → Stores p L W v b x → r.written ≡ synced_bytes x
  pub most : (n : ℕ) → r.written ≡ Some n → n ≤ 292 * v.waiting

-- Whatever storage x was there, `crash x` is there after.
pub record Crashes (p L W : ℕ) (v v' : StorageState) (b b' : List ℕ) : Type 0 where
  pub to : (x : Storage) → Stores p L W v b x → Stores p L W v' b' (crash x)
