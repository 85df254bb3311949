-- What the functions of write.rt leave and answer. Assumes nothing.
use Rattle.std.specs.Prelude.{◌≡◌, Bool, List, ℕ, ◌+◌, ◌^◌, ◌≤◌, leb, ltb, length, Ok, Err}
use Rattle.std.specs.declared.result.Result.{Result}
use Rattle.laws.specs.Bools.{◌and◌, pick}
use Rattle.layout.specs.Tables.{Gives, append}
use Rattle.raft_log.specs.Log.{Log}
use Rattle.raft_log.specs.Places.{places}
use Rattle.storage.specs.declared.HardState.{HardState}
use Rattle.storage.specs.declared.StorageState.{StorageState}
use Rattle.storage.specs.declared.write.WriteError.{WriteError}
use Rattle.storage.specs.Storage.{Write, apply_write, Storage, discards, write}
use Rattle.storage.specs.Stores.{Parts, Stores}

-- The refusal that an answer is, 0 where there is none.
abbrev pub written_number : Result StorageState WriteError → ℕ
written_number (Ok v) = 0
written_number (Err e) = 10

-- Whether a storage has room: its waiting writes in W rows, its count of discarded entries in 64 bits.
unfoldable pub storage_room : ℕ → Storage → Bool
storage_room W x = leb (length x.waiting) W and ltb x.discarded (2 ^ 64)

-- Whatever storage x was there, `write x w` is there after where it has room; where it has none nothing has changed.
pub record Writes (p L W : ℕ) (v : StorageState) (w : Write) (r : Result StorageState WriteError) (b b' : List ℕ) : Type 0 where
  pub number : (x : Storage) → Stores p L W v b x → written_number r ≡ pick (storage_room W (write x w)) 0 10
  pub done : (v' : StorageState) → r ≡ Ok v' → (x : Storage) → Stores p L W v b x → Stores p L W v' b' (write x w)
  pub kept : written_number r ≡ 10 → b' ≡ b

-- Whatever the parts of b were, a write is made on the current log and is one more that waits.
pub record Makes (p L W m : ℕ) (w : Write) (b b' : List ℕ) : Type 0 where
  pub to : (h : HardState) (x y : Log) (ws : List Write) → Parts p L W m b x y ws → Parts p L W (m + 1) b' (apply_write (record { hard_state = h; log = x }) w).log y (append w ws)

-- How many entries a write discards from a log.
unfoldable pub discards_from : Write → Log → ℕ
discards_from w log = discards log w

-- r is how many entries a put discards, at most one.
pub record Replaces (p L : ℕ) (w : Write) (r : ℕ) (s : List ℕ) : Type 0 where
  pub is : Gives (places p) L s r (discards_from w)
  pub most : r ≤ 1
