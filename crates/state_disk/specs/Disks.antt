-- The storage of one server of a state: what is read of it, and the state after a write, a sync or a crash of it. Assumes nothing.
use mathlib.Core.Path.{_≡_}
use mathlib.Core.List.{List}
use Prim.Native.Nat.{ℕ, _+_, _*_, _≤_}
use lib.ListN.{length, set}
use lib.Seq.{sets}
use Rattle·laws.specs.Bools.{pick}
use Rattle·units.specs.declared.LogIndex.{LogIndex}
use Rattle·words.specs.Words.{bytes}
use Rattle·log.specs.Log.{Log, entryAt, count, lastIndex, gaps}
use Rattle·log.specs.Places.{placeAt, bytesIn}
use Rattle·log.specs.declared.Place.{Place}
use Rattle·storage.specs.declared.StorageState.{StorageState}
use Rattle·storage.specs.declared.write.Written.{Written}
use Rattle·storage.specs.declared.write.Written.the-variants.{Done}
use Rattle·storage.specs.Storage.{Write, sync, crash, unsynced, unsyncedBytes}
use Rattle·storage.specs.Stores.{diskBytes}
use Rattle·storage.specs.Writes.{writtenNumber}
use Rattle·model.specs.State.{State, serverAt}
use Rattle·model.specs.Fields.{withStorage}
use Rattle·model.specs.Simulation.{onServer, writeAt}
use Rattle·model.specs.Fits.{stateFits}
use Rattle·state.specs.declared.Capacity.{Capacity}
use Rattle·state.specs.Sizes.{logWords, blockWords}
use Rattle·state.specs.Parts.{storageStateWords}
use Rattle·state.specs.Server.{storageOfServer}
use Rattle·state.specs.Area.{Area, capacityOf}
use Rattle·state.specs.Changes.{Changes, Reads}
use Rattle·state.specs.Lens.{ServerCut}
use Rattle·state_disk·specs.specs.declared.DiskPlace.{DiskPlace}
use Rattle·state_disk·specs.specs.declared.LogPlace.{LogPlace}
use Rattle·state_disk·specs.specs.declared.SyncTold.{SyncTold}
use Rattle·state_disk·specs.specs.declared.LogNumbers.{LogNumbers}

-- ---- where it lies

-- The bytes at which the storage of the server at k begins, and its disk begins and ends; it lies in the area.
pub record DiskIn (b : List ℕ) (F : Capacity) (k : ℕ) (r : DiskPlace) : Type 0 where
  pub block : r .block ≡ 8 * (512 + k * blockWords F)
  pub from : r .from ≡ r .block + 512
  pub to : r .to ≡ r .from + diskBytes (F .limits .payload) (F .limits .«log_indexes») (F .limits .writes)
  pub ends : r .to ≤ length b

-- ---- the fixed part

-- Both hard states of the server at k, its count of waiting writes, and the entries that it has discarded.
unfoldable pub storageAt : ℕ → State → StorageState
storageAt k s = storageOfServer (serverAt s k)

-- r is that, and has at most W waiting writes.
pub record StorageIn (b : List ℕ) (F : Capacity) (k : ℕ) (r : StorageState) : Type 0 where
  pub state : Reads b F r (storageAt k)
  pub most : r .waiting ≤ F .limits .writes

-- The fixed part of the storage in the block of the server at k is v, and nothing else has changed.
pub record StoresAt (b b′ : List ℕ) (F : Capacity) (k : ℕ) (v : StorageState) : Type 0 where
  pub to : (r : List ℕ) (s : State) (xs : List (List ℕ)) → ServerCut b r F s k xs → ServerCut b′ r F s k (set xs 0 (bytes (storageStateWords v)))

-- ---- writes

-- A write of the server at k.
unfoldable pub written : ℕ → Write → State → State
written k w s = writeAt s k w

-- What it answers: 0, or 10 where the state with it does not fit.
unfoldable pub writeAnswer : ℕ → Write → State → ℕ
writeAnswer k w s = pick (stateFits (writeAt s k w)) 0 10

-- Where a disk's write was made its fixed part is stored; else nothing has changed.
pub record Finishes (b b′ : List ℕ) (F : Capacity) (k : ℕ) (r : Written) (c : ℕ) : Type 0 where
  pub code : c ≡ writtenNumber r
  pub done : (v : StorageState) → r ≡ Done v → StoresAt b b′ F k v
  pub kept : writtenNumber r ≡ 10 → b′ ≡ b

-- The write is made where the state with it fits, and the answer is 0; else the answer is 10, and nothing has changed.
pub record WritesAt (b b′ : List ℕ) (F : Capacity) (k : ℕ) (w : Write) (r : ℕ) : Type 0 where
  pub code : Reads b F r (writeAnswer k w)
  pub changes : Changes b b′ F (written k w)
  pub kept : r ≡ 10 → b′ ≡ b

-- ---- sync and crash

-- Whether the server at k has anything to sync, and how many bytes.
unfoldable pub unsyncedAt : ℕ → State → SyncTold
unsyncedAt k s = record { wrote = unsynced (serverAt s k .storage); bytes = unsyncedBytes (serverAt s k .storage .waiting) }

-- The state with the waiting writes of the server at k made durable.
unfoldable pub syncedAt : ℕ → State → State
syncedAt k s = onServer s k (λ v. withStorage v (sync (v .storage)))

-- The server at k is synced, and what there was to write is told.
pub record SyncsAt (b b′ : List ℕ) (F : Capacity) (k : ℕ) (r : SyncTold) : Type 0 where
  pub changes : Changes b b′ F (syncedAt k)
  pub told : Reads b F r (unsyncedAt k)

-- The state with the waiting writes of the server at k lost.
unfoldable pub crashedAt : ℕ → State → State
crashedAt k s = onServer s k (λ v. withStorage v (crash (v .storage)))

-- ---- the log

-- The bytes at which the log of the server at k begins and ends, as written so far; it lies in the area.
pub record LogIn (b : List ℕ) (F : Capacity) (k : ℕ) (r : LogPlace) : Type 0 where
  pub from : r .from ≡ 8 * (512 + k * blockWords F) + 512
  pub to : r .to ≡ r .from + 8 * logWords F
  pub ends : r .to ≤ length b

-- The log of the server at k as written so far.
unfoldable pub logAt : ℕ → State → Log
logAt k s = serverAt s k .storage .current .log

-- r is what stands at an index of that log; a command's bytes are at the front of the buffer, and the rest of it is as it was.
pub record ReadsEntryAt (b : List ℕ) (F : Capacity) (k : ℕ) (index : LogIndex) (r : Place) (z z′ : List ℕ) : Type 0 where
  pub place : Reads b F r (λ s. placeAt (index .0) (logAt k s))
  pub copied : (s : State) → Area b s → F ≡ capacityOf s → z′ ≡ sets z 0 (bytesIn (entryAt (logAt k s) (index .0)))

-- That log in numbers: its entries, its last index, its gaps.
unfoldable pub logNumbersAt : ℕ → State → LogNumbers
logNumbersAt k s = record { count = count (logAt k s); last = record { 0 = lastIndex (logAt k s) }; gaps = gaps (logAt k s) }
