-- A seal that does not cut: what contracts cite. Assumes nothing.
use Rattle.std.specs.Prelude.{◌≡◌, Bool, true, List, ℕ, length, drop, Option, Some}
use Rattle.laws.specs.Bools.{pick, ◌and◌}
use Rattle.metrics.specs.Metrics.{record_sync, counters_fit}
use Rattle.metrics.specs.declared.Metrics.{Metrics}
use Rattle.std.specs.Option.{is_some}
use Rattle.storage.specs.Storage.{unsynced, unsynced_bytes, written}
use Rattle.model.specs.State.{State, Phase, server_at}
use Rattle.model.specs.Fields.{with_checker}
use Rattle.model.specs.Fits.{checker_fits}
use Rattle.state.specs.declared.Capacity.{Capacity}
use Rattle.state.specs.declared.OpenInput.{OpenInput}
use Rattle.state.specs.Parts.{open_of}
use Rattle.state.specs.Changes.{Inside, Changes, Reads}
use Rattle.state_header.specs.Header.{metrics_set, phase_set}
use Rattle.state_disk.specs.Disks.{synced_at}
use Rattle.state_checks.specs.Acts.{ChangesWhere, write_checked, writes_checked}
use Rattle.state_asks.specs.Asks.{waiting_of, write_count_of, written_index_of, after_writes}

-- ---- the written indexes

-- The state with the index of waiting write i checked of the server at k.
unfoldable pub write_checked_at : ℕ → ℕ → State → State
write_checked_at k i s = write_checked k s.now (written_index_of k i s) s

-- With the indexes of all waiting writes from i on checked.
unfoldable pub rest_checked : ℕ → ℕ → State → State
rest_checked k i s = writes_checked k s.now (written (drop i (waiting_of k s))) s

-- With the indexes of all waiting writes checked.
unfoldable pub writes_checked_at : ℕ → State → State
writes_checked_at k s = with_checker s (after_writes k s)

-- The server at k has so many waiting writes.
unfoldable pub Waits : ℕ → ℕ → State → Type 0
Waits k n s = n ≡ write_count_of k s

-- The writes before i were checked, of n: what checks the rest checks all.
pub record Checking (b : List ℕ) (F : Capacity) (k n : ℕ) (b' : List ℕ) (i : ℕ) : Type 0 where
  pub inside : Inside b' F
  pub long : length b' ≡ length b
  pub whole : (b₂ : List ℕ) → ChangesWhere b' b₂ F (Waits k n) (rest_checked k i) → Changes b b₂ F (writes_checked_at k)

-- ---- the sync

-- The metrics with a sync of the server at k counted, where it writes something.
unfoldable pub metrics_after : ℕ → State → Metrics
metrics_after k s =
    let v = server_at s k in
    pick (unsynced v.storage) (record_sync s.metrics (unsynced_bytes v.storage.waiting)) s.metrics

-- Whether its counters fit then.
unfoldable pub count_test : ℕ → State → Bool
count_test k s =
    let v = server_at s k in
    pick (unsynced v.storage) (counters_fit (record_sync s.metrics (unsynced_bytes v.storage.waiting))) true

-- Whether they fit was answered, and where they do, the metrics.
pub record CountsSync (b : List ℕ) (F : Capacity) (k : ℕ) (r : Option Metrics) : Type 0 where
  pub fits : Reads b F (is_some r) (count_test k)
  pub metrics : (m : Metrics) → r ≡ Some m → Reads b F m (metrics_after k)

-- The state with the server at k synced, and that counted.
unfoldable pub sync_counted : ℕ → State → State
sync_counted k s = synced_at k (metrics_set (metrics_after k s) s)

-- ---- the seal

-- The state with the input of the server at k sealed by a sync, in the phase p.
unfoldable pub sync_at : ℕ → Phase → State → State
sync_at k p s = phase_set p (sync_counted k (writes_checked_at k s))

-- Question 10 of it.
unfoldable pub sync_test : ℕ → State → Bool
sync_test k s = checker_fits s.config s.limits (after_writes k s) and count_test k s

-- Whatever phase has the numbers n: the area holds the state with its input sealed by a sync, in that phase.
pub record SyncsInput (b b' : List ℕ) (F : Capacity) (n : OpenInput) : Type 0 where
  pub to : (p : Phase) → n ≡ open_of p → Changes b b' F (sync_at n.slot p)
