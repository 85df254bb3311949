-- A log by place: place i holds the entry at index i + 1, or none (the BTreeMap of consensus/storage.rs). Assumes nothing.
use Rattle.std.specs.Prelude.{List, [], ◌∷◌, ◌++◌, ℕ, zero, suc, ◌+◌, ◌-◌, eqb, length, get_or, set, take, drop, replicate, Option, None, Some}
use Rattle.laws.specs.Bools.{pick}
use Rattle.laws.specs.Lists.{is_some}
use Rattle.units.specs.Types.{Entry}

-- An entry or none at each index from 1 on.
abbrev pub Log : Type 0
Log = List (Option Entry)

-- No entry at any of so many indexes.
abbrev pub empty_log : ℕ → Log
empty_log n = replicate n None

-- The entry at an index, if there is one (entry).
unfoldable pub entry_at : Log → ℕ → Option Entry
entry_at log zero = None
entry_at log (suc i) = get_or log i None

-- The entry at an index replaced (put); the first index is 1.
unfoldable pub put_at : Log → ℕ → Entry → Log
put_at log zero e = log
put_at log (suc i) e = set log i (Some e)

-- Every entry at an index or later removed (truncate); from 0 everything.
unfoldable pub truncate_at : Log → ℕ → Log
truncate_at log from = take (from - 1) log ++ empty_log (length log - (from - 1))

-- The number of entries (len).
unfoldable pub count : Log → ℕ
count [] = 0
count (x ∷ xs) = pick (is_some x) 1 0 + count xs

-- The highest index that holds an entry, or 0 (last_index).
unfoldable pub last_index : Log → ℕ
last_index [] = 0
last_index (x ∷ xs) = pick (eqb (last_index xs) 0) (pick (is_some x) 1 0) (suc (last_index xs))

-- Indexes below the last that hold no entry (gaps).
unfoldable pub gaps : Log → ℕ
gaps log = last_index log - count log

-- The number of entries that a truncation removes (sim/storage.rs, truncate).
unfoldable pub removed_by : Log → ℕ → ℕ
removed_by log from = count (drop (from - 1) log)
