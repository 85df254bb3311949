-- What the checks write, as changes of the whole state: what contracts cite. Assumes nothing.
use Rattle.std.specs.Prelude.{◌≡◌, Bool, not, List, ℕ, ◌*◌, get_or, Option, None, Some}
use Rattle.std.proofs.lemmas.List.Edits.{sets}
use Rattle.laws.specs.Lists.{is_some}
use Rattle.laws.specs.Order.{numbers, pairs, lookup}
use Rattle.words.specs.Words.{bytes_of}
use Rattle.units.specs.Types.{Payload, Entry}
use Rattle.units.specs.declared.NodeId.{NodeId}
use Rattle.units.specs.declared.Term.{Term}
use Rattle.units.specs.declared.LogIndex.{LogIndex}
use Rattle.units.specs.declared.SimTime.{SimTime}
use Rattle.checks.specs.declared.Check.{Check}
use Rattle.checks.specs.Checks.{report_if, leader_key, seen_key}
use Rattle.checks.specs.Asked.{append_if, insert_leader_if, insert_seen_if}
use Rattle.layout.specs.Tables.{Holds, Held}
use Rattle.layout.specs.Parts.{lent_row, back_row}
use Rattle.layout.specs.Payload.{payload}
use Rattle.raft_log.specs.Log.{Log, entry_at}
use Rattle.raft_log.specs.Places.{places}
use Rattle.model.specs.State.{State, server_at}
use Rattle.model.specs.Fields.{with_checker}
use Rattle.state.specs.declared.Capacity.{Capacity}
use Rattle.state.specs.Changes.{Changes}
use Rattle.state.specs.Parts.{counts_words}
use Rattle.state.specs.Area.{Area, capacity_of, counts_of}

-- Word j of the counts of rows.
unfoldable pub count_at : ℕ → State → ℕ
count_at j s = get_or (counts_words (counts_of s)) j 0

-- A violation reported where a test is true: counted, and kept while fewer than 32 are.
unfoldable pub reported_if : Bool → SimTime → Check → List ℕ → State → State
reported_if due time check numbers s = with_checker s (report_if due s.checker time check numbers)

-- An applied payload after the last, where a test is true.
unfoldable pub applied_if : Bool → Payload → State → State
applied_if due x s = with_checker s (append_if due x s.checker)

-- The leader of a term, where a test is true and the term has none.
unfoldable pub led_if : Bool → Term → NodeId → State → State
led_if due term server s = with_checker s (insert_leader_if due (record { term = term; server = server }) s.checker)

-- Whether a term has no leader.
unfoldable pub leaderless : Term → State → Bool
leaderless term s = not (is_some (lookup numbers leader_key term.0 s.checker.leaders))

-- An entry seen, where a test is true and none was under its index and term.
unfoldable pub seen_if : Bool → LogIndex → Term → Payload → State → State
seen_if due index term x s = with_checker s (insert_seen_if due (record { index = index; term = term; payload = x }) s.checker)

-- Whether no entry was seen under an index and a term.
unfoldable pub unseen : LogIndex → Term → State → Bool
unseen index term s = not (is_some (lookup pairs seen_key (index.0, term.0) s.checker.entries))

-- Whatever payload the words of a row hold: an entry with it was seen, where a test is true and none was under its index and term.
pub record Sees (b b' row : List ℕ) (F : Capacity) (due : Bool) (index : LogIndex) (term : Term) : Type 0 where
  pub to : (x : Payload) → Holds (payload F.limits.payload) row x → Changes b b' F (seen_if due index term x)

-- ---- an entry of a server's log

-- The entry at an index of the current log of the server at a place, if there is one.
unfoldable pub entry_of : ℕ → LogIndex → State → Option Entry
entry_of k index s = entry_at (server_at s k).storage.current.log index.0

-- An entry that may be there, seen under an index and a term.
abbrev pub seen_maybe : Option Entry → Bool → LogIndex → Term → State → State
seen_maybe None due index term s = s
seen_maybe (Some e) due index term s = seen_if due index term e.payload s

-- The entry at an index of a server's current log seen, where a test is true, it is there, and none was seen under the index and the term.
unfoldable pub seen_of_if : Bool → ℕ → LogIndex → Term → State → State
seen_of_if due k index term s = seen_maybe (entry_of k index s) due index term s

-- Whatever log of l places the bytes b hold, r is whether an entry is at index i, and the row is then its payload's.
pub record CopiesRow (p l i : ℕ) (r : Bool) (b row : List ℕ) : Type 0 where
  pub there : (N : ℕ) (log : Log) → Held (places p) N l b log → r ≡ is_some (entry_at log i)
  pub held : (N : ℕ) (log : Log) → Held (places p) N l b log → (e : Entry) → entry_at log i ≡ Some e → Holds (payload p) row e.payload

-- The same of the current log of the server at place k, whatever state with these counts the bytes b hold.
pub record CopiesEntry (b : List ℕ) (F : Capacity) (k : ℕ) (index : LogIndex) (r : Bool) (row : List ℕ) : Type 0 where
  pub there : (s : State) → Area b s → F ≡ capacity_of s → r ≡ is_some (entry_of k index s)
  pub held : (s : State) → Area b s → F ≡ capacity_of s → (e : Entry) → entry_of k index s ≡ Some e
      → Holds (payload F.limits.payload) row e.payload

-- ---- a table and its count

-- The w words of b from word `at` on were lent and came back as `rows`, `does` says of both what became of them, and word k became v.
pub record Stored (b b' : List ℕ) (at w k v : ℕ) (does : List ℕ → List ℕ → Type 0) : Type 0 where
  pub rows : List ℕ
  pub put : does (lent_row at w b) rows
  pub is : b' ≡ sets (back_row at w b rows) (8 * k) (bytes_of 8 v)
