-- Entries seen as a table (entries.rt): rows of the index, the term and the payload, rising by index and term. Assumes nothing.
use Rattle.std.specs.Prelude.{◌≡◌, refl, Bool, List, [], ◌∷◌, map, ℕ, ◌+◌, leb, Option, None, Some}
use Rattle.std.proofs.Common.{arith}
use Rattle.laws.specs.Bools.{pick, ◌and◌}
use Rattle.laws.specs.Order.{pairs, rising, lookup, insert_by}
use Rattle.units.specs.Types.{Payload, Entry, same_payload}
use Rattle.units.specs.declared.NodeId.{NodeId}
use Rattle.units.specs.declared.Term.{Term}
use Rattle.units.specs.declared.LogIndex.{LogIndex}
use Rattle.units.specs.declared.SimTime.{SimTime}
use Rattle.layout.specs.Code.{Code, word, pair, iso, sized}
use Rattle.layout.specs.Tables.{Holds, Table, such_table, Held}
use Rattle.layout.specs.Marked.{words_for}
use Rattle.layout.specs.Payload.{payload}
use Rattle.checks.specs.declared.Check.TheVariants.{UniqueEntries}
use Rattle.checks.specs.declared.Compared.{Compared}
use Rattle.checks.specs.declared.Compared.TheVariants.{Same, Other, New}
use Rattle.checks.specs.Compared.{is_other, is_new}
use Rattle.checks.specs.Checks.{Checker, Seen, seen_key, report_if}
use Rattle.checks.specs.Asked.{insert_seen_if, seen_of}

-- A row's parts: index and term, then the payload of up to p bytes.
abbrev pub seen_parts : ℕ → Code ((ℕ × ℕ) × Payload)
seen_parts p = pair (pair word word) (payload p)

-- The entry seen of a row's parts.
abbrev pub from_parts : (ℕ × ℕ) × Payload → Seen
from_parts x = record { index = record { 0 = x.0.0 }; term = record { 0 = x.0.1 }; payload = x.1 }

-- A row's parts of an entry seen.
abbrev pub to_parts : Seen → (ℕ × ℕ) × Payload
to_parts s = ((s.index.0, s.term.0), s.payload)

-- A row of 3 words and those for p bytes.
abbrev pub seen_row : ℕ → Code Seen
seen_row p = sized (iso (seen_parts p) from_parts to_parts (λ s. refl) (λ x h. refl)) (3 + words_for p) (omega arith)

-- Entries seen, rising by index and term.
abbrev pub seen : ℕ → Table Seen
seen p = record { row = seen_row p; rule = λ x. rising pairs (map seen_key x) }

-- Whether an entry's index is one of a log of L places.
abbrev pub index_within : ℕ → Seen → Bool
index_within L s = leb 1 s.index.0 and leb s.index.0 L

-- Entries seen in logs of L places.
abbrev pub seen_in : ℕ → ℕ → Table Seen
seen_in L p = such_table (seen p) (index_within L)

-- ---- answers

-- A payload against the first seen.
unfoldable pub entry_seen : Option Seen → Payload → Compared (Unit {0})
entry_seen None x = New
entry_seen (Some first) x = pick (same_payload first.payload x) Same (Other (tt {0}))

-- What the checks become by an answer: another payload is reported; a new entry is seen now.
abbrev pub entry_after : Compared (Unit {0}) → Checker → SimTime → NodeId → LogIndex → Entry → Checker
entry_after r c time server index e =
    insert_seen_if (is_new r) (seen_of index e) (report_if (is_other r) c time UniqueEntries (server.0 ∷ index.0 ∷ e.term.0 ∷ []))

-- An entry was compared: the answer, whatever n entries b holds and whatever payload the lent words hold.
pub record AsksSeen (p : ℕ) (index : LogIndex) (term : Term) (content : List ℕ) (n : ℕ) (r : Compared (Unit {0})) (b : List ℕ) : Type 0 where
  pub to : (N : ℕ) (xs : List Seen) (x : Payload) → Holds (payload p) content x → Held (seen p) N n b xs
      → r ≡ entry_seen (lookup pairs seen_key (index.0, term.0) xs) x

-- An entry that was not there was put in, whatever payload the lent words hold.
pub record InsertsSeen (p : ℕ) (index : LogIndex) (term : Term) (content : List ℕ) (n : ℕ) (b b' : List ℕ) : Type 0 where
  pub to : (N : ℕ) (xs : List Seen) (x : Payload) → Holds (payload p) content x → Held (seen p) N n b xs
      → lookup pairs seen_key (index.0, term.0) xs ≡ None
      → Held (seen p) N (n + 1) b' (insert_by pairs seen_key (record { index = index; term = term; payload = x }) xs)
