-- How a log lies in a region of n places (lib.rt), and what its functions leave and answer. Payloads are of up to p bytes. Assumes nothing.
use Rattle.std.specs.Prelude.{◌≡◌, refl, Bool, true, false, List, [], ◌++◌, ℕ, ◌+◌, ◌-◌, ◌*◌, ◌≤◌, ◌<◌, eqb, length, get_or, Option, None, Some}
use Rattle.std.proofs.Common.{arith}
use Rattle.std.proofs.lemmas.List.Edits.{sets}
use Rattle.laws.specs.Bools.{pick}
use Rattle.units.specs.Types.{Payload, noop, command, Entry, same_payload, shape_of, command_length}
use Rattle.units.specs.declared.Term.{Term}
use Rattle.units.specs.declared.PayloadShape.TheVariants.{Noop, Command}
use Rattle.layout.specs.Code.{Code, word, pair, iso, sized, optional}
use Rattle.layout.specs.Tables.{Table, Held, Becomes, rows_in}
use Rattle.layout.specs.Marked.{words_for}
use Rattle.layout.specs.Payload.{payload, mark_of, body_of}
use Rattle.raft_log.specs.declared.EntryShape.{EntryShape}
use Rattle.raft_log.specs.Log.{Log, empty_log, entry_at, put_at, truncate_at, removed_by}

-- An entry is its payload and its term.
abbrev pub entry_of : Payload × ℕ → Entry
entry_of x = record { term = record { 0 = x.1 }; payload = x.0 }

-- The payload and the term of an entry.
abbrev pub parts_of : Entry → Payload × ℕ
parts_of e = (e.payload, e.term.0)

pub one_more : (k : ℕ) → 1 + k + 1 ≡ 2 + k
one_more k = omega arith

-- An entry in 2 + ⌈p/8⌉ words: the payload, then the term.
abbrev pub entry_code : ℕ → Code Entry
entry_code p = sized (iso (pair (payload p) word) entry_of parts_of (λ x. refl) (λ x h. refl)) (2 + words_for p) (one_more (words_for p))

pub has_size : (k : ℕ) → 0 < 2 + k
has_size k = omega arith

-- No entry's first word is zero.
pub entry_marked : (p : ℕ) (x : Entry) (r : List ℕ) → (entry_code p).good x ≡ true → 0 < get_or ((entry_code p).enc x ++ r) 0 0
entry_marked p x r h = by x.payload
  where
    by : (y : Payload) → 0 < mark_of y
    by noop = omega arith
    by (command bs) = omega arith

-- A place: an entry, or zeros where there is none.
abbrev pub place : ℕ → Code (Option Entry)
place p = optional (entry_code p) (has_size (words_for p)) (entry_marked p)

-- The places of a log, one for each index.
abbrev pub places : ℕ → Table (Option Entry)
places p = record { row = place p; rule = λ x. true }

-- ---- answers

-- The shape of an entry.
abbrev pub entry_shape : Entry → EntryShape
entry_shape e = record { term = e.term; payload = shape_of e.payload }

-- What stands at a place: the shape of its entry.
abbrev pub place_of : Option Entry → Option EntryShape
place_of None = None
place_of (Some e) = Some (entry_shape e)

-- What stands at an index (entry).
unfoldable pub place_at : ℕ → Log → Option EntryShape
place_at i log = place_of (entry_at log i)

-- What a row says by its first word and its last.
unfoldable pub said : ℕ → Term → Option EntryShape
said mark term = pick (eqb mark 0) None (Some (record { term = term; payload = pick (eqb mark 1) Noop (Command (mark - 2)) }))

-- The length of the command of an entry that may be absent.
abbrev pub length_of : Option EntryShape → ℕ
length_of None = 0
length_of (Some e) = command_length e.payload

-- The term of what stands at a place.
abbrev pub term_in : Option EntryShape → Option Term
term_in None = None
term_in (Some e) = Some e.term

-- The term of an entry that may be absent.
abbrev pub entry_term : Option Entry → Option Term
entry_term None = None
entry_term (Some e) = Some e.term

-- 1 where a row's first word says that an entry is there.
unfoldable pub presence : ℕ → ℕ
presence mark = pick (eqb mark 0) 0 1

-- The bytes of a command at a place.
abbrev pub bytes_in : Option Entry → List ℕ
bytes_in None = []
bytes_in (Some e) = body_of e.payload

-- Where s holds a log, r is what stands at index i, and a command's bytes are at the front of the buffer.
pub record ReadsEntry (p n i : ℕ) (r : Option EntryShape) (s b b' : List ℕ) : Type 0 where
  pub place : (N : ℕ) (log : Log) → Held (places p) N n s log → r ≡ place_at i log
  pub copied : (N : ℕ) (log : Log) → Held (places p) N n s log → b' ≡ sets b 0 (bytes_in (entry_at log i))

-- The log with an entry put at an index (put).
unfoldable pub put_entry : ℕ → Entry → Log → Log
put_entry i e log = put_at log i e

-- The log is truncated, and r entries were removed.
pub record Truncates (p n from r : ℕ) (b b' : List ℕ) : Type 0 where
  pub kept : Becomes (places p) n n b b' (λ log. truncate_at log from)
  pub removed : r ≡ removed_by (rows_in (place p) n b) from

-- The region holds no entry at any of n places.
pub record Clears (p n : ℕ) (b b' : List ℕ) : Type 0 where
  pub to : (N : ℕ) → length b ≡ 8 * N → n * (2 + words_for p) ≤ N → Held (places p) N n b' (empty_log n)

-- Whether an entry is there with this payload.
abbrev pub is_payload : Option Entry → Payload → Bool
is_payload None x = false
is_payload (Some e) x = same_payload e.payload x

-- Whether a log has an entry with this payload at an index.
unfoldable pub holds_at : ℕ → Payload → Log → Bool
holds_at i x log = is_payload (entry_at log i) x

-- Whether two places hold the same payload, or both none.
abbrev pub same_payloads : Option Entry → Option Entry → Bool
same_payloads None None = true
same_payloads None (Some e) = false
same_payloads (Some d) None = false
same_payloads (Some d) (Some e) = same_payload d.payload e.payload

-- Where s and t hold logs, r says whether the payloads at index i and at index j are the same.
pub record Compares (p n i j : ℕ) (r : Bool) (s t : List ℕ) : Type 0 where
  pub to : (N M : ℕ) (x y : Log) → Held (places p) N n s x → Held (places p) M n t y → r ≡ same_payloads (entry_at x i) (entry_at y j)
