-- The queue as a table (table.rt): what its functions leave and answer, whatever queue the bytes hold. Assumes nothing.
use Rattle.std.specs.Prelude.{◌≡◌, true, List, [], ◌∷◌, ℕ, ◌+◌, ◌-◌, ◌*◌, length, get_or}
use Rattle.std.proofs.lemmas.List.Edits.{sets}
use Rattle.layout.specs.Tables.{Holds, Table, Held, Becomes}
use Rattle.layout.specs.Marked.{words_for}
use Rattle.queue.specs.declared.numbers.EventWords.{EventWords}
use Rattle.queue.specs.declared.table.Earliest.{Earliest}
use Rattle.queue.specs.Queue.{Scheduled, Queue, push}
use Rattle.queue.specs.Range.{scheduled_fits, in_order}
use Rattle.queue.specs.RowLaws.{event_row}

-- Queued events in range, in order of their times.
abbrev pub events : ℕ → ℕ → ℕ → ℕ → Table Scheduled
events S C L M = record { row = event_row S C L M; rule = in_order }

-- The queue without its earliest event (the second part of pop).
abbrev pub rest : Queue → Queue
rest [] = []
rest (e ∷ q) = q

-- The numbers of the event of a row, in its words.
abbrev pub numbers_in : List ℕ → EventWords
numbers_in ws = record { kind = get_or ws 1 0; a = get_or ws 2 0; b = get_or ws 3 0; c = get_or ws 4 0; d = get_or ws 5 0 }

-- A row that is as wide as messages of up to M bytes ask holds e after.
pub record PutsRow (e : Scheduled) (b b' : List ℕ) : Type 0 where
  pub to : (S C L M : ℕ) → length b ≡ 8 * (7 + words_for M) → scheduled_fits S C L M e ≡ true → Holds (event_row S C L M) b' e

-- The n events that b holds have become one more, with e pushed.
pub record Pushes (e : Scheduled) (M n : ℕ) (b b' : List ℕ) : Type 0 where
  pub to : (S C L : ℕ) → scheduled_fits S C L M e ≡ true → Becomes (events S C L M) n (n + 1) b b' (λ q. push q e.time e.event e.message)

-- The n events that b holds have become one less, the earliest taken.
pub record Removes (M n : ℕ) (b b' : List ℕ) : Type 0 where
  pub to : (S C L : ℕ) → Becomes (events S C L M) n (n - 1) b b' rest

-- Where b holds a queue that begins with e, r is its time, its event and its message's length.
pub record GivesFirst (r : Earliest) (b : List ℕ) : Type 0 where
  pub to : (S C L M N n : ℕ) (e : Scheduled) (q : Queue) → Held (events S C L M) N n b (e ∷ q) → r ≡ record { time = e.time; event = e.event; length = length e.message }

-- Where b holds a queue that begins with e, and count is its message's length, the message is at the front of the buffer.
pub record Copies (count : ℕ) (b d d' : List ℕ) : Type 0 where
  pub to : (S C L M N n : ℕ) (e : Scheduled) (q : Queue) → Held (events S C L M) N n b (e ∷ q) → count ≡ length e.message → d' ≡ sets d 0 e.message
