-- The list of a schedule as a table: rows of 4 words, in order of their times, equal times in the order of their pushes. Assumes nothing.
use Rattle.std.specs.Prelude.{◌≡◌, refl, List, [], ◌∷◌, map, ℕ, ◌+◌, ◌*◌, length, take, drop}
use Rattle.laws.specs.Order.{numbers, sorted, push_by}
use Rattle.faults.specs.Fault.{numbers_of}
use Rattle.faults_chaos.specs.declared.Timed.{Timed}
use Rattle.faults_chaos.specs.declared.Entries.{Entries}
use Rattle.faults_chaos.specs.Answers.{count_of, list_of}
use Rattle.layout.specs.Code.{Code, word, pair, iso}
use Rattle.layout.specs.Tables.{Table, Held}
use Rattle.faults_schedule.specs.declared.Listed.{Listed}

-- Four numbers: the time, the kind and the fault's two numbers.
abbrev pub Four : Type 0
Four = ℕ × (ℕ × (ℕ × ℕ))

-- A row of numbers, and the numbers of a row.
abbrev pub from_four : Four → Listed
from_four x = record { time = record { 0 = x.0 }; fault = record { kind = x.1.0; first = x.1.1.0; second = x.1.1.1 } }

abbrev pub to_four : Listed → Four
to_four l = (l.time.0, (l.fault.kind, (l.fault.first, l.fault.second)))

-- How they lie in words.
abbrev pub listed_row : Code Listed
listed_row = iso (pair word (pair word (pair word word))) from_four to_four (λ l. refl) (λ x h. refl)

-- The time of a row.
abbrev pub time_of : Listed → ℕ
time_of l = l.time.0

-- Rows in order of their times.
abbrev pub schedule : Table Listed
schedule = record { row = listed_row; rule = λ x. sorted numbers (map time_of x) }

-- The row of a scheduled fault: its time and its numbers.
abbrev pub row_of : Timed → Listed
row_of t = record { time = t.time; fault = numbers_of t.fault }

-- One scheduled fault more, behind the rows that are not later.
unfoldable pub push : Timed → List Listed → List Listed
push t x = push_by numbers time_of (row_of t) x

-- Scheduled faults more, one after another.
unfoldable pub push_each : List Timed → List Listed → List Listed
push_each [] x = x
push_each (t ∷ ts) x = push_each ts (push t x)

-- Whatever n rows x are the first of b, the m rows `op x` are the first of b'; the bytes behind them stay.
pub record Extends (n m : ℕ) (b b' : List ℕ) (op : List Listed → List Listed) : Type 0 where
  pub to : (x : List Listed) → Held schedule (4 * n) n (take (32 * n) b) x → Held schedule (4 * m) m (take (32 * m) b') (op x)
  pub behind : drop (32 * m) b' ≡ drop (32 * m) b
  pub long : length b' ≡ length b

-- The first n rows of b have become r, with the entries of a fault pushed.
pub record Places (entries : Entries) (n r : ℕ) (b b' : List ℕ) : Type 0 where
  pub count : r ≡ n + count_of entries
  pub to : Extends n r b b' (push_each (list_of entries))
