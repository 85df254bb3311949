-- Future events, earliest first, equal times in the order of their pushes (queue.rs). Assumes nothing.
use Rattle.std.specs.Prelude.{List, [], ◌∷◌, ℕ}
use Rattle.laws.specs.Order.{numbers, push_by}
use Rattle.units.specs.declared.SimTime.{SimTime}
use Rattle.queue.specs.declared.Event.{Event}

-- An event with its time, and the bytes of the message that it delivers, if it delivers one.
pub record Scheduled : Type 0 where
  pub time : SimTime
  pub event : Event
  pub message : List ℕ

-- Events in the order in which they leave.
abbrev pub Queue : Type 0
Queue = List Scheduled

-- What events are sorted by.
abbrev pub time_of : Scheduled → ℕ
time_of s = s.time.0

-- One event more (push).
unfoldable pub push : Queue → SimTime → Event → List ℕ → Queue
push q time event message = push_by numbers time_of (record { time = time; event = event; message = message }) q

-- The earliest event, taken, with the queue after (pop).
pub data Popped : Type 0 where
  empty : Popped
  taken : Scheduled → Queue → Popped

-- The first event, and those after it (pop).
abbrev pub pop : Queue → Popped
pop [] = empty
pop (s ∷ q) = taken s q
