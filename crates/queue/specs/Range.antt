-- The ranges of a queued event (question 5): servers S, clients C, log indexes L and message bytes M of document 01. Assumes nothing.
use Rattle.std.specs.Prelude.{Bool, List, map, ℕ, ◌^◌, leb, ltb, eqb, length}
use Rattle.laws.specs.Bools.{pick, ◌and◌, every}
use Rattle.laws.specs.Order.{numbers, sorted}
use Rattle.faults.specs.Fault.{in_cluster, fault_in_range}
pub use Rattle.layout.specs.UpTo.{is64 as word}
pub use Rattle.layout.specs.Marked.{is_byte as byte}
use Rattle.queue.specs.declared.Event.{Event}
use Rattle.queue.specs.declared.Event.TheVariants as event
use Rattle.queue.specs.declared.numbers.EventWords.{EventWords}
use Rattle.queue.specs.Numbers.{words_of}
use Rattle.queue.specs.Queue.{Scheduled, Queue, time_of}

module _ (S C L : ℕ) where
  -- Slots are below S, clients below C, ids 1 to S, entries of 32 bits, indexes at most L, and faults as `faults` says.
  abbrev pub in_range : Event → Bool
  in_range (event.Start slot) = ltb slot S
  in_range (event.Deliver from to entries) = in_cluster S from and in_cluster S to and ltb entries (2 ^ 32)
  in_range (event.Timer slot timer generation) = ltb slot S
  in_range (event.Fault fault) = fault_in_range S fault
  in_range (event.ClientSend client) = ltb client C
  in_range (event.ClientArrive slot client seq attempt) = ltb slot S and ltb client C
  in_range (event.ClientRedirect client attempt leader) = ltb client C
  in_range (event.ClientRetry client attempt) = ltb client C
  in_range (event.ClientReply client seq index) = ltb client C and leb index.0 L
  in_range (event.ClientTimeout client attempt) = ltb client C

-- Five numbers of 64 bits.
abbrev pub words_fit : EventWords → Bool
words_fit w = word w.kind and word w.a and word w.b and word w.c and word w.d

-- An event in range, each of its numbers of 64 bits.
abbrev pub event_fits : ℕ → ℕ → ℕ → Event → Bool
event_fits S C L e = words_fit (words_of e) and in_range S C L e

-- Only a delivery, kind 1, has a message.
unfoldable pub message_room : ℕ → Event → ℕ
message_room M e = pick (eqb (words_of e).kind 1) M 0

-- A message of an event: bytes, up to the event's room.
abbrev pub message_fits : ℕ → Event → List ℕ → Bool
message_fits M e bytes = word (length bytes) and leb (length bytes) (message_room M e) and every byte bytes

-- A queued event in range.
abbrev pub scheduled_fits : ℕ → ℕ → ℕ → ℕ → Scheduled → Bool
scheduled_fits S C L M e = word e.time.0 and event_fits S C L e.event and message_fits M e.event e.message

-- Earlier events stand first.
unfoldable pub in_order : Queue → Bool
in_order q = sorted numbers (map time_of q)
