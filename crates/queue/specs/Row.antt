-- A queued event as a row of 7 + ⌈M/8⌉ words: its time, its five numbers, and its message under its length (D1). Assumes nothing.
use Rattle.std.specs.Prelude.{Bool, false, List, ℕ, ◌+◌, leb, length, Option, None, Some}
use Rattle.std.proofs.Common.{arith}
use Rattle.laws.specs.Bools.{◌and◌}
use Rattle.layout.specs.Code.{Code, word, pair, sized}
use Rattle.layout.specs.Marked.{words_for}
use Rattle.layout.specs.Payload.{message}
use Rattle.queue.specs.declared.numbers.EventWords.{EventWords}
use Rattle.queue.specs.Queue.{Scheduled}
use Rattle.queue.specs.Numbers.{words_of, candidate, event_of}
use Rattle.queue.specs.Range.{in_range, message_room}
use Rattle.queue.specs.declared.Event.{Event}

-- The numbers of a row: the time, the kind, a, b, c, d, and the message.
abbrev pub Parts : Type 0
Parts = ℕ × (ℕ × (ℕ × (ℕ × (ℕ × (ℕ × List ℕ)))))

-- How they lie in words.
abbrev pub parts : ℕ → Code Parts
parts M = sized (pair word (pair word (pair word (pair word (pair word (pair word (message M))))))) (7 + words_for M) (omega arith)

-- The event's numbers among them.
abbrev pub words_in : Parts → EventWords
words_in p = record { kind = p.1.0; a = p.1.1.0; b = p.1.1.1.0; c = p.1.1.1.1.0; d = p.1.1.1.1.1.0 }

-- The message among them.
abbrev pub message_in : Parts → List ℕ
message_in p = p.1.1.1.1.1.1

-- The numbers of a queued event.
abbrev pub parts_of : Scheduled → Parts
parts_of e = (e.time.0, ((words_of e.event).kind, ((words_of e.event).a, ((words_of e.event).b, ((words_of e.event).c, ((words_of e.event).d, e.message))))))

-- The queued event that numbers tell.
abbrev pub scheduled_of : Parts → Scheduled
scheduled_of p = record { time = record { 0 = p.0 }; event = candidate (words_in p); message = message_in p }

-- Whether five numbers tell an event in range that may have a message of n bytes.
abbrev pub told : ℕ → ℕ → ℕ → ℕ → Option Event → ℕ → Bool
told S C L M None n = false
told S C L M (Some e) n = in_range S C L e and leb n (message_room M e)

-- Whether the numbers of a row tell an event in range.
abbrev pub parts_tell : ℕ → ℕ → ℕ → ℕ → Parts → Bool
parts_tell S C L M p = told S C L M (event_of (words_in p)) (length (message_in p))
