-- Events as numbers: the kind in order of declaration from 0 (simulation.rs), and four numbers, 0 where an event has fewer. Assumes nothing.
use Rattle.std.specs.Prelude.{Bool, List, [], ◌∷◌, eqb, get_or, Option, None, Some}
use Rattle.std.specs.Option.{unwrap_or}
use Rattle.laws.specs.Bools.{pick, allb}
pub use Rattle.units.specs.Types.{node_flag as presentOf, node_number as named_of}
unfoldable pub use Rattle.units.specs.Types.{node_in as leader_of}
use Rattle.protocol.specs.declared.Timer.{Timer}
use Rattle.protocol.specs.declared.Timer.TheVariants.{Election}
use Rattle.protocol.specs.Numbers.{timer_number, timer_of}
use Rattle.faults.specs.declared.Fault.{Fault}
use Rattle.faults.specs.declared.Fault.TheVariants.{HealAll}
use Rattle.faults.specs.Fault.{fault_kind, fault_first, fault_second, fault_of}
use Rattle.queue.specs.declared.Event.{Event}
use Rattle.queue.specs.declared.Event.TheVariants as event
use Rattle.queue.specs.declared.numbers.EventWords.{EventWords}

-- An event's numbers.
abbrev pub words_of : Event → EventWords
words_of (event.Start slot) = record { kind = 0; a = slot; b = 0; c = 0; d = 0 }
words_of (event.Deliver from to entries) = record { kind = 1; a = from.0; b = to.0; c = entries; d = 0 }
words_of (event.Timer slot timer generation) = record { kind = 2; a = slot; b = timer_number timer; c = generation; d = 0 }
words_of (event.Fault fault) = record { kind = 3; a = fault_kind fault; b = fault_first fault; c = fault_second fault; d = 0 }
words_of (event.ClientSend client) = record { kind = 4; a = client; b = 0; c = 0; d = 0 }
words_of (event.ClientArrive slot client seq attempt) = record { kind = 5; a = slot; b = client; c = seq; d = attempt }
words_of (event.ClientRedirect client attempt leader) = record { kind = 6; a = client; b = attempt; c = presentOf leader; d = named_of leader }
words_of (event.ClientRetry client attempt) = record { kind = 7; a = client; b = attempt; c = 0; d = 0 }
words_of (event.ClientReply client seq index) = record { kind = 8; a = client; b = seq; c = index.0; d = 0 }
words_of (event.ClientTimeout client attempt) = record { kind = 9; a = client; b = attempt; c = 0; d = 0 }

-- A timer that is there, or any.
abbrev pub timer_or : Option Timer → Timer
timer_or timer = unwrap_or timer Election

-- A fault that is there, or any.
abbrev pub fault_or : Option Fault → Fault
fault_or fault = unwrap_or fault HealAll

-- The events that may have four numbers, in order of their kinds.
abbrev pub candidates : EventWords → List Event
candidates w =
    event.Start w.a
    ∷ event.Deliver (record { 0 = w.a }) (record { 0 = w.b }) w.c
    ∷ event.Timer w.a (timer_or (timer_of w.b)) w.c
    ∷ event.Fault (fault_or (fault_of w.a w.b w.c))
    ∷ event.ClientSend w.a
    ∷ event.ClientArrive w.a w.b w.c w.d
    ∷ event.ClientRedirect w.a w.b (leader_of w.c w.d)
    ∷ event.ClientRetry w.a w.b
    ∷ event.ClientReply w.a w.b (record { 0 = w.c })
    ∷ []

-- The only event that may have these numbers.
unfoldable pub candidate : EventWords → Event
candidate w = get_or (candidates w) w.kind (event.ClientTimeout w.a w.b)

-- Whether two times five numbers are the same.
unfoldable pub same_words : EventWords → EventWords → Bool
same_words x y = allb (eqb x.kind y.kind ∷ eqb x.a y.a ∷ eqb x.b y.b ∷ eqb x.c y.c ∷ eqb x.d y.d ∷ [])

-- The event with these numbers, if there is one.
unfoldable pub event_of : EventWords → Option Event
event_of w = pick (same_words (words_of (candidate w)) w) (Some (candidate w)) None
