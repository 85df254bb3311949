-- The event queue of a state in its area: what is read of it, and the state with an event more or less. Assumes nothing.
use Rattle.std.specs.Prelude.{◌≡◌, Bool, true, List, [], ◌∷◌, ◌++◌, ℕ, zero, suc, ◌+◌, ◌-◌, ◌≤◌, leb, length, Option, None, Some}
use Rattle.std.proofs.lemmas.List.Edits.{sets}
use Rattle.laws.specs.Lists.{list_from}
use Rattle.units.specs.declared.SimTime.{SimTime}
use Rattle.rng.specs.Rng.{under}
use Rattle.rng.specs.declared.Rng.{Rng}
use Rattle.queue.specs.declared.Event.{Event}
use Rattle.queue.specs.declared.Event.TheVariants as event
use Rattle.queue.specs.Queue.{Scheduled, Queue, push}
use Rattle.queue.specs.Range.{in_range, message_room, scheduled_fits}
use Rattle.queue.specs.declared.table.Earliest.{Earliest}
use Rattle.queue.specs.Table.{rest}
use Rattle.model.specs.State.{State}
use Rattle.model.specs.Fields.{with_queue}
use Rattle.model.specs.Simulation.{first_sends, spread_starts}
use Rattle.state.specs.declared.Capacity.{Capacity}
use Rattle.state.specs.Area.{Area, capacity_of}
use Rattle.state.specs.Changes.{Inside, Changes, Reads}

-- ---- what is read

-- How many events a state's queue has.
unfoldable pub queue_length : State → ℕ
queue_length s = length s.queue

-- Whether so many events more are within the limit.
unfoldable pub queue_room : ℕ → State → Bool
queue_room more s = leb (length s.queue + more) s.limits.events

-- The first event of a queue with its time and the length of its message, or none.
unfoldable pub first_of : Queue → Option Earliest
first_of [] = None
first_of (e ∷ q) = Some (record { time = e.time; event = e.event; length = length e.message })

-- The event that a state takes next.
unfoldable pub next_event : State → Option Earliest
next_event s = first_of s.queue

-- Where the bytes b hold a state whose queue begins with an event that has a message of so many bytes, the message is at the front of the
-- buffer, and the rest of the buffer is as it was.
pub record CopiesMessage (b : List ℕ) (F : Capacity) (count : ℕ) (d d' : List ℕ) : Type 0 where
  pub to : (s : State) → Area b s → F ≡ capacity_of s → (e : Scheduled) (q : Queue) → s.queue ≡ e ∷ q → count ≡ length e.message
      → d' ≡ sets d 0 e.message

-- Whether an event is in the ranges of a state.
unfoldable pub event_in_range : State → Scheduled → Bool
event_in_range s e = scheduled_fits s.config.servers s.config.clients s.limits.log_indexes s.limits.message e

-- ---- what is changed

-- The state without its first event, if it has one.
unfoldable pub dequeued : State → State
dequeued s = with_queue s (rest s.queue)

-- The state with one event more.
unfoldable pub pushed : Scheduled → State → State
pushed e s = with_queue s (push s.queue e.time e.event e.message)

-- An event that delivers no message.
unfoldable pub plain : SimTime → Event → Scheduled
plain time event = record { time = time; event = event; message = [] }

-- The state with several events more, one after another.
unfoldable pub pushed_all : List Scheduled → State → State
pushed_all [] s = s
pushed_all (e ∷ es) s = pushed_all es (pushed e s)

-- The first event of each of n clients from client c on, all at one time.
unfoldable pub send_events : SimTime → ℕ → ℕ → List Scheduled
send_events time c n = list_from c n (λ k. plain time (event.ClientSend k))

-- The Start event of each of n servers from a place on, at times drawn below the spread.
unfoldable pub start_events : ℕ → ℕ → ℕ → Rng → List Scheduled
start_events spread slot zero g = []
start_events spread slot (suc n) g =
    let d = under g spread in
    plain (record { 0 = d.value }) (event.Start slot) ∷ start_events spread (suc slot) n d.next

-- The state with the first event of each of its clients.
unfoldable pub first_sent : State → State
first_sent s = first_sends s 0 (length s.clients)

-- The state with a Start event for each of its servers, at times drawn below the spread.
unfoldable pub spread_started : ℕ → Rng → State → State
spread_started spread g s = spread_starts s spread 0 (length s.servers) g

-- ---- what is known of the first event, and while events are pushed in a row

-- The first event of a state in an area: its numbers are in range, and only a delivery has a message.
pub record FirstInRange (F : Capacity) (r : Earliest) : Type 0 where
  pub event : in_range F.servers F.clients F.limits.log_indexes r.event ≡ true
  pub message : r.length ≤ message_room F.limits.message r.event
  pub short : r.length ≤ F.limits.message

-- The time of a state.
abbrev pub now_of : State → SimTime
now_of s = s.now

-- The first events of c clients were pushed, at the time that the state in b has: b' is as long, and holds the state with them.
pub record Sending (b : List ℕ) (F : Capacity) (time : SimTime) (b' : List ℕ) (c : ℕ) : Type 0 where
  pub inside : Inside b' F
  pub long : length b' ≡ length b
  pub few : c ≤ F.clients
  pub time_is : Reads b F time now_of
  pub changes : Changes b b' F (pushed_all (send_events time 0 c))

-- The Start events of the servers before a place were pushed, and `next` is the generator for those that are left: b' is as long, and holds
-- the state with them.
pub record Starting (b : List ℕ) (F : Capacity) (spread : ℕ) (g : Rng) (b' : List ℕ) (next : Rng) (slot : ℕ) : Type 0 where
  pub inside : Inside b' F
  pub long : length b' ≡ length b
  pub few : slot ≤ F.servers
  pub pushes : List Scheduled
  pub changes : Changes b b' F (pushed_all pushes)
  pub rest : pushes ++ start_events spread slot (F.servers - slot) next ≡ start_events spread 0 F.servers g
