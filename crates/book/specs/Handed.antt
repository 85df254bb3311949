-- What a state keeps to hand back later, each backed by an output call, and still so as more is handed over. Assumes nothing.
use Rattle.std.specs.Prelude.{◌≡◌, ℕ, suc, ◌≤◌}
use mathlib.Core.List.{List, ◌∷◌, Memᴰ}
use Rattle.units.specs.Types.{Payload}
use Rattle.units.specs.declared.NodeId.{NodeId}
use Rattle.units.specs.declared.LogIndex.{LogIndex}
use Rattle.units.specs.declared.Duration.{Duration}
use Rattle.queue.specs.Queue.{Scheduled}
use Rattle.queue.specs.declared.Event.{Event}
use Rattle.queue.specs.declared.Event.TheVariants.{Start, Deliver, Timer, Fault, ClientSend, ClientArrive, ClientRedirect, ClientRetry, ClientReply, ClientTimeout}
use Rattle.checks_durability.specs.declared.replies.Reply.{Reply}
use Rattle.model.specs.State.{Confirmation, id_of}
use Rattle.book.specs.Book.{Given, sent, timer_set, was_applied, answered, KeyApplied}

-- A queued message, timer and reply; no other event hands anything back.
abbrev pub EventGiven : List Given → Event → List ℕ → Type 0
EventGiven given (Deliver from to entries) message = (1 ≤ to.0) × Memᴰ (sent from to message entries) given
EventGiven given (Timer slot timer generation) message = (duration : Duration) × Memᴰ (timer_set (id_of slot) timer duration) given
EventGiven given (ClientReply client seq index) message = KeyApplied given client seq index
EventGiven given (Start slot) message = Unit {0}
EventGiven given (Fault fault) message = Unit {0}
EventGiven given (ClientSend client) message = Unit {0}
EventGiven given (ClientArrive slot client seq attempt) message = Unit {0}
EventGiven given (ClientRedirect client attempt leader) message = Unit {0}
EventGiven given (ClientRetry client attempt) message = Unit {0}
EventGiven given (ClientTimeout client attempt) message = Unit {0}

abbrev pub ScheduledGiven : List Given → Scheduled → Type 0
ScheduledGiven given e = EventGiven given e.event e.message

abbrev pub ReplyGiven : List Given → Reply → Type 0
ReplyGiven given r = KeyApplied given r.client r.seq r.index

abbrev pub ConfirmationGiven : List Given → Confirmation → Type 0
ConfirmationGiven given c = (server : NodeId) × Memᴰ (answered server c.request c.read_index) given

-- A payload kept as the first that was applied at an index.
abbrev pub PayloadGiven : List Given → LogIndex → Payload → Type 0
PayloadGiven given index p = (server : NodeId) × Memᴰ (was_applied server index p) given

-- The index that a server has applied last, one below the next; where it is 0, none.
abbrev pub NextGiven : List Given → NodeId → ℕ → Type 0
NextGiven given server next = (n : ℕ) → next ≡ suc (suc n) → (p : Payload) × Memᴰ (was_applied server (record { 0 = suc n }) p) given

module _ (given : List Given) (g : Given) where
  pub key_more : {client seq : ℕ} {index : LogIndex} → KeyApplied given client seq index → KeyApplied (g ∷ given) client seq index
  key_more k = record { server = k.server; bytes = k.bytes; key = k.key; handed = Memᴰ.tail k.handed }

  pub event_more : (e : Event) (message : List ℕ) → EventGiven given e message → EventGiven (g ∷ given) e message
  event_more (Deliver from to entries) message h = (h.0, Memᴰ.tail h.1)
  event_more (Timer slot timer generation) message h = (h.0, Memᴰ.tail h.1)
  event_more (ClientReply client seq index) message h = key_more h
  event_more (Start slot) message h = tt
  event_more (Fault fault) message h = tt
  event_more (ClientSend client) message h = tt
  event_more (ClientArrive slot client seq attempt) message h = tt
  event_more (ClientRedirect client attempt leader) message h = tt
  event_more (ClientRetry client attempt) message h = tt
  event_more (ClientTimeout client attempt) message h = tt
