-- What holds of a state and the book, whatever the phase: each server's storage is as the book says, and what is kept to be handed back was handed over.
-- It is kept by every change of a part of the state. Assumes nothing.
use Rattle.std.specs.Prelude.{◌≡◌, refl, Bool, true, false, List, [], ◌∷◌, ◌++◌, ℕ, suc, eqb}
use Rattle.std.proofs.Math.Path.{fun_ext}
use mathlib.Core.List.Memᴰ
use Rattle.std.proofs.Common.{eq-eqb, ne_eqb}
use Rattle.laws.specs.Bools.{pick}
use Rattle.laws.specs.Lists.{modify}
use Rattle.laws.specs.Order.{numbers}
use Rattle.laws.specs.ListLaws.{Each, each_map, each_snoc, each_modify, each_push}
use Rattle.units.specs.Types.{Payload}
use Rattle.units.specs.declared.NodeId.{NodeId}
use Rattle.units.specs.declared.SimTime.{SimTime}
use Rattle.config.specs.declared.Limits.{Limits}
use Rattle.storage.specs.Storage.{Write, Storage}
use Rattle.queue.specs.Queue.{Queue, time_of, push}
use Rattle.queue.specs.declared.Event.{Event}
use Rattle.checks_durability.specs.declared.replies.Reply.{Reply}
use Rattle.model.specs.State.{State, Server, Confirmation, id_of}
use Rattle.book.specs.Book.{Found, Given, Book}
use Rattle.book.specs.Book as book
use Rattle.book.specs.Stores.{Stored}
use Rattle.book.specs.Handed.{EventGiven, ScheduledGiven, ReplyGiven, ConfirmationGiven, PayloadGiven, NextGiven, key_more, event_more}

-- A server: its storage, with its writes that wait, and the index that it has applied last.
pub record ServerHolds (last : ℕ) (given : List Given) (id : NodeId) (f : Found) (ws : List Write) (storage : Storage) (next_apply : ℕ) : Type 0 where
  pub stored : Stored last f ws storage
  pub next : NextGiven given id next_apply

-- The server at a place, with the writes that wait there.
abbrev pub PlaceHolds : ℕ → (NodeId → Found) → List Given → (ℕ → List Write) → ℕ → Server → Type 0
PlaceHolds last found given waits k v = ServerHolds last given (id_of k) (found (id_of k)) (waits k) v.storage v.next_apply

pub record Holds (last : ℕ) (found : NodeId → Found) (given : List Given) (waits : ℕ → List Write)
    (limits : Limits) (servers : List Server) (queue : Queue) (replies : List Reply) (confirmations : List Confirmation) (applied : List Payload) : Type 0 where
  pub size : limits.log_indexes ≡ last
  pub stores : Each (PlaceHolds last found given waits) servers
  pub events : Each (λ _. ScheduledGiven given) queue
  pub replied : Each (λ _. ReplyGiven given) replies
  pub answers : Each (λ _. ConfirmationGiven given) confirmations
  pub firsts : Each (λ i. PayloadGiven given (record { 0 = suc i })) applied

-- Of a state, the parts that it reads.
abbrev pub Held : Book → (ℕ → List Write) → State → Type 0
Held b waits s =
    Holds b.last_index (book.found b) b.given waits s.limits s.servers s.queue s.replies s.confirmations s.checker.applied

-- ---- where writes wait

-- At no place, or at one.
abbrev pub nowhere : ℕ → List Write
nowhere k = []

abbrev pub only : ℕ → List Write → ℕ → List Write
only slot ws k = pick (eqb k slot) ws []

pub only_none : (slot : ℕ) → only slot [] ≡ nowhere
only_none slot = fun_ext (λ k. by (eqb k slot))
  where
    by : (t : Bool) → ◌≡◌ {A = List Write} (pick t [] []) []
    by true = refl
    by false = refl

pub only_at : (slot : ℕ) (ws : List Write) → only slot ws slot ≡ ws
only_at slot ws = rw (eq-eqb slot slot refl)

pub only_other : (slot : ℕ) (ws : List Write) (k : ℕ) → (k ≡ slot → ⊥) → only slot ws k ≡ []
only_other slot ws k n = rw (ne_eqb k slot n)

-- ---- a part changed

module _ {last : ℕ} {found : NodeId → Found} {given : List Given} {waits : ℕ → List Write} {limits : Limits} {servers : List Server} {queue : Queue}
    {replies : List Reply} {confirmations : List Confirmation} {applied : List Payload}
    (h : Holds last found given waits limits servers queue replies confirmations applied) where
  -- other events
  pub holds_queue : {q : Queue} → Each (λ _. ScheduledGiven given) q → Holds last found given waits limits servers q replies confirmations applied
  holds_queue g = record { size = h.size; stores = h.stores; events = g; replied = h.replied; answers = h.answers; firsts = h.firsts }

  pub holds_push : (time : SimTime) (e : Event) (message : List ℕ) → EventGiven given e message
      → Holds last found given waits limits servers (push queue time e message) replies confirmations applied
  unfolding push
  holds_push time e message g =
      holds_queue (each_push (ScheduledGiven given) numbers time_of (record { time = time; event = e; message = message }) queue g h.events)

  -- a server changed, with what the book says of it and where writes wait
  pub holds_change : (found' : NodeId → Found) (waits' : ℕ → List Write) (slot : ℕ) (f : Server → Server)
      → ((v : Server) → PlaceHolds last found given waits slot v → PlaceHolds last found' given waits' slot (f v))
      → ((k : ℕ) → (k ≡ slot → ⊥) → (v : Server) → PlaceHolds last found given waits k v → PlaceHolds last found' given waits' k v)
      → Holds last found' given waits' limits (modify slot f servers) queue replies confirmations applied
  holds_change found' waits' slot f hit miss =
      record {
        size = h.size;
        stores = each_modify (PlaceHolds last found given waits) (PlaceHolds last found' given waits') slot f hit miss servers h.stores;
        events = h.events;
        replied = h.replied;
        answers = h.answers;
        firsts = h.firsts;
      }

  -- a server changed in what the book does not tell
  pub holds_server : (slot : ℕ) (f : Server → Server) → ((v : Server) → PlaceHolds last found given waits slot v → PlaceHolds last found given waits slot (f v))
      → Holds last found given waits limits (modify slot f servers) queue replies confirmations applied
  holds_server slot f hit = holds_change found waits slot f hit (λ k n v x. x)

  -- a reply, a confirmation more, and the first payloads after an applied entry
  pub holds_reply : (r : Reply) → ReplyGiven given r → Holds last found given waits limits servers queue (replies ++ (r ∷ [])) confirmations applied
  holds_reply r g =
      record { size = h.size; stores = h.stores; events = h.events; replied = each_snoc (λ _. ReplyGiven given) replies r h.replied g; answers = h.answers; firsts = h.firsts }

  pub holds_confirmation : (c : Confirmation) → ConfirmationGiven given c → Holds last found given waits limits servers queue replies (confirmations ++ (c ∷ [])) applied
  holds_confirmation c g =
      record { size = h.size; stores = h.stores; events = h.events; replied = h.replied; answers = each_snoc (λ _. ConfirmationGiven given) confirmations c h.answers g; firsts = h.firsts }

  pub holds_firsts : {ps : List Payload} → Each (λ i. PayloadGiven given (record { 0 = suc i })) ps → Holds last found given waits limits servers queue replies confirmations ps
  holds_firsts g = record { size = h.size; stores = h.stores; events = h.events; replied = h.replied; answers = h.answers; firsts = g }

  pub holds_applied : {ps : List Payload} → ps ≡ applied → Holds last found given waits limits servers queue replies confirmations ps
  holds_applied e = rw e h

  -- more handed over
  pub holds_more : (g : Given) → Holds last found (g ∷ given) waits limits servers queue replies confirmations applied
  holds_more g =
      record {
        size = h.size;
        stores =
            each_map (PlaceHolds last found given waits) (PlaceHolds last found (g ∷ given) waits)
            (λ k v x. record { stored = x.stored; next = λ n e. let p = x.next n e in (p.0, Memᴰ.tail p.1) })
            servers
            h.stores;
        events = each_map (λ _. ScheduledGiven given) (λ _. ScheduledGiven (g ∷ given)) (λ k e. event_more given g e.event e.message) queue h.events;
        replied = each_map (λ _. ReplyGiven given) (λ _. ReplyGiven (g ∷ given)) (λ k r. key_more given g) replies h.replied;
        answers = each_map (λ _. ConfirmationGiven given) (λ _. ConfirmationGiven (g ∷ given)) (λ k c x. (x.0, Memᴰ.tail x.1)) confirmations h.answers;
        firsts =
            each_map (λ i. PayloadGiven given (record { 0 = suc i })) (λ i. PayloadGiven (g ∷ given) (record { 0 = suc i }))
            (λ k p x. (x.0, Memᴰ.tail x.1))
            applied
            h.firsts;
      }
