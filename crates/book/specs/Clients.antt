-- Clients push no message and no timer, and a reply that reaches its client was applied: what holds of a state is kept. Assumes nothing.
use Rattle.std.specs.Prelude.{◌&&◌, eqb, Option, None, Some}
use mathlib.Core.List.{List, []}
use Prim.Native.Nat.{ℕ, zero, suc}
use Rattle.laws.specs.Bools.{cases}
use Rattle.laws.specs.Lists.{is_some}
use Rattle.units.specs.declared.LogIndex.{LogIndex}
use Rattle.units.specs.declared.SimTime.{SimTime}
use Rattle.rng.specs.Rng.{under}
use Rattle.rng.specs.declared.Rng.{Rng}
use Rattle.storage.specs.Storage.{Write}
use Rattle.queue.specs.declared.Event.TheVariants as event
use Rattle.model.specs.State.{State, Outstanding, client_at}
use Rattle.model.specs.Fields.{with_target}
use Rattle.model.specs.Simulation.{on_client, push_event, arrival, first_sends, spread_starts, random_server, send_outstanding, client_attempt, client_send, known_slot, follow, latest, client_redirect, client_timeout, take_reply, client_reply}
use Rattle.book.specs.Book.{Book, KeyApplied}
use Rattle.book.specs.Holds.{Held, holds_push, holds_reply}
use Rattle.units.specs.declared.NodeId.{NodeId}

module _ (b : Book) (waits : ℕ → List Write) where
  pub held_first_sends : (s : State) (c n : ℕ) → Held b waits s → Held b waits (first_sends s c n)
  unfolding first_sends
  held_first_sends s c zero h = h
  held_first_sends s c (suc n) h = held_first_sends (push_event s s.now (event.ClientSend c)) (suc c) n (holds_push h _ _ [] tt)

  pub held_spread_starts : (s : State) (spread slot n : ℕ) (g : Rng) → Held b waits s → Held b waits (spread_starts s spread slot n g)
  unfolding spread_starts
  held_spread_starts s spread slot zero g h = h
  held_spread_starts s spread slot (suc n) g h =
      let d = under g spread in
      held_spread_starts (push_event s (record { 0 = d.value }) (event.Start slot)) spread (suc slot) n d.next (holds_push h _ _ [] tt)

  held_outstanding : (s : State) (c : ℕ) (o : Option Outstanding) (time : SimTime) → Held b waits s → Held b waits (send_outstanding s c o time)
  held_outstanding s c None time h = h
  held_outstanding s c (Some o) time h = holds_push (holds_push h _ _ [] tt) _ _ [] tt

  pub held_attempt : (s : State) (c : ℕ) → Held b waits s → Held b waits (client_attempt s c)
  unfolding client_attempt
  held_attempt s c h = held_outstanding (arrival s).state c (client_at s c).outstanding (arrival s).time h

  pub held_send : (s : State) (c : ℕ) → Held b waits s → Held b waits (client_send s c)
  unfolding client_send
  held_send s c h = cases (is_some (client_at s c).outstanding) (λ e. rw e h) (λ e. rw e (held_attempt _ c h))

  held_follow : (s : State) (c attempt : ℕ) (known : Option ℕ) → Held b waits s → Held b waits (follow s c attempt known)
  held_follow s c attempt (Some slot) h = held_attempt (on_client s c (λ k. with_target k slot)) c h
  held_follow s c attempt None h = holds_push h _ _ [] tt

  pub held_redirect : (s : State) (c attempt : ℕ) (hint : Option NodeId) → Held b waits s → Held b waits (client_redirect s c attempt hint)
  unfolding client_redirect
  held_redirect s c attempt hint h =
      cases (latest s c attempt && is_some (client_at s c).outstanding) (λ e. rw e (held_follow s c attempt (known_slot s hint) h)) (λ e. rw e h)

  pub held_timeout : (s : State) (c attempt : ℕ) → Held b waits s → Held b waits (client_timeout s c attempt)
  unfolding client_timeout
  held_timeout s c attempt h =
      let t = random_server s in
      cases (latest s c attempt && is_some (client_at s c).outstanding)
      (λ e. rw e (held_attempt (on_client t.state c (λ k. with_target k t.slot)) c h))
      (λ e. rw e h)

  held_take_reply : (s : State) (c seq : ℕ) (index : LogIndex) (o : Option Outstanding) → KeyApplied b.given c seq index → Held b waits s
      → Held b waits (take_reply s c seq index o)
  held_take_reply s c seq index None k h = h
  held_take_reply s c seq index (Some o) k h = cases (eqb o.seq seq) (λ e. rw e (holds_push (holds_reply h _ k) _ _ [] tt)) (λ e. rw e h)

  pub held_reply : (s : State) (c seq : ℕ) (index : LogIndex) → KeyApplied b.given c seq index → Held b waits s → Held b waits (client_reply s c seq index)
  unfolding client_reply
  held_reply s c seq index k h = held_take_reply s c seq index (client_at s c).outstanding k h
