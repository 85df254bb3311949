-- An input's writes, seal, outputs and end keep the invariant. Assumes nothing.
use Rattle.std.specs.Prelude.{◌≡◌, refl, ℕ, suc, ◌+◌, ◌≤◌, eqb, Option, None, Some}
use Rattle.std.proofs.Common.{sym, ap, arith, eq-eqb, ne_eqb}
use mathlib.Core.List.Memᴰ
use mathlib.Core.List.{List, [], ◌∷◌, ◌++◌, Memᴰ}
use Rattle.laws.specs.Bools.{cases}
use Rattle.laws.specs.Lists.{is_some}
use Rattle.laws.specs.Order.{pairs, lookup}
use Rattle.units.specs.Types.{Payload, noop, command}
use Rattle.units.specs.declared.NodeId.{NodeId}
use Rattle.units.specs.declared.LogIndex.{LogIndex}
use Rattle.units.specs.declared.Duration.{Duration}
use Rattle.client.specs.Key.{decode, key_of}
use Rattle.protocol.specs.declared.Timer.{Timer}
use Rattle.protocol.specs.declared.Timer.TheVariants.{Election, Heartbeat}
use Rattle.protocol.specs.declared.RequestId.{RequestId}
use Rattle.protocol.specs.declared.Status.{Status}
use Rattle.network.specs.Network as network
use Rattle.network.specs.declared.Route.{Route}
use Rattle.network.specs.declared.Route.TheVariants.{Dropped, Delivered}
use Rattle.storage.specs.Storage.{Write, sync, unsynced, written}
use Rattle.model.specs.State.{State, direct, from_client, Input, start_input, message_input, timer_input, propose_input, confirm_input, Verdict, accepted, not_leader, Owed, server_at, id_of}
use Rattle.model.specs.Fields.{with_storage}
use Rattle.model.specs.Simulation.{on_server, stop_server, write_at, redirect, cut_input, sync_input, push_routed, send, raised, set_timer, cancel_timer, reply_to, reply_for, apply, confirm, end_input}
use Rattle.book.specs.Book.{Found, empty, found, do_write, do_writes, Given, sent, timer_set, was_applied, answered, Book, none_open, finish_input, strike_input}
use Rattle.book.specs.Disks.{InLog}
use Rattle.book.specs.Stores.{stored_write, stored_sync}
use Rattle.book.specs.Handed.{PayloadGiven}
use Rattle.book.specs.Checked.{on_writes_applied, on_status_applied, on_apply_applied}
use Rattle.book.specs.Holds.{Held, nowhere, only, only_at, only_other, holds_push, holds_server, holds_change, holds_confirmation, holds_firsts, holds_applied}
use Rattle.book.specs.Invariant.{Inv, Moves}
use Rattle.book.specs.Moves.{held_stop, moves_close}
use Rattle.client.specs.declared.ClientKey.{ClientKey}

-- writes done after others
do_writes_append : (f : Found) (ws vs : List Write) → do_writes f (ws ++ vs) ≡ do_writes (do_writes f ws) vs
unfolding do_writes
do_writes_append f [] vs = refl
do_writes_append f (w ∷ ws) vs = do_writes_append (do_write f w) ws vs

-- ---- writes

pub held_write : (b : Book) (slot : ℕ) (ws : List Write) (w : Write) (s : State) → InLog b.last_index w → Held b (only slot ws) s
    → Held b (only slot (ws ++ (w ∷ []))) (write_at s slot w)
unfolding write_at
held_write b slot ws w s i h =
    holds_change h (found b) (only slot (ws ++ (w ∷ []))) slot _
    (λ v x. record { stored = rw (only_at slot (ws ++ (w ∷ []))) (stored_write (rw (only_at slot ws) at x.stored) w i); next = x.next })
    (λ k n v x. rw (only_other slot (ws ++ (w ∷ [])) k n) (rw (only_other slot ws k n) at x))

-- ---- the seal

held_sync : (b : Book) (slot : ℕ) (s : State) → b.server ≡ id_of slot → Held b (only slot b.waiting) s
    → Held (finish_input b) nowhere (on_server s slot (λ v. with_storage v (sync v.storage)))
held_sync b slot s e h =
    holds_change h (found (finish_input b)) nowhere slot _
    (λ v x. record { stored = rw finished_at (stored_sync (rw (only_at slot b.waiting) at x.stored)); next = x.next })
    (λ k n v x. rw (finished_other k n) (rw (only_other slot b.waiting k n) at x))
  where
    finished_at : found (finish_input b) (id_of slot) ≡ do_writes (found b (id_of slot)) b.waiting
    finished_at = rw (e, eq-eqb (slot + 1) (slot + 1) refl) (do_writes_append empty (b.finished (id_of slot)) b.waiting)

    finished_other : (k : ℕ) → (k ≡ slot → ⊥) → found (finish_input b) (id_of k) ≡ found b (id_of k)
    finished_other k n = rw (e, ne_eqb (k + 1) (slot + 1) (λ z. n (omega arith)))

pub inv_sync : (b : Book) (slot : ℕ) (input : Input) (verdict : Verdict) (owed : Owed) (s : State) → b.server ≡ id_of slot → Held b (only slot b.waiting) s
    → Inv (finish_input b) (sync_input s slot input verdict owed).phase (sync_input s slot input verdict owed)
unfolding sync_input
inv_sync b slot input verdict owed s e h =
    let v = server_at s slot in
    let k = held_sync b slot s e h in
    let c = on_writes_applied s.checker s.now (id_of slot) v.storage.current.log (written v.storage.waiting) in
    record { phased = (refl, e, refl); held = cases (unsynced v.storage) (λ t. rw (t, c) k) (λ t. rw (t, c) k) }

-- a refused client's redirect
held_redirected : (b : Book) (waits : ℕ → List Write) (s : State) (slot : ℕ) (input : Input) (verdict : Verdict) → Held b waits s
    → Held b waits (redirect s slot input verdict)
held_redirected b waits s slot (propose_input (from_client c seq attempt)) (not_leader hint) h = holds_push (holds_server h slot _ (λ v x. x)) _ _ [] tt
held_redirected b waits s slot (propose_input (from_client c seq attempt)) accepted h = h
held_redirected b waits s slot (propose_input direct) verdict h = h
held_redirected b waits s slot start_input verdict h = h
held_redirected b waits s slot message_input verdict h = h
held_redirected b waits s slot timer_input verdict h = h
held_redirected b waits s slot confirm_input verdict h = h

pub moves_cut : (b : Book) (slot : ℕ) (input : Input) (verdict : Verdict) (owed : Owed) (s : State) → Held b (only slot b.waiting) s
    → Moves (strike_input b) (cut_input s slot input verdict owed)
unfolding cut_input
moves_cut b slot input verdict owed s h =
    moves_close (strike_input b) (refl, refl) _ owed (held_redirected b nowhere (stop_server s slot) slot input verdict (held_stop b slot b.waiting s h))

-- ---- outputs

module _ (b : Book) (waits : ℕ → List Write) (slot : ℕ) (s : State) (h : Held b waits s) where
  pub held_message : (to : NodeId) (message : List ℕ) (entries : ℕ) → 1 ≤ to.0 → Memᴰ (sent (id_of slot) to message entries) b.given
      → Held b waits (send s slot to message entries)
  unfolding send
  held_message to message entries l m = by (network.route s.network (id_of slot) to).route _ h
    where
      by : (r : Route) (t : State) → Held b waits t → Held b waits (push_routed t (id_of slot) to entries message r)
      by Dropped t k = k
      by (Delivered delay None) t k = holds_push k _ _ _ (l, m)
      by (Delivered delay (Some second)) t k = holds_push (holds_push k _ _ _ (l, m)) _ _ _ (l, m)

  held_raised : (timer : Timer) → Held b waits (on_server s slot (λ v. raised v timer))
  held_raised Election = holds_server h slot _ (λ v x. x)
  held_raised Heartbeat = holds_server h slot _ (λ v x. x)

  pub held_set_timer : (timer : Timer) (duration : Duration) → Memᴰ (timer_set (id_of slot) timer duration) b.given → Held b waits (set_timer s slot timer duration)
  unfolding set_timer
  held_set_timer timer duration m = holds_push (held_raised timer) _ _ [] (duration, m)

  pub held_cancel_timer : (timer : Timer) → Held b waits (cancel_timer s slot timer)
  unfolding cancel_timer
  held_cancel_timer timer = held_raised timer

  pub held_confirm : (request : RequestId) (read_index : Option LogIndex) → Memᴰ (answered (id_of slot) request read_index) b.given
      → Held b waits (confirm s request read_index)
  unfolding confirm
  held_confirm request read_index m = holds_confirmation h _ (id_of slot, m)

-- an applied entry: its client key's reply, if its server had accepted it
held_reply_for : (b : Book) (waits : ℕ → List Write) (slot : ℕ) (s : State) (index : LogIndex) (payload : Payload) → Memᴰ (was_applied (id_of slot) index payload) b.given
    → Held b waits s → Held b waits (reply_for s slot index payload)
held_reply_for b waits slot s index noop m h = h
held_reply_for b waits slot s index (command bytes) m h = by (decode bytes) refl
  where
    by : (d : Option ClientKey) → decode bytes ≡ d → Held b waits (reply_to s slot index d)
    by None e = h
    by (Some k) e =
        cases (is_some (lookup pairs key_of (key_of k) (server_at s slot).pending))
        (λ t. rw t (holds_push (holds_server h slot _ (λ v x. x)) _ _ [] (record { server = id_of slot; bytes = bytes; key = e; handed = m })))
        (λ t. rw t h)

applied_at_lem : {given : List Given} {server : NodeId} {index : LogIndex} {payload : Payload} → Memᴰ (was_applied server index payload) given → (n : ℕ) → index.0 ≡ n
    → Memᴰ (was_applied server (record { 0 = n }) payload) given
applied_at_lem {server = server} {payload = payload} m n e = Memᴰ.cast (ap (λ (n : ℕ). was_applied server (record { 0 = n }) payload) (sym e)) m

pub held_apply : (b : Book) (waits : ℕ → List Write) (slot : ℕ) (s : State) (index : LogIndex) (payload : Payload) → Memᴰ (was_applied (id_of slot) index payload) b.given
    → Held b waits s → Held b waits (apply s slot index payload)
unfolding apply
held_apply b waits slot s index payload m h =
    held_reply_for b waits slot _ index payload m
    (holds_server
    (holds_firsts h
    (on_apply_applied (λ i. PayloadGiven b.given (record { 0 = suc i })) s.checker s.now (id_of slot) index payload (server_at s slot).next_apply
    (λ i e. (id_of slot, applied_at_lem m (suc i) e))
    h.firsts))
    slot
    _
    (λ v x. record { stored = x.stored; next = λ n e. (payload, applied_at_lem m (suc n) (omega arith)) }))

-- The phase stays.
pub send_phase : (s : State) (slot : ℕ) (to : NodeId) (message : List ℕ) (entries : ℕ) → (send s slot to message entries).phase ≡ s.phase
unfolding send
send_phase s slot to message entries = by (network.route s.network (id_of slot) to).route _
  where
    by : (r : Route) (t : State) → (push_routed t (id_of slot) to entries message r).phase ≡ t.phase
    by Dropped t = refl
    by (Delivered delay None) t = refl
    by (Delivered delay (Some second)) t = refl

pub apply_phase : (s : State) (slot : ℕ) (index : LogIndex) (payload : Payload) → (apply s slot index payload).phase ≡ s.phase
unfolding apply
apply_phase s slot index payload = by payload _
  where
    decoded_phase : (d : Option ClientKey) (t : State) → (reply_to t slot index d).phase ≡ t.phase
    decoded_phase None t = refl
    decoded_phase (Some k) t = cases (is_some (lookup pairs key_of (key_of k) (server_at t slot).pending)) (λ e. rw e) (λ e. rw e)

    by : (p : Payload) (t : State) → (reply_for t slot index p).phase ≡ t.phase
    by noop t = refl
    by (command bytes) t = decoded_phase (decode bytes) t

-- ---- the end

pub moves_end : (b : Book) (slot : ℕ) (input : Input) (verdict : Verdict) (owed : Owed) (status : Status) (s : State) → b.waiting ≡ [] → Held b nowhere s
    → Moves (none_open b) (end_input s slot input verdict owed status)
unfolding end_input
moves_end b slot input verdict owed status s w h =
    let v = server_at s slot in
    let kept = on_status_applied (eqb s.config.raft_checks 1) s.checker s.now (id_of slot) status v.storage.current.log v.leading in
    moves_close (none_open b) (refl, w) _ owed (held_redirected b nowhere _ slot input verdict (holds_server (holds_applied h kept) slot _ (λ v x. x)))
