-- Every function that opens an input or none keeps the invariant, the book being told the opening. Assumes nothing.
use Rattle.std.specs.Prelude.{◌≡◌, false, not, ◌&&◌, List, [], ltb, length, Option, None, Some}
use Rattle.std.proofs.Math.Path.{refl}
use Prim.Native.Nat.{ℕ, zero, suc, ◌-◌}
use Rattle.std.proofs.Common.{arith}
use Rattle.std.proofs.Math.Dec.{eqb}
use Rattle.laws.specs.Bools.{cases}
use Rattle.laws.specs.ListLaws.{Each}
use Rattle.units.specs.declared.NodeId.{NodeId}
use Rattle.units.specs.declared.Duration.{Duration}
use Rattle.seeds.specs.Seeds.{stream_rng}
use Rattle.seeds.specs.declared.Stream.TheVariants.{Startup}
use Rattle.config.specs.declared.SimConfig.{SimConfig}
use Rattle.config.specs.declared.Limits.{Limits}
use Rattle.faults.specs.declared.Fault.{Fault}
use Rattle.faults.specs.declared.Fault.TheVariants.{Crash, CrashDuringNextInput, Restart, CrashLeader, Partition, Block, Unblock, HealLinks, SetLoss, SetDuplication, SetDelayFactor, HealAll}
use Rattle.storage.specs.Storage.{Write}
use Rattle.queue.specs.declared.Event.{Event}
use Rattle.queue.specs.declared.Event.TheVariants as event
use Rattle.model.specs.State.{State, Server, new_server, Input, Owed, nothing, construction, healing, closed, writing, server_at, id_of, slot_of}
use Rattle.model.specs.Fields.{with_crash_on_next_input}
use Rattle.model.specs.Simulation.{on_server, running, start_server, stop_server, restart_server, construct_from, heal_from, close_input, crash_leader, leader_of, apply_fault, client_arrive, latest, contends, deliver, generation_of, process, new_servers, unstarted, begin}
use Rattle.book.specs.Book.{do_writes, found, Book, fresh, open_input}
use Rattle.book.specs.Stores.{stored_crash, stored_empty}
use Rattle.book.specs.Handed.{EventGiven}
use Rattle.book.specs.Holds.{PlaceHolds, Held, nowhere, only, only_none, only_other, holds_push, holds_server, holds_change}
use Rattle.book.specs.Invariant.{Phased, Inv, Moves, id_slot}
use Rattle.book.specs.Clients.{held_first_sends, held_spread_starts, held_attempt, held_send, held_redirect, held_timeout, held_reply}
use Rattle.leader.specs.declared.Leading.{Leading}

-- ---- a server stops

pub held_stop : (b : Book) (slot : ℕ) (ws : List Write) (s : State) → Held b (only slot ws) s → Held b nowhere (stop_server s slot)
unfolding stop_server
held_stop b slot ws s h =
    holds_change h (found b) nowhere slot _
    (λ v x. record { stored = stored_crash x.stored; next = x.next })
    (λ k n v x. rw (only_other slot ws k n) at x)

-- ---- with no input open

module _ (b : Book) (q : Phased b closed) where
  -- an input opens, or none
  pub opened : {server : NodeId} {slot : ℕ} {input : Input} {owed : Owed} {s : State} → server ≡ id_of slot → Held b nowhere s
      → Inv (open_input b server) (writing slot input owed) s
  opened {slot = slot} e h = record { phased = (refl, e); held = rw (q.1, only_none slot) h }

  moves_idle : {s : State} → Held b nowhere s → Unit {0} × Inv b closed s
  moves_idle h = (tt, record { phased = q; held = h })

  moves_start : (s : State) (slot : ℕ) (owed : Owed) → Held b nowhere s → Moves b (start_server s slot owed)
  unfolding start_server
  moves_start s slot owed h = (tt, opened refl h)

  moves_restart : (s : State) (slot : ℕ) (owed : Owed) → Held b nowhere s → Moves b (restart_server s slot owed)
  unfolding restart_server
  moves_restart s slot owed h = moves_start _ slot owed (holds_server h slot _ (λ v x. record { stored = x.stored; next = λ n e. absurd (omega arith) }))

  moves_construct : (s : State) (slot : ℕ) → Held b nowhere s → Moves b (construct_from s slot)
  unfolding construct_from
  moves_construct s slot h =
      cases (ltb slot (length s.servers))
      (λ e. rw e (moves_start s slot (construction (suc slot)) h))
      (λ e. rw e (moves_idle (held_first_sends b nowhere s 0 (length s.clients) h)))

  moves_heal : (s : State) (slot left : ℕ) → Held b nowhere s → Moves b (heal_from s slot left)
  unfolding heal_from
  moves_heal s slot zero h = moves_idle h
  moves_heal s slot (suc left) h =
      let cleared = on_server s slot (λ v. with_crash_on_next_input v false) in
      let k : Held b nowhere cleared = holds_server h slot _ (λ v x. x) in
      cases (running s slot)
      (λ e. rw e (moves_heal cleared (suc slot) left k))
      (λ e. rw e (moves_restart cleared slot (healing (suc slot)) k))

  pub moves_close : (s : State) (owed : Owed) → Held b nowhere s → Moves b (close_input s owed)
  moves_close s nothing h = moves_idle h
  moves_close s (construction slot) h = moves_construct s slot h
  moves_close s (healing slot) h = moves_heal s slot (length s.servers - slot) h

  -- ---- faults

  held_stopped : (s : State) (slot : ℕ) → Held b nowhere s → Held b nowhere (stop_server s slot)
  held_stopped s slot h = held_stop b slot [] s (rw (only_none slot) h)

  held_crash_leader : (s : State) (l : Option Leading) (downtime : Duration) → Held b nowhere s → Held b nowhere (crash_leader s l downtime)
  held_crash_leader s None downtime h = h
  held_crash_leader s (Some l) downtime h = holds_push (held_stopped s (slot_of l.id) h) _ _ [] tt

  moves_fault : (s : State) (fault : Fault) → Held b nowhere s → Moves b (apply_fault s fault)
  unfolding apply_fault
  moves_fault s (Crash id) h =
      cases (running s (slot_of id)) (λ e. rw e (moves_idle (held_stopped s (slot_of id) h))) (λ e. rw e (moves_idle h))
  moves_fault s (CrashDuringNextInput id) h =
      cases (running s (slot_of id)) (λ e. rw e (moves_idle (holds_server h (slot_of id) _ (λ v x. x)))) (λ e. rw e (moves_idle h))
  moves_fault s (Restart id) h = cases (running s (slot_of id)) (λ e. rw e (moves_idle h)) (λ e. rw e (moves_restart s (slot_of id) nothing h))
  moves_fault s (CrashLeader downtime) h = moves_idle (held_crash_leader s (leader_of s) downtime h)
  moves_fault s (Partition groups) h = moves_idle h
  moves_fault s (Block from to) h = moves_idle h
  moves_fault s (Unblock from to) h = moves_idle h
  moves_fault s HealLinks h = moves_idle h
  moves_fault s (SetLoss rate) h = moves_idle h
  moves_fault s (SetDuplication rate) h = moves_idle h
  moves_fault s (SetDelayFactor factor) h = moves_idle h
  moves_fault s HealAll h = moves_heal _ 0 (length s.servers) h

  -- ---- events

  moves_arrive : (s : State) (slot c seq attempt : ℕ) → Held b nowhere s → Moves b (client_arrive s slot c seq attempt)
  unfolding client_arrive
  moves_arrive s slot c seq attempt h =
      cases (running s slot) (λ e. rw e (tt, opened refl (holds_server h slot _ (λ v x. x)))) (λ e. rw e (moves_idle h))

  moves_deliver : (s : State) (from to : NodeId) (entries : ℕ) (message : List ℕ) → EventGiven b.given (event.Deliver from to entries) message → Held b nowhere s
      → Moves b (deliver s from to entries message)
  unfolding deliver
  moves_deliver s from to entries message g h =
      cases (running s (slot_of to))
      (λ e. rw e
      (cases (contends (server_at s (slot_of to)).status)
      (λ f. rw f (g.1, opened (id_slot to g.0) h))
      (λ f. rw f (g.1, opened (id_slot to g.0) h))))
      (λ e. rw e (moves_idle h))

  pub moves_process : (s : State) (e : Event) (message : List ℕ) → EventGiven b.given e message → Held b nowhere s → Moves b (process s e message)
  unfolding process
  moves_process s (event.Start slot) message g h =
      cases (not (running s slot) && eqb (server_at s slot).incarnation 0) (λ e. rw e (moves_start s slot nothing h)) (λ e. rw e (moves_idle h))
  moves_process s (event.Deliver from to entries) message g h = moves_deliver s from to entries message g h
  moves_process s (event.Timer slot timer generation) message g h =
      cases (running s slot && eqb (generation_of (server_at s slot) timer) generation) (λ e. rw e (g, opened refl h)) (λ e. rw e (moves_idle h))
  moves_process s (event.Fault fault) message g h = moves_fault s fault h
  moves_process s (event.ClientSend c) message g h = moves_idle (held_send b nowhere s c h)
  moves_process s (event.ClientArrive slot c seq attempt) message g h = moves_arrive s slot c seq attempt h
  moves_process s (event.ClientRedirect c attempt hint) message g h = moves_idle (held_redirect b nowhere s c attempt hint h)
  moves_process s (event.ClientRetry c attempt) message g h = moves_idle (cases (latest s c attempt) (λ e. rw e (held_attempt b nowhere s c h)) (λ e. rw e h))
  moves_process s (event.ClientReply c seq index) message g h = moves_idle (held_reply b nowhere s c seq index g h)
  moves_process s (event.ClientTimeout c attempt) message g h = moves_idle (held_timeout b nowhere s c attempt h)

-- ---- a fresh start

each_new : (P : ℕ → Server → Type 0) (indexes : ℕ) → ((k : ℕ) → P k (new_server indexes)) → (n : ℕ) → Each P (new_servers n indexes)
unfolding new_servers
each_new P indexes h zero = tt
each_new P indexes h (suc n) = (h 0, each_new (λ k. P (suc k)) indexes (λ k. h (suc k)) n)

held_unstarted : (config : SimConfig) (limits : Limits) (seed : ℕ) → Held (fresh limits.log_indexes) nowhere (unstarted config limits seed)
unfolding unstarted do_writes
held_unstarted config limits seed =
    record {
      size = refl;
      stores =
          each_new (PlaceHolds limits.log_indexes (found (fresh limits.log_indexes)) [] nowhere) limits.log_indexes
          (λ k. record { stored = stored_empty limits.log_indexes; next = λ n e. absurd (omega arith) })
          config.servers;
      events = tt;
      replied = tt;
      answers = tt;
      firsts = tt;
    }

pub moves_begin : (config : SimConfig) (limits : Limits) (seed : ℕ) → Moves (fresh limits.log_indexes) (begin config limits seed)
unfolding begin
moves_begin config limits seed =
    let b = fresh limits.log_indexes in
    let s = unstarted config limits seed in
    let spread = config.start_spread.0 in
    let h = held_unstarted config limits seed in
    cases (eqb spread 0)
    (λ e. rw e (moves_construct b (refl, refl) s 0 h))
    (λ e. rw e (moves_idle b (refl, refl) (held_first_sends b nowhere _ 0 (length s.clients) (held_spread_starts b nowhere s spread 0 (length s.servers) (stream_rng seed Startup) h))))
