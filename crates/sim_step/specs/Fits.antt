-- Question 10 of the first event, asked before it is taken. Assumes nothing.
use Rattle.std.specs.Prelude.{◌≡◌, Bool, true, false, List, ◌∷◌, ℕ, ◌+◌, ◌-◌, ◌≤◌}
use Rattle.std.proofs.Math.Path.{refl, ap}
use Rattle.std.proofs.Common.{sym, ap₂, subst, ◌∙◌, arith}
use Rattle.std.proofs.Math.Dec.{leb}
use Rattle.std.proofs.Math.ListN.{length}
use borrow.Author.Tests.{ltb-true, leb-true, le-leb}
use Rattle.laws.specs.Bools.{cases, ◌and◌, and_left, and_true, no_and, every}
use Rattle.laws.proofs.BoolLaws.{and_right, and_both, true_and}
use Rattle.laws.specs.Decides.{false_true}
use Rattle.units.specs.declared.SimTime.{SimTime}
use Rattle.faults.specs.Fault as faults
use Rattle.faults.specs.Fault.{fault_in_range}
use Rattle.faults.specs.declared.Fault.{Fault}
use Rattle.queue.specs.Queue.{Scheduled, Queue}
use Rattle.queue.specs.Range.{word, event_fits}
use Rattle.queue.specs.Table.{rest}
use Rattle.queue.specs.declared.Event.{Event}
use Rattle.queue.specs.declared.Event.TheVariants as event
use Rattle.model.specs.State.{State}
use Rattle.model.specs.Simulation.{process}
use Rattle.model.specs.Fits.{state_fits}
use Rattle.state.specs.FitsBy.{fits_test}
use Rattle.state_header.specs.Header.{now_set, events_set}
use Rattle.state_header.specs.Laws.{fits_now, fits_events}
use Rattle.state_queue.specs.Events.{queue_room, event_in_range, dequeued}
use Rattle.state_queue.specs.Fits.{fits_taken}
use Rattle.sim_attempt.specs.Attempts.{room_of, attempt_test, arrival_fits, arrival_time, timeout_fits, timeout_time}
use Rattle.sim_clients.specs.ClientEvents.{send_test, again_test, awaits}
use Rattle.sim_clients.specs.Redirects.{redirect_test, backoff_fits, backoff_time}
use Rattle.sim_clients.specs.Replies.{reply_test, replies_room}
use Rattle.state_server.specs.Servers.{pending_room}
use Rattle.sim_events.specs.Moves.{processed, deliver_test, delivery_room, arrive_test}
use Rattle.sim_events.specs.Fits.{is_fault, events_kept, fits_start_event, fits_timer_event, fits_deliver_event, fits_arrive_event, fits_send_event, fits_redirect_event, fits_retry_event, fits_reply_event, fits_timeout_event}
use Rattle.sim_faults.specs.Faults.{fault_at, fault_test, ReadyIn}
use Rattle.sim_faults.specs.Fits.{fits_fault, before_fault, ready_fits, test_popped}
use Rattle.sim_step.specs.Steps.{room_after, process_test, popped}

-- ---- an event, on a state that fits

module _ (t : State) (message : List ℕ) (r : queue_room 1 t ≡ true) where
  pub fits_process : state_fits t ≡ true → (e : Event) → event_fits t.config.servers t.config.clients t.limits.log_indexes e ≡ true
      → state_fits (processed e message t).state ≡ process_test t.now.0 (room_of t) e t
  unfolding process_test faults.in_cluster processed process fault_at
  fits_process h (event.Start slot) g = fits_start_event t h slot message (ltb-true slot t.config.servers (and_right _ _ g))
  fits_process h (event.Deliver from to entries) g =
      let k = and_left _ _ (and_right _ _ (and_right _ _ g)) in
      fits_deliver_event t h from to entries message (omega (arith, leb-true 1 to.0 (and_left _ _ k), leb-true to.0 t.config.servers (and_right _ _ k)))
  fits_process h (event.Timer slot timer generation) g = fits_timer_event t h slot timer generation message (ltb-true slot t.config.servers (and_right _ _ g))
  fits_process h (event.Fault fault) g = fits_fault t (ready_fits t h) r fault (and_right _ _ g) ∙ ap (λ (x : Bool). fault_test fault t.now t and x) h ∙ and_true _
  fits_process h (event.ClientSend c) g = fits_send_event t h c message (ltb-true c t.config.clients (and_right _ _ g))
  fits_process h (event.ClientArrive slot c seq attempt) g =
      let w = and_right _ _ (and_right _ _ (and_right _ _ (and_left _ _ g))) in
      fits_arrive_event t h slot c seq attempt message (ltb-true slot t.config.servers (and_left _ _ (and_right _ _ g))) (ltb-true c t.config.clients (and_right _ _ (and_right _ _ g)))
      (and_left _ _ w) (and_right _ _ w)
  fits_process h (event.ClientRedirect c attempt hint) g = fits_redirect_event t h c message (ltb-true c t.config.clients (and_right _ _ g)) attempt hint
  fits_process h (event.ClientRetry c attempt) g = fits_retry_event t h c message (ltb-true c t.config.clients (and_right _ _ g)) attempt
  fits_process h (event.ClientReply c seq index) g =
      fits_reply_event t h c message (ltb-true c t.config.clients (and_left _ _ (and_right _ _ g))) seq index (leb-true index.0 t.limits.log_indexes (and_right _ _ (and_right _ _ g)))
  fits_process h (event.ClientTimeout c attempt) g = fits_timeout_event t h c message (ltb-true c t.config.clients (and_right _ _ g)) attempt

  -- where the state after an event fits, the count of events has 64 bits before it
  plain_word : (e : Event) → is_fault e ≡ false → state_fits (processed e message t).state ≡ true → word t.events ≡ true
  plain_word e n k = ap word (sym (events_kept t message e n)) ∙ fits_test (processed e message t).state k 18

  fault_word : ReadyIn t → (fault : Fault) → fault_in_range t.config.servers fault ≡ true → state_fits (processed (event.Fault fault) message t).state ≡ true → word t.events ≡ true
  unfolding processed process fault_at
  fault_word p fault g k = fits_test t (before_fault t p r fault g k) 18

  pub before_process : ReadyIn t → (e : Event) → event_fits t.config.servers t.config.clients t.limits.log_indexes e ≡ true
      → state_fits (processed e message t).state ≡ true → word t.events ≡ true
  unfolding is_fault
  before_process p (event.Start slot) g k = plain_word (event.Start slot) refl k
  before_process p (event.Deliver from to entries) g k = plain_word (event.Deliver from to entries) refl k
  before_process p (event.Timer slot timer generation) g k = plain_word (event.Timer slot timer generation) refl k
  before_process p (event.Fault fault) g k = fault_word p fault (and_right _ _ g) k
  before_process p (event.ClientSend c) g k = plain_word (event.ClientSend c) refl k
  before_process p (event.ClientArrive slot c seq attempt) g k = plain_word (event.ClientArrive slot c seq attempt) refl k
  before_process p (event.ClientRedirect c attempt hint) g k = plain_word (event.ClientRedirect c attempt hint) refl k
  before_process p (event.ClientRetry c attempt) g k = plain_word (event.ClientRetry c attempt) refl k
  before_process p (event.ClientReply c seq index) g k = plain_word (event.ClientReply c seq index) refl k
  before_process p (event.ClientTimeout c attempt) g k = plain_word (event.ClientTimeout c attempt) refl k

-- ---- the first event taken

module _ (s : State) (time : SimTime) where
  -- the tests read neither the queue nor the time nor the count of events
  pub test_same : (at room : ℕ) (e : Event) → process_test at room e (popped time s) ≡ process_test at room e s
  unfolding process_test popped events_set now_set dequeued deliver_test delivery_room arrive_test pending_room send_test again_test awaits redirect_test backoff_fits backoff_time reply_test replies_room attempt_test arrival_fits arrival_time timeout_fits timeout_time
  test_same at room (event.Start slot) = refl
  test_same at room (event.Deliver from to entries) = refl
  test_same at room (event.Timer slot timer generation) = refl
  test_same at room (event.Fault fault) = test_popped fault (record { 0 = at }) s (rest s.queue) time (s.events + 1)
  test_same at room (event.ClientSend c) = refl
  test_same at room (event.ClientArrive slot c seq attempt) = refl
  test_same at room (event.ClientRedirect c attempt hint) = refl
  test_same at room (event.ClientRetry c attempt) = refl
  test_same at room (event.ClientReply c seq index) = refl
  test_same at room (event.ClientTimeout c attempt) = refl

  same_ranges : (e : Event) → event_fits s.config.servers s.config.clients s.limits.log_indexes e ≡ true
      → event_fits (popped time s).config.servers (popped time s).config.clients (popped time s).limits.log_indexes e ≡ true
  unfolding popped events_set now_set dequeued
  same_ranges e g = g

  taken_now : (popped time s).now.0 ≡ time.0
  unfolding popped events_set now_set dequeued
  taken_now = refl

  taken_events : (popped time s).events ≡ s.events + 1
  unfolding popped events_set now_set dequeued
  taken_events = refl

  taken_ready : ReadyIn s → ReadyIn (popped time s)
  unfolding popped events_set now_set dequeued
  taken_ready p = p

module _ (s : State) (t : state_fits s ≡ true) (x : Scheduled) (q : Queue) (e : s.queue ≡ x ∷ q) where
  row : event_in_range s x ≡ true
  unfolding event_in_range
  row = and_left _ _ (subst (λ (l : Queue). every (event_in_range s) l ≡ true) e (and_left _ _ (and_right _ _ (fits_test s t 3))))

  pub time_word : word x.time.0 ≡ true
  unfolding event_in_range
  time_word = and_left _ _ row

  pub event_fits_lem : event_fits s.config.servers s.config.clients s.limits.log_indexes x.event ≡ true
  unfolding event_in_range
  event_fits_lem = and_left _ _ (and_right _ _ row)

  full : length (x ∷ q) ≤ s.limits.events
  full = subst (λ (l : Queue). length l ≤ s.limits.events) e (leb-true (length s.queue) s.limits.events (and_left _ _ (fits_test s t 3)))

  pub fits_popped : state_fits (popped x.time s) ≡ word (s.events + 1)
  unfolding popped now_set dequeued
  fits_popped =
      fits_events (now_set x.time (dequeued s)) (s.events + 1) (fits_test s t 18)
      ∙ ap (λ (u : Bool). word (s.events + 1) and u)
      (fits_now (dequeued s) x.time (fits_test s t 2) ∙ and_both _ _ time_word (fits_taken s (fits_test s t 3) ∙ t))
      ∙ and_true _

  room_popped : queue_room 1 (popped x.time s) ≡ true
  unfolding popped events_set now_set dequeued queue_room
  room_popped = ap (λ (l : Queue). leb (length (rest l) + 1) s.limits.events) e ∙ le-leb (length q + 1) s.limits.events (omega (arith, full))

  room_is : room_of (popped x.time s) ≡ room_after s
  unfolding popped events_set now_set dequeued room_of room_after
  room_is =
      ap (λ (l : Queue). s.limits.events - length (rest l)) e
      ∙ (let o : s.limits.events - length q ≡ s.limits.events - length (x ∷ q) + 1 = omega (arith, full) in o)
      ∙ ap (λ (l : Queue). s.limits.events - length l + 1) (sym e)

  -- the state after the first event fits where its test, asked before it is taken, is true
  pub fits_first : state_fits (processed x.event x.message (popped x.time s)).state ≡ (word (s.events + 1) and process_test x.time.0 (room_after s) x.event s)
  fits_first =
      let p : State = popped x.time s in
      let test : Bool = process_test x.time.0 (room_after s) x.event s in
      let after : Bool = state_fits (processed x.event x.message p).state in
      cases (word (s.events + 1))
      (λ w. fits_process p x.message room_popped (fits_popped ∙ w) x.event (same_ranges s x.time x.event event_fits_lem)
      ∙ ap₂ (λ (n m : ℕ). process_test n m x.event p) (taken_now s x.time) room_is ∙ test_same s x.time x.time.0 (room_after s) x.event
      ∙ sym (ap (λ (u : Bool). u and test) w ∙ true_and test))
      (λ w. cases after
      (λ k. absurd (false_true (sym w ∙ sym (ap word (taken_events s x.time))
      ∙ before_process p x.message room_popped (taken_ready s x.time (ready_fits s t)) x.event (same_ranges s x.time x.event event_fits_lem) k)))
      (λ k. k ∙ sym (no_and (word (s.events + 1)) test w)))
