-- Question 10 of an event: the state after it fits where its test is true, if the state before it fits; and an event leaves the count of events. Assumes nothing.
use Rattle.std.specs.Prelude.{◌≡◌, not, ◌&&◌, List, ℕ, ◌+◌, ◌-◌, ◌^◌, ◌≤◌, ◌<◌, Option, None, Some}
use Rattle.std.proofs.Math.Path.{refl, sym, ap, ap₂}
use Rattle.std.proofs.Common.{◌∙◌, arith, lt-ltb}
use Rattle.std.proofs.Math.Bool.{Bool, true, false}
use Rattle.std.proofs.Math.Dec.{eqb}
use Rattle.laws.specs.Bools.{pick, pick_both, cases, ◌and◌, and_true}
use Rattle.laws.proofs.BoolLaws.{and_both, true_and}
use Rattle.laws.specs.Decides.{false_true}
use Rattle.laws.specs.Lists.{is_some}
use Rattle.units.specs.declared.LogIndex.{LogIndex}
use Rattle.units.specs.declared.NodeId.{NodeId}
use Rattle.protocol.specs.declared.Status.{Status}
use Rattle.protocol.specs.declared.Timer.{Timer}
use Rattle.client.specs.declared.ClientKey.{ClientKey}
use Rattle.config.specs.declared.SimConfig.{SimConfig}
use Rattle.config.specs.declared.Limits.{Limits}
use Rattle.metrics.specs.Metrics.{deliver_to_leader}
use Rattle.metrics.specs.Laws.{delivered_in_range}
use Rattle.queue.specs.Range.{word}
use Rattle.queue.specs.declared.Event.{Event}
use Rattle.queue.specs.declared.Event.TheVariants as event
use Rattle.model.specs.State.{State, Phase, from_client, start_input, message_input, timer_input, propose_input, nothing, closed, writing, server_at}
use Rattle.model.specs.Fields.{with_phase}
use Rattle.model.specs.Simulation.{Moved, running, contends, generation_of, idle, start_server, opened_timer, deliver, client_arrive, open_message, open_proposal, process}
use Rattle.model.specs.Fits.{state_fits, phase_fits}
use Rattle.state.specs.FitsBy.{fits_test}
use Rattle.state.specs.Lens.{servers_fit_lem}
use Rattle.state_header.specs.Header.{metrics_set, phase_set}
use Rattle.state_header.specs.Laws.{fits_metrics, fits_phase}
use Rattle.state_server.specs.Servers.{pending_room, key_in_range, registered}
use Rattle.state_server.specs.ServerLaws.{fits_registered}
use Rattle.sim_attempt.specs.Attempts.{room_of}
use Rattle.sim_attempt.specs.Laws.{limits_of}
use Rattle.sim_clients.specs.ClientEvents.{send_test, client_sent, again_test, client_retried, client_timed_out}
use Rattle.sim_clients.specs.Redirects.{redirect_test, client_redirected}
use Rattle.sim_clients.specs.Replies.{reply_test, client_replied}
use Rattle.sim_clients.specs.EventLaws.{fits_send, fits_retry, fits_timeout}
use Rattle.sim_clients.specs.RedirectLaws.{fits_redirect}
use Rattle.sim_clients.specs.ReplyLaws.{fits_reply}
use Rattle.sim_events.specs.Moves.{processed, delivery_room, deliver_test, delivery_counted, arrive_test}
use Rattle.sim_events.specs.Kept.{Keeps, phase_kept, idle_fits, keeps_send, keeps_retry, keeps_timeout, keeps_redirect, keeps_reply}
use Rattle.sim_events.specs.Laws.{keeps_counted}

-- Whether an event is a fault.
unfoldable pub is_fault : Event → Bool
is_fault (event.Start slot) = false
is_fault (event.Deliver from to entries) = false
is_fault (event.Timer slot timer generation) = false
is_fault (event.Fault fault) = true
is_fault (event.ClientSend c) = false
is_fault (event.ClientArrive slot c seq attempt) = false
is_fault (event.ClientRedirect c attempt hint) = false
is_fault (event.ClientRetry c attempt) = false
is_fault (event.ClientReply c seq index) = false
is_fault (event.ClientTimeout c attempt) = false

module _ (t : State) (h : state_fits t ≡ true) where
  -- another phase that is in range
  opened_fits : (p : Phase) → phase_fits t.config t.limits p ≡ true → state_fits (with_phase t p) ≡ true
  unfolding phase_set
  opened_fits p w = fits_phase t p (fits_test t h 19) ∙ and_both _ _ w h

  -- ---- a start, a timer

  pub fits_start_event : (slot : ℕ) (message : List ℕ) → slot < t.config.servers → state_fits (processed (event.Start slot) message t).state ≡ true
  unfolding processed process start_server
  fits_start_event slot message i =
      pick_both (λ (m : Moved). state_fits m.state ≡ true) (not (running t slot) && eqb (server_at t slot).incarnation 0) {a = start_server t slot nothing} {b = idle t}
      (opened_fits (writing slot start_input nothing) (and_both _ _ (lt-ltb slot t.config.servers i) (and_both _ _ refl refl))) (opened_fits closed refl)

  pub fits_timer_event : (slot : ℕ) (timer : Timer) (generation : ℕ) (message : List ℕ) → slot < t.config.servers
      → state_fits (processed (event.Timer slot timer generation) message t).state ≡ true
  unfolding processed process
  fits_timer_event slot timer generation message i =
      pick_both (λ (m : Moved). state_fits m.state ≡ true) (running t slot && eqb (generation_of (server_at t slot) timer) generation) {a = opened_timer t slot timer} {b = idle t}
      (opened_fits (writing slot timer_input nothing) (and_both _ _ (lt-ltb slot t.config.servers i) (and_both _ _ refl refl))) (opened_fits closed refl)

  -- ---- a message

  counted_fits : (due : Bool) (entries : ℕ) → state_fits (delivery_counted due entries t) ≡ pick due (delivery_room entries t) true
  unfolding delivery_counted delivery_room metrics_set
  counted_fits true entries =
      fits_metrics t (deliver_to_leader t.metrics entries) (fits_test t h 12)
      ∙ ap₂ (λ (x y : Bool). x and y) (delivered_in_range t.config.servers t.metrics (fits_test t h 12) entries) h ∙ and_true _
  counted_fits false entries = h

  -- behind a change that keeps the phase
  opened_kept : (x : State) → Keeps t x → (p : Phase) → phase_fits t.config t.limits p ≡ true → state_fits (with_phase x p) ≡ state_fits x
  unfolding phase_set
  opened_kept x k p w =
      fits_phase x p (phase_kept t x h k)
      ∙ ap (λ (u : Bool). u and state_fits x) (ap (λ (a : SimConfig). phase_fits a x.limits p) k.config ∙ ap (λ (a : Limits). phase_fits t.config a p) k.limits ∙ w) ∙ true_and (state_fits x)

  pub fits_deliver_event : (from to : NodeId) (entries : ℕ) (message : List ℕ) → to.0 - 1 < t.config.servers
      → state_fits (processed (event.Deliver from to entries) message t).state ≡ deliver_test to entries t
  unfolding processed process deliver deliver_test delivery_counted
  fits_deliver_event from to entries message i = by (server_at t (to.0 - 1)).status
    where
      moved : Option Status → Moved
      moved o = record { opening = open_message to from entries message; state = with_phase (delivery_counted (contends o) entries t) (writing (to.0 - 1) message_input nothing) }

      by : (o : Option Status) → state_fits (pick (is_some o) (moved o) (idle t)).state ≡ pick (contends o) (delivery_room entries t) true
      by None = opened_fits closed refl
      by (Some status) =
          opened_kept (delivery_counted (contends (Some status)) entries t) (keeps_counted t (contends (Some status)) entries) (writing (to.0 - 1) message_input nothing)
          (and_both _ _ (lt-ltb (to.0 - 1) t.config.servers i) (and_both _ _ refl refl))
          ∙ counted_fits (contends (Some status)) entries

  -- ---- a command's arrival

  key_good : (c seq : ℕ) → c < t.config.clients → word seq ≡ true → key_in_range t.config.clients (record { client = c; seq = seq }) ≡ true
  unfolding key_in_range
  key_good c seq j ws = and_both _ _ (and_both _ _ (lt-ltb c (2 ^ 64) (omega (arith, (limits_of t h).clients))) ws) (lt-ltb c t.config.clients j)

  pub fits_arrive_event : (slot c seq attempt : ℕ) (message : List ℕ) → slot < t.config.servers → c < t.config.clients → word seq ≡ true → word attempt ≡ true
      → state_fits (processed (event.ClientArrive slot c seq attempt) message t).state ≡ arrive_test slot c seq t
  unfolding processed process client_arrive arrive_test registered
  fits_arrive_event slot c seq attempt message i j ws wa =
      let key : ClientKey = record { client = c; seq = seq } in
      let p : Phase = writing slot (propose_input (from_client c seq attempt)) nothing in
      let x : State = registered slot key t in
      let m : Moved = record { opening = open_proposal (record { 0 = slot + 1 }) c seq; state = with_phase x p } in
      let room : Bool = pending_room slot key t in
      cases (running t slot)
      (λ e. ap (λ (u : Bool). state_fits (pick u m (idle t)).state) e
      ∙ opened_kept x (record { config = refl; limits = refl; phase = refl; events = refl }) p
      (and_both _ _ (lt-ltb slot t.config.servers i) (and_both _ _ (and_both _ _ (lt-ltb c t.config.clients j) (and_both _ _ ws wa)) refl))
      ∙ fits_registered t slot (servers_fit_lem t h) i key
      ∙ ap₂ (λ (u v : Bool). (room and u) and v) (key_good c seq j ws) h ∙ and_true _ ∙ and_true _ ∙ sym (ap (λ (u : Bool). pick u room true) e))
      (λ e. ap (λ (u : Bool). state_fits (pick u m (idle t)).state) e ∙ opened_fits closed refl ∙ sym (ap (λ (u : Bool). pick u room true) e))

  -- ---- clients

  module _ (c : ℕ) (message : List ℕ) (i : c < t.config.clients) where
    pub fits_send_event : state_fits (processed (event.ClientSend c) message t).state ≡ send_test t.now.0 (room_of t) c t
    unfolding processed process client_sent
    fits_send_event = idle_fits t (client_sent c t) h (keeps_send t c) ∙ fits_send t c h i

    pub fits_redirect_event : (attempt : ℕ) (hint : Option NodeId) → state_fits (processed (event.ClientRedirect c attempt hint) message t).state ≡ redirect_test t.now.0 (room_of t) c attempt hint t
    unfolding processed process client_redirected
    fits_redirect_event attempt hint = idle_fits t (client_redirected c attempt hint t) h (keeps_redirect t c attempt hint) ∙ fits_redirect t c h i attempt hint

    pub fits_retry_event : (attempt : ℕ) → state_fits (processed (event.ClientRetry c attempt) message t).state ≡ again_test t.now.0 (room_of t) c attempt t
    unfolding processed process client_retried
    fits_retry_event attempt = idle_fits t (client_retried c attempt t) h (keeps_retry t c attempt) ∙ fits_retry t c h i attempt

    pub fits_reply_event : (seq : ℕ) (index : LogIndex) → index.0 ≤ t.limits.log_indexes → state_fits (processed (event.ClientReply c seq index) message t).state ≡ reply_test (room_of t) c seq t
    unfolding processed process client_replied
    fits_reply_event seq index low = idle_fits t (client_replied c seq index t) h (keeps_reply t c seq index) ∙ fits_reply t c seq index h i low

    pub fits_timeout_event : (attempt : ℕ) → state_fits (processed (event.ClientTimeout c attempt) message t).state ≡ again_test t.now.0 (room_of t) c attempt t
    unfolding processed process client_timed_out
    fits_timeout_event attempt = idle_fits t (client_timed_out c attempt t) h (keeps_timeout t c attempt) ∙ fits_timeout t c h i attempt

-- ---- the count of events

module _ (t : State) (message : List ℕ) where
  start_events_lem : (slot : ℕ) → (processed (event.Start slot) message t).state.events ≡ t.events
  unfolding processed process start_server
  start_events_lem slot =
      pick_both (λ (m : Moved). m.state.events ≡ t.events) (not (running t slot) && eqb (server_at t slot).incarnation 0) {a = start_server t slot nothing} {b = idle t} refl refl

  timer_events : (slot : ℕ) (timer : Timer) (generation : ℕ) → (processed (event.Timer slot timer generation) message t).state.events ≡ t.events
  unfolding processed process
  timer_events slot timer generation =
      pick_both (λ (m : Moved). m.state.events ≡ t.events) (running t slot && eqb (generation_of (server_at t slot) timer) generation) {a = opened_timer t slot timer} {b = idle t} refl refl

  deliver_events : (from to : NodeId) (entries : ℕ) → (processed (event.Deliver from to entries) message t).state.events ≡ t.events
  unfolding processed process deliver delivery_counted
  deliver_events from to entries =
      let due : Bool = contends (server_at t (to.0 - 1)).status in
      let m : Moved = record { opening = open_message to from entries message; state = with_phase (delivery_counted due entries t) (writing (to.0 - 1) message_input nothing) } in
      pick_both (λ (x : Moved). x.state.events ≡ t.events) (running t (to.0 - 1)) {a = m} {b = idle t} (keeps_counted t due entries).events refl

  arrive_events : (slot c seq attempt : ℕ) → (processed (event.ClientArrive slot c seq attempt) message t).state.events ≡ t.events
  unfolding processed process client_arrive registered
  arrive_events slot c seq attempt =
      let x : State = registered slot (record { client = c; seq = seq }) t in
      let m : Moved = record { opening = open_proposal (record { 0 = slot + 1 }) c seq; state = with_phase x (writing slot (propose_input (from_client c seq attempt)) nothing) } in
      pick_both (λ (y : Moved). y.state.events ≡ t.events) (running t slot) {a = m} {b = idle t} refl refl

  -- an event of another kind than a fault leaves the count of events
  pub events_kept : (e : Event) → is_fault e ≡ false → (processed e message t).state.events ≡ t.events
  unfolding processed process is_fault client_sent client_redirected client_retried client_replied client_timed_out
  events_kept (event.Start slot) n = start_events_lem slot
  events_kept (event.Deliver from to entries) n = deliver_events from to entries
  events_kept (event.Timer slot timer generation) n = timer_events slot timer generation
  events_kept (event.Fault fault) n = absurd (false_true (sym n))
  events_kept (event.ClientSend c) n = (keeps_send t c).events
  events_kept (event.ClientArrive slot c seq attempt) n = arrive_events slot c seq attempt
  events_kept (event.ClientRedirect c attempt hint) n = (keeps_redirect t c attempt hint).events
  events_kept (event.ClientRetry c attempt) n = (keeps_retry t c attempt).events
  events_kept (event.ClientReply c seq index) n = (keeps_reply t c seq index).events
  events_kept (event.ClientTimeout c attempt) n = (keeps_timeout t c attempt).events
