-- What the proofs of lib.rt, deliveries.rt and arrivals.rt cite. Assumes nothing.
use Rattle.std.specs.Prelude.{◌≡◌, Bool, not, ◌&&◌, List, [], ℕ, ◌+◌, ◌-◌, eqb, Option, None, Some}
use Rattle.std.proofs.Math.Path.{refl, sym, ap, subst}
use Rattle.std.proofs.Common.{ap₂, ◌∙◌}
use Rattle.std.proofs.Math.Bool.{true, false}
use Rattle.laws.specs.Bools.{pick, pick_both}
use Rattle.laws.proofs.BoolLaws.{and_right}
use Rattle.laws.specs.Lists.{is_some}
use Rattle.units.specs.declared.NodeId.{NodeId}
use Rattle.protocol.specs.declared.Status.{Status}
use Rattle.protocol.specs.declared.Timer.{Timer}
use Rattle.protocol.specs.declared.Timer.TheVariants.{Election, Heartbeat}
use Rattle.protocol.specs.declared.Role.{Role}
use Rattle.protocol.specs.declared.Role.TheVariants.{Follower, Candidate, Leader}
use Rattle.metrics.specs.declared.Metrics.{Metrics}
use Rattle.std.specs.Option.{is_some, unwrap_or}
use Rattle.metrics.specs.Metrics.{counters_fit, deliver_to_leader, counted, Counting}
use Rattle.metrics.specs.Laws.{counters_fit_lem, counted_fits}
use Rattle.queue.specs.declared.Event.TheVariants as event
use Rattle.model.specs.State.{State, Server, Phase, from_client, message_input, timer_input, propose_input, nothing, writing, server_at}
use Rattle.model.specs.Fields.{with_metrics, with_phase}
use Rattle.model.specs.Simulation.{Moved, open_message, open_timer, open_proposal, running, contends, generation_of, idle, start_server, opened_timer, deliver, client_arrive, process}
use Rattle.model.specs.Fits.{state_fits}
use Rattle.state.specs.declared.Capacity.{Capacity}
use Rattle.state.specs.declared.OpenInput.{OpenInput}
use Rattle.state.specs.declared.ServerState.{ServerState}
use Rattle.state.specs.Area.{Area, capacity_of}
use Rattle.state.specs.Server.{state_of_server}
use Rattle.state.specs.Fitting.{area_fits}
use Rattle.state.specs.FitsBy.{fits_test}
use Rattle.state.specs.Changes.{AreaOf, Changes, Reads}
use Rattle.state_header.specs.Header.{metrics_of, metrics_set, phase_set, SetsPhase}
use Rattle.state_header.specs.Laws.{fits_phase, counted_is}
use Rattle.state_server.specs.Servers.{server_state_at, status_at, pending_room, registered, status_runs}
use Rattle.state_server.specs.Laws.{status_runs_lem}
use Rattle.answers.specs.declared.InputNumbers.{InputNumbers}
use Rattle.answers.specs.Answers.{input_of, message_numbers}
use Rattle.sim_outputs.specs.Timers.{generation_in}
use Rattle.sim_owed.specs.declared.Owed.TheVariants as owed
use Rattle.sim_owed.specs.Servers.{Opens, owed_of, start_at}
use Rattle.sim_owed.specs.Closes.{runs_at, idle_at}
use Rattle.sim_owed.specs.ServerLaws.{opens_is}
use Rattle.sim_events.specs.Moves.{processed, Processes, input_opened, message_open, timer_open, proposal_open, fresh_in, fires_in, role_contends, status_contends, delivery_room, deliver_test, delivery_counted, arrive_test}
use Rattle.sim_events.specs.Kept.{Keeps, same, phase_kept}
use borrow.Author.Tests.{not-true, not-false}

-- ---- a server's status

status_read : (b : List ℕ) (F : Capacity) (slot : ℕ) (x : Option Status) → Reads b F x (status_at slot) → (s : State) → Area b s → F ≡ capacity_of s → status_runs x ≡ running s slot
unfolding status_at
status_read b F slot x q s h e = ap status_runs (q.to s h e) ∙ status_runs_lem (server_at s slot).status

pub runs_read : (b : List ℕ) (F : Capacity) (slot : ℕ) (x : Option Status) (u : Bool) → Reads b F x (status_at slot) → u ≡ status_runs x → Reads b F u (runs_at slot)
unfolding runs_at
runs_read b F slot x u q e = record { to = λ s h ef. e ∙ status_read b F slot x q s h ef }

-- ---- inputs that open

module _ (b b' : List ℕ) (F : Capacity) (slot : ℕ) (i : OpenInput) (q : SetsPhase b b' F i) where
  pub message_opened : i ≡ input_opened slot 1 0 0 0 → Changes b b' F (message_open slot)
  unfolding phase_set message_open
  message_opened e = q.to (writing slot message_input nothing) e

  pub timer_opened : i ≡ input_opened slot 2 0 0 0 → Changes b b' F (timer_open slot)
  unfolding phase_set timer_open
  timer_opened e = q.to (writing slot timer_input nothing) e

  pub proposal_opened : (c seq attempt : ℕ) → i ≡ input_opened slot 4 c seq attempt → Changes b b' F (proposal_open slot c seq attempt)
  unfolding phase_set proposal_open
  proposal_opened c seq attempt e = q.to (writing slot (propose_input (from_client c seq attempt)) nothing) e

-- an input opened behind a change that keeps the phase
opened_after : {b b₁ b₂ : List ℕ} {F : Capacity} {r : InputNumbers} (op : State → State) (p : Phase) (whole : State → Moved)
    → ((s : State) → Area b s → F ≡ capacity_of s → (whole s).state ≡ with_phase (op s) p) → ((s : State) → Area b s → F ≡ capacity_of s → r ≡ input_of (whole s).opening) → ((s : State) → Keeps s (op s))
    → Changes b b₁ F op → Changes b₁ b₂ F (λ s. with_phase s p) → Opens b b₂ F r whole
unfolding phase_set
opened_after {b} {b₁} {b₂} {F} op p whole is opens keeps k₁ k₂ = record {
  changes = record {
    to = λ s l h t.
        let e = is s h.area h.capacity in
        let t₂ : state_fits (with_phase (op s) p) ≡ true = ap state_fits (sym e) ∙ t in
        let t₁ : state_fits (op s) ≡ true = and_right _ _ (sym (fits_phase (op s) p (phase_kept s (op s) (area_fits h.area) (keeps s))) ∙ t₂) in
        subst (λ (x : State). AreaOf b₂ l F x) (sym e) (k₂.to (op s) l (k₁.to s l h t₁) t₂);
  };
  input = λ s a ef t. opens s a ef;
}

-- ---- a start

pub fresh_told : (x : ServerState) (u : Bool) → u ≡ status_runs x.status → (not u && eqb x.incarnation 0) ≡ fresh_in x
unfolding fresh_in
fresh_told x u e = ap (λ (t : Bool). not t && eqb x.incarnation 0) e

fresh_read : (b : List ℕ) (F : Capacity) (slot : ℕ) (x : ServerState) → Reads b F x (server_state_at slot) → (s : State) → Area b s → F ≡ capacity_of s
    → fresh_in x ≡ (not (running s slot) && eqb (server_at s slot).incarnation 0)
unfolding fresh_in server_state_at
fresh_read b F slot x q s h e =
    ap (λ (y : ServerState). not (status_runs y.status) && eqb y.incarnation 0) (q.to s h e)
    ∙ ap (λ (t : Bool). not t && eqb (server_at s slot).incarnation 0) (status_runs_lem (server_at s slot).status)

module _ (b b' : List ℕ) (F : Capacity) (slot : ℕ) (x : ServerState) (u : Bool) (r : InputNumbers) (q : Reads b F x (server_state_at slot)) (e : u ≡ fresh_in x) where
  pub start_fresh : u ≡ true → Opens b b' F r (start_at slot (owed_of owed.Nothing)) → Opens b b' F r (processed (event.Start slot) [])
  unfolding processed process start_at owed_of
  start_fresh y o =
      opens_is (start_at slot (owed_of owed.Nothing)) (processed (event.Start slot) []) o
      (λ s h ef. sym (ap (λ (t : Bool). pick t (start_server s slot nothing) (idle s)) (sym (e ∙ fresh_read b F slot x q s h ef) ∙ y)))

  pub start_old : u ≡ false → Opens b b' F r idle_at → Opens b b' F r (processed (event.Start slot) [])
  unfolding processed process idle_at
  start_old n o =
      opens_is idle_at (processed (event.Start slot) []) o
      (λ s h ef. sym (ap (λ (t : Bool). pick t (start_server s slot nothing) (idle s)) (sym (e ∙ fresh_read b F slot x q s h ef) ∙ n)))

-- ---- a timer

pub fires_election : (x : ServerState) (timer : Timer) (generation : ℕ) (u : Bool) → u ≡ status_runs x.status → timer ≡ Election → (u && eqb x.election generation) ≡ fires_in x timer generation
unfolding fires_in
fires_election x timer generation u e t =
    ap₂ (λ (v : Bool) (w : Timer). v && eqb (generation_in x w) generation) e (sym t)

pub fires_heartbeat : (x : ServerState) (timer : Timer) (generation : ℕ) (u : Bool) → u ≡ status_runs x.status → timer ≡ Heartbeat → (u && eqb x.heartbeat generation) ≡ fires_in x timer generation
unfolding fires_in
fires_heartbeat x timer generation u e t =
    ap₂ (λ (v : Bool) (w : Timer). v && eqb (generation_in x w) generation) e (sym t)

generation_read : (v : Server) (timer : Timer) → generation_in (state_of_server v) timer ≡ generation_of v timer
generation_read v Election = refl
generation_read v Heartbeat = refl

fires_read : (b : List ℕ) (F : Capacity) (slot : ℕ) (timer : Timer) (generation : ℕ) (x : ServerState) → Reads b F x (server_state_at slot) → (s : State) → Area b s → F ≡ capacity_of s
    → fires_in x timer generation ≡ (running s slot && eqb (generation_of (server_at s slot) timer) generation)
unfolding fires_in server_state_at
fires_read b F slot timer generation x q s h e =
    ap (λ (y : ServerState). status_runs y.status && eqb (generation_in y timer) generation) (q.to s h e)
    ∙ ap₂ (λ (t : Bool) (n : ℕ). t && eqb n generation) (status_runs_lem (server_at s slot).status) (generation_read (server_at s slot) timer)

module _ (b b' : List ℕ) (F : Capacity) (slot : ℕ) (timer : Timer) (generation : ℕ) (x : ServerState) (u : Bool) (r : InputNumbers) (q : Reads b F x (server_state_at slot)) (e : u ≡ fires_in x timer generation) where
  fires_is : (t : Bool) → u ≡ t → (s : State) → Area b s → F ≡ capacity_of s → processed (event.Timer slot timer generation) [] s ≡ pick t (opened_timer s slot timer) (idle s)
  unfolding processed process
  fires_is t y s h ef = ap (λ (w : Bool). pick w (opened_timer s slot timer) (idle s)) (sym (e ∙ fires_read b F slot timer generation x q s h ef) ∙ y)

  pub timer_fires : u ≡ true → Changes b b' F (timer_open slot) → r ≡ input_of (open_timer (record { 0 = slot + 1 }) timer) → Opens b b' F r (processed (event.Timer slot timer generation) [])
  unfolding timer_open
  timer_fires y k er = record {
    changes = record {
      to = λ s l h t.
          let is = ap (λ (m : Moved). m.state) (fires_is true y s h.area h.capacity) in
          subst (λ (z : State). AreaOf b' l F z) (sym is) (k.to s l h (ap state_fits (sym is) ∙ t));
    };
    input = λ s a ef t. er ∙ ap (λ (m : Moved). input_of m.opening) (sym (fires_is true y s a ef));
  }

  pub timer_old : u ≡ false → Opens b b' F r idle_at → Opens b b' F r (processed (event.Timer slot timer generation) [])
  unfolding idle_at
  timer_old n o = opens_is idle_at (processed (event.Timer slot timer generation) []) o (λ s h ef. sym (fires_is false n s h ef))

-- ---- a message

pub role_follower : (x : Role) → x ≡ Follower → false ≡ role_contends x
unfolding role_contends
role_follower x e = sym (ap role_contends e)

pub role_candidate : (x : Role) → x ≡ Candidate → true ≡ role_contends x
unfolding role_contends
role_candidate x e = sym (ap role_contends e)

pub role_leader : (x : Role) → x ≡ Leader → true ≡ role_contends x
unfolding role_contends
role_leader x e = sym (ap role_contends e)

pub contends_none : (x : Option Status) → x ≡ None → false ≡ status_contends x
unfolding status_contends
contends_none x e = sym (ap status_contends e)

pub contends_some : (x : Option Status) (y : Status) (u : Bool) → x ≡ Some y → u ≡ role_contends y.role → u ≡ status_contends x
unfolding status_contends
contends_some x y u e er = er ∙ sym (ap status_contends e)

contends_is : (o : Option Status) → status_contends o ≡ contends o
unfolding status_contends role_contends
contends_is None = refl
contends_is (Some x) = by x.role refl
  where
    by : (w : Role) → x.role ≡ w → role_contends x.role ≡ contends (Some x)
    by Follower e = rw e refl
    by Candidate e = rw e refl
    by Leader e = rw e refl

contends_read : (b : List ℕ) (F : Capacity) (slot : ℕ) (x : Option Status) → Reads b F x (status_at slot) → (s : State) → Area b s → F ≡ capacity_of s → status_contends x ≡ contends (server_at s slot).status
unfolding status_at
contends_read b F slot x q s h e = ap status_contends (q.to s h e) ∙ contends_is (server_at s slot).status

pub delivery_read : (b : List ℕ) (F : Capacity) (entries : ℕ) (m : Metrics) (c : Option Metrics) (fits : Bool) → Reads b F m metrics_of
    → Counting (deliver_to_leader m entries) c → fits ≡ is_some c → Reads b F fits (delivery_room entries)
unfolding metrics_of delivery_room
delivery_read b F entries m c fits r e t = record {
  to = λ s h ef.
      t ∙ ap is_some e.value ∙ counted_fits (deliver_to_leader m entries) ∙ ap (λ (x : Metrics). counters_fit (deliver_to_leader x entries)) (r.to s h ef);
}

module _ (b : List ℕ) (F : Capacity) (to : NodeId) (entries : ℕ) (x : Option Status) (u : Bool) (q : Reads b F x (status_at (to.0 - 1))) (e : u ≡ status_contends x) where
  pub deliver_plain : not u ≡ true → Reads b F true (deliver_test to entries)
  unfolding deliver_test
  deliver_plain n = record { to = λ s h ef. sym (ap (λ (t : Bool). pick t (delivery_room entries s) true) (sym (e ∙ contends_read b F (to.0 - 1) x q s h ef) ∙ not-true u n)) }

  pub deliver_asked : (fits : Bool) → not u ≡ false → Reads b F fits (delivery_room entries) → Reads b F fits (deliver_test to entries)
  unfolding deliver_test
  deliver_asked fits n r = record {
    to = λ s h ef. r.to s h ef ∙ sym (ap (λ (t : Bool). pick t (delivery_room entries s) true) (sym (e ∙ contends_read b F (to.0 - 1) x q s h ef) ∙ not-false u n));
  }

pub uncounted : (b : List ℕ) (F : Capacity) (due : Bool) (entries : ℕ) → not due ≡ true → Changes b b F (delivery_counted due entries)
unfolding delivery_counted
uncounted b F due entries n = record {
  to = λ s l h t. subst (λ (x : State). AreaOf b l F x) (sym (ap (λ (v : Bool). pick v (with_metrics s (deliver_to_leader s.metrics entries)) s) (not-true due n))) h;
}

pub delivery_counted_lem : (b b' : List ℕ) (F : Capacity) (due : Bool) (entries : ℕ) (m : Metrics) (c : Option Metrics) (next : Metrics) → not due ≡ false
    → Reads b F m metrics_of → Counting (deliver_to_leader m entries) c → next ≡ unwrap_or c m → Changes b b' F (metrics_set next)
    → Changes b b' F (delivery_counted due entries)
unfolding metrics_of metrics_set delivery_counted
delivery_counted_lem b b' F due entries m c next n pm ec en k = record {
  to = λ s l h t.
      let new : Metrics = deliver_to_leader s.metrics entries in
      let is : with_metrics s new ≡ pick due (with_metrics s new) s = sym (ap (λ (v : Bool). pick v (with_metrics s new) s) (not-false due n)) in
      let t₁ : state_fits (with_metrics s new) ≡ true = ap state_fits is ∙ t in
      let fit : counters_fit new ≡ true = counters_fit_lem s.config.servers new (fits_test (with_metrics s new) t₁ 12) in
      let e : next ≡ new =
      en ∙ ap (λ (x : Option Metrics). unwrap_or x m) ec.value
      ∙ ap (λ (x : Metrics). unwrap_or (counted (deliver_to_leader x entries)) x) (pm.to s h.area h.capacity) ∙ counted_is s.metrics new fit in
      subst (λ (x : State). AreaOf b' l F x) (ap (with_metrics s) e ∙ is) (k.to s l h (ap (λ (x : Metrics). state_fits (with_metrics s x)) e ∙ t₁));
}

pub keeps_counted : (s : State) (due : Bool) (entries : ℕ) → Keeps s (delivery_counted due entries s)
unfolding delivery_counted
keeps_counted s due entries = pick_both (λ (x : State). Keeps s x) due (record { config = refl; limits = refl; phase = refl; events = refl }) (same s)

module _ (b : List ℕ) (F : Capacity) (from to : NodeId) (entries size : ℕ) (x : Option Status) (u : Bool) (r : InputNumbers) (q : Reads b F x (status_at (to.0 - 1))) (e : u ≡ status_runs x) where
  deliver_is : (t : Bool) → u ≡ t → (message : List ℕ) (s : State) → Area b s → F ≡ capacity_of s
      → processed (event.Deliver from to entries) message s
      ≡ pick t (record { opening = open_message to from entries message; state = with_phase (delivery_counted (contends (server_at s (to.0 - 1)).status) entries s) (writing (to.0 - 1) message_input nothing) }) (idle s)
  unfolding processed process deliver delivery_counted
  deliver_is t y message s h ef =
      ap
      (λ (w : Bool).
      pick w (record { opening = open_message to from entries message; state = with_phase (delivery_counted (contends (server_at s (to.0 - 1)).status) entries s) (writing (to.0 - 1) message_input nothing) })
      (idle s))
      (sym (e ∙ status_read b F (to.0 - 1) x q s h ef) ∙ y)

  pub deliver_lost : (b' : List ℕ) → not u ≡ true → Opens b b' F r idle_at → Processes b b' F r (event.Deliver from to entries) size
  unfolding idle_at
  deliver_lost b' n o = record { to = λ message l. opens_is idle_at (processed (event.Deliver from to entries) message) o (λ s h ef. sym (deliver_is false (not-true u n) message s h ef)) }

  pub deliver_opened : (b₁ b₂ : List ℕ) (due : Bool) → not u ≡ false → due ≡ status_contends x → Changes b b₁ F (delivery_counted due entries) → Changes b₁ b₂ F (message_open (to.0 - 1))
      → r ≡ message_numbers to from size entries → Processes b b₂ F r (event.Deliver from to entries) size
  unfolding message_open
  deliver_opened b₁ b₂ due n ed k₁ k₂ er = record {
    to = λ message l.
        opened_after (delivery_counted due entries) (writing (to.0 - 1) message_input nothing) (processed (event.Deliver from to entries) message)
        (λ s h ef. ap (λ (m : Moved). m.state) (deliver_is true (not-false u n) message s h ef)
        ∙ ap (λ (v : Bool). with_phase (delivery_counted v entries s) (writing (to.0 - 1) message_input nothing)) (sym (ed ∙ contends_read b F (to.0 - 1) x q s h ef)))
        (λ s h ef. er ∙ ap (λ (j : ℕ). message_numbers to from j entries) (sym l) ∙ ap (λ (m : Moved). input_of m.opening) (sym (deliver_is true (not-false u n) message s h ef)))
        (λ s. keeps_counted s due entries) k₁ k₂;
  }

-- ---- a command's arrival

module _ (b : List ℕ) (F : Capacity) (slot c seq : ℕ) (u : Bool) (q : Reads b F u (runs_at slot)) where
  pub arrive_lost : not u ≡ true → Reads b F true (arrive_test slot c seq)
  unfolding arrive_test runs_at
  arrive_lost n = record { to = λ s h ef. sym (ap (λ (t : Bool). pick t (pending_room slot (record { client = c; seq = seq }) s) true) (sym (q.to s h ef) ∙ not-true u n)) }

  pub arrive_asked : (fits : Bool) → not u ≡ false → Reads b F fits (pending_room slot (record { client = c; seq = seq })) → Reads b F fits (arrive_test slot c seq)
  unfolding arrive_test runs_at
  arrive_asked fits n r = record {
    to = λ s h ef. r.to s h ef ∙ sym (ap (λ (t : Bool). pick t (pending_room slot (record { client = c; seq = seq }) s) true) (sym (q.to s h ef) ∙ not-false u n));
  }

  module _ (attempt : ℕ) (r : InputNumbers) where
    arrive_is : (t : Bool) → u ≡ t → (s : State) → Area b s → F ≡ capacity_of s
        → processed (event.ClientArrive slot c seq attempt) [] s
        ≡ pick t (record { opening = open_proposal (record { 0 = slot + 1 }) c seq; state = proposal_open slot c seq attempt (registered slot (record { client = c; seq = seq }) s) }) (idle s)
    unfolding processed process client_arrive proposal_open registered runs_at
    arrive_is t y s h ef =
        ap
        (λ (w : Bool). pick w (record { opening = open_proposal (record { 0 = slot + 1 }) c seq; state = proposal_open slot c seq attempt (registered slot (record { client = c; seq = seq }) s) }) (idle s))
        (sym (q.to s h ef) ∙ y)

    pub arrive_gone : (b' : List ℕ) → not u ≡ true → Opens b b' F r idle_at → Opens b b' F r (processed (event.ClientArrive slot c seq attempt) [])
    unfolding idle_at
    arrive_gone b' n o = opens_is idle_at (processed (event.ClientArrive slot c seq attempt) []) o (λ s h ef. sym (arrive_is false (not-true u n) s h ef))

    pub arrive_opened : (b₁ b₂ : List ℕ) → not u ≡ false → Changes b b₁ F (registered slot (record { client = c; seq = seq })) → Changes b₁ b₂ F (proposal_open slot c seq attempt)
        → r ≡ input_of (open_proposal (record { 0 = slot + 1 }) c seq) → Opens b b₂ F r (processed (event.ClientArrive slot c seq attempt) [])
    unfolding proposal_open registered
    arrive_opened b₁ b₂ n k₁ k₂ er =
        opened_after (registered slot (record { client = c; seq = seq })) (writing slot (propose_input (from_client c seq attempt)) nothing) (processed (event.ClientArrive slot c seq attempt) [])
        (λ s h ef. ap (λ (m : Moved). m.state) (arrive_is true (not-false u n) s h ef)) (λ s h ef. er ∙ ap (λ (m : Moved). input_of m.opening) (sym (arrive_is true (not-false u n) s h ef)))
        (λ s. record { config = refl; limits = refl; phase = refl; events = refl }) k₁ k₂
