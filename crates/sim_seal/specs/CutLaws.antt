-- What the proofs of cuts.rt cite, and question 10 of a cut. Assumes nothing.
use Rattle.std.specs.Prelude.{◌≡◌, true, ◌&&◌, ℕ, ◌+◌, ◌≤◌, ◌<◌}
use Rattle.std.proofs.Math.Path.{refl, ap, ap₂}
use Rattle.std.proofs.Common.{sym, subst, ◌∙◌}
use Rattle.std.proofs.Math.Bool.{Bool, false}
use mathlib.Core.List.{List, map}
use native.Mathlib.Omega.{arith}
use Rattle.std.proofs.Math.ListN.{length, set}
use Rattle.laws.specs.Bools.{pick, cases, ◌and◌, and_true}
use Rattle.laws.proofs.BoolLaws.{code_and}
use Rattle.laws.specs.Lists.{is_some}
use Rattle.laws.specs.Order.{numbers, pairs, remove_by}
use Rattle.laws.specs.OrderLaws.{length_push}
use Rattle.client.specs.Key.{key_of}
use Rattle.queue.specs.Queue.{time_of, push}
use Rattle.model.specs.State.{State, Server, Input, Verdict, Owed, sending}
use Rattle.model.specs.Fields.{with_pending}
use Rattle.model.specs.Simulation.{stop_server, close_input, cut_input}
use Rattle.model.specs.Fits.{state_fits, phase_fits}
use Rattle.state.specs.declared.Capacity.{Capacity}
use Rattle.state.specs.declared.OpenInput.{OpenInput}
use Rattle.state.specs.Parts.{open_of, owed_in, owed_back}
use Rattle.state.specs.Area.{Area, capacity_of}
use Rattle.state.specs.Fitting.{area_fits}
use Rattle.state.specs.FitsBy.{fits_test}
use Rattle.state.specs.Lens.{servers_fit_lem}
use Rattle.state.specs.Changes.{Changes, Reads}
use Rattle.state_server.specs.Servers.{forgotten}
use Rattle.state_server.specs.ServerLaws.{kept_forgotten}
use Rattle.answers.specs.declared.InputNumbers.{InputNumbers}
use Rattle.sim_replies.specs.Replies.{network_fits, client_told, arrival_time, tell_test, refuses_client, redirect_count, redirect_test, redirected}
use Rattle.sim_replies.specs.Laws.{network_fits_lem}
use Rattle.sim_replies.specs.RedirectLaws.{key_in, redirect_event, redirected_none, redirected_told, redirected_is, redirected_both, fits_redirect}
use Rattle.sim_owed.specs.declared.Owed.{Owed as OwedKind}
use Rattle.sim_owed.specs.Servers.{owed_of, Opens, stop_at, can_rise}
use Rattle.sim_owed.specs.Closes.{close_at, close_test, flags_of, SettledIn, Agrees}
use Rattle.sim_owed.specs.Fits.{map_kept, map_set, stopped_server, fits_stop, kept_stop, fits_close, before_close}
use Rattle.sim_owed.specs.ServerLaws.{opens_after}
use Rattle.state_queue.specs.Events.{queue_room}
use Rattle.sim_seal_sync.specs.Laws.{swapped}
use Rattle.sim_seal.specs.Cuts.{cut_at, cut_test}

-- ---- the state in which a cut goes on

module _ (o : OpenInput) (s : State) (f : state_fits s ≡ true) (i : o.slot < s.config.servers) where
  stopped_settled : SettledIn (stop_at o.slot s)
  unfolding stop_at stop_server
  stopped_settled = record { phase = fits_test s f 19; servers = kept_stop s o.slot (servers_fit_lem s f) i }

  told_settled : SettledIn (client_told o.slot (key_in o) (redirect_event o) (stop_at o.slot s))
  unfolding client_told forgotten stop_at stop_server
  told_settled = record {
    phase = fits_test s f 19;
    servers = kept_forgotten (stop_at o.slot s) o.slot stopped_settled.servers i (key_in o);
  }

  -- phase and servers are in range
  pub cut_settled : SettledIn (redirected o (stop_at o.slot s))
  cut_settled = redirected_both o (stop_at o.slot s) SettledIn stopped_settled told_settled

  told_long : length (client_told o.slot (key_in o) (redirect_event o) (stop_at o.slot s)).queue ≡ length s.queue + 1
  unfolding client_told stop_at stop_server push
  told_long = length_push numbers time_of _ s.queue

  stopped_long : length (stop_at o.slot s).queue ≡ length s.queue + 0
  unfolding stop_at stop_server
  stopped_long = let e : length s.queue ≡ length s.queue + 0 = omega arith in e

  -- so many events more
  cut_long : length (redirected o (stop_at o.slot s)).queue ≡ length s.queue + redirect_count o
  unfolding redirect_count
  cut_long =
      cases (refuses_client o)
      (λ r. ap (λ (u : State). length u.queue) (redirected_told o (stop_at o.slot s) r) ∙ told_long ∙ ap (λ (t : Bool). length s.queue + pick t 1 0) (sym r))
      (λ r. ap (λ (u : State). length u.queue) (redirected_none o (stop_at o.slot s) r) ∙ stopped_long ∙ ap (λ (t : Bool). length s.queue + pick t 1 0) (sym r))

  cut_rise : map can_rise (redirected o (stop_at o.slot s)).servers ≡ map can_rise s.servers
  unfolding client_told stop_at stop_server can_rise
  cut_rise =
      let stops : map can_rise (stop_at o.slot s).servers ≡ map can_rise s.servers = map_kept can_rise stopped_server (λ v. refl) o.slot s.servers in
      redirected_both o (stop_at o.slot s) (λ u. map can_rise u.servers ≡ map can_rise s.servers) stops
      (map_kept can_rise (λ v. with_pending v (remove_by pairs key_of (key_of (key_in o)) v.pending)) (λ v. refl) o.slot (stop_at o.slot s).servers ∙ stops)

  cut_flags : flags_of (redirected o (stop_at o.slot s)) ≡ set (flags_of s) o.slot false
  unfolding client_told stop_at stop_server flags_of
  cut_flags =
      let runs : Server → Bool = λ v. is_some v.status in
      let stops : map runs (stop_at o.slot s).servers ≡ set (map runs s.servers) o.slot false = map_set runs stopped_server false (λ v. refl) o.slot s.servers in
      redirected_both o (stop_at o.slot s) (λ u. map runs u.servers ≡ set (map runs s.servers) o.slot false) stops
      (map_kept runs (λ v. with_pending v (remove_by pairs key_of (key_of (key_in o)) v.pending)) (λ v. refl) o.slot (stop_at o.slot s).servers ∙ stops)

  cut_capacity : capacity_of (redirected o (stop_at o.slot s)) ≡ capacity_of s
  unfolding client_told stop_at stop_server
  cut_capacity = redirected_both o (stop_at o.slot s) (λ u. capacity_of u ≡ capacity_of s) refl refl

  cut_agrees : Agrees s (redirect_count o) o.slot false (redirected o (stop_at o.slot s))
  cut_agrees = record { capacity = cut_capacity; settled = cut_settled; queue = cut_long; rise = cut_rise; flags = cut_flags }

  -- what is owed goes on: question 10 of it, and of the redirect
  closes_fit : state_fits (cut_at o s).state ≡ (close_test (owed_in o.owed o.next) (redirect_count o) o.slot false s and state_fits (redirected o (stop_at o.slot s)))
  unfolding cut_at
  closes_fit = fits_close cut_agrees (owed_in o.owed o.next)

  stopped_fits : state_fits (stop_at o.slot s) ≡ true
  stopped_fits = fits_stop s o.slot (servers_fit_lem s f) i ∙ f

  stopped_network : network_fits (stop_at o.slot s) ≡ true
  stopped_network = network_fits_lem (stop_at o.slot s) stopped_fits

room_stopped : (o : OpenInput) (s : State) (slot : ℕ) → redirect_test o (stop_at slot s) ≡ redirect_test o s
unfolding redirect_test tell_test arrival_time queue_room stop_at stop_server
room_stopped o s slot = refl

module _ (s : State) (slot : ℕ) (input : Input) (verdict : Verdict) (owed : Owed) where
  abbrev o : OpenInput
  o = open_of (sending slot input verdict owed)

  redirect_fits : s.config.clients ≤ 64 → (f : state_fits s ≡ true) (i : slot < s.config.servers)
      → phase_fits s.config s.limits (sending slot input verdict owed) ≡ true
      → state_fits (redirected o (stop_at slot s)) ≡ (redirect_test o (stop_at slot s) and state_fits (stop_at slot s))
  unfolding stop_at stop_server
  redirect_fits few f i h =
      fits_redirect (stop_at slot s) few (sending slot input verdict owed) h (stopped_settled o s f i).servers (stopped_network o s f i)

  -- question 10 of a cut
  pub fits_cut : s.config.clients ≤ 64 → state_fits s ≡ true → slot < s.config.servers
      → phase_fits s.config s.limits (sending slot input verdict owed) ≡ true → state_fits (cut_at o s).state ≡ cut_test o s
  unfolding cut_test
  fits_cut few f i h =
      closes_fit o s f i
      ∙ ap (λ (t : Bool). close_test (owed_in o.owed o.next) (redirect_count o) slot false s and t)
      (redirect_fits few f i h ∙ ap₂ (λ (t u : Bool). t and u) (room_stopped o s slot) (stopped_fits o s f i) ∙ and_true _)
      ∙ swapped (close_test (owed_in o.owed o.next) (redirect_count o) slot false s) (redirect_test o s)

  -- the definition's
  pub cut_is : cut_at o s ≡ cut_input s slot input verdict owed
  unfolding cut_at close_at cut_input stop_at
  cut_is =
      ap₂ (λ (w : Owed) (u : State). close_input u w) (owed_back owed) (redirected_is (stop_server s slot) slot input verdict owed)

-- ---- what is asked and done

pub redirect_few : (o : OpenInput) (r : ℕ) → r ≡ redirect_count o → r ≤ 64
unfolding redirect_count
redirect_few o r e = cases (refuses_client o)
    (λ t. let z : r ≡ 1 = e ∙ ap (λ (u : Bool). pick u 1 0) t in omega arith) (λ t. let z : r ≡ 0 = e ∙ ap (λ (u : Bool). pick u 1 0) t in omega arith)

pub cut_asked : (b : List ℕ) (F : Capacity) (o : OpenInput) (w : OwedKind) (more : ℕ) (t u : Bool) → owed_of w ≡ owed_in o.owed o.next
    → more ≡ redirect_count o
    → Reads b F t (redirect_test o) → Reads b F u (close_test (owed_of w) more o.slot false) → Reads b F (t && u) (cut_test o)
unfolding cut_test
cut_asked b F o w more t u ew em qt qu = record {
  to = λ s h ef.
      code_and t u
      ∙ ap₂ (λ (x y : Bool). x and y) (qt.to s h ef) (qu.to s h ef ∙ ap₂ (λ (x : Owed) (n : ℕ). close_test x n o.slot false s) ew em);
}

pub cut_done : (b b₁ b₂ b₃ : List ℕ) (F : Capacity) (o : OpenInput) (w : OwedKind) (r : InputNumbers) → o.slot < F.servers
    → owed_of w ≡ owed_in o.owed o.next
    → Changes b b₁ F (stop_at o.slot) → Changes b₁ b₂ F (redirected o) → Opens b₂ b₃ F r (close_at (owed_of w)) → Opens b b₃ F r (cut_at o)
unfolding cut_at
cut_done b b₁ b₂ b₃ F o w r i ew p q c =
    opens_after (λ s. redirected o (stop_at o.slot s)) (close_at (owed_of w)) (cut_at o) both c
    (λ s h ef t. (
      ap (λ (x : Owed). close_at x (redirected o (stop_at o.slot s))) ew,
      before_close (redirected o (stop_at o.slot s)) (owed_in o.owed o.next) (cut_settled o s (area_fits h) (below h ef)) t,
    ))
  where
    below : {b : List ℕ} {s : State} → Area b s → F ≡ capacity_of s → o.slot < s.config.servers
    below {b} {s} h ef = subst (λ (G : Capacity). o.slot < G.servers) ef i

    both : Changes b b₂ F (λ s. redirected o (stop_at o.slot s))
    both = record {
      to = λ s l h t. q.to (stop_at o.slot s) l (p.to s l h (stopped_fits o s (area_fits h.area) (below h.area h.capacity))) t;
    }
