-- What the proofs of the redirect cite, and question 10 of it. Assumes nothing.
use Rattle.std.specs.Prelude.{◌≡◌, Bool, not, ◌&&◌, List, eqb, Option, None, Some}
use Rattle.std.proofs.Math.Path.{refl, sym, ap}
use Rattle.std.proofs.Common.{ap₂, subst, ◌∙◌}
use Rattle.std.proofs.Math.Bool.{true, false}
use Prim.Native.Nat.{ℕ, zero, suc, ◌+◌, ◌%◌, ◌^◌, ◌≤◌, ◌<◌}
use native.Mathlib.Omega.{arith}
use Rattle.std.proofs.Math.Dec.{ltb}
use borrow.Author.Tests.{lt-ltb, ltb-true, eqb-true, eq-eqb, ne_eqb}
use Rattle.laws.specs.Bools.{pick, cases, ◌and◌, and_left}
use Rattle.laws.proofs.BoolLaws.{and_right, and_both, true_and, code_and}
use Rattle.laws.specs.Decides.{false_true}
use Rattle.client.specs.declared.ClientKey.{ClientKey}
use Rattle.queue.specs.declared.Event.{Event}
use Rattle.queue.specs.declared.Event.TheVariants as event
use Rattle.model.specs.State.{State, Server, server_at, Input, start_input, message_input, timer_input, propose_input, confirm_input, direct, from_client, Verdict, accepted, not_leader, Owed, Phase, closed, writing, sending}
use Rattle.model.specs.Fields.{with_pending}
use Rattle.model.specs.Simulation.{redirect}
use Rattle.model.specs.Fits.{state_fits, phase_fits}
use Rattle.state.specs.declared.Capacity.{Capacity}
use Rattle.state.specs.declared.OpenInput.{OpenInput}
use Rattle.state.specs.Parts.{input_in, verdict_in, open_of, phase_slot, input_back, verdict_back}
use Rattle.state.specs.Fitting.{area_fits, laid_limits}
use Rattle.state.specs.Lens.{ServersFit, servers_fit_lem}
use Rattle.state.specs.Changes.{AreaOf, Changes, Reads}
use Rattle.state_queue.specs.Events.{queue_room}
use Rattle.sim_replies.specs.Replies.{network_fits, client_told, tell_test, refuses_client, hint_in, redirect_count, redirected, redirect_test}
use Rattle.sim_replies.specs.Laws.{network_fits_lem}
use Rattle.sim_replies.specs.TellLaws.{event_fits_in, fits_told, told_event, room_told, server_told}
use Rattle.units.specs.declared.NodeId.{NodeId}

-- ---- the numbers of an input

pub refuses_is : (o : OpenInput) → (eqb o.input 4 && ltb 0 o.verdict) ≡ refuses_client o
unfolding refuses_client
refuses_is o = code_and (eqb o.input 4) (ltb 0 o.verdict)

pub hint_none : (o : OpenInput) → o.verdict ≡ 1 → None ≡ hint_in o
unfolding hint_in
hint_none o e = sym (ap (λ (t : Bool). pick t None (Some (record { 0 = o.leader }))) (eq-eqb o.verdict 1 e))

pub hint_some : (o : OpenInput) → (o.verdict ≡ 1 → ⊥) → Some (record { 0 = o.leader }) ≡ hint_in o
unfolding hint_in
hint_some o n = sym (ap (λ (t : Bool). pick t None (Some (record { 0 = o.leader }))) (ne_eqb o.verdict 1 n))

pub count_yes : (o : OpenInput) (t : Bool) → t ≡ refuses_client o → t ≡ true → ◌≡◌ {A = ℕ} 1 (redirect_count o)
unfolding redirect_count
count_yes o t e y = sym (ap (λ (u : Bool). pick u 1 0) (sym e ∙ y))

pub count_no : (o : OpenInput) (t : Bool) → t ≡ refuses_client o → t ≡ false → ◌≡◌ {A = ℕ} 0 (redirect_count o)
unfolding redirect_count
count_no o t e n = sym (ap (λ (u : Bool). pick u 1 0) (sym e ∙ n))

module _ (b : List ℕ) (F : Capacity) (o : OpenInput) (t : Bool) (e : t ≡ refuses_client o) where
  pub room_yes : (r : Bool) → t ≡ true → Reads b F r tell_test → Reads b F r (redirect_test o)
  unfolding redirect_test
  room_yes r y q = record { to = λ s h ef. q.to s h ef ∙ sym (ap (λ (u : Bool). pick u (tell_test s) true) (sym e ∙ y)) }

  pub room_no : t ≡ false → Reads b F true (redirect_test o)
  unfolding redirect_test
  room_no n = record { to = λ s h ef. sym (ap (λ (u : Bool). pick u (tell_test s) true) (sym e ∙ n)) }

-- ---- what is done

-- The key of a client's proposal.
abbrev pub key_in : OpenInput → ClientKey
key_in o = record { client = o.client; seq = o.seq }

-- The redirect that the client gets.
abbrev pub redirect_event : OpenInput → Event
redirect_event o = event.ClientRedirect o.client o.attempt (hint_in o)

module _ (s : State) (slot c seq attempt leader : ℕ) where
  others : (kind : ℕ) (v : Verdict) → (kind ≡ 4 → ⊥) → redirect s slot (input_in kind c seq attempt) v ≡ s
  unfolding input_in
  others zero v n = refl
  others (suc zero) v n = refl
  others (suc (suc zero)) v n = refl
  others (suc (suc (suc zero))) v n = refl
  others (suc (suc (suc (suc zero)))) v n = absurd (n refl)
  others (suc (suc (suc (suc (suc k))))) v n = refl

  took : (v : ℕ) → v ≡ 0 → redirect s slot (input_in 4 c seq attempt) (verdict_in v leader) ≡ s
  unfolding input_in verdict_in
  took v e = ap (λ (n : ℕ). redirect s slot (input_in 4 c seq attempt) (verdict_in n leader)) e

  refuses : (v : ℕ) → 0 < v → redirect s slot (input_in 4 c seq attempt) (verdict_in v leader) ≡ client_told slot (record { client = c; seq = seq }) (event.ClientRedirect c attempt (pick (eqb v 1) None (Some (record { 0 = leader })))) s
  unfolding input_in verdict_in client_told
  refuses zero l = absurd (omega arith)
  refuses (suc zero) l = refl
  refuses (suc (suc v)) l = ap (λ (t : Bool). client_told slot (record { client = c; seq = seq }) (event.ClientRedirect c attempt (pick t None (Some (record { 0 = leader })))) s) (sym (ne_eqb (suc (suc v)) 1 (λ e. omega arith)))

module _ (o : OpenInput) (s : State) where
  -- of any other input there is none
  pub redirected_none : refuses_client o ≡ false → redirected o s ≡ s
  unfolding redirected refuses_client
  redirected_none n =
      cases (eqb o.input 4)
      (λ y.
      let z : o.verdict ≡ 0 = cases (ltb 0 o.verdict) (λ l. absurd (false_true (sym n ∙ and_both _ _ y l))) (λ l. zero_of o.verdict l) in
      ap (λ (k : ℕ). redirect s o.slot (input_in k o.client o.seq o.attempt) (verdict_in o.verdict o.leader)) (eqb-true o.input 4 y)
      ∙ took s o.slot o.client o.seq o.attempt o.leader o.verdict z)
      (λ y. others s o.slot o.client o.seq o.attempt o.leader o.input (verdict_in o.verdict o.leader) (λ e. false_true (sym y ∙ eq-eqb o.input 4 e)))
    where
      zero_of : (v : ℕ) → ltb 0 v ≡ false → v ≡ 0
      zero_of zero l = refl
      zero_of (suc v) l = absurd (false_true (sym l ∙ lt-ltb 0 (suc v) (omega arith)))

  -- a client's refused proposal
  pub redirected_told : refuses_client o ≡ true → redirected o s ≡ client_told o.slot (key_in o) (redirect_event o) s
  unfolding redirected refuses_client hint_in
  redirected_told y =
      ap (λ (k : ℕ). redirect s o.slot (input_in k o.client o.seq o.attempt) (verdict_in o.verdict o.leader)) (eqb-true o.input 4 (and_left _ _ y))
      ∙ refuses s o.slot o.client o.seq o.attempt o.leader o.verdict (ltb-true 0 o.verdict (and_right _ _ y))

-- the redirect by the numbers of a sealed input is the model's
pub redirected_is : (s : State) (slot : ℕ) (input : Input) (verdict : Verdict) (owed : Owed) → redirected (open_of (sending slot input verdict owed)) s ≡ redirect s slot input verdict
unfolding redirected
redirected_is s slot input verdict owed = ap₂ (λ (i : Input) (v : Verdict). redirect s slot i v) (input_back input) (verdict_back verdict)

-- ---- the act

pub redirect_none : (b : List ℕ) (F : Capacity) (o : OpenInput) (t : Bool) → t ≡ refuses_client o → not t ≡ true → Changes b b F (redirected o)
redirect_none b F o true e n = absurd (false_true n)
redirect_none b F o false e n = record { to = λ s l h fit. subst (λ (u : State). AreaOf b l F u) (sym (redirected_none o s (sym e))) h }

pub redirect_told : (b b' : List ℕ) (F : Capacity) (o : OpenInput) (t : Bool) (hint : Option NodeId) → o.slot < F.servers → t ≡ refuses_client o → not t ≡ false → hint ≡ hint_in o
    → Changes b b' F (client_told o.slot (record { client = o.client % 4294967296; seq = o.seq }) (event.ClientRedirect o.client o.attempt hint))
    → Changes b b' F (redirected o)
redirect_told b b' F o false hint i e n eh p = absurd (false_true (sym n))
redirect_told b b' F o true hint i e n eh p = record {
  to = λ s l h fit.
      let f : state_fits s ≡ true = area_fits h.area in
      let j : o.slot < s.config.servers = subst (λ (G : Capacity). o.slot < G.servers) h.capacity i in
      let is = redirected_told o s (sym e) in
      let good : event_fits_in s (redirect_event o) ≡ true = told_event s o.slot (key_in o) (redirect_event o) (servers_fit_lem s f) j (network_fits_lem s f) (ap state_fits (sym is) ∙ fit) in
      let below : o.client < s.config.clients = ltb-true _ _ (and_right _ _ good) in
      let same : o.client % 4294967296 ≡ o.client = omega (arith, (laid_limits h.area.laid).clients) in
      let k : client_told o.slot (record { client = o.client % 4294967296; seq = o.seq }) (event.ClientRedirect o.client o.attempt hint) s ≡ redirected o s =
      ap₂ (λ (c : ℕ) (x : Option NodeId). client_told o.slot (record { client = c; seq = o.seq }) (event.ClientRedirect o.client o.attempt x) s) same eh ∙ sym is in
      subst (λ (u : State). AreaOf b' l F u) k (p.to s l h (ap state_fits k ∙ fit));
}

-- ---- question 10

module _ (s : State) (few : s.config.clients ≤ 64) where
  -- the redirect of an input in range is in range
  event_range : (p : Phase) → phase_fits s.config s.limits p ≡ true → refuses_client (open_of p) ≡ true → event_fits_in s (redirect_event (open_of p)) ≡ true
  unfolding refuses_client hint_in
  event_range closed h r = absurd (false_true (and_right _ _ r))
  event_range (writing slot input owed) h r = absurd (false_true (and_right _ _ r))
  event_range (sending slot input accepted owed) h r = absurd (false_true (and_right _ _ r))
  event_range (sending slot start_input (not_leader hint) owed) h r = absurd (false_true (and_left _ _ r))
  event_range (sending slot message_input (not_leader hint) owed) h r = absurd (false_true (and_left _ _ r))
  event_range (sending slot timer_input (not_leader hint) owed) h r = absurd (false_true (and_left _ _ r))
  event_range (sending slot confirm_input (not_leader hint) owed) h r = absurd (false_true (and_left _ _ r))
  event_range (sending slot (propose_input direct) (not_leader hint) owed) h r = absurd (false_true (and_left _ _ r))
  event_range (sending slot (propose_input (from_client c seq attempt)) (not_leader None) owed) h r =
      let i = and_left _ _ (and_right _ _ h) in
      let below : c < s.config.clients = ltb-true _ _ (and_left _ _ i) in
      and_both _ _ (and_both _ _ refl (and_both _ _ (lt-ltb c (2 ^ 64) (omega arith)) (and_both _ _ (and_right _ _ (and_right _ _ i)) (and_both _ _ refl refl)))) (and_left _ _ i)
  event_range (sending slot (propose_input (from_client c seq attempt)) (not_leader (Some id)) owed) h r =
      let i = and_left _ _ (and_right _ _ h) in
      let below : c < s.config.clients = ltb-true _ _ (and_left _ _ i) in
      let named = and_left _ _ (and_right _ _ (and_right _ _ h)) in
      and_both _ _ (and_both _ _ refl (and_both _ _ (lt-ltb c (2 ^ 64) (omega arith)) (and_both _ _ (and_right _ _ (and_right _ _ i)) (and_both _ _ refl named)))) (and_left _ _ i)

  slot_in : (p : Phase) → phase_fits s.config s.limits p ≡ true → refuses_client (open_of p) ≡ true → phase_slot p < s.config.servers
  unfolding refuses_client
  slot_in closed h r = absurd (false_true (and_right _ _ r))
  slot_in (writing slot input owed) h r = ltb-true _ _ (and_left _ _ h)
  slot_in (sending slot input verdict owed) h r = ltb-true _ _ (and_left _ _ h)

  module _ (p : Phase) (h : phase_fits s.config s.limits p ≡ true) (vs : ServersFit s) (n : network_fits s ≡ true) where
    -- a redirect asks for a time of 64 bits and room, where one is due
    pub fits_redirect : state_fits (redirected (open_of p) s) ≡ (redirect_test (open_of p) s and state_fits s)
    unfolding redirect_test
    fits_redirect =
        cases (refuses_client (open_of p))
        (λ r. ap state_fits (redirected_told (open_of p) s r)
        ∙ fits_told s (phase_slot p) (key_in (open_of p)) (redirect_event (open_of p)) vs (slot_in p h r) n (event_range p h r)
        ∙ ap (λ (t : Bool). pick t (tell_test s) true and state_fits s) (sym r))
        (λ r. ap state_fits (redirected_none (open_of p) s r) ∙ sym (true_and (state_fits s)) ∙ ap (λ (t : Bool). pick t (tell_test s) true and state_fits s) (sym r))

    -- where the state after fits, the state before does
    pub before_redirect : state_fits (redirected (open_of p) s) ≡ true → state_fits s ≡ true
    before_redirect t = and_right _ _ (sym fits_redirect ∙ t)

-- ---- what a redirect leaves as it was

module _ (o : OpenInput) (s : State) where
  -- what holds of a state, and of it with the client told, holds of it with the redirect
  pub redirected_both : (P : State → Type 0) → P s → P (client_told o.slot (key_in o) (redirect_event o) s) → P (redirected o s)
  redirected_both P x y =
      cases (refuses_client o) (λ r. subst P (sym (redirected_told o s r)) y) (λ r. subst P (sym (redirected_none o s r)) x)

  -- room after a redirect
  pub room_redirected : (n : ℕ) → queue_room n (redirected o s) ≡ queue_room (redirect_count o + n) s
  unfolding redirect_count
  room_redirected n =
      cases (refuses_client o)
      (λ r. ap (queue_room n) (redirected_told o s r) ∙ room_told s o.slot (key_in o) (redirect_event o) n
      ∙ ap (λ (m : ℕ). queue_room m s) (let e : suc n ≡ 1 + n = omega arith in e) ∙ ap (λ (t : Bool). queue_room (pick t 1 0 + n) s) (sym r))
      (λ r. ap (queue_room n) (redirected_none o s r) ∙ ap (λ (m : ℕ). queue_room m s) (let e : n ≡ 0 + n = omega arith in e) ∙ ap (λ (t : Bool). queue_room (pick t 1 0 + n) s) (sym r))

  -- what is read of a server, but for its pending keys
  pub server_redirected : {B : Type 0} (g : Server → B) → ((v : Server) (ks : List ClientKey) → g (with_pending v ks) ≡ g v) → (k : ℕ) → g (server_at (redirected o s) k) ≡ g (server_at s k)
  server_redirected g same k =
      redirected_both (λ (u : State). g (server_at u k) ≡ g (server_at s k)) refl (server_told s o.slot (key_in o) (redirect_event o) g same k)
