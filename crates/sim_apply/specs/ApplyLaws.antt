-- What the proofs of the act and of the call cite, and question 10 of a payload applied. Assumes nothing.
use Rattle.std.specs.Prelude.{◌≡◌, false, List, ℕ, zero, suc, ◌+◌, ◌*◌, ◌≤◌, ◌<◌, leb, eqb, length, set, Option, None, Some}
use Rattle.std.proofs.Math.Path.{refl, sym, ap, ap₂, subst}
use Rattle.std.proofs.Common.{◌∙◌, le-leb, eqb-true, eq-eqb}
use Rattle.std.proofs.Math.Bool.{Bool, true}
use native.Mathlib.Omega.{arith}
use Rattle.std.specs.Prelude.{not, Ok, Err}
use Rattle.std.proofs.lemmas.Bool.{not-true, not-false}
use Rattle.laws.specs.Bools.{pick, cases, ◌and◌, allb, and_true, no_and}
use Rattle.laws.proofs.BoolLaws.{allb_in, true_and, and_no}
use Rattle.laws.specs.Decides.{false_true}
use Rattle.laws.specs.Lists.{is_some}
use Rattle.laws.specs.Order.{pairs, lookup}
use Rattle.units.specs.Types.{Payload, noop, command, payload_of}
use Rattle.units.specs.declared.LogIndex.{LogIndex}
use Rattle.units.specs.declared.SimTime.{SimTime}
use Rattle.client.specs.Key.{key_of}
use Rattle.client.specs.declared.ClientKey.{ClientKey}
use Rattle.units.specs.declared.refusal.Refusal.{Refusal}
use Rattle.checks.specs.AskedLaws.{picked_ok, picked_err}
use Rattle.checks_on_apply.specs.declared.ApplyAsked.{ApplyAsked}
use Rattle.model.specs.State.{State, Server, server_at, id_of, Phase, closed, writing, sending, accepted, not_leader}
use Rattle.model.specs.Fields.{with_next_apply}
use Rattle.model.specs.Simulation.{apply, reply_for, reply_to}
use Rattle.model.specs.Calls.{done, output, ask, is_payload, output_apply}
use Rattle.model.specs.Fits.{state_fits, server_fits, server_tests, checker_fits}
use Rattle.state.specs.declared.Capacity.{Capacity}
use Rattle.state.specs.declared.Gate.{Gate}
use Rattle.state.specs.declared.Run.{Run}
use Rattle.state.specs.declared.ServerState.{ServerState}
use Rattle.state.specs.Parts.{phase_slot}
use Rattle.state.specs.Server.{state_of_server}
use Rattle.state.specs.Area.{Area, capacity_of, run_of}
use Rattle.state.specs.Fitting.{area_fits, laid_limits}
use Rattle.state.specs.FitsBy.{fits_test}
use Rattle.state.specs.Lens.{ServersFit, servers_fit_lem, server_fine, server_after, fits_on_server, servers_kept}
use Rattle.state.specs.Call.{call}
use Rattle.state.specs.Changes.{AreaOf, Gated, Changes, Reads, Planned, judged}
use Rattle.state.specs.Exits.{call_refused, call_done}
use Rattle.answers.specs.declared.DoneAnswer.{DoneAnswer}
use Rattle.answers.specs.Answers.{done_no, done_yes}
use Rattle.state_server.specs.Servers.{server_state_at, server_state_set, pending_has}
use Rattle.state_server.specs.ServerLaws.{server_state_set_lem}
use Rattle.state_checks.specs.Acts.{ChangesWhere, ApplyFlags, apply_checked}
use Rattle.state_checks.specs.FitLaws.{fits_checks}
use Rattle.state_asks.specs.Asks.{Asks, ApplyTold, after_apply, next_apply_of}
use Rattle.sim_outputs.specs.Laws.{refused_two, done_two}
use Rattle.state_queue.specs.Events.{queue_room}
use Rattle.sim_replies.specs.Replies.{arrival_time, network_fits, tell_test}
use Rattle.sim_replies.specs.Laws.{network_fits_lem}
use Rattle.sim_apply.specs.declared.Asked.{Asked}
use Rattle.sim_apply.specs.Applies.{is_payload_of, apply_code, AsksApply, key_for, key_given, reply_due, reply_test, replied, next_apply_put, next_apply_set, checked_at, applied, apply_ten, AppliesAt}
use Rattle.sim_apply.specs.ReplyLaws.{fits_reply, before_reply}
use Rattle.state_header.specs.Header.{open_slot}

-- ---- the next index to apply

pub next_written : (b b' : List ℕ) (F : Capacity) (k n : ℕ) (x y : ServerState) → Reads b F x (server_state_at k) → y ≡ next_apply_put x n → Changes b b' F (server_state_set k y)
    → Changes b b' F (next_apply_set k n)
unfolding server_state_at next_apply_set
next_written b b' F k n x y q e p = record {
  to = λ s r h fit.
      let ey : y ≡ state_of_server (with_next_apply (server_at s k) n) = e ∙ ap (λ (z : ServerState). next_apply_put z n) (q.to s h.area h.capacity) in
      let es : server_state_set k y s ≡ next_apply_set k n s = ap (λ (z : ServerState). server_state_set k z s) ey ∙ server_state_set_lem s k (λ v. with_next_apply v n) refl refl in
      subst (λ (u : State). AreaOf b' r F u) es (p.to s r h (ap state_fits es ∙ fit));
}

module _ (s : State) (k n : ℕ) (h : ServersFit s) (i : k < s.config.servers) (low : 1 ≤ n) (most : n ≤ s.limits.log_indexes + 1) where
  in_next : server_fits s.config s.limits (with_next_apply (server_at s k) n) ≡ true
  in_next =
      let v : Server = server_at s k in
      let fine = server_fine s k h i in
      let test = allb_in (server_tests s.config s.limits v) fine in
      ap₂ (λ (x y : Bool). allb (set (set (server_tests s.config s.limits v) 5 x) 6 y))
      (le-leb 1 n low ∙ sym (test 5)) (le-leb n (s.limits.log_indexes + 1) most ∙ sym (test 6)) ∙ fine

  fits_next : state_fits (next_apply_set k n s) ≡ state_fits s
  unfolding next_apply_set
  fits_next = fits_on_server s k h i (λ v. with_next_apply v n) ∙ ap (λ (t : Bool). t and state_fits s) in_next ∙ true_and (state_fits s)

  kept_next : ServersFit (next_apply_set k n s)
  unfolding next_apply_set
  kept_next = servers_kept s k h i (λ v. with_next_apply v n) in_next

-- ---- the payload checked

pub check_acts : (b b' : List ℕ) (F : Capacity) (k : ℕ) (index : LogIndex) (x : Payload) (r : ApplyAsked) (w : Run) (expected : ℕ) → Asks b F (ApplyTold k index x r) → Reads b F w run_of
    → Reads b F expected (next_apply_of k) → ChangesWhere b b' F (ApplyFlags r w.now (record { 0 = k + 1 }) index x expected) (apply_checked w.now (record { 0 = k + 1 }) index x expected)
    → Changes b b' F (checked_at k index x)
unfolding next_apply_of ApplyFlags apply_checked checked_at after_apply
check_acts b b' F k index x r w expected a pw pe c = record {
  to = λ s l h fit.
      let told = a.to s h.area h.capacity in
      let now : w.now ≡ s.now = ap (λ (y : Run). y.now) (pw.to s h.area h.capacity) in
      let due : expected ≡ (server_at s k).next_apply = pe.to s h.area h.capacity in
      let is : apply_checked w.now (id_of k) index x expected s ≡ checked_at k index x s = ap₂ (λ (t : SimTime) (m : ℕ). apply_checked t (id_of k) index x m s) now due in
      let flags : ApplyFlags r w.now (id_of k) index x expected s = subst (λ (t : SimTime). ApplyFlags r t (id_of k) index x expected s) (sym now) (subst (λ (m : ℕ). ApplyFlags r s.now (id_of k) index x m s) (sym due) told.does) in
      subst (λ (u : State). AreaOf b' l F u) is (c.to s l h flags (ap state_fits is ∙ fit));
}

module _ (s : State) (k : ℕ) (index : LogIndex) (x : Payload) where
  fits_checked : checker_fits s.config s.limits s.checker ≡ true → state_fits (checked_at k index x s) ≡ (checker_fits s.config s.limits (after_apply k index x s) and state_fits s)
  unfolding checked_at
  fits_checked h = fits_checks s (after_apply k index x s) h

  servers_checked : ServersFit s → ServersFit (checked_at k index x s)
  unfolding checked_at
  servers_checked h = h

  below_checked : k < s.config.servers → k < (checked_at k index x s).config.servers
  unfolding checked_at
  below_checked i = i

-- ---- the three steps

reply_for_lem : (s : State) (k : ℕ) (index : LogIndex) (x : Payload) → reply_for s k index x ≡ reply_to s k index (key_for x)
reply_for_lem s k index noop = refl
reply_for_lem s k index (command bytes) = refl

module _ (s : State) (k index kind : ℕ) (bytes : List ℕ) where
  abbrev first : State
  first = checked_at k (record { 0 = index }) (payload_of kind bytes) s

  abbrev second : State
  second = next_apply_set k (index + 1) first

  applied_is : applied k index kind bytes s ≡ replied k (key_given kind bytes) (record { 0 = index }) second
  unfolding applied apply checked_at after_apply next_apply_set replied key_given
  applied_is = reply_for_lem second k (record { 0 = index }) (payload_of kind bytes)

  same_tell : tell_test second ≡ tell_test s
  unfolding tell_test arrival_time queue_room checked_at next_apply_set
  same_tell = refl

  same_network : network_fits second ≡ network_fits s
  unfolding network_fits checked_at next_apply_set
  same_network = refl

  same_limit : second.limits.log_indexes ≡ s.limits.log_indexes
  unfolding checked_at next_apply_set
  same_limit = refl

  first_limit : first.limits.log_indexes ≡ s.limits.log_indexes
  unfolding checked_at
  first_limit = refl

  below_second : k < s.config.servers → k < second.config.servers
  unfolding checked_at next_apply_set
  below_second i = i

  same_pending : k < length s.servers → (key : ClientKey) → pending_has k key second ≡ pending_has k key s
  unfolding pending_has checked_at next_apply_set
  same_pending j key =
      ap (λ (v : Server). is_some (lookup pairs key_of (key_of key) v.pending)) (server_after first k (λ v. with_next_apply v (index + 1)) j)

  same_test : k < length s.servers → (key : Option ClientKey) → reply_test k key second ≡ reply_test k key s
  unfolding reply_test reply_due
  same_test j None = refl
  same_test j (Some key) = ap₂ (λ (t u : Bool). pick t u true) (same_pending j key) same_tell

  module _ (h : ServersFit s) (i : k < s.config.servers) (n : network_fits s ≡ true) (l : index ≤ s.limits.log_indexes) where
    servers_first : ServersFit first
    servers_first = servers_checked s k (record { 0 = index }) (payload_of kind bytes) h

    below_first : k < first.config.servers
    below_first = below_checked s k (record { 0 = index }) (payload_of kind bytes) i

    low : 1 ≤ index + 1
    low = omega arith

    most : index + 1 ≤ first.limits.log_indexes + 1
    most = omega (arith, first_limit)

    servers_second : ServersFit second
    servers_second = kept_next first k (index + 1) servers_first below_first low most

    -- where the state after fits, so do those on the way
    fits_second : state_fits (applied k index kind bytes s) ≡ true → state_fits second ≡ true
    fits_second t = before_reply second k (record { 0 = index }) servers_second (below_second i) (same_network ∙ n) (key_given kind bytes) (ap state_fits (sym applied_is) ∙ t)

    fits_first : state_fits (applied k index kind bytes s) ≡ true → state_fits first ≡ true
    fits_first t = sym (fits_next first k (index + 1) servers_first below_first low most) ∙ fits_second t

    -- question 10: the checks, and the reply
    pub fits_applied : checker_fits s.config s.limits s.checker ≡ true → s.limits.log_indexes ≤ 1024
        → state_fits (applied k index kind bytes s)
        ≡ (reply_test k (key_given kind bytes) s and (checker_fits s.config s.limits (after_apply k (record { 0 = index }) (payload_of kind bytes) s) and state_fits s))
    fits_applied c few =
        ap state_fits applied_is
        ∙ fits_reply second k (record { 0 = index }) servers_second (below_second i) (same_network ∙ n) (key_given kind bytes)
        (subst (λ (m : ℕ). index ≤ m) (sym same_limit) l) (subst (λ (m : ℕ). m ≤ 1024) (sym same_limit) few)
        ∙ ap₂ (λ (t u : Bool). t and u) (same_test (subst (λ (m : ℕ). k < m) (sym h.count) i) (key_given kind bytes))
        (fits_next first k (index + 1) servers_first below_first low most ∙ fits_checked s k (record { 0 = index }) (payload_of kind bytes) c)

pub apply_acts_lem : (b b₁ b₂ b₃ : List ℕ) (F : Capacity) (k index kind : ℕ) (bytes : List ℕ) (key : Option ClientKey) → k < F.servers → index ≤ F.limits.log_indexes → key ≡ key_given kind bytes
    → Changes b b₁ F (checked_at k (record { 0 = index }) (payload_of kind bytes)) → Changes b₁ b₂ F (next_apply_set k (index + 1)) → Changes b₂ b₃ F (replied k key (record { 0 = index }))
    → Changes b b₃ F (applied k index kind bytes)
apply_acts_lem b b₁ b₂ b₃ F k index kind bytes key i m ek p q r = record {
  to = λ s l h fit.
      let f : state_fits s ≡ true = area_fits h.area in
      let j : k < s.config.servers = subst (λ (G : Capacity). k < G.servers) h.capacity i in
      let o : index ≤ s.limits.log_indexes = subst (λ (G : Capacity). index ≤ G.limits.log_indexes) h.capacity m in
      let vs : ServersFit s = servers_fit_lem s f in
      let s₁ : State = checked_at k (record { 0 = index }) (payload_of kind bytes) s in
      let s₂ : State = next_apply_set k (index + 1) s₁ in
      let h₁ : AreaOf b₁ l F s₁ = p.to s l h (fits_first s k index kind bytes vs j (network_fits_lem s f) o fit) in
      let h₂ : AreaOf b₂ l F s₂ = q.to s₁ l h₁ (fits_second s k index kind bytes vs j (network_fits_lem s f) o fit) in
      let is : replied k key (record { 0 = index }) s₂ ≡ applied k index kind bytes s = ap (λ (x : Option ClientKey). replied k x (record { 0 = index }) s₂) ek ∙ sym (applied_is s k index kind bytes) in
      subst (λ (u : State). AreaOf b₃ l F u) is (r.to s₂ l h₂ (ap state_fits is ∙ fit));
}

-- ---- question 10 asked, and the act

-- whether what the checks remember of a payload applied fits
abbrev fits : (k index kind : ℕ) (bytes : List ℕ) → State → Bool
fits k index kind bytes s = checker_fits s.config s.limits (after_apply k (record { 0 = index }) (payload_of kind bytes) s)

-- what was read about the reply, of the payload's key
room_is : {b : List ℕ} {F : Capacity} (k kind : ℕ) (bytes : List ℕ) {key : Option ClientKey} {room : Bool} → key ≡ key_given kind bytes
    → Reads b F room (reply_test k key) → (s : State) → Area b s → F ≡ capacity_of s → reply_test k (key_given kind bytes) s ≡ room
room_is k kind bytes ek pr s h ef = sym (pr.to s h ef ∙ ap (λ (x : Option ClientKey). reply_test k x s) ek)

module _ {b : List ℕ} {F : Capacity} (k index kind : ℕ) (bytes : List ℕ) (i : k < F.servers) (m : index ≤ F.limits.log_indexes) where
  ten_read : (t : Bool) → ((s : State) → Area b s → F ≡ capacity_of s → (reply_test k (key_given kind bytes) s and fits k index kind bytes s) ≡ t)
      → Reads b F (pick t 0 10) (apply_ten k index kind bytes)
  unfolding apply_ten
  ten_read t e = record {
    to = λ s h ef.
        let f : state_fits s ≡ true = area_fits h in
        let j : k < s.config.servers = subst (λ (G : Capacity). k < G.servers) ef i in
        let o : index ≤ s.limits.log_indexes = subst (λ (G : Capacity). index ≤ G.limits.log_indexes) ef m in
        ap (λ (u : Bool). pick u 0 10)
        (sym (e s h ef) ∙ ap (λ (u : Bool). reply_test k (key_given kind bytes) s and u) (sym (ap (λ (u : Bool). fits k index kind bytes s and u) f ∙ and_true (fits k index kind bytes s)))
        ∙ sym (fits_applied s k index kind bytes (servers_fit_lem s f) j (network_fits_lem s f) o (fits_test s f 13) (laid_limits h.laid).log_indexes));
  }

module _ {b : List ℕ} {F : Capacity} {k index kind : ℕ} {bytes : List ℕ} {r : ApplyAsked} (i : k < F.servers) (m : index ≤ F.limits.log_indexes)
    (a : Asks b F (ApplyTold k (record { 0 = index }) (payload_of kind bytes) r)) where
  pub at_refused : (refusal : Refusal) → r.room ≡ Err refusal → AppliesAt b b F k index kind bytes 10
  at_refused refusal e = record {
    code = ten_read k index kind bytes i m false (λ s h ef. and_no (reply_test k (key_given kind bytes) s) _ (picked_err _ _ refusal (sym e ∙ (a.to s h ef).room)));
    changes = λ z. absurd (omega arith);
    kept = λ o. refl;
  }

  module _ {key : Option ClientKey} {room : Bool} (ek : key ≡ key_given kind bytes) (pr : Reads b F room (reply_test k key)) where
    pub at_full : not room ≡ true → AppliesAt b b F k index kind bytes 10
    at_full t = record {
      code = ten_read k index kind bytes i m false (λ s h ef. no_and _ (fits k index kind bytes s) (room_is k kind bytes ek pr s h ef ∙ not-true room t));
      changes = λ z. absurd (omega arith);
      kept = λ o. refl;
    }

    pub at_done : (b' : List ℕ) → r.room ≡ Ok tt → not room ≡ false → Changes b b' F (applied k index kind bytes)
        → AppliesAt b b' F k index kind bytes 0
    at_done b' e t p = record {
      code = ten_read k index kind bytes i m true (λ s h ef. ap₂ (λ (x y : Bool). x and y) (room_is k kind bytes ek pr s h ef ∙ not-false room t) (picked_ok _ _ tt (sym e ∙ (a.to s h ef).room)).0 ∙ true_and true);
      changes = λ z. p;
      kept = λ o. absurd (omega arith);
    }

-- ---- the call

-- the ranges that the act asks for
module _ (b : List ℕ) (F : Capacity) (index kind size : ℕ) (a : Asked) (q : AsksApply b F index kind size a) where
  pub slot_asked : a.slot < F.servers
  slot_asked = q.below

  module _ (z : a.code ≤ 0) where
    pub index_asked : index ≤ F.limits.log_indexes
    index_asked = q.within (let e : a.code ≡ 0 = omega arith in e)

    pub payload_asked : (kind ≤ 1) × (size ≤ 256 * kind) × (size ≤ F.limits.payload)
    payload_asked = let e : a.code ≡ 0 = omega arith in (q.kind_most e, q.noop_most e, q.size_most e)

module _ (b : List ℕ) (F : Capacity) (index kind : ℕ) (bytes : List ℕ) (a : Asked) (q : AsksApply b F index kind (length bytes) a) where
  asked_planned : 0 < a.code → Planned b F a.code (output_apply (record { 0 = index }) kind bytes) tt (λ s. s)
  unfolding output_apply apply_code is_payload_of
  asked_planned l = record {
    code = λ s h ef. refused_two tt s.phase 8 9 (leb index s.limits.log_indexes) (is_payload s kind bytes) (λ k. apply s k (record { 0 = index }) (payload_of kind bytes)) a.code (q.code.to s h ef) l;
    gives = λ s h ef z. absurd (omega arith);
  }

  module _ (z : a.code ≤ 0) where
    gives_applied : (s : State) → Area b s → F ≡ capacity_of s → output_apply (record { 0 = index }) kind bytes s ≡ done tt (applied a.slot index kind bytes s)
    unfolding output_apply apply_code open_slot applied is_payload_of
    gives_applied s h ef =
        done_two tt s.phase 8 9 (leb index s.limits.log_indexes) (is_payload s kind bytes) (λ k. apply s k (record { 0 = index }) (payload_of kind bytes))
        (sym (q.code.to s h ef) ∙ (let e : a.code ≡ 0 = omega arith in e)) (omega arith) (omega arith)
        ∙ ap (λ (k : ℕ). done tt (apply s k (record { 0 = index }) (payload_of kind bytes))) (sym (q.slot.to s h ef))

    at_planned : (b' : List ℕ) (n : ℕ) → AppliesAt b b' F a.slot index kind bytes n → Planned b F n (output_apply (record { 0 = index }) kind bytes) tt (applied a.slot index kind bytes)
    unfolding judged apply_ten
    at_planned b' n p = record {
      code = λ s h ef. p.code.to s h ef ∙ sym (ap judged (gives_applied s h ef));
      gives = λ s h ef e. gives_applied s h ef;
    }

module _ (b : List ℕ) (g : Gate) (index kind : ℕ) (bytes : List ℕ) (a : Asked) (o : Gated b g) (y : g.refusal ≤ 0) (q : AsksApply b g.capacity index kind (length bytes) a) where
  pub apply_no : (r : DoneAnswer) → 0 < a.code → r ≡ done_no a.code → (r, b) ≡ call done_no done_yes b (output_apply (record { 0 = index }) kind bytes)
  apply_no r n e = call_refused done_no done_yes b _ g o y a.code tt (λ s. s) (asked_planned b g.capacity index kind bytes a q n) r n e

  pub apply_yes : (b' : List ℕ) (n : ℕ) (r : DoneAnswer) → a.code ≤ 0 → AppliesAt b b' g.capacity a.slot index kind bytes n → r ≡ done_no n
      → (r, b') ≡ call done_no done_yes b (output_apply (record { 0 = index }) kind bytes)
  apply_yes b' n r z p e =
      let plan = at_planned b g.capacity index kind bytes a q z b' n p in
      cases (eqb n 0)
      (λ t.
      let none : n ≡ 0 = eqb-true n 0 t in
      call_done done_no done_yes b _ g o y n tt _ plan b' r (omega (arith, none)) (p.changes none) (e ∙ ap done_no none))
      (λ t.
      let l : 0 < n = positive n (λ w. false_true (sym t ∙ eq-eqb n 0 w)) in
      subst (λ (x : List ℕ). (r, x) ≡ call done_no done_yes b (output_apply (record { 0 = index }) kind bytes)) (sym (p.kept l)) (call_refused done_no done_yes b _ g o y n tt _ plan r l e))
    where
      positive : (m : ℕ) → (m ≡ 0 → ⊥) → 0 < m
      positive zero h = absurd (h refl)
      positive (suc m) h = omega arith
