-- What the proofs of closes.rt cite. Assumes nothing.
use Rattle.std.specs.Prelude.{◌≡◌, refl, true, false, not, max, eqb, get_or, Option}
use Rattle.std.proofs.Math.Path.{sym, ap, ap₂, subst}
use Rattle.std.proofs.Common.{◌∙◌, add-one, arith, length-set, get_or-set_same, get_or-set_other, lt-ltb, le-ltb, eq-eqb, ne_eqb, eqb-true}
use Rattle.std.proofs.Math.Bool.{Bool}
use mathlib.Core.List.{List, map}
use Prim.Native.Nat.{ℕ, suc, ◌+◌, ◌-◌, ◌≤◌, ◌<◌}
use Rattle.std.proofs.Math.ListN.{length, set}
use Rattle.std.proofs.lemmas.List.{length-map}
use Rattle.laws.specs.Bools.{pick, cases}
use Rattle.laws.specs.Decides.{false_true}
use Rattle.laws.specs.Lists.{is_some}
use Rattle.metrics.specs.Laws.{modify_set}
use Rattle.protocol.specs.declared.Status.{Status}
use Rattle.model.specs.State.{State, Server, new_server, construction, healing, closed, server_at}
use Rattle.model.specs.Fields.{with_phase}
use Rattle.model.specs.Simulation.{no_input, running, idle, start_server, first_sends, construct_from, heal_from}
use Rattle.model.specs.Fits.{state_fits}
use Rattle.state.specs.declared.Capacity.{Capacity}
use Rattle.state.specs.declared.ServerState.{ServerState}
use Rattle.state.specs.Area.{Area, capacity_of}
use Rattle.state.specs.Fitting.{area_fits}
use Rattle.state.specs.FitsBy.{server_count}
use Rattle.state.specs.Changes.{Inside, AreaOf, Changes, Reads}
use Rattle.state.specs.Exits.{inside_after}
use Rattle.state_header.specs.Header.{phase_set, SetsPhase}
use Rattle.state_server.specs.Servers.{server_state_at, status_at, server_state_set, status_runs}
use Rattle.state_server.specs.ServerLaws.{server_state_set_lem}
use Rattle.state_server.specs.Laws.{status_runs_lem}
use Rattle.state_queue.specs.Events.{queue_room, first_sent}
use Rattle.answers.specs.declared.InputNumbers.{InputNumbers}
use Rattle.answers.specs.Answers.{input_of, no_input_numbers}
use Rattle.sim_owed.specs.declared.Owed.{Owed as OwedKind}
use Rattle.sim_owed.specs.declared.Owed.TheVariants.{Nothing, Construction, Healing}
use Rattle.sim_owed.specs.Servers.{owed_of, Opens, start_at, restart_test, restart_at}
use Rattle.sim_owed.specs.Closes.{idle_at, construct_at, construct_test, runs_at, runs_as, flags_of, first_stopped, stopped_from, Seeking, Sought, stopped_test, heal_test, heal_at, uncrashed_state, uncrashed_at, HealsOne, HealedTo, close_at, close_test}
use Rattle.sim_owed.specs.Fits.{running_is, uncrashed_server, fits_idle, fits_uncrashed, settled_fits, heal_runs, heal_stopped, construct_last, construct_next}
use Rattle.sim_owed.specs.ServerLaws.{opens_after, opens_is}

-- the number of servers of a state that lies there
count_is : {b : List ℕ} {F : Capacity} {s : State} → Area b s → F ≡ capacity_of s → length s.servers ≡ F.servers
count_is {b} {F} {s} h ef = server_count s (area_fits h) ∙ sym (ap (λ (G : Capacity). G.servers) ef)

yes : (t : Bool) → not t ≡ false → t ≡ true
yes true e = refl
yes false e = absurd (false_true (sym e))

no : (t : Bool) → not t ≡ true → t ≡ false
no true e = absurd (false_true e)
no false e = refl

-- ---- nothing is owed

pub phase_closed : (b b' : List ℕ) (F : Capacity) (r : InputNumbers)
    → SetsPhase b b' F (record { phase = 0; slot = 0; input = 0; client = 0; seq = 0; attempt = 0; verdict = 0; leader = 0; owed = 0; next = 0 })
    → r ≡ no_input_numbers → Opens b b' F r idle_at
unfolding idle_at phase_set
phase_closed b b' F r p e = record { changes = p.to closed refl; input = λ s h ef t. e }

-- ---- the construction

pub construct_early : (b : List ℕ) (F : Capacity) (place more : ℕ) → place < F.servers → Reads b F true (construct_test place more)
unfolding construct_test
construct_early b F place more i = record {
  to = λ s h ef.
      let j : place < s.config.servers = subst (λ (G : Capacity). place < G.servers) ef i in
      sym (ap (λ (t : Bool). pick t true (queue_room (more + s.config.clients) s)) (lt-ltb place s.config.servers j));
}

pub construct_late : (b : List ℕ) (F : Capacity) (place more : ℕ) (r : Bool) → F.servers ≤ place
    → Reads b F r (queue_room (more + F.clients)) → Reads b F r (construct_test place more)
unfolding construct_test
construct_late b F place more r i q = record {
  to = λ s h ef.
      let j : s.config.servers ≤ place = subst (λ (G : Capacity). G.servers ≤ place) ef i in
      q.to s h ef ∙ ap (λ (G : Capacity). queue_room (more + G.clients) s) ef
      ∙ sym (ap (λ (t : Bool). pick t true (queue_room (more + s.config.clients) s)) (le-ltb place s.config.servers j));
}

pub construct_goes : (b b' : List ℕ) (F : Capacity) (place : ℕ) (r : InputNumbers) → place < F.servers
    → Opens b b' F r (start_at place (owed_of (Construction (place + 1)))) → Opens b b' F r (construct_at place)
unfolding owed_of
construct_goes b b' F place r i q =
    opens_is (start_at place (construction (place + 1))) (construct_at place) q
    (λ s h ef. ap (λ (n : ℕ). start_at place (construction n) s) (add-one place) ∙ sym (construct_next place s (omega (arith, count_is h ef))))

-- after the last server no input opens
construct_opens : (place : ℕ) (s : State) → length s.servers ≤ place → (construct_at place s).opening ≡ no_input
unfolding construct_at construct_from
construct_opens place s l =
    ap (λ (u : Bool). (pick u (start_server s place (construction (suc place))) (idle (first_sends s 0 (length s.clients)))).opening) (le-ltb place (length s.servers) l)

pub construct_ends : (b b₁ b₂ : List ℕ) (F : Capacity) (place : ℕ) (r : InputNumbers) → F.servers ≤ place → Opens b b₁ F r idle_at
    → Changes b₁ b₂ F first_sent → Opens b b₂ F r (construct_at place)
unfolding idle_at
construct_ends b b₁ b₂ F place r i q p = record {
  changes = record {
    to = λ s rest h t.
        let e : (construct_at place s).state ≡ first_sent (with_phase s closed) = construct_last place s (omega (arith, count_is h.area h.capacity)) in
        subst (AreaOf b₂ rest F) (sym e) (p.to (with_phase s closed) rest (q.changes.to s rest h (idle_fits h.area)) (ap state_fits (sym e) ∙ t));
  };
  input = λ s h ef t. q.input s h ef (idle_fits h) ∙ sym (ap input_of (construct_opens place s (omega (arith, count_is h ef))));
}
  where
    idle_fits : {s : State} → Area b s → state_fits (idle_at s).state ≡ true
    idle_fits {s} h = fits_idle s (settled_fits s (area_fits h)) ∙ area_fits h

-- ---- which server is stopped

pub runs_told : (b : List ℕ) (F : Capacity) (place slot : ℕ) (running : Bool) → place ≡ slot → Reads b F running (runs_as place slot running)
unfolding runs_as
runs_told b F place slot r e = record { to = λ s h ef. sym (ap (λ (t : Bool). pick t r (running s place)) (eq-eqb place slot e)) }

pub runs_read : (b : List ℕ) (F : Capacity) (place slot : ℕ) (running : Bool) (x : Option Status) (r : Bool) → (place ≡ slot → ⊥)
    → Reads b F x (status_at place) → r ≡ status_runs x
    → Reads b F r (runs_as place slot running)
unfolding runs_as status_at
runs_read b F place slot told x r n q e = record {
  to = λ s h ef.
      e ∙ ap status_runs (q.to s h ef) ∙ status_runs_lem (server_at s place).status
      ∙ sym (ap (λ (t : Bool). pick t told (running s place)) (ne_eqb place slot n));
}

flags_long : (s : State) (place : ℕ) → place < length s.servers → place < length (flags_of s)
unfolding flags_of
flags_long s place l =
    let n : length (map (λ (v : Server). is_some v.status) s.servers) ≡ length s.servers = length-map s.servers (λ (v : Server). is_some v.status) in omega arith

-- the flag at a place, with the one at `slot` as told
flag_as : (s : State) (place slot : ℕ) (runs : Bool) → place < length s.servers
    → get_or (set (flags_of s) slot runs) place false ≡ runs_as place slot runs s
unfolding runs_as
flag_as s place slot runs l =
    cases (eqb place slot)
    (λ e.
    let same : place ≡ slot = eqb-true place slot e in
    ap (λ (k : ℕ). get_or (set (flags_of s) k runs) place false) (sym same)
    ∙ get_or-set_same (flags_of s) place runs false (flags_long s place l) ∙ sym (ap (λ (t : Bool). pick t runs (running s place)) e))
    (λ e.
    get_or-set_other (flags_of s) slot place runs false (λ q. false_true (sym e ∙ eq-eqb place slot q))
    ∙ running_is s place ∙ sym (ap (λ (t : Bool). pick t runs (running s place)) e))

module _ (b : List ℕ) (F : Capacity) (place slot : ℕ) (running : Bool) where
  pub seeking_start : Seeking b F place slot running place
  seeking_start = record { same = λ s h ef. refl }

  module _ (k : ℕ) (p : Seeking b F place slot running k) where
    module _ (r : Bool) (i : k < F.servers) (q : Reads b F r (runs_as k slot running)) where
      -- what is found at k
      here : (s : State) → Area b s → F ≡ capacity_of s
          → stopped_from k slot running s ≡ pick r (stopped_from (k + 1) slot running s) k
      unfolding stopped_from first_stopped
      here s h ef =
          let l : k < length s.servers = omega (arith, count_is h ef) in
          let n : s.config.servers - k ≡ suc (s.config.servers - (k + 1)) = omega (arith, count_is h ef, server_count s (area_fits h)) in
          let fl : List Bool = set (flags_of s) slot running in
          ap (λ (m : ℕ). first_stopped fl k m) n
          ∙ ap₂ (λ (t : Bool) (j : ℕ). pick t (first_stopped fl j (s.config.servers - (k + 1))) k) (flag_as s k slot running l ∙ sym (q.to s h ef)) (sym (add-one k))

      pub seeking_turn : not r ≡ false → Seeking b F place slot running (k + 1)
      seeking_turn t = record {
        same = λ s h ef. p.same s h ef ∙ here s h ef ∙ ap (λ (u : Bool). pick u (stopped_from (k + 1) slot running s) k) (yes r t);
      }

      pub seeking_found : not r ≡ true → Reads b F k (stopped_from place slot running)
      seeking_found t = record {
        to = λ s h ef. sym (p.same s h ef ∙ here s h ef ∙ ap (λ (u : Bool). pick u (stopped_from (k + 1) slot running s) k) (no r t));
      }

    pub seeking_none : F.servers ≤ k → Reads b F k (stopped_from place slot running)
    unfolding stopped_from first_stopped
    seeking_none l = record {
      to = λ s h ef.
          let n : s.config.servers - k ≡ 0 = omega (arith, count_is h ef, server_count s (area_fits h)) in
          sym (p.same s h ef ∙ ap (λ (m : ℕ). first_stopped (set (flags_of s) slot running) k m) n);
    }

-- the same, with the bound of the place, of which the code answers the last
module _ (b : List ℕ) (F : Capacity) (place slot : ℕ) (running : Bool) where
  pub sought_start : Sought b F place slot running place
  sought_start = record { seeking = seeking_start b F place slot running; upto = omega arith }

  module _ (k : ℕ) (p : Sought b F place slot running k) where
    module _ (r : Bool) (i : k < F.servers) (q : Reads b F r (runs_as k slot running)) where
      pub sought_turn : not r ≡ false → Sought b F place slot running (k + 1)
      sought_turn t = record { seeking = seeking_turn b F place slot running k p.seeking r i q t; upto = omega arith }

      pub sought_found : not r ≡ true → Reads b F k (stopped_from place slot running)
      sought_found t = seeking_found b F place slot running k p.seeking r i q t

    pub sought_none : (r : ℕ) → place ≤ k → F.servers ≤ k → r ≡ max place F.servers → Reads b F r (stopped_from place slot running)
    sought_none r from l e =
        let last : k ≡ r = omega (arith, p.upto) in
        subst (λ (n : ℕ). Reads b F n (stopped_from place slot running)) last (seeking_none b F place slot running k p.seeking l)

module _ (b : List ℕ) (F : Capacity) (place slot : ℕ) (running : Bool) (k : ℕ) (q : Reads b F k (stopped_from place slot running)) where
  pub heal_some : (r : Bool) → k < F.servers → Reads b F r (restart_test k) → Reads b F r (heal_test place slot running)
  unfolding heal_test stopped_test
  heal_some r i p = record {
    to = λ s h ef.
        let j : k < s.config.servers = subst (λ (G : Capacity). k < G.servers) ef i in
        p.to s h ef ∙ sym (ap (λ (t : Bool). pick t (restart_test k s) true) (lt-ltb k s.config.servers j))
        ∙ ap (λ (n : ℕ). stopped_test n s) (q.to s h ef);
  }

  pub heal_all_lem : F.servers ≤ k → Reads b F true (heal_test place slot running)
  unfolding heal_test stopped_test
  heal_all_lem i = record {
    to = λ s h ef.
        let j : s.config.servers ≤ k = subst (λ (G : Capacity). G.servers ≤ k) ef i in
        sym (ap (λ (t : Bool). pick t (restart_test k s) true) (le-ltb k s.config.servers j))
        ∙ ap (λ (n : ℕ). stopped_test n s) (q.to s h ef);
  }

-- ---- a HealAll

pub one_healed : (b b' : List ℕ) (F : Capacity) (k : ℕ) (x y : ServerState) (r : Bool) → Reads b F x (server_state_at k)
    → y ≡ uncrashed_state x
    → Changes b b' F (server_state_set k y) → r ≡ status_runs x.status → HealsOne b b' F k r
unfolding server_state_at uncrashed_state uncrashed_at runs_at
one_healed b b' F k x y r q e p er = record {
  changes = record {
    to = λ s rest h t.
        let es : server_state_set k y s ≡ uncrashed_at k s =
        ap (λ (z : ServerState). server_state_set k z s) (e ∙ ap uncrashed_state (q.to s h.area h.capacity))
        ∙ server_state_set_lem s k uncrashed_server refl refl in
        subst (AreaOf b' rest F) es (p.to s rest h (ap state_fits es ∙ t));
  };
  runs =
      record { to = λ s h ef. er ∙ ap (λ (z : ServerState). status_runs z.status) (q.to s h ef) ∙ status_runs_lem (server_at s k).status };
}

pub healing_start : (b : List ℕ) (F : Capacity) (place : ℕ) → Inside b F → HealedTo b F place b place
healing_start b F place i = record { inside = i; long = refl; whole = λ b₂ r q. q }

-- the servers that are left from k on
left_from : (s : State) (k : ℕ) → k < length s.servers → heal_at k s ≡ heal_from s k (suc (length s.servers - (k + 1)))
unfolding heal_at
left_from s k l = ap (heal_from s k) (let n : length s.servers - k ≡ suc (length s.servers - (k + 1)) = omega arith in n)

long_uncrashed : (s : State) (k : ℕ) → length (uncrashed_at k s).servers ≡ length s.servers
unfolding uncrashed_at
long_uncrashed s k =
    ap length (modify_set uncrashed_server (new_server 0) k s.servers) ∙ length-set s.servers k (uncrashed_server (server_at s k))

-- a server that runs
runs_on : (s : State) (k : ℕ) → k < length s.servers → running s k ≡ true → heal_at (k + 1) (uncrashed_at k s) ≡ heal_at k s
unfolding heal_at
runs_on s k l r =
    ap₂ (λ (j n : ℕ). heal_from (uncrashed_at k s) j n) (add-one k) (ap (λ (m : ℕ). m - (k + 1)) (long_uncrashed s k))
    ∙ sym (left_from s k l ∙ heal_runs s k (length s.servers - (k + 1)) r)

module _ (b : List ℕ) (F : Capacity) (place : ℕ) (b₁ : List ℕ) (k : ℕ) (p : HealedTo b F place b₁ k) where
  module _ (b₂ : List ℕ) (r : Bool) (i : k < F.servers) (q : HealsOne b₁ b₂ F k r) where
    within : (s : State) → Area b₁ s → F ≡ capacity_of s → state_fits (uncrashed_at k s) ≡ true
    within s h ef = fits_uncrashed s k (settled_fits s (area_fits h)) (subst (λ (G : Capacity). k < G.servers) ef i) ∙ area_fits h

    pub healing_turn : not r ≡ false → length b₂ ≡ length b₁ → HealedTo b F place b₂ (k + 1)
    unfolding runs_at
    healing_turn t l = record {
      inside = inside_after b₁ b₂ F p.inside l;
      long = l ∙ p.long;
      whole = λ b₃ n o.
          p.whole b₃ n (opens_after (uncrashed_at k) (heal_at (k + 1)) (heal_at k) q.changes o
          (λ s h ef fit. (runs_on s k (omega (arith, count_is h ef)) (sym (q.runs.to s h ef) ∙ yes r t), within s h ef)));
    }

    pub healing_stop : (b₃ : List ℕ) (n : InputNumbers) → not r ≡ true → Opens b₂ b₃ F n (restart_at k (owed_of (Healing (k + 1))))
        → Opens b b₃ F n (heal_at place)
    unfolding runs_at owed_of
    healing_stop b₃ n t o =
        p.whole b₃ n (opens_after (uncrashed_at k) (restart_at k (healing (k + 1))) (heal_at k) q.changes o
        (λ s h ef fit. (
          ap (λ (j : ℕ). restart_at k (healing j) (uncrashed_at k s)) (add-one k)
              ∙ sym (left_from s k (omega (arith, count_is h ef)) ∙ heal_stopped s k (length s.servers - (k + 1)) (sym (q.runs.to s h ef) ∙ no r t)),
          within s h ef,
        )))

  pub healing_done : (b₂ : List ℕ) (n : InputNumbers) → F.servers ≤ k → Opens b₁ b₂ F n idle_at → Opens b b₂ F n (heal_at place)
  unfolding idle_at heal_at heal_from
  healing_done b₂ n l o =
      p.whole b₂ n (opens_is idle_at (heal_at k) o
      (λ s h ef. sym (ap (heal_from s k) (let z : length s.servers - k ≡ 0 = omega (arith, count_is h ef) in z))))

-- ---- an input is closed

module _ (b : List ℕ) (F : Capacity) (o : OwedKind) where
  module _ (more slot : ℕ) (running : Bool) where
    pub asked_nothing : o ≡ Nothing → Reads b F true (close_test (owed_of o) more slot running)
    unfolding close_test owed_of
    asked_nothing e = record { to = λ s h ef. sym (ap (λ (x : OwedKind). close_test (owed_of x) more slot running s) e) }

    pub asked_construction : (place : ℕ) (r : Bool) → o ≡ Construction place → Reads b F r (construct_test place more)
        → Reads b F r (close_test (owed_of o) more slot running)
    unfolding close_test owed_of
    asked_construction place r e q =
        record { to = λ s h ef. q.to s h ef ∙ sym (ap (λ (x : OwedKind). close_test (owed_of x) more slot running s) e) }

    pub asked_healing : (place : ℕ) (r : Bool) → o ≡ Healing place → Reads b F r (heal_test place slot running)
        → Reads b F r (close_test (owed_of o) more slot running)
    unfolding close_test owed_of
    asked_healing place r e q =
        record { to = λ s h ef. q.to s h ef ∙ sym (ap (λ (x : OwedKind). close_test (owed_of x) more slot running s) e) }

  module _ (b' : List ℕ) (r : InputNumbers) where
    pub close_nothing : o ≡ Nothing → Opens b b' F r idle_at → Opens b b' F r (close_at (owed_of o))
    unfolding close_at owed_of idle_at
    close_nothing e q = opens_is idle_at (close_at (owed_of o)) q (λ s h ef. sym (ap (λ (x : OwedKind). close_at (owed_of x) s) e))

    pub close_construction : (place : ℕ) → o ≡ Construction place → Opens b b' F r (construct_at place) → Opens b b' F r (close_at (owed_of o))
    unfolding close_at owed_of construct_at
    close_construction place e q =
        opens_is (construct_at place) (close_at (owed_of o)) q (λ s h ef. sym (ap (λ (x : OwedKind). close_at (owed_of x) s) e))

    pub close_healing : (place : ℕ) → o ≡ Healing place → Opens b b' F r (heal_at place) → Opens b b' F r (close_at (owed_of o))
    unfolding close_at owed_of heal_at
    close_healing place e q = opens_is (heal_at place) (close_at (owed_of o)) q (λ s h ef. sym (ap (λ (x : OwedKind). close_at (owed_of x) s) e))
