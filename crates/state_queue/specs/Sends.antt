-- Pushes in a row: the clients' first events and the servers' starts as lists of events, question 10 by each, and what the proof of
-- push_first_sends cites. Assumes nothing.
use Rattle.std.specs.Prelude.{◌≡◌}
use Rattle.std.proofs.Math.Path.{refl, sym, ap, ap₂, subst}
use Rattle.std.proofs.Common.{◌∙◌, zero-add, add-one}
use Rattle.std.proofs.Math.Bool.{true}
use mathlib.Core.List.{List, [], ◌∷◌, ◌++◌, append_assoc, append-nil}
use Prim.Native.Nat.{ℕ, zero, suc, ◌+◌, ◌-◌, ◌^◌, ◌≤◌, ◌<◌}
use native.Mathlib.Omega.{arith}
use Rattle.std.proofs.Math.ListN.{length}
use borrow.Author.Tests.{lt-ltb, eqb-true}
use Rattle.laws.specs.Bools.{◌and◌, and_left, every}
use Rattle.laws.proofs.BoolLaws.{and_right, and_both}
use Rattle.laws.specs.Lists.{list_from}
use Rattle.units.specs.declared.SimTime.{SimTime}
use Rattle.rng.specs.Rng.{under}
use Rattle.rng.specs.Laws.{under_lt}
use Rattle.rng.specs.declared.Rng.{Rng}
use Rattle.rng.specs.declared.Drawn.{Drawn}
use Rattle.config.specs.Limits.{judge, InLimits}
use Rattle.config.specs.Laws.{in_limits}
use Rattle.network.specs.Laws.{length_list_from, list_from_snoc}
use Rattle.queue.specs.declared.Event.TheVariants as event
use Rattle.queue.specs.Queue.{Scheduled}
use Rattle.queue.specs.Range.{word}
use Rattle.model.specs.State.{State}
use Rattle.model.specs.Simulation.{first_sends, spread_starts}
use Rattle.model.specs.Fits.{state_fits}
use Rattle.state.specs.declared.Capacity.{Capacity}
use Rattle.state.specs.declared.Run.{Run}
use Rattle.state.specs.Area.{run_of}
use Rattle.state.specs.Fitting.{accepted_is, area_fits}
use Rattle.state.specs.FitsBy.{fits_test, server_count}
use Rattle.state.specs.Changes.{Inside, AreaOf, Changes, Reads}
use Rattle.state.specs.Puts.{both}
use Rattle.state.specs.Exits.{inside_after}
use Rattle.state_queue.specs.Events.{queue_room, event_in_range, pushed, plain, pushed_all, send_events, start_events, first_sent, spread_started, Sending, Starting}
use Rattle.state_queue.specs.Fits.{same_tests, fits_unpushed, fits_push_all, room_pushed_all, plain_range}

-- ---- changes and then a push

-- a change and then a push: where the push fits the change did
pub pushed_after : {b b₁ b₂ : List ℕ} {F : Capacity} (op : State → State) (e : Scheduled) → Changes b b₁ F op → Changes b₁ b₂ F (pushed e)
    → (s : State) (r : List ℕ) → AreaOf b r F s → state_fits (pushed e (op s)) ≡ true → AreaOf b₂ r F (pushed e (op s))
pushed_after op e p q s r h t = both op (pushed e) p q s r h (fits_unpushed (op s) e t) t

pushed_last : (es : List Scheduled) (e : Scheduled) (s : State) → pushed_all (es ++ e ∷ []) s ≡ pushed e (pushed_all es s)
unfolding pushed_all
pushed_last [] e s = refl
pushed_last (x ∷ es) e s = pushed_last es e (pushed x s)

-- several pushes and then one more
pub pushed_more : {b b₁ b₂ : List ℕ} {F : Capacity} (es : List Scheduled) (e : Scheduled) → Changes b b₁ F (pushed_all es)
    → Changes b₁ b₂ F (pushed e) → Changes b b₂ F (pushed_all (es ++ e ∷ []))
pushed_more {b} {b₁} {b₂} {F} es e p q = record {
  to = λ s r h t.
      subst (AreaOf b₂ r F) (sym (pushed_last es e s)) (pushed_after (pushed_all es) e p q s r h (ap state_fits (sym (pushed_last es e s)) ∙ t));
}

-- ---- the events as lists

-- the first events of the clients
pub first_sends_are : (n c : ℕ) (s : State) → first_sends s c n ≡ pushed_all (send_events s.now c n) s
unfolding first_sends pushed_all send_events list_from pushed plain
first_sends_are zero c s = refl
first_sends_are (suc n) c s = first_sends_are n (suc c) (pushed (plain s.now (event.ClientSend c)) s)

-- the starts of the servers
pub spread_starts_are : (n spread slot : ℕ) (g : Rng) (s : State)
    → spread_starts s spread slot n g ≡ pushed_all (start_events spread slot n g) s
unfolding spread_starts pushed_all start_events pushed plain
spread_starts_are zero spread slot g s = refl
spread_starts_are (suc n) spread slot g s =
    spread_starts_are n spread (suc slot) (under g spread).next (pushed (plain (record { 0 = (under g spread).value }) (event.Start slot)) s)

starts_length : (spread n slot : ℕ) (g : Rng) → length (start_events spread slot n g) ≡ n
unfolding start_events
starts_length spread zero slot g = refl
starts_length spread (suc n) slot g = ap suc (starts_length spread n (suc slot) (under g spread).next)

-- ---- question 10

bits : (n m : ℕ) → n < m → m ≤ 64 → word n ≡ true
bits n m h k = lt-ltb n (2 ^ 64) (omega arith)

module _ (s : State) (h : state_fits s ≡ true) where
  in_limits_of : InLimits s.config.servers s.config.clients s.limits
  in_limits_of =
      in_limits s.config s.limits (judge s.config s.limits) refl (accepted_is (judge s.config s.limits) (fits_test s h 0))

  sends_in_range : (time : SimTime) → word time.0 ≡ true → (n c : ℕ) → c + n ≤ s.config.clients
      → every (event_in_range s) (send_events time c n) ≡ true
  unfolding send_events list_from
  sends_in_range time w zero c k = refl
  sends_in_range time w (suc n) c k =
      let l : c < s.config.clients = omega arith in
      and_both _ _
      (plain_range s time (event.ClientSend c) ∙ and_both _ _ w (and_both _ _ (and_both _ _ refl (and_both _ _ (bits c s.config.clients l in_limits_of.clients) (and_both _ _ refl (and_both _ _ refl refl)))) (lt-ltb c s.config.clients l)))
      (sends_in_range time w n (suc c) (omega arith))

  starts_in_range : (spread : ℕ) → 0 < spread → spread ≤ 2 ^ 64 → (n slot : ℕ) (g : Rng) → slot + n ≤ s.config.servers
      → every (event_in_range s) (start_events spread slot n g) ≡ true
  unfolding start_events
  starts_in_range spread p q zero slot g k = refl
  starts_in_range spread p q (suc n) slot g k =
      let l : slot < s.config.servers = omega arith in
      let v : word (under g spread).value ≡ true = lt-ltb (under g spread).value (2 ^ 64) (omega (arith, under_lt g spread p)) in
      let m : s.config.servers ≤ 64 = omega (arith, in_limits_of.servers) in
      and_both _ _
      (plain_range s (record { 0 = (under g spread).value }) (event.Start slot) ∙ and_both _ _ v (and_both _ _ (and_both _ _ refl (and_both _ _ (bits slot s.config.servers l m) (and_both _ _ refl (and_both _ _ refl refl)))) (lt-ltb slot s.config.servers l)))
      (starts_in_range spread p q n (suc slot) (under g spread).next (omega arith))

-- the first events of all clients, whatever the state
pub fits_first_sent : (s : State) → state_fits (first_sent s) ≡ (queue_room s.config.clients s and state_fits s)
unfolding first_sent send_events
fits_first_sent s =
    let n : ℕ = length s.clients in
    let es : List Scheduled = send_events s.now 0 n in
    let l : length es ≡ n = length_list_from (λ k. plain s.now (event.ClientSend k)) 0 n in
    let e : state_fits (first_sent s) ≡ ((queue_room n s and every (event_in_range s) es) and state_fits s) =
    ap state_fits (first_sends_are n 0 s) ∙ fits_push_all es s
    ∙ ap (λ (m : ℕ). (queue_room m s and every (event_in_range s) es) and state_fits s) l in
    let clients : state_fits s ≡ true → n ≡ s.config.clients = λ h. eqb-true _ _ (fits_test s h 9) in
    e ∙ same_tests ((queue_room n s and every (event_in_range s) es) and state_fits s) (queue_room s.config.clients s and state_fits s)
    (λ h. and_both _ _ (ap (λ (m : ℕ). queue_room m s) (sym (clients (and_right _ _ h))) ∙ and_left _ _ (and_left _ _ h)) (and_right _ _ h))
    (λ h.
    let f : state_fits s ≡ true = and_right _ _ h in
    let c : n ≡ s.config.clients = clients f in
    and_both _ _ (and_both _ _ (ap (λ (m : ℕ). queue_room m s) c ∙ and_left _ _ h) (sends_in_range s f s.now (fits_test s f 2) n 0 (omega (arith, c)))) f)

-- the starts of all servers, whatever the state
pub fits_spread_started : (s : State) (spread : ℕ) (g : Rng) → 0 < spread → spread ≤ 2 ^ 64
    → state_fits (spread_started spread g s) ≡ (queue_room s.config.servers s and state_fits s)
unfolding spread_started
fits_spread_started s spread g p q =
    let n : ℕ = length s.servers in
    let es : List Scheduled = start_events spread 0 n g in
    let e : state_fits (spread_started spread g s) ≡ ((queue_room n s and every (event_in_range s) es) and state_fits s) =
    ap state_fits (spread_starts_are n spread 0 g s) ∙ fits_push_all es s
    ∙ ap (λ (m : ℕ). (queue_room m s and every (event_in_range s) es) and state_fits s) (starts_length spread n 0 g) in
    e ∙ same_tests ((queue_room n s and every (event_in_range s) es) and state_fits s) (queue_room s.config.servers s and state_fits s)
    (λ h. and_both _ _ (ap (λ (m : ℕ). queue_room m s) (sym (server_count s (and_right _ _ h))) ∙ and_left _ _ (and_left _ _ h)) (and_right _ _ h))
    (λ h.
    let f : state_fits s ≡ true = and_right _ _ h in
    let c : n ≡ s.config.servers = server_count s f in
    and_both _ _ (and_both _ _ (ap (λ (m : ℕ). queue_room m s) c ∙ and_left _ _ h) (starts_in_range s f spread p q n 0 g (omega (arith, c)))) f)

-- and the room that they leave
pub room_spread_started : (s : State) (spread : ℕ) (g : Rng) (n : ℕ)
    → queue_room n (spread_started spread g s) ≡ queue_room (length s.servers + n) s
unfolding spread_started
room_spread_started s spread g n =
    ap (queue_room n) (spread_starts_are (length s.servers) spread 0 g s)
    ∙ room_pushed_all (start_events spread 0 (length s.servers) g) s n
    ∙ ap (λ (m : ℕ). queue_room (m + n) s) (starts_length spread (length s.servers) 0 g)

-- ---- the loop of push_first_sends

module _ (b : List ℕ) (F : Capacity) where
  pub sending_start : (run : Run) → Inside b F → Reads b F run run_of → Sending b F run.now b 0
  unfolding send_events list_from pushed_all
  sending_start run i p = record {
    inside = i;
    long = refl;
    few = omega arith;
    time_is = record { to = λ s h ef. ap (λ (r : Run). r.now) (p.to s h ef) };
    changes = record { to = λ s r h t. h };
  }

  module _ (time : SimTime) (b₁ : List ℕ) (c : ℕ) (p : Sending b F time b₁ c) where
    pub sending_turn : (b₂ : List ℕ) → c < F.clients → length b₂ ≡ length b₁ → Changes b₁ b₂ F (pushed (plain time (event.ClientSend c)))
        → Sending b F time b₂ (c + 1)
    unfolding send_events
    sending_turn b₂ k l q =
        let last : send_events time 0 (c + 1) ≡ send_events time 0 c ++ plain time (event.ClientSend c) ∷ [] =
        ap (send_events time 0) (add-one c) ∙ list_from_snoc (λ j. plain time (event.ClientSend j)) 0 c
        ∙ ap (λ (j : ℕ). send_events time 0 c ++ plain time (event.ClientSend j) ∷ []) (zero-add c) in
        record {
          inside = inside_after b₁ b₂ F p.inside l;
          long = l ∙ p.long;
          few = omega arith;
          time_is = p.time_is;
          changes =
              subst (λ (es : List Scheduled). Changes b b₂ F (pushed_all es)) (sym last) (pushed_more (send_events time 0 c) (plain time (event.ClientSend c)) p.changes q);
        }

    pub sending_done : F.clients ≤ c → Changes b b₁ F first_sent
    unfolding first_sent
    sending_done k = record {
      to = λ s r h t.
          let n : c ≡ length s.clients =
          omega (arith, p.few, eqb-true (length s.clients) s.config.clients (fits_test s (area_fits h.area) 9), ap (λ (G : Capacity). G.clients) h.capacity) in
          let same : pushed_all (send_events time 0 c) s ≡ first_sends s 0 (length s.clients) =
          ap₂ (λ (u : SimTime) (m : ℕ). pushed_all (send_events u 0 m) s) (p.time_is.to s h.area h.capacity) n
          ∙ sym (first_sends_are (length s.clients) 0 s) in
          subst (AreaOf b₁ r F) same (p.changes.to s r h (ap state_fits same ∙ t));
    }

-- ---- the loop of push_spread_starts

module _ (b : List ℕ) (F : Capacity) (spread : ℕ) (g : Rng) where
  pub starting_start : Inside b F → Starting b F spread g b g 0
  unfolding pushed_all
  starting_start i = record {
    inside = i;
    long = refl;
    few = omega arith;
    pushes = [];
    changes = record { to = λ s r h t. h };
    rest = ap (λ (n : ℕ). start_events spread 0 n g) (let e : F.servers - 0 ≡ F.servers = omega arith in e);
  }

  module _ (b₁ : List ℕ) (next : Rng) (slot : ℕ) (p : Starting b F spread g b₁ next slot) where
    pub starting_turn : (b₂ : List ℕ) (d : Drawn) → slot < F.servers → length b₂ ≡ length b₁ → d ≡ under next spread
        → Changes b₁ b₂ F (pushed (plain (record { 0 = d.value }) (event.Start slot)))
        → Starting b F spread g b₂ d.next (slot + 1)
    unfolding start_events
    starting_turn b₂ d k l e q =
        let n : F.servers - slot ≡ suc (F.servers - (slot + 1)) = omega arith in
        let x : Scheduled = plain (record { 0 = d.value }) (event.Start slot) in
        let left : start_events spread slot (F.servers - slot) next ≡ x ∷ start_events spread (slot + 1) (F.servers - (slot + 1)) d.next =
        ap (λ (m : ℕ). start_events spread slot m next) n
        ∙ ap (λ (y : Drawn). plain (record { 0 = y.value }) (event.Start slot) ∷ start_events spread (suc slot) (F.servers - (slot + 1)) y.next) (sym e)
        ∙ ap (λ (m : ℕ). x ∷ start_events spread m (F.servers - (slot + 1)) d.next) (sym (add-one slot)) in
        record {
          inside = inside_after b₁ b₂ F p.inside l;
          long = l ∙ p.long;
          few = omega arith;
          pushes = p.pushes ++ x ∷ [];
          changes = pushed_more p.pushes x p.changes q;
          rest =
              append_assoc p.pushes (x ∷ []) (start_events spread (slot + 1) (F.servers - (slot + 1)) d.next)
              ∙ ap (λ (es : List Scheduled). p.pushes ++ es) (sym left) ∙ p.rest;
        }

    pub starting_done : F.servers ≤ slot → Changes b b₁ F (spread_started spread g)
    unfolding spread_started start_events
    starting_done k = record {
      to = λ s r h t.
          let n : F.servers ≡ length s.servers =
          ap (λ (G : Capacity). G.servers) h.capacity ∙ sym (server_count s (area_fits h.area)) in
          let z : F.servers - slot ≡ 0 = omega arith in
          let whole : p.pushes ≡ start_events spread 0 (length s.servers) g =
          sym (append-nil p.pushes) ∙ ap (λ (m : ℕ). p.pushes ++ start_events spread slot m next) (sym z) ∙ p.rest
          ∙ ap (λ (m : ℕ). start_events spread 0 m g) n in
          let same : pushed_all p.pushes s ≡ spread_starts s spread 0 (length s.servers) g =
          ap (λ (es : List Scheduled). pushed_all es s) whole ∙ sym (spread_starts_are (length s.servers) spread 0 g s) in
          subst (AreaOf b₁ r F) same (p.changes.to s r h (ap state_fits same ∙ t));
    }
