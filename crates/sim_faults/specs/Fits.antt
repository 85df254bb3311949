-- Question 10 of a fault, so that a caller can ask it before it takes the event. Assumes nothing.
use Rattle.std.specs.Prelude.{◌≡◌, Bool, ◌&&◌, List, [], ◌∷◌, ℕ, suc, ◌+◌, ◌-◌, ◌^◌, ◌≤◌, ◌<◌, max, eqb, set, Option, None, Some}
use Rattle.std.proofs.Math.Path.{refl, sym, ap, ap₂}
use Rattle.std.proofs.Common.{subst, ◌∙◌, lt-ltb, le-leb, leb-true, eqb-true, ltb-true}
use Rattle.std.proofs.Math.Bool.{true}
use native.Mathlib.Omega.{arith}
use Rattle.std.proofs.Math.ListN.{length}
use Rattle.laws.specs.Bools.{pick, cases, pick_both, ◌and◌, allb, and_left, and_true}
use Rattle.laws.proofs.BoolLaws.{and_right, and_both, true_and}
use Rattle.units.specs.declared.NodeId.{NodeId}
use Rattle.units.specs.declared.SimTime.{SimTime}
use Rattle.units.specs.declared.Duration.{Duration}
use Rattle.config.specs.Limits.{judge}
use Rattle.config.specs.Laws.{in_limits}
use Rattle.faults.specs.Fault.{in_cluster, fault_in_range}
use Rattle.faults.specs.declared.Fault.{Fault}
use Rattle.faults.specs.declared.Fault.TheVariants.{Crash, CrashDuringNextInput, Restart, CrashLeader, Partition, Block, Unblock, HealLinks, SetLoss, SetDuplication, SetDelayFactor, HealAll}
use Rattle.network.specs.Network as network
use Rattle.network.specs.Ranges.{InRange, in_range_lem, ranged, partition_kept, block_kept, unblock_kept, heal_links_kept, heal_all_kept, set_loss_kept, set_duplication_kept, set_delay_factor_kept}
use Rattle.network.specs.declared.Network.{Network}
use Rattle.protocol.specs.Numbers.{leads}
use Rattle.protocol.specs.declared.Status.{Status}
use Rattle.leader.specs.Leader.{not_below, better, leader_from, leader}
use Rattle.leader.specs.declared.Reported.{Reported}
use Rattle.queue.specs.Queue.{Scheduled, Queue, push}
use Rattle.queue.specs.Range.{word}
use Rattle.queue.specs.declared.Event.TheVariants as event
use Rattle.model.specs.State.{State, Server, nothing, slot_of, id_of}
use Rattle.model.specs.Fields.{with_queue, with_now, with_events, with_network, with_crash_on_next_input}
use Rattle.model.specs.FitsLaws.{groups_known}
use Rattle.model.specs.Simulation.{Moved, running, idle, reported_status, reported_from, leader_of, crash_leader, stop_server, heal_from, apply_fault}
use Rattle.model.specs.Fits.{state_fits, state_tests}
use Rattle.state.specs.Fitting.{accepted_is}
use Rattle.state.specs.FitsBy.{fits_test}
use Rattle.state.specs.Lens.{ServersFit, server_fine, fits_on_server, servers_kept}
use Rattle.state_queue.specs.Events.{queue_room, event_in_range, pushed, plain}
use Rattle.state_queue.specs.Fits.{fits_push, plain_range}
use Rattle.sim_owed.specs.Servers.{stop_at, restart_test, restart_at}
use Rattle.sim_owed.specs.Closes.{idle_at, heal_at, heal_test, stopped_from, stopped_test, flags_of, SettledIn, Agrees}
use Rattle.sim_owed.specs.Fits.{settled_fits, fits_idle, fits_stop, kept_stop, fits_restart, fits_heal, agrees_none}
use Rattle.sim_faults.specs.Faults.{fault_at, network_after, network_move, crashing_at, stop_move, leader_test, leader_fits, restart_fits, fault_test, ReadyIn}
use Rattle.leader.specs.declared.Leading.{Leading}

-- ---- a state that fits is ready

pub ready_fits : (t : State) → state_fits t ≡ true → ReadyIn t
ready_fits t h = record {
  settled = settled_fits t h;
  network = in_range_lem t.config.servers t.network (fits_test t h 6);
  delay = eqb-true _ _ (fits_test t h 7);
  rng = fits_test t h 8;
  few =
      (in_limits t.config t.limits (judge t.config t.limits) refl (accepted_is (judge t.config t.limits) (fits_test t h 0))).servers;
}

-- ---- the network

-- another network in range
pub fits_network : (t : State) (n : Network) → ReadyIn t → InRange t.config.servers n → n.base_delay.0 ≡ t.network.base_delay.0
    → n.rng ≡ t.network.rng → state_fits (with_network t n) ≡ state_fits t
unfolding state_fits
fits_network t n p i ed er =
    let S : ℕ = t.config.servers in
    let D : ℕ = t.config.one_way_delay.0 in
    ap₂ (λ (x y : Bool). allb (set (set (set (state_tests t) 6 x) 7 y) 8 (word n.rng.state)))
    (ranged S n i ∙ sym (ranged S t.network p.network)) (ap (λ (d : ℕ). eqb d D) ed)
    ∙ ap (λ (g : _). allb (set (state_tests t) 8 (word g.state))) er

-- a fault in range keeps the network in range
network_kept : (fault : Fault) (S : ℕ) (n : Network) → S ≤ 8 → InRange S n → fault_in_range S fault ≡ true → InRange S (network_after fault n)
unfolding network_after in_cluster
network_kept (Crash id) S n l i h = i
network_kept (CrashDuringNextInput id) S n l i h = i
network_kept (Restart id) S n l i h = i
network_kept (CrashLeader downtime) S n l i h = i
network_kept (Partition groups) S n l i h = partition_kept S n groups i (groups_known S groups (and_left _ _ h))
network_kept (Block from to) S n l i h =
    let a = and_left _ _ (and_left _ _ h) in
    let b = and_right _ _ (and_left _ _ h) in
    block_kept S n from to i l (leb-true _ _ (and_left _ _ a)) (leb-true _ _ (and_right _ _ a)) (leb-true _ _ (and_left _ _ b)) (leb-true _ _ (and_right _ _ b))
network_kept (Unblock from to) S n l i h = unblock_kept S n from to i
network_kept HealLinks S n l i h = heal_links_kept S n i
network_kept (SetLoss rate) S n l i h = set_loss_kept S n rate i (ltb-true _ _ (and_right _ _ h))
network_kept (SetDuplication rate) S n l i h = set_duplication_kept S n rate i (ltb-true _ _ (and_right _ _ h))
network_kept (SetDelayFactor factor) S n l i h = set_delay_factor_kept S n factor i (leb-true _ _ (and_right _ _ h))
network_kept HealAll S n l i h = heal_all_kept S n i

delay_after : (fault : Fault) (n : Network) → (network_after fault n).base_delay.0 ≡ n.base_delay.0
unfolding network_after network.partition
delay_after (Crash id) n = refl
delay_after (CrashDuringNextInput id) n = refl
delay_after (Restart id) n = refl
delay_after (CrashLeader downtime) n = refl
delay_after (Partition groups) n = refl
delay_after (Block from to) n = refl
delay_after (Unblock from to) n = refl
delay_after HealLinks n = refl
delay_after (SetLoss rate) n = refl
delay_after (SetDuplication rate) n = refl
delay_after (SetDelayFactor factor) n = refl
delay_after HealAll n = refl

rng_after : (fault : Fault) (n : Network) → (network_after fault n).rng ≡ n.rng
unfolding network_after network.partition
rng_after (Crash id) n = refl
rng_after (CrashDuringNextInput id) n = refl
rng_after (Restart id) n = refl
rng_after (CrashLeader downtime) n = refl
rng_after (Partition groups) n = refl
rng_after (Block from to) n = refl
rng_after (Unblock from to) n = refl
rng_after HealLinks n = refl
rng_after (SetLoss rate) n = refl
rng_after (SetDuplication rate) n = refl
rng_after (SetDelayFactor factor) n = refl
rng_after HealAll n = refl

module _ (fault : Fault) (t : State) (p : ReadyIn t) (h : fault_in_range t.config.servers fault ≡ true) where
  -- the network after a fault
  pub fits_after : state_fits (with_network t (network_after fault t.network)) ≡ state_fits t
  fits_after =
      fits_network t (network_after fault t.network) p (network_kept fault t.config.servers t.network p.few p.network h)
      (delay_after fault t.network) (rng_after fault t.network)

  -- a fault of the network
  pub fits_network_move : state_fits (network_move fault t).state ≡ state_fits t
  unfolding network_move idle_at
  fits_network_move = fits_idle (with_network t (network_after fault t.network)) p.settled ∙ fits_after

-- ---- one server

module _ (t : State) (slot : ℕ) (p : SettledIn t) (i : slot < t.config.servers) where
  pub fits_crashing : state_fits (crashing_at slot t) ≡ state_fits t
  unfolding crashing_at
  fits_crashing =
      fits_on_server t slot p.servers i (λ v. with_crash_on_next_input v true)
      ∙ ap (λ (u : Bool). u and state_fits t) (server_fine t slot p.servers i) ∙ true_and (state_fits t)

-- a server in the cluster has a place
pub slot_known : (S : ℕ) (id : NodeId) → in_cluster S id ≡ true → slot_of id < S
unfolding in_cluster
slot_known S id h =
    let low : 1 ≤ id.0 = leb-true 1 id.0 (and_left _ _ h) in
    let high : id.0 ≤ S = leb-true id.0 S (and_right _ _ h) in
    omega arith

-- ---- the leader

-- A leader, if there is one, has an id of 1 to n.
abbrev pub Below : ℕ → Option Leading → Type 0
Below n None = Unit {0}
Below n (Some l) = (1 ≤ l.id.0) × (l.id.0 ≤ n)

weaker : (n m : ℕ) (o : Option Leading) → n ≤ m → Below n o → Below m o
weaker n m None l h = tt
weaker n m (Some x) l h = (h.0, omega (arith, h.1))

better_below : (k : ℕ) (best : Option Leading) (r : Reported) → r.id.0 ≡ k + 1 → Below k best → Below (suc k) (better best r)
unfolding better
better_below k best r e h =
    let low : 1 ≤ r.id.0 = omega arith in
    let high : r.id.0 ≤ suc k = omega arith in
    let won : Below (suc k) (Some (record { id = r.id; term = r.status.term })) = (low, high) in
    pick_both (Below (suc k)) (leads r.status.role && not_below best r) won (weaker k (suc k) best (omega arith) h)

from_below : (vs : List Server) (k : ℕ) (best : Option Leading) → Below k best → Below (k + length vs) (leader_from best (reported_from k vs))
unfolding leader_from reported_from
from_below [] k best h = weaker k (k + 0) best (omega arith) h
from_below (v ∷ vs) k best h = by v.status (λ b q. subst (λ (n : ℕ). Below n (leader_from b (reported_from (suc k) vs))) (let e : suc k + length vs ≡ k + suc (length vs) = omega arith in e) (from_below vs (suc k) b q))
  where
    by : (o : Option Status) → ((b : Option Leading) → Below (suc k) b → Below (k + suc (length vs)) (leader_from b (reported_from (suc k) vs)))
        → Below (k + suc (length vs)) (leader_from best (reported_status k o (reported_from (suc k) vs)))
    by None more = more best (weaker k (suc k) best (omega arith) h)
    by (Some x) more =
        more (better best (record { id = id_of k; status = x })) (better_below k best (record { id = id_of k; status = x }) refl h)

-- the leader is in the cluster
pub leader_below : (t : State) → ServersFit t → Below t.config.servers (leader_of t)
unfolding leader
leader_below t h = subst (λ (n : ℕ). Below n (leader_of t)) (let e : 0 + length t.servers ≡ t.config.servers = omega (arith, h.count) in e) (from_below t.servers 0 None tt)

pub leader_is_known : (t : State) → ServersFit t → (o : Option Leading) (l : Leading) → o ≡ leader_of t → o ≡ Some l
    → (1 ≤ l.id.0) × (l.id.0 ≤ t.config.servers)
leader_is_known t h o l e q = subst (Below t.config.servers) (sym e ∙ q) (leader_below t h)

-- The restart that is scheduled.
abbrev pub restart_event : NodeId → SimTime → Scheduled
restart_event id time = plain time (event.Fault (Restart id))

-- it is in range where its time has 64 bits
restart_range : (t : State) (id : NodeId) (time : SimTime) → t.config.servers ≤ 8 → 1 ≤ id.0 → id.0 ≤ t.config.servers
    → event_in_range t (restart_event id time) ≡ word time.0
unfolding in_cluster
restart_range t id time few l k =
    plain_range t time (event.Fault (Restart id))
    ∙ ap (λ (u : Bool). word time.0 and u)
    (and_both _ _ (and_both _ _ refl (and_both _ _ refl (and_both _ _ (lt-ltb id.0 (2 ^ 64) (omega arith)) (and_both _ _ refl refl))))
    (and_both _ _ (and_both _ _ (le-leb 1 id.0 l) (le-leb id.0 t.config.servers k)) refl))
    ∙ and_true (word time.0)

-- a time after now is not before it
later_is : (now d : ℕ) → max (now + d) now ≡ now + d
later_is now d = omega arith

-- the state with the server stopped and its restart scheduled
pub stop_is : (t : State) (id : NodeId) (d : Duration) → stop_move id d t ≡ idle_at (pushed (restart_event id (record { 0 = t.now.0 + d.0 })) (stop_at (slot_of id) t))
unfolding stop_move idle_at pushed plain stop_at stop_server
stop_is t id d = ap (λ (n : ℕ). idle (with_queue (stop_server t (slot_of id)) (push t.queue (record { 0 = n }) (event.Fault (Restart id)) []))) (later_is t.now.0 d.0)

module _ (t : State) (id : NodeId) (d : Duration) (p : ReadyIn t) (l : 1 ≤ id.0) (k : id.0 ≤ t.config.servers) where
  pub stopped_settled : SettledIn (stop_at (slot_of id) t)
  unfolding stop_at stop_server
  stopped_settled = record { phase = p.settled.phase; servers = kept_stop t (slot_of id) p.settled.servers (let i : slot_of id < t.config.servers = omega arith in i) }

  -- the event pushed behind the stop
  pub fits_stopped : (time : SimTime)
      → state_fits (pushed (restart_event id time) (stop_at (slot_of id) t)) ≡ ((queue_room 1 t and word time.0) and state_fits t)
  unfolding stop_at stop_server queue_room
  fits_stopped time =
      let i : slot_of id < t.config.servers = omega arith in
      fits_push (stop_at (slot_of id) t) (restart_event id time)
      ∙ ap₂ (λ (u v : Bool). (queue_room 1 t and u) and v) (restart_range (stop_at (slot_of id) t) id time p.few l k) (fits_stop t (slot_of id) p.settled.servers i)

  pub fits_stop_move : queue_room 1 t ≡ true → state_fits (stop_move id d t).state ≡ (word (t.now.0 + d.0) and state_fits t)
  unfolding pushed
  fits_stop_move r =
      ap (λ (m : Moved). state_fits m.state) (stop_is t id d)
      ∙ fits_idle (pushed (restart_event id (record { 0 = t.now.0 + d.0 })) (stop_at (slot_of id) t)) stopped_settled
      ∙ fits_stopped (record { 0 = t.now.0 + d.0 })
      ∙ ap (λ (u : Bool). (u and word (t.now.0 + d.0)) and state_fits t) r
      ∙ ap (λ (u : Bool). u and state_fits t) (true_and (word (t.now.0 + d.0)))

-- ---- every fault

-- A fault that gives the state after it alone, and one that can be refused.
same : (t : State) {u : Bool} → u ≡ state_fits t → u ≡ (true and state_fits t)
same t e = e ∙ sym (true_and (state_fits t))

stop_settled : (t : State) (slot : ℕ) → SettledIn t → slot < t.config.servers → SettledIn (stop_at slot t)
unfolding stop_at stop_server
stop_settled t slot p i = record { phase = p.phase; servers = kept_stop t slot p.servers i }

crashing_settled : (t : State) (slot : ℕ) → SettledIn t → slot < t.config.servers → SettledIn (crashing_at slot t)
unfolding crashing_at
crashing_settled t slot p i = record { phase = p.phase; servers = servers_kept t slot p.servers i (λ v. with_crash_on_next_input v true) (server_fine t slot p.servers i) }

module _ (t : State) (p : ReadyIn t) where
  -- a choice between two states
  either : (u : Bool) (x y : State) → state_fits (idle_at x).state ≡ state_fits t → state_fits (idle_at y).state ≡ state_fits t
      → state_fits (idle_at (pick u x y)).state ≡ state_fits t
  either u x y ex ey = pick_both (λ (z : State). state_fits (idle_at z).state ≡ state_fits t) u ex ey

  crash_by : (id : NodeId) → in_cluster t.config.servers id ≡ true → state_fits (fault_at (Crash id) t).state ≡ state_fits t
  unfolding fault_at apply_fault idle_at stop_at
  crash_by id h =
      let i = slot_known t.config.servers id h in
      either (running t (slot_of id)) (stop_server t (slot_of id)) t
      (fits_idle (stop_at (slot_of id) t) (stop_settled t (slot_of id) p.settled i) ∙ fits_stop t (slot_of id) p.settled.servers i) (fits_idle t p.settled)

  next_by : (id : NodeId) → in_cluster t.config.servers id ≡ true → state_fits (fault_at (CrashDuringNextInput id) t).state ≡ state_fits t
  unfolding fault_at apply_fault idle_at crashing_at
  next_by id h =
      let i = slot_known t.config.servers id h in
      either (running t (slot_of id)) (crashing_at (slot_of id) t) t
      (fits_idle (crashing_at (slot_of id) t) (crashing_settled t (slot_of id) p.settled i) ∙ fits_crashing t (slot_of id) p.settled i) (fits_idle t p.settled)

  restart_by : (id : NodeId) → in_cluster t.config.servers id ≡ true
      → state_fits (fault_at (Restart id) t).state ≡ (pick (running t (slot_of id)) true (restart_test (slot_of id) t) and state_fits t)
  unfolding fault_at apply_fault idle_at restart_at
  restart_by id h =
      let i = slot_known t.config.servers id h in
      cases (running t (slot_of id))
      (λ e. rw e (fits_idle t p.settled ∙ sym (true_and (state_fits t))))
      (λ e. rw e (fits_restart t (slot_of id) p.settled i nothing refl))

  leader_by : (d : Duration) → queue_room 1 t ≡ true
      → state_fits (fault_at (CrashLeader d) t).state ≡ (leader_test (leader_of t) t.now d and state_fits t)
  unfolding fault_at apply_fault idle_at stop_move leader_test
  leader_by d r = by (leader_of t) (leader_below t p.settled.servers)
    where
      by : (o : Option Leading) → Below t.config.servers o
          → state_fits (idle (crash_leader t o d)).state ≡ (leader_test o t.now d and state_fits t)
      by None q = fits_idle t p.settled ∙ sym (true_and (state_fits t))
      by (Some l) q = fits_stop_move t l.id d p q.0 q.1 r

  heal_by : state_fits (fault_at HealAll t).state ≡ (heal_test 0 t.config.servers true t and state_fits t)
  unfolding fault_at apply_fault heal_at network_after
  heal_by =
      let u : State = with_network t (network.heal_all t.network) in
      let a : Agrees t 0 t.config.servers true u =
      agrees_none refl p.settled (let e : length t.queue ≡ length t.queue + 0 = omega arith in e) refl (let l : length t.servers ≤ t.config.servers = omega (arith, p.settled.servers.count) in l) in
      ap (λ (n : ℕ). state_fits (heal_from u 0 n).state) (let e : length t.servers ≡ length t.servers - 0 = omega arith in e)
      ∙ fits_heal a 0 ∙ ap (λ (x : Bool). heal_test 0 t.config.servers true t and x) (fits_after HealAll t p (and_both _ _ refl refl))

  module _ (r : queue_room 1 t ≡ true) where
    -- the state that a fault in range gives fits where its test is true and the state before it fits
    pub fits_fault : (fault : Fault) → fault_in_range t.config.servers fault ≡ true
        → state_fits (fault_at fault t).state ≡ (fault_test fault t.now t and state_fits t)
    unfolding fault_test restart_fits leader_fits fault_at apply_fault network_move network_after
    fits_fault (Crash id) h = same t (crash_by id (and_left _ _ h))
    fits_fault (CrashDuringNextInput id) h = same t (next_by id (and_left _ _ h))
    fits_fault (Restart id) h = restart_by id (and_left _ _ h)
    fits_fault (CrashLeader d) h = leader_by d r
    fits_fault (Partition groups) h = same t (fits_network_move (Partition groups) t p h)
    fits_fault (Block from to) h = same t (fits_network_move (Block from to) t p h)
    fits_fault (Unblock from to) h = same t (fits_network_move (Unblock from to) t p h)
    fits_fault HealLinks h = same t (fits_network_move HealLinks t p h)
    fits_fault (SetLoss rate) h = same t (fits_network_move (SetLoss rate) t p h)
    fits_fault (SetDuplication rate) h = same t (fits_network_move (SetDuplication rate) t p h)
    fits_fault (SetDelayFactor factor) h = same t (fits_network_move (SetDelayFactor factor) t p h)
    fits_fault HealAll h = heal_by

    -- so the state before it fits where the one after does
    pub before_fault : (fault : Fault) → fault_in_range t.config.servers fault ≡ true → state_fits (fault_at fault t).state ≡ true
        → state_fits t ≡ true
    before_fault fault h k = and_right _ _ (sym (fits_fault fault h) ∙ k)

-- ---- asked before the event is taken

-- the test reads neither the queue nor the time nor the count of events
pub test_popped : (fault : Fault) (time : SimTime) (s : State) (q : Queue) (now : SimTime) (events : ℕ)
    → fault_test fault time (with_events (with_now (with_queue s q) now) events) ≡ fault_test fault time s
unfolding fault_test restart_fits leader_fits restart_test heal_test stopped_from stopped_test flags_of
test_popped (Crash id) time s q now events = refl
test_popped (CrashDuringNextInput id) time s q now events = refl
test_popped (Restart id) time s q now events = refl
test_popped (CrashLeader d) time s q now events = refl
test_popped (Partition groups) time s q now events = refl
test_popped (Block from to) time s q now events = refl
test_popped (Unblock from to) time s q now events = refl
test_popped HealLinks time s q now events = refl
test_popped (SetLoss rate) time s q now events = refl
test_popped (SetDuplication rate) time s q now events = refl
test_popped (SetDelayFactor factor) time s q now events = refl
test_popped HealAll time s q now events = refl
