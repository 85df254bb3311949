-- Question 10 of a start, a stop, a restart and of what is owed, so that a caller can ask it before it changes anything. Assumes nothing.
use Rattle.std.specs.Prelude.{◌≡◌, Bool, false, ℕ, zero, suc, ◌+◌, ◌-◌, ◌≤◌, ◌<◌, leb, ltb, set, None}
use Rattle.std.proofs.Math.Path.{refl, sym, ap, ap₂}
use Rattle.std.proofs.Common.{◌∙◌, zero-add, arith, lt-ltb, le-ltb, le-leb, ltb-true, ltb-false}
use Rattle.std.proofs.Math.Bool.{true}
use mathlib.Core.List.{List, [], ◌∷◌, map}
use Rattle.std.proofs.Math.ListN.{length, get_or, get_or-map}
use Rattle.std.proofs.lemmas.List.{length-map}
use Rattle.laws.specs.Bools.{pick, cases, ◌and◌, and_true}
use Rattle.laws.proofs.BoolLaws.{allb_in, and_right, and_both, true_and}
use Rattle.laws.specs.Lists.{modify, is_some}
use Rattle.laws.specs.Order.{chain}
use Rattle.queue.specs.declared.Event.TheVariants as event
use Rattle.storage.specs.Storage.{crash}
use Rattle.model.specs.State.{State, Server, new_server, Owed, nothing, construction, healing, start_input, closed, writing, server_at}
use Rattle.model.specs.Fields.{with_phase, with_status, with_storage, with_incarnation, with_election, with_heartbeat, with_crash_on_next_input, with_next_apply, with_pending, with_leading}
use Rattle.model.specs.Simulation.{Moved, on_server, running, push_event, idle, start_server, stop_server, restart_server, first_sends, construct_from, heal_from}
use Rattle.model.specs.Fits.{state_fits, server_fits, server_tests, owed_fits}
use Rattle.state.specs.declared.Capacity.{Capacity}
use Rattle.state.specs.Area.{capacity_of}
use Rattle.state.specs.FitsBy.{fits_test}
use Rattle.state.specs.Lens.{ServersFit, servers_fit_lem, server_fine, fits_on_server, servers_kept}
use Rattle.state_disk.specs.DiskLaws.{crash_fits}
use Rattle.state_header.specs.Header.{phase_set}
use Rattle.state_header.specs.Laws.{fits_phase}
use Rattle.state_queue.specs.Events.{queue_room, first_sent}
use Rattle.state_queue.specs.Sends.{fits_first_sent}
use Rattle.sim_owed.specs.Servers.{start_at, stop_at, can_rise, restart_test, restart_at}
use Rattle.sim_owed.specs.Closes.{idle_at, construct_at, construct_test, flags_of, first_stopped, stopped_from, stopped_test, heal_test, heal_at, uncrashed_at, close_at, close_test, SettledIn, Agrees}

-- ---- lists of servers

-- what all servers keep, a list with one of them changed does
pub map_kept : {A : Type 0} (g : Server → A) (f : Server → Server) → ((v : Server) → g (f v) ≡ g v) → (k : ℕ) (vs : List Server)
    → map g (modify k f vs) ≡ map g vs
unfolding modify
map_kept g f e k [] = refl
map_kept g f e zero (v ∷ vs) = ap (λ (x : _). x ∷ map g vs) (e v)
map_kept g f e (suc k) (v ∷ vs) = ap (λ (l : List _). g v ∷ l) (map_kept g f e k vs)

-- what one server becomes, the list has at its place
pub map_set : {A : Type 0} (g : Server → A) (f : Server → Server) (x : A) → ((v : Server) → g (f v) ≡ x) → (k : ℕ) (vs : List Server)
    → map g (modify k f vs) ≡ set (map g vs) k x
unfolding modify
map_set g f x e k [] = refl
map_set g f x e zero (v ∷ vs) = ap (λ (y : _). y ∷ map g vs) (e v)
map_set g f x e (suc k) (v ∷ vs) = ap (λ (l : List _). g v ∷ l) (map_set g f x e k vs)

-- nothing is set behind the end
pub set_behind : {A : Type 0} (xs : List A) (k : ℕ) (x : A) → length xs ≤ k → set xs k x ≡ xs
set_behind [] k x h = refl
set_behind (y ∷ xs) zero x h = absurd (omega arith)
set_behind (y ∷ xs) (suc k) x h = ap (λ (l : List _). y ∷ l) (set_behind xs k x (omega arith))

pub running_is : (s : State) (k : ℕ) → get_or (flags_of s) k false ≡ running s k
unfolding flags_of
running_is s k = get_or-map (λ v. is_some v.status) s.servers k (new_server 0)

pub restart_is : (s : State) (k : ℕ) → get_or (map can_rise s.servers) k (can_rise (new_server 0)) ≡ restart_test k s
unfolding restart_test
restart_is s k = get_or-map can_rise s.servers k (new_server 0)

-- ---- no input, a start

module _ (t : State) (p : SettledIn t) where
  pub fits_idle : state_fits (idle_at t).state ≡ state_fits t
  unfolding idle_at phase_set
  fits_idle = fits_phase t closed p.phase ∙ true_and (state_fits t)

  closed_fits : state_fits (with_phase t closed) ≡ state_fits t
  unfolding phase_set
  closed_fits = fits_phase t closed p.phase ∙ true_and (state_fits t)

  pub fits_start : (slot : ℕ) (o : Owed) → slot < t.config.servers → owed_fits t.config t.limits o ≡ true
      → state_fits (start_at slot o t).state ≡ state_fits t
  unfolding start_at start_server phase_set
  fits_start slot o i h =
      fits_phase t (writing slot start_input o) p.phase
      ∙ ap (λ (u : Bool). u and state_fits t) (and_both _ _ (lt-ltb slot t.config.servers i) (and_both _ _ refl h))
      ∙ true_and (state_fits t)

-- ---- a stop

-- A server that has stopped.
abbrev pub stopped_server : Server → Server
stopped_server v = with_leading (with_crash_on_next_input (with_pending (with_storage (with_status v None) (crash v.storage)) []) false) None

module _ (t : State) (slot : ℕ) (h : ServersFit t) (i : slot < t.config.servers) where
  stopped_fits : server_fits t.config t.limits (stopped_server (server_at t slot)) ≡ true
  unfolding chain
  stopped_fits =
      let u : (j : ℕ) → get_or (server_tests t.config t.limits (server_at t slot)) j true ≡ true =
      allb_in (server_tests t.config t.limits (server_at t slot)) (server_fine t slot h i) in
      and_both _ _ refl
      (and_both _ _ (crash_fits t.config t.limits (server_at t slot).storage (u 1))
      (and_both _ _ (u 2) (and_both _ _ (u 3) (and_both _ _ (u 4) (and_both _ _ (u 5) (and_both _ _ (u 6)
      (and_both _ _ (and_both _ _ (le-leb 0 t.limits.history (omega arith)) (and_both _ _ refl refl)) (and_both _ _ refl refl))))))))

  pub fits_stop : state_fits (stop_at slot t) ≡ state_fits t
  unfolding stop_at stop_server
  fits_stop = fits_on_server t slot h i stopped_server ∙ ap (λ (u : Bool). u and state_fits t) stopped_fits ∙ true_and (state_fits t)

  pub kept_stop : ServersFit (stop_at slot t)
  unfolding stop_at stop_server
  kept_stop = servers_kept t slot h i stopped_server stopped_fits

-- ---- a restart

-- A server whose numbers have risen.
abbrev pub risen_server : Server → Server
risen_server v = with_next_apply (with_heartbeat (with_election (with_incarnation v (v.incarnation + 1)) (v.election + 1)) (v.heartbeat + 1)) 1

rises : {a b c d e f : Bool} (x y z : Bool) → a ≡ true → b ≡ true → c ≡ true → d ≡ true → e ≡ true → f ≡ true
    → (a and (b and (x and (y and (z and (c and (d and (e and (f and true))))))))) ≡ (x and (y and z))
rises x y z ha hb hc hd he hf = simp (ha, hb, hc, hd, he, hf, true_and, and_true)

module _ (t : State) (slot : ℕ) (p : SettledIn t) (i : slot < t.config.servers) where
  pub risen_fits : server_fits t.config t.limits (risen_server (server_at t slot)) ≡ restart_test slot t
  unfolding restart_test can_rise
  risen_fits =
      let u : (j : ℕ) → get_or (server_tests t.config t.limits (server_at t slot)) j true ≡ true =
      allb_in (server_tests t.config t.limits (server_at t slot)) (server_fine t slot p.servers i) in
      rises _ _ _ (u 0) (u 1) refl (le-leb 1 (t.limits.log_indexes + 1) (omega arith)) (u 7) (u 8)

  -- the server with its numbers risen
  pub fits_risen : state_fits (on_server t slot risen_server) ≡ (restart_test slot t and state_fits t)
  fits_risen = fits_on_server t slot p.servers i risen_server ∙ ap (λ (u : Bool). u and state_fits t) risen_fits

  pub fits_restart : (o : Owed) → owed_fits t.config t.limits o ≡ true
      → state_fits (restart_at slot o t).state ≡ (restart_test slot t and state_fits t)
  unfolding restart_at restart_server start_server phase_set
  fits_restart o h =
      fits_phase (on_server t slot risen_server) (writing slot start_input o) p.phase
      ∙ ap (λ (u : Bool). u and state_fits (on_server t slot risen_server)) (and_both _ _ (lt-ltb slot t.config.servers i) (and_both _ _ refl h))
      ∙ true_and (state_fits (on_server t slot risen_server)) ∙ fits_risen

-- ---- a HealAll

-- A server whose next input is not cut.
abbrev pub uncrashed_server : Server → Server
uncrashed_server v = with_crash_on_next_input v false

module _ (t : State) (place : ℕ) (p : SettledIn t) (i : place < t.config.servers) where
  pub fits_uncrashed : state_fits (uncrashed_at place t) ≡ state_fits t
  unfolding uncrashed_at
  fits_uncrashed =
      fits_on_server t place p.servers i uncrashed_server
      ∙ ap (λ (u : Bool). u and state_fits t) (server_fine t place p.servers i) ∙ true_and (state_fits t)

  pub kept_uncrashed : SettledIn (uncrashed_at place t)
  unfolding uncrashed_at
  kept_uncrashed = record {
    phase = p.phase;
    servers = servers_kept t place p.servers i uncrashed_server (server_fine t place p.servers i);
  }

pub flags_uncrashed : (t : State) (place : ℕ) → flags_of (uncrashed_at place t) ≡ flags_of t
unfolding flags_of uncrashed_at
flags_uncrashed t place = map_kept (λ v. is_some v.status) uncrashed_server (λ v. refl) place t.servers

pub restart_uncrashed : (t : State) (place k : ℕ) → restart_test k (uncrashed_at place t) ≡ restart_test k t
unfolding uncrashed_at can_rise
restart_uncrashed t place k =
    sym (restart_is (uncrashed_at place t) k)
    ∙ ap (λ (l : List Bool). get_or l k (can_rise (new_server 0))) (map_kept can_rise uncrashed_server (λ v. refl) place t.servers)
    ∙ restart_is t k

stopped_uncrashed : (t : State) (place k : ℕ) → stopped_test k (uncrashed_at place t) ≡ stopped_test k t
unfolding stopped_test uncrashed_at
stopped_uncrashed t place k = ap (λ (u : Bool). pick (ltb k t.config.servers) u true) (restart_uncrashed t place k)

-- what a HealAll finds at a place
pub heal_runs : (t : State) (place left : ℕ) → running t place ≡ true
    → heal_from t place (suc left) ≡ heal_from (uncrashed_at place t) (suc place) left
unfolding heal_from uncrashed_at
heal_runs t place left e = rw e refl

pub heal_stopped : (t : State) (place left : ℕ) → running t place ≡ false
    → heal_from t place (suc left) ≡ restart_at place (healing (suc place)) (uncrashed_at place t)
unfolding heal_from uncrashed_at restart_at
heal_stopped t place left e = rw e refl

first_runs : (flags : List Bool) (place left : ℕ) → get_or flags place false ≡ true
    → first_stopped flags place (suc left) ≡ first_stopped flags (suc place) left
unfolding first_stopped
first_runs flags place left e = rw e refl

first_stopped_lem : (flags : List Bool) (place left : ℕ) → get_or flags place false ≡ false → first_stopped flags place (suc left) ≡ place
unfolding first_stopped
first_stopped_lem flags place left e = rw e refl

heal_none : (t : State) (place : ℕ) → SettledIn t → t.config.servers ≤ place
    → state_fits (idle t).state ≡ (stopped_test place t and state_fits t)
unfolding idle_at stopped_test
heal_none t place p l =
    fits_idle t p ∙ sym (true_and (state_fits t))
    ∙ ap (λ (u : Bool). pick u (restart_test place t) true and state_fits t) (sym (le-ltb place t.config.servers l))

stopped_here : (t : State) (place : ℕ) → place < t.config.servers → stopped_test place t ≡ restart_test place t
unfolding stopped_test
stopped_here t place l = ap (λ (u : Bool). pick u (restart_test place t) true) (lt-ltb place t.config.servers l)

-- a HealAll of the servers that are left from a place on
pub fits_heal_from : (left place : ℕ) (t : State) → SettledIn t → left ≡ t.config.servers - place
    → state_fits (heal_from t place left).state ≡ (stopped_test (first_stopped (flags_of t) place left) t and state_fits t)
unfolding heal_from first_stopped uncrashed_at
fits_heal_from zero place t p e = heal_none t place p (omega arith)
fits_heal_from (suc left) place t p e =
    let i : place < t.config.servers = omega arith in
    let u : State = uncrashed_at place t in
    let q : SettledIn u = kept_uncrashed t place p i in
    let same : state_fits u ≡ state_fits t = fits_uncrashed t place p i in
    cases (running t place)
    (λ r.
    ap (λ (m : Moved). state_fits m.state) (heal_runs t place left r) ∙ fits_heal_from left (suc place) u q (omega arith)
    ∙ ap (λ (l : List Bool). stopped_test (first_stopped l (suc place) left) u and state_fits u) (flags_uncrashed t place)
    ∙ ap₂ (λ (x y : Bool). x and y) (stopped_uncrashed t place (first_stopped (flags_of t) (suc place) left)) same
    ∙ ap (λ (k : ℕ). stopped_test k t and state_fits t) (sym (first_runs (flags_of t) place left (running_is t place ∙ r))))
    (λ r.
    ap (λ (m : Moved). state_fits m.state) (heal_stopped t place left r)
    ∙ fits_restart u place q i (healing (suc place)) (le-leb (suc place) t.config.servers (omega arith))
    ∙ ap₂ (λ (x y : Bool). x and y) (restart_uncrashed t place place ∙ sym (stopped_here t place i)) same
    ∙ ap (λ (k : ℕ). stopped_test k t and state_fits t) (sym (first_stopped_lem (flags_of t) place left (running_is t place ∙ r))))

-- ---- the construction

-- the clients' first events, and then no open input: in either order
pub sends_idle : (n c : ℕ) (t : State) → with_phase (first_sends t c n) closed ≡ first_sends (with_phase t closed) c n
unfolding first_sends
sends_idle zero c t = refl
sends_idle (suc n) c t = sends_idle n (suc c) (push_event t t.now (event.ClientSend c))

-- after the last server
pub construct_last : (place : ℕ) (t : State) → length t.servers ≤ place → (construct_at place t).state ≡ first_sent (with_phase t closed)
unfolding construct_at construct_from first_sent
construct_last place t l =
    ap (λ (u : Bool). (pick u (start_server t place (construction (suc place))) (idle (first_sends t 0 (length t.clients)))).state) (le-ltb place (length t.servers) l)
    ∙ sends_idle (length t.clients) 0 t

-- before it
pub construct_next : (place : ℕ) (t : State) → place < length t.servers
    → construct_at place t ≡ start_at place (construction (suc place)) t
unfolding construct_at construct_from start_at
construct_next place t l =
    ap (λ (u : Bool). pick u (start_server t place (construction (suc place))) (idle (first_sends t 0 (length t.clients)))) (lt-ltb place (length t.servers) l)

room_closed : (n : ℕ) (t : State) → queue_room n (with_phase t closed) ≡ queue_room n t
unfolding queue_room
room_closed n t = refl

pub fits_construct : (place : ℕ) (t : State) → SettledIn t
    → state_fits (construct_at place t).state ≡ (construct_test place 0 t and state_fits t)
unfolding construct_test
fits_construct place t p =
    cases (ltb place t.config.servers)
    (λ e.
    let i : place < t.config.servers = ltb-true place t.config.servers e in
    ap (λ (m : Moved). state_fits m.state) (construct_next place t (omega (arith, p.servers.count)))
    ∙ fits_start t p place (construction (suc place)) i (le-leb (suc place) t.config.servers (omega arith))
    ∙ sym (true_and (state_fits t))
    ∙ ap (λ (u : Bool). pick u true (queue_room (0 + t.config.clients) t) and state_fits t) (sym e))
    (λ e.
    let l : t.config.servers ≤ place = ltb-false place t.config.servers e in
    ap state_fits (construct_last place t (omega (arith, p.servers.count))) ∙ fits_first_sent (with_phase t closed)
    ∙ ap₂ (λ (x y : Bool). x and y) (room_closed t.config.clients t) (closed_fits t p)
    ∙ ap (λ (n : ℕ). queue_room n t and state_fits t) (sym (zero-add t.config.clients))
    ∙ ap (λ (u : Bool). pick u true (queue_room (0 + t.config.clients) t) and state_fits t) (sym e))

-- ---- what is owed, asked of a state before a caller's changes

module _ {s : State} {more slot : ℕ} {runs : Bool} {t : State} (a : Agrees s more slot runs t) where
  stopped_agrees : (k : ℕ) → stopped_test k t ≡ stopped_test k s
  unfolding stopped_test
  stopped_agrees k =
      ap₂ (λ (F : Capacity) (u : Bool). pick (ltb k F.servers) u true) a.capacity
      (sym (restart_is t k) ∙ ap (λ (l : List Bool). get_or l k (can_rise (new_server 0))) a.rise ∙ restart_is s k)

  construct_agrees : (place : ℕ) → construct_test place 0 t ≡ construct_test place more s
  unfolding construct_test queue_room
  construct_agrees place =
      ap (λ (F : Capacity). pick (ltb place F.servers) true (leb (length t.queue + (0 + F.clients)) F.limits.events)) a.capacity
      ∙ ap (λ (n : ℕ). pick (ltb place s.config.servers) true (leb n s.limits.events))
      (let e : length t.queue + (0 + s.config.clients) ≡ length s.queue + (more + s.config.clients) = omega (arith, a.queue) in e)

  pub fits_heal : (place : ℕ) → state_fits (heal_at place t).state ≡ (heal_test place slot runs s and state_fits t)
  unfolding heal_at heal_test stopped_from
  fits_heal place =
      fits_heal_from (length t.servers - place) place t a.settled (ap (λ (n : ℕ). n - place) a.settled.servers.count)
      ∙ ap (λ (k : ℕ). stopped_test k t and state_fits t)
      (ap₂ (λ (l : List Bool) (n : ℕ). first_stopped l place (n - place)) a.flags (a.settled.servers.count ∙ ap (λ (F : Capacity). F.servers) a.capacity))
      ∙ ap (λ (u : Bool). u and state_fits t) (stopped_agrees (first_stopped (set (flags_of s) slot runs) place (s.config.servers - place)))

  -- an input closed behind the changes
  pub fits_close : (o : Owed) → state_fits (close_at o t).state ≡ (close_test o more slot runs s and state_fits t)
  unfolding close_at close_test idle_at construct_at heal_at
  fits_close nothing = fits_idle t a.settled ∙ sym (true_and (state_fits t))
  fits_close (construction place) = fits_construct place t a.settled ∙ ap (λ (u : Bool). u and state_fits t) (construct_agrees place)
  fits_close (healing place) = fits_heal place

-- a state behind changes of no server
pub agrees_none : {s t : State} {more slot : ℕ} {runs : Bool} → capacity_of t ≡ capacity_of s → SettledIn t
    → length t.queue ≡ length s.queue + more
    → t.servers ≡ s.servers → length s.servers ≤ slot → Agrees s more slot runs t
unfolding flags_of
agrees_none {s} {t} {more} {slot} {runs} c p q e l = record {
  capacity = c;
  settled = p;
  queue = q;
  rise = ap (map can_rise) e;
  flags =
      ap (map (λ v. is_some v.status)) e
      ∙ sym (set_behind (map (λ v. is_some v.status) s.servers) slot runs (let o : length (map (λ (v : Server). is_some v.status) s.servers) ≤ slot = omega (arith, length-map s.servers (λ (v : Server). is_some v.status)) in o));
}

-- behind a change of one, whose incarnation and generations stay
pub agrees_one : {s t : State} {more slot : ℕ} {runs : Bool} (f : Server → Server) → capacity_of t ≡ capacity_of s → SettledIn t
    → length t.queue ≡ length s.queue + more → t.servers ≡ modify slot f s.servers
    → ((v : Server) → can_rise (f v) ≡ can_rise v) → ((v : Server) → is_some (f v).status ≡ runs) → Agrees s more slot runs t
unfolding flags_of
agrees_one {s} {t} {more} {slot} {runs} f c p q e rise run = record {
  capacity = c;
  settled = p;
  queue = q;
  rise = ap (map can_rise) e ∙ map_kept can_rise f rise slot s.servers;
  flags = ap (map (λ v. is_some v.status)) e ∙ map_set (λ v. is_some v.status) f runs run slot s.servers;
}

-- a state that fits is settled
pub settled_fits : (t : State) → state_fits t ≡ true → SettledIn t
settled_fits t h = record { phase = fits_test t h 19; servers = servers_fit_lem t h }

-- and agrees with itself
pub agrees_self : (t : State) (runs : Bool) → SettledIn t → Agrees t 0 (length t.servers) runs t
agrees_self t runs p =
    agrees_none refl p (let e : length t.queue ≡ length t.queue + 0 = omega arith in e) refl (let l : length t.servers ≤ length t.servers = omega arith in l)

-- where the state after an input is closed fits, the one before does
pub before_close : (t : State) (o : Owed) → SettledIn t → state_fits (close_at o t).state ≡ true → state_fits t ≡ true
before_close t o p h = and_right _ _ (sym (fits_close (agrees_self t false p) o) ∙ h)

pub before_heal : (t : State) (place : ℕ) → SettledIn t → state_fits (heal_at place t).state ≡ true → state_fits t ≡ true
before_heal t place p h = and_right _ _ (sym (fits_heal (agrees_self t false p) place) ∙ h)
