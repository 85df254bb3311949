-- What callers cite: a server with some fields another, and question 10 of each change. Assumes nothing.
use Rattle.std.specs.Prelude.{◌≡◌, Bool, ℕ, ◌<◌, length, get_or, Option}
use Rattle.std.proofs.Math.Path.{refl, sym, ap, ap₂}
use Rattle.std.proofs.Common.{◌∙◌, arith, le-leb, leb-true}
use Rattle.std.proofs.Math.Bool.{true}
use mathlib.Core.List.{List, []}
use Rattle.std.proofs.Math.Dec.{leb}
use Rattle.laws.specs.Bools.{◌and◌, every, cases, and_left, and_true}
use Rattle.laws.proofs.BoolLaws.{allb_in, and_right, and_both, true_and}
use Rattle.laws.specs.Decides.{false_true}
use Rattle.laws.specs.Order.{pairs, insert_by, remove_by, chain}
use Rattle.laws.specs.OrderLaws.{remove_most}
use Rattle.laws.proofs.OrderLaws.{every_insert, every_remove}
use Rattle.units.specs.declared.Term.{Term}
use Rattle.client.specs.Key.{key_of}
use Rattle.client.specs.declared.ClientKey.{ClientKey}
use Rattle.protocol.specs.declared.Status.{Status}
use Rattle.layout.specs.Keys.{keys}
use Rattle.layout.specs.Sorted.{rising_insert, rising_remove}
use Rattle.storage.specs.Storage.{Storage}
use Rattle.model.specs.State.{State, Server, server_at}
use Rattle.model.specs.Fields.{with_pending}
use Rattle.model.specs.Simulation.{on_server}
use Rattle.model.specs.Fits.{state_fits, server_fits, server_tests, table_fits}
use Rattle.state.specs.declared.ServerState.{ServerState}
use Rattle.state.specs.Server.{state_of_server}
use Rattle.state.specs.FitsBy.{fits_server_one}
use Rattle.state.specs.Lens.{server_same, ServersFit, server_fine, fits_on_server, servers_kept}
use Rattle.state_server.specs.Servers.{with_state, server_state_set, state_in_range, pending_room, key_in_range, registered, forgotten, pending_cleared}
use Rattle.state_server.specs.Laws.{insert_tested}

-- ---- a server with some fields another

-- the state of a server with v's storage and pending keys, put into v
pub state_of_other : (u v : Server) → u.storage ≡ v.storage → u.pending ≡ v.pending → with_state (state_of_server u) v ≡ u
state_of_other u v d k =
    ap₂ (λ (x : Storage) (ks : List ClientKey). with_parts u.status x ks u.leading) (sym d) (sym k)
  where
    with_parts : Option Status → Storage → List ClientKey → Option Term → Server
    with_parts x y ks t = record {
      status = x;
      storage = y;
      incarnation = u.incarnation;
      election = u.election;
      heartbeat = u.heartbeat;
      crash_on_next_input = u.crash_on_next_input;
      next_apply = u.next_apply;
      pending = ks;
      leading = t;
    }

-- a server changed in any of its other fields: what is set is its state after the change
pub server_state_set_lem : (s : State) (k : ℕ) (g : Server → Server) → (g (server_at s k)).storage ≡ (server_at s k).storage → (g (server_at s k)).pending ≡ (server_at s k).pending
    → server_state_set k (state_of_server (g (server_at s k))) s ≡ on_server s k g
unfolding server_state_set
server_state_set_lem s k g d e = server_same s k (with_state (state_of_server (g (server_at s k)))) g (state_of_other (g (server_at s k)) (server_at s k) d e)

-- ---- question 10 of each change, and that the servers fit after it

module _ (s : State) (k : ℕ) (h : ServersFit s) (i : k < s.config.servers) where
  abbrev v : Server
  v = server_at s k

  test : (j : ℕ) → get_or (server_tests s.config s.limits v) j true ≡ true
  test = allb_in (server_tests s.config s.limits v) (server_fine s k h i)

  -- a server in another state is in range where that state is
  in_state : (x : ServerState) → server_fits s.config s.limits (with_state x v) ≡ state_in_range s.config s.limits x
  unfolding state_in_range ◌and◌
  in_state x = rw (test 1, test 7)

  pub fits_server_state : (x : ServerState) → state_fits (server_state_set k x s) ≡ (state_in_range s.config s.limits x and state_fits s)
  unfolding server_state_set
  fits_server_state x = fits_on_server s k h i (with_state x) ∙ ap (λ (t : Bool). t and state_fits s) (in_state x)

  pub kept_server_state : (x : ServerState) → state_in_range s.config s.limits x ≡ true → ServersFit (server_state_set k x s)
  unfolding server_state_set
  kept_server_state x t = servers_kept s k h i (with_state x) (in_state x ∙ t)

  -- a server with other pending keys is in range where they are
  in_keys : (ks : List ClientKey) → server_fits s.config s.limits (with_pending v ks) ≡ table_fits (keys s.config.clients) s.limits.history ks
  in_keys ks = fits_server_one s.config s.limits v (with_pending v ks) 7 (table_fits (keys s.config.clients) s.limits.history ks) (omega arith) (server_fine s k h i) refl

  -- a key registered: room for it, and its range
  in_registered : (key : ClientKey) → server_fits s.config s.limits (with_pending v (insert_by pairs key_of key v.pending)) ≡ (pending_room k key s and key_in_range s.config.clients key)
  unfolding pending_room key_in_range
  in_registered key =
      let t = keys s.config.clients in
      let x : List ClientKey = insert_by pairs key_of key v.pending in
      let g : every t.row.good v.pending ≡ true = and_left _ _ (and_right _ _ (test 7)) in
      let e : every t.row.good x ≡ t.row.good key =
      cases (t.row.good key) (λ y. every_insert pairs key_of t.row.good key v.pending y g ∙ sym y)
      (λ y. cases (every t.row.good x) (λ z. absurd (false_true (sym y ∙ insert_tested t.row.good key v.pending z))) (λ z. z ∙ sym y)) in
      let r : t.rule x ≡ true = rising_insert pairs key_of key v.pending (and_right _ _ (and_right _ _ (test 7))) in
      in_keys x ∙ ap₂ (λ (a c : Bool). leb (length x) s.limits.history and (a and c)) e r ∙ ap (λ (a : Bool). leb (length x) s.limits.history and a) (and_true (t.row.good key))

  pub fits_registered : (key : ClientKey) → state_fits (registered k key s) ≡ ((pending_room k key s and key_in_range s.config.clients key) and state_fits s)
  unfolding registered
  fits_registered key = fits_on_server s k h i (λ v. with_pending v (insert_by pairs key_of key v.pending)) ∙ ap (λ (t : Bool). t and state_fits s) (in_registered key)

  pub kept_registered : (key : ClientKey) → (pending_room k key s and key_in_range s.config.clients key) ≡ true → ServersFit (registered k key s)
  unfolding registered
  kept_registered key t = servers_kept s k h i (λ v. with_pending v (insert_by pairs key_of key v.pending)) (in_registered key ∙ t)

  -- a key taken out
  in_forgotten : (key : ClientKey) → server_fits s.config s.limits (with_pending v (remove_by pairs key_of (key_of key) v.pending)) ≡ true
  in_forgotten key =
      let t = keys s.config.clients in
      let x : List ClientKey = remove_by pairs key_of (key_of key) v.pending in
      in_keys x
      ∙ and_both _ _ (le-leb (length x) s.limits.history (omega (arith, remove_most pairs key_of (key_of key) v.pending, leb-true (length v.pending) s.limits.history (and_left _ _ (test 7)))))
      (and_both _ _ (every_remove pairs key_of t.row.good (key_of key) v.pending (and_left _ _ (and_right _ _ (test 7)))) (rising_remove pairs key_of (key_of key) v.pending (and_right _ _ (and_right _ _ (test 7)))))

  pub fits_forgotten : (key : ClientKey) → state_fits (forgotten k key s) ≡ state_fits s
  unfolding forgotten
  fits_forgotten key = fits_on_server s k h i (λ v. with_pending v (remove_by pairs key_of (key_of key) v.pending)) ∙ ap (λ (t : Bool). t and state_fits s) (in_forgotten key) ∙ true_and (state_fits s)

  pub kept_forgotten : (key : ClientKey) → ServersFit (forgotten k key s)
  unfolding forgotten
  kept_forgotten key = servers_kept s k h i (λ v. with_pending v (remove_by pairs key_of (key_of key) v.pending)) (in_forgotten key)

  -- all keys taken out
  in_cleared : server_fits s.config s.limits (with_pending v []) ≡ true
  unfolding chain
  in_cleared = in_keys [] ∙ and_both _ _ (le-leb 0 s.limits.history (omega arith)) (and_both _ _ refl refl)

  pub fits_pending_cleared : state_fits (pending_cleared k s) ≡ state_fits s
  unfolding pending_cleared
  fits_pending_cleared = fits_on_server s k h i (λ v. with_pending v []) ∙ ap (λ (t : Bool). t and state_fits s) in_cleared ∙ true_and (state_fits s)

  pub kept_pending_cleared : ServersFit (pending_cleared k s)
  unfolding pending_cleared
  kept_pending_cleared = servers_kept s k h i (λ v. with_pending v []) in_cleared
