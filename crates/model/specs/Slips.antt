-- What document 01 lists as slips to catch in a simulation, as claims about the definitions. Assumes nothing.
use Rattle.std.specs.Prelude.{◌≡◌, length, get_or, Some}
use Rattle.std.proofs.Math.Path.{refl, ap}
use Rattle.std.proofs.Common.{◌∙◌, arith}
use mathlib.Core.List.{List, [], ◌∷◌}
use Prim.Native.Nat.{ℕ, zero, suc, ◌+◌, ◌<◌}
use Rattle.laws.specs.Lists.{modify}
use Rattle.units.specs.declared.NodeId.{NodeId}
use Rattle.units.specs.declared.Duration.{Duration}
use Rattle.network.specs.declared.Route.TheVariants.{Delivered}
use Rattle.queue.specs.Queue.{push}
use Rattle.queue.specs.declared.Event.TheVariants as event
use Rattle.model.specs.State.{State, Server, Owed, server_at}
use Rattle.model.specs.Simulation.{later, start_server, stop_server, restart_server, push_routed}

-- what a change of one element leaves in every element
module _ {T A : Type 0} (part : T → A) (f : T → T) (kept : (x : T) → part (f x) ≡ part x) (d : T) where
  modify_keeps : (k i : ℕ) (xs : List T) → part (get_or (modify k f xs) i d) ≡ part (get_or xs i d)
  unfolding modify
  modify_keeps k i [] = refl
  modify_keeps zero zero (x ∷ xs) = kept x
  modify_keeps zero (suc i) (x ∷ xs) = refl
  modify_keeps (suc k) zero (x ∷ xs) = refl
  modify_keeps (suc k) (suc i) (x ∷ xs) = modify_keeps k i xs

-- the element that is changed
modify_here : {T : Type 0} (f : T → T) (d : T) (k : ℕ) (xs : List T) → k < length xs → get_or (modify k f xs) k d ≡ f (get_or xs k d)
unfolding modify
modify_here f d k [] h = absurd (omega arith)
modify_here f d zero (x ∷ xs) h = refl
modify_here f d (suc k) (x ∷ xs) h = modify_here f d k xs (omega arith)

module _ (s : State) (slot : ℕ) where
  -- A stop leaves every timer generation as it was.
  pub stop_keeps_election : (i : ℕ) → (server_at (stop_server s slot) i).election ≡ (server_at s i).election
  unfolding stop_server
  stop_keeps_election i = modify_keeps (λ (v : Server). v.election) _ (λ v. refl) _ slot i s.servers

  pub stop_keeps_heartbeat : (i : ℕ) → (server_at (stop_server s slot) i).heartbeat ≡ (server_at s i).heartbeat
  unfolding stop_server
  stop_keeps_heartbeat i = modify_keeps (λ (v : Server). v.heartbeat) _ (λ v. refl) _ slot i s.servers

  module _ (h : slot < length s.servers) where
    -- A stop forgets the pending keys, so that none is read after a cut.
    pub stop_forgets_keys : (server_at (stop_server s slot) slot).pending ≡ []
    unfolding stop_server
    stop_forgets_keys = ap (λ (v : Server). v.pending) (modify_here _ _ slot s.servers h)

    -- A restart raises both timer generations by one.
    pub restart_raises_election : (owed : Owed) → (server_at (restart_server s slot owed).state slot).election ≡ (server_at s slot).election + 1
    unfolding restart_server start_server
    restart_raises_election owed = ap (λ (v : Server). v.election) (modify_here _ _ slot s.servers h)

    pub restart_raises_heartbeat : (owed : Owed) → (server_at (restart_server s slot owed).state slot).heartbeat ≡ (server_at s slot).heartbeat + 1
    unfolding restart_server start_server
    restart_raises_heartbeat owed = ap (λ (v : Server). v.heartbeat) (modify_here _ _ slot s.servers h)

-- A second copy is pushed before the original.
pub copy_before_original : (s : State) (from to : NodeId) (entries : ℕ) (message : List ℕ) (delay second : Duration)
    → (push_routed s from to entries message (Delivered delay (Some second))).queue
    ≡ push (push s.queue (later s.now second) (event.Deliver from to entries) message) (later s.now delay) (event.Deliver from to entries) message
copy_before_original s from to entries message delay second = refl
