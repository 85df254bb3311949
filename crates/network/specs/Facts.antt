-- Facts of the definitions: the fate of a message, where its link is blocked, where it is lost, and where it is delivered. Assumes nothing.
use Rattle.std.specs.Prelude.{◌≡◌, true, false, ℕ, get_or}
use Rattle.std.proofs.Common.{◌∙◌}
use Rattle.units.specs.declared.NodeId.{NodeId}
use Rattle.network.specs.declared.Network.{Network}
use Rattle.network.specs.declared.Route.TheVariants.{Dropped}
use Rattle.network.specs.declared.Routed.{Routed}
use Rattle.network.specs.declared.Chance.{Chance}
use Rattle.network.specs.Network.{chance, route, delivered, link}

module _ (n : Network) (from to : NodeId) where
  pub route_blocked : (at : ℕ) → at ≡ link from to → get_or n.blocked at false ≡ true
      → record { route = Dropped; draws = 0; network = n } ≡ route n from to
  unfolding route
  route_blocked at ea h = let h' = rw ea at h in simp h'

  module _ (at : ℕ) (t : Chance) (ea : at ≡ link from to) (h : get_or n.blocked at false ≡ false) (et : t ≡ chance n n.loss_ppm) where
    pub route_lost : t.happens ≡ true → record { route = Dropped; draws = t.draws; network = t.network } ≡ route n from to
    unfolding route
    route_lost k =
        let h' = rw ea at h in
        let k' = rw et at k in
        rw et (simp (h', k'))

    pub route_delivered : (r : Routed) → t.happens ≡ false → r ≡ delivered t.network t.draws → r ≡ route n from to
    unfolding route
    route_delivered r k e =
        let h' = rw ea at h in
        let k' = rw et at k in
        e ∙ rw et (simp (h', k'))
