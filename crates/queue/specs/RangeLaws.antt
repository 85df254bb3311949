-- What the proofs of range.rt cite. Assumes nothing.
use Rattle.std.specs.Prelude.{◌≡◌, Bool, ◌&&◌, ℕ, ◌^◌, leb, ltb}
use Rattle.std.proofs.Math.Path.{sym, ap}
use Rattle.std.proofs.Common.{◌∙◌}
use Rattle.laws.specs.Bools.{◌and◌, and_assoc}
use Rattle.laws.proofs.BoolLaws.{code_and}
use Rattle.units.specs.declared.NodeId.{NodeId}
use Rattle.units.specs.declared.LogIndex.{LogIndex}
use Rattle.faults.specs.Fault.{in_cluster}
use Rattle.queue.specs.declared.Event.{Event}
use Rattle.queue.specs.declared.Event.TheVariants as event
use Rattle.queue.specs.Range.{in_range}

-- ---- the arms of in_range

module _ (S C L : ℕ) (e : Event) where
  pub range_arm : (g : Event) (t : Bool) → e ≡ g → t ≡ in_range S C L g → t ≡ in_range S C L e
  range_arm g t p q = q ∙ ap (in_range S C L) (sym p)

  pub range_deliver : (from to : NodeId) (entries : ℕ) (t u : Bool) → e ≡ event.Deliver from to entries → t ≡ in_cluster S from → u ≡ in_cluster S to → ((t && u) && ltb entries (2 ^ 32)) ≡ in_range S C L e
  range_deliver from to entries t u p q r = range_arm (event.Deliver from to entries) _ p (code_and _ _ ∙ ap (λ (b : Bool). b and ltb entries (2 ^ 32)) (code_and t u) ∙ and_assoc t u _ ∙ rw (q, r))

  pub range_arrive : (slot client seq attempt : ℕ) → e ≡ event.ClientArrive slot client seq attempt → (ltb slot S && ltb client C) ≡ in_range S C L e
  range_arrive slot client seq attempt p = range_arm (event.ClientArrive slot client seq attempt) _ p (code_and _ _)

  pub range_reply : (client seq : ℕ) (index : LogIndex) → e ≡ event.ClientReply client seq index → (ltb client C && leb index.0 L) ≡ in_range S C L e
  range_reply client seq index p = range_arm (event.ClientReply client seq index) _ p (code_and _ _)

pub ruleset ranges = (range_deliver, range_arrive, range_reply)
