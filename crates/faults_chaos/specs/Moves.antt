-- A schedule moves the generator by as many draws as it tells. Assumes nothing.
use Rattle.std.specs.Prelude.{◌≡◌, ltb, eqb, get_or, Option, None, Some, Ok, Err}
use Rattle.std.proofs.Math.Path.{refl, sym, ap, subst}
use Rattle.std.proofs.Common.{◌∙◌, add-zero}
use mathlib.Core.List.{List, [], ◌∷◌, ◌++◌}
use Prim.Native.Nat.{ℕ, zero, suc, ◌+◌, ◌-◌, ◌*◌, min}
use Rattle.std.proofs.Math.Dec.{leb}
use Rattle.std.proofs.Math.ListN.{length}
use Rattle.laws.specs.Bools.{pick, pick_both, ◌and◌}
use Rattle.units.specs.declared.NodeId.{NodeId}
use Rattle.units.specs.declared.SimTime.{SimTime}
use Rattle.rng.specs.Rng.{after}
use Rattle.rng.specs.Laws.{under_after, after_add}
use Rattle.rng.specs.declared.Rng.{Rng}
use Rattle.faults_chaos.specs.declared.Timed.{Timed}
use Rattle.faults_chaos.specs.declared.ChaosConfig.{ChaosConfig}
use Rattle.faults_chaos.specs.declared.Draws.{Draws}
use Rattle.faults_chaos.specs.Schedule.{draw, give, uniform, pick_server, pick_other, Groups, no_groups, deal, split, push, Faulting, partition, block_link, loss, crash_leader, slower, kinds, fault_of_kind, one_fault, Chaos, placed, generate, known_ids, times_in_range, chaos_schedule}

-- The generator after so many draws as are told.
pub record Moves {A : Type 0} (g : Rng) (d : Draws A) : Type 0 where
  pub moved : d.next ≡ after d.draws g

give_moves : {A : Type 0} (a : A) (g : Rng) → Moves g (give a g)
give_moves a g = record { moved = refl }

draw_moves : (g : Rng) (bound : ℕ) → Moves g (draw g bound)
draw_moves g bound = record { moved = under_after g bound }

-- draws after others
join_moves : {A B : Type 0} (g : Rng) (d : Draws A) (e : Draws B) → Moves g d → Moves d.next e
    → Moves g (record { result = e.result; draws = d.draws + e.draws; next = e.next })
join_moves g d e h k = record { moved = k.moved ∙ ap (after e.draws) h.moved ∙ sym (after_add d.draws e.draws g) }

-- something made of a result, with no draw more
made_moves : {A B : Type 0} (g : Rng) (d : Draws A) (e : Draws B) → e.draws ≡ d.draws + 0 → e.next ≡ d.next → Moves g d → Moves g e
made_moves g d e n m h = record { moved = m ∙ h.moved ∙ ap (λ (k : ℕ). after k g) (sym (add-zero d.draws) ∙ sym n) }

pub uniform_moves : (low high : ℕ) (g : Rng) → Moves g (uniform low high g)
unfolding uniform
uniform_moves low high g = made_moves g (draw g (high - low + 1)) (uniform low high g) refl refl (draw_moves g (high - low + 1))

pub pick_moves : (servers : List NodeId) (g : Rng) → Moves g (pick_server servers g)
unfolding pick_server
pick_moves servers g = made_moves g (draw g (length servers)) (pick_server servers g) refl refl (draw_moves g (length servers))

pub other_moves : (left : ℕ) (server : NodeId) (servers : List NodeId) (g : Rng) → Moves g (pick_other left server servers g)
unfolding pick_other
other_moves zero server servers g = give_moves None g
other_moves (suc left) server servers g =
    let d = pick_server servers g in
    let again = pick (eqb d.result.0 server.0) (pick_other left server servers) (give (Some d.result)) in
    join_moves g d (again d.next) (pick_moves servers g)
    (pick_both (λ (f : Rng → Draws (Option NodeId)). Moves d.next (f d.next)) (eqb d.result.0 server.0) (other_moves left server servers d.next) (give_moves (Some d.result) d.next))

deal_moves : (groups : Groups) (servers : List NodeId) (g : Rng) → Moves g (deal groups servers g)
unfolding deal
deal_moves groups [] g = give_moves groups g
deal_moves groups (s ∷ ss) g =
    let d = draw g 2 in
    join_moves g d (deal (push d.result s groups) ss d.next) (draw_moves g 2) (deal_moves (push d.result s groups) ss d.next)

pub split_moves : (servers : List NodeId) (g : Rng) → Moves g (split servers g)
unfolding split
split_moves servers g = made_moves g (deal no_groups servers g) (split servers g) refl refl (deal_moves no_groups servers g)

-- What holds of each element of a list and of the default holds at every place.
All : (Faulting → Type 0) → List Faulting → Type 0
All P [] = Unit {0}
All P (f ∷ fs) = P f × All P fs

all_at : (P : Faulting → Type 0) (d : Faulting) → P d → (fs : List Faulting) → All P fs → (i : ℕ) → P (get_or fs i d)
unfolding All
all_at P d p [] a i = p
all_at P d p (f ∷ fs) a zero = a.0
all_at P d p (f ∷ fs) a (suc i) = all_at P d p fs a.1 i

-- Every kind of fault, and one fault.
module _ (time until : SimTime) (server : NodeId) (servers : List NodeId) (g : Rng) where
  slower_moves : Moves g (slower time until g)
  unfolding slower
  slower_moves = made_moves g (draw g 2) (slower time until g) refl refl (draw_moves g 2)

  partition_moves : Moves g (partition time until servers g)
  unfolding partition
  partition_moves = made_moves g (split servers g) (partition time until servers g) refl refl (split_moves servers g)

  block_moves : Moves g (block_link time until server servers g)
  unfolding block_link
  block_moves = made_moves g (pick_other 64 server servers g) (block_link time until server servers g) refl refl (other_moves 64 server servers g)

  moving : Faulting → Type 0
  moving f = Moves g (f g)

  kinds_move : All moving (kinds time until server servers)
  unfolding All moving loss crash_leader
  kinds_move = (
    give_moves _ g,
    (
      give_moves _ g,
      (
        pick_both moving (ltb 1 (length servers)) partition_moves slower_moves,
        (
          pick_both moving (ltb 1 (length servers)) block_moves slower_moves,
          (made_moves g (draw g 3) (loss time until g) refl refl (draw_moves g 3), (give_moves _ g, (give_moves _ g, tt))),
        ),
      ),
    ),
  )

  kind_moves : (kind : ℕ) → Moves g (fault_of_kind time until server servers kind g)
  unfolding fault_of_kind moving
  kind_moves kind = all_at moving (slower time until) slower_moves (kinds time until server servers) kinds_move kind

pub fault_moves : (servers : List NodeId) (config : ChaosConfig) (time : SimTime) (g : Rng) → Moves g (one_fault servers config time g)
unfolding one_fault
fault_moves servers config time g =
    let u = uniform 100_000_000 config.max_duration.0 g in
    let p = pick_server servers u.next in
    let k = draw p.next 8 in
    let until : SimTime = record { 0 = min (time.0 + u.result) config.end.0 } in
    let f = fault_of_kind time until p.result servers k.result k.next in
    join_moves g u (record { result = f.result; draws = p.draws + (k.draws + f.draws); next = f.next }) (uniform_moves 100_000_000 config.max_duration.0 g)
    (join_moves u.next p (record { result = f.result; draws = k.draws + f.draws; next = f.next }) (pick_moves servers u.next)
    (join_moves p.next k f (draw_moves p.next 8) (kind_moves time until p.result servers k.next k.result)))

-- A schedule.
Moved : Rng → Chaos → Type 0
Moved g (Err refusal) = Unit {0}
Moved g (Ok schedule) = schedule.next ≡ after schedule.draws g

module _ (servers : List NodeId) (config : ChaosConfig) (room : ℕ) (g : Rng) where
  placed_moved : (schedule : List Timed) (o : Option (List Timed)) (more : List Timed → Chaos) → ((l : List Timed) → Moved g (more l)) → Moved g (placed servers config room schedule o more)
  unfolding Moved
  placed_moved schedule None more h = tt
  placed_moved schedule (Some entries) more h = pick_both (Moved g) (leb (length schedule + length entries) room) (h (schedule ++ entries)) tt

  generate_moved : (turns : ℕ) (time : SimTime) (schedule : List Timed) (draws : ℕ) (next : Rng) → next ≡ after draws g
      → Moved g (generate servers config room turns time schedule draws next)
  unfolding generate Moved
  generate_moved zero time schedule draws next e = tt
  generate_moved (suc turns) time schedule draws next e =
      let gap = uniform 0 (config.mean_gap.0 * 2) next in
      let start : SimTime = record { 0 = time.0 + gap.result } in
      let fault = one_fault servers config start gap.next in
      let e₁ : gap.next ≡ after (draws + gap.draws) g =
      (uniform_moves 0 (config.mean_gap.0 * 2) next).moved ∙ ap (after gap.draws) e ∙ sym (after_add draws gap.draws g) in
      let e₂ : fault.next ≡ after (draws + gap.draws + fault.draws) g =
      (fault_moves servers config start gap.next).moved ∙ ap (after fault.draws) e₁ ∙ sym (after_add (draws + gap.draws) fault.draws g) in
      pick_both (Moved g) (leb config.end.0 start.0)
      (pick_both (Moved g) (ltb (length schedule) room) e₁ tt)
      (placed_moved schedule fault.result (λ entries. generate servers config room turns start entries (draws + gap.draws + fault.draws) fault.next)
      (λ entries. generate_moved turns start entries (draws + gap.draws + fault.draws) fault.next e₂))

  chaos_moved : Moved g (chaos_schedule servers config room g)
  unfolding chaos_schedule Moved
  chaos_moved =
      pick_both (Moved g) (leb 1 (length servers) and leb (length servers) 8)
      (pick_both (Moved g) (known_ids servers) (pick_both (Moved g) (times_in_range config) (generate_moved (suc room) config.start [] 0 g refl) tt) tt)
      tt

  -- The generator after a schedule is the one that was lent, after the schedule's draws.
  pub schedule_moves : (schedule : Draws (List Timed)) → chaos_schedule servers config room g ≡ Ok schedule
      → schedule.next ≡ after schedule.draws g
  unfolding Moved
  schedule_moves schedule e = subst (Moved g) e chaos_moved
