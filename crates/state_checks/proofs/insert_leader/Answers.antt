-- Made by tools/uniform from proofs.txt, not by hand: f165495336a0e874
use Rattle.state_checks.specs.LeaderLaws.{leader_stored, leaders_inside}
use borrow.Author.Rules.{rules}
use Rattle.state_checks.proofs.insert_leader.Goals as goal

pub leaders_at-at-requires : goal.leaders_at-at-requires
leaders_at-at-requires c = search (leader_stored, leaders_inside, rules)

pub overflow_mul-a : goal.overflow_mul-a
overflow_mul-a c = search (leader_stored, leaders_inside, rules)

pub overflow_mul-e : goal.overflow_mul-e
overflow_mul-e c = search (leader_stored, leaders_inside, rules)

pub overflow_add-e : goal.overflow_add-e
overflow_add-e c = search (leader_stored, leaders_inside, rules)

pub overflow_mul-e-2 : goal.overflow_mul-e-2
overflow_mul-e-2 c = search (leader_stored, leaders_inside, rules)

pub slice_bounds-insert-count : goal.slice_bounds-insert-count
slice_bounds-insert-count c = search (leader_stored, leaders_inside, rules)

pub slice_bounds-insert-start : goal.slice_bounds-insert-start
slice_bounds-insert-start c = search (leader_stored, leaders_inside, rules)

pub slice_bounds-insert-end : goal.slice_bounds-insert-end
slice_bounds-insert-end c = search (leader_stored, leaders_inside, rules)

pub insert-requires : goal.insert-requires
insert-requires c = search (leader_stored, leaders_inside, rules)

pub overflow_add-n : goal.overflow_add-n
overflow_add-n c = search (leader_stored, leaders_inside, rules)

pub store-requires : goal.store-requires
store-requires c = search (leader_stored, leaders_inside, rules)

pub returns : goal.returns
returns c = leader_stored _ _ _ _ _ _ _ _ c.requires.inside c.leaders_at-at.ensures c.insert.ensures c.store.ensures
