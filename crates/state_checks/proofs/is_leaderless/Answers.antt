-- Made by tools/uniform from proofs.txt, not by hand: 474b457cb11d4d66
use Rattle.state_checks.specs.LeaderLaws.{leaderless_read, leaders_inside}
use borrow.Author.Rules.{rules}
use Rattle.state_checks.proofs.is_leaderless.Goals as goal

pub leaders_at-at-requires : goal.leaders_at-at-requires
leaders_at-at-requires c = search (leaderless_read, leaders_inside, rules)

pub overflow_mul-a : goal.overflow_mul-a
overflow_mul-a c = search (leaderless_read, leaders_inside, rules)

pub overflow_mul-e : goal.overflow_mul-e
overflow_mul-e c = search (leaderless_read, leaders_inside, rules)

pub overflow_add-e : goal.overflow_add-e
overflow_add-e c = search (leaderless_read, leaders_inside, rules)

pub overflow_mul-e-2 : goal.overflow_mul-e-2
overflow_mul-e-2 c = search (leaderless_read, leaders_inside, rules)

pub slice_bounds-ask-count : goal.slice_bounds-ask-count
slice_bounds-ask-count c = search (leaderless_read, leaders_inside, rules)

pub slice_bounds-ask-start : goal.slice_bounds-ask-start
slice_bounds-ask-start c = search (leaderless_read, leaders_inside, rules)

pub slice_bounds-ask-end : goal.slice_bounds-ask-end
slice_bounds-ask-end c = search (leaderless_read, leaders_inside, rules)

pub ask-requires : goal.ask-requires
ask-requires c = search (leaderless_read, leaders_inside, rules)

pub is_new-requires : goal.is_new-requires
is_new-requires c = search (leaderless_read, leaders_inside, rules)

pub returns : goal.returns
returns c = leaderless_read _ _ _ _ _ _ _ _ (search rules) c.leaders_at-at.ensures c.ask.ensures c.is_new.ensures
