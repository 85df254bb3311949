-- Made by tools/uniform from proofs.txt, not by hand: 0f3541d5c0233f4f
use Rattle.state_checks.specs.TableLaws.{applied_stored, applied_inside, applied_room}
use borrow.Author.Rules.{rules}
use Rattle.state_checks.proofs.append_payload.Goals as goal

pub applied_at-at-requires : goal.applied_at-at-requires
applied_at-at-requires c = search (applied_inside, applied_room, rules)

pub applied_words-w-requires : goal.applied_words-w-requires
applied_words-w-requires c = search (applied_inside, applied_room, rules)

pub overflow_mul-a : goal.overflow_mul-a
overflow_mul-a c = search (applied_inside, applied_room, rules)

pub overflow_add-e : goal.overflow_add-e
overflow_add-e c = search (applied_inside, applied_room, rules)

pub overflow_mul-e : goal.overflow_mul-e
overflow_mul-e c = search (applied_inside, applied_room, rules)

pub slice_bounds-push-count : goal.slice_bounds-push-count
slice_bounds-push-count c = search (applied_inside, applied_room, rules)

pub slice_bounds-push-start : goal.slice_bounds-push-start
slice_bounds-push-start c = search (applied_inside, applied_room, rules)

pub slice_bounds-push-end : goal.slice_bounds-push-end
slice_bounds-push-end c = search (applied_inside, applied_room, rules)

pub push-requires : goal.push-requires
push-requires c = search (applied_inside, applied_room, rules)

pub overflow_add-n : goal.overflow_add-n
overflow_add-n c = search (applied_inside, applied_room, rules)

pub store-requires : goal.store-requires
store-requires c = search (applied_inside, applied_room, rules)

pub returns : goal.returns
returns c = applied_stored _ _ _ _ _ _ _ _ c.requires.inside c.applied_at-at.ensures c.applied_words-w.ensures c.push.ensures c.store.ensures
