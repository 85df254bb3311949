-- Made by tools/uniform from proofs.txt, not by hand: e539cb63a405a822
use Rattle.state_gate.specs.TableLaws.{ends, applied_ok}
use borrow.Author.Rules.{rules}
use Rattle.state_gate.proofs.tables.applied.Goals as goal

pub slice_bounds-load-count : goal.slice_bounds-load-count
slice_bounds-load-count c = search (ends, rules)

pub slice_bounds-load-start : goal.slice_bounds-load-start
slice_bounds-load-start c = search (ends, rules)

pub slice_bounds-load-end : goal.slice_bounds-load-end
slice_bounds-load-end c = search (ends, rules)

pub load-n-requires : goal.load-n-requires
load-n-requires c = search (ends, rules)

pub applied_at-a-requires : goal.applied_at-a-requires
applied_at-a-requires c = search (ends, rules)

pub overflow_mul-a : goal.overflow_mul-a
overflow_mul-a c = search (ends, rules)

pub clients_at-e-requires : goal.clients_at-e-requires
clients_at-e-requires c = search (ends, rules)

pub overflow_mul-e : goal.overflow_mul-e
overflow_mul-e c = search (ends, rules)

pub slice_bounds-check-count : goal.slice_bounds-check-count
slice_bounds-check-count c = search (ends, rules)

pub slice_bounds-check-start : goal.slice_bounds-check-start
slice_bounds-check-start c = search (ends, rules)

pub slice_bounds-check-end : goal.slice_bounds-check-end
slice_bounds-check-end c = search (ends, rules)

pub check-requires : goal.check-requires
check-requires c = search (ends, rules)

pub returns : goal.returns
returns c = applied_ok _ _ c.requires c.shared_slice_known-1.given _ _ _ _ c.load-n.ensures c.applied_at-a.ensures c.clients_at-e.ensures c.check.ensures
