-- Made by tools/uniform from proofs.txt, not by hand: 54a83c790793369d
use Rattle.state_gate.specs.TableLaws.{ends, clients_ok}
use borrow.Author.Rules.{rules}
use Rattle.state_gate.proofs.tables.clients.Goals as goal

pub clients_at-a-requires : goal.clients_at-a-requires
clients_at-a-requires c = search (ends, rules)

pub overflow_mul-a : goal.overflow_mul-a
overflow_mul-a c = search (ends, rules)

pub whole_words-e-requires : goal.whole_words-e-requires
whole_words-e-requires c = search (ends, rules)

pub overflow_mul-e : goal.overflow_mul-e
overflow_mul-e c = search (ends, rules)

pub slice_bounds-check-count : goal.slice_bounds-check-count
slice_bounds-check-count c = search (ends, rules)

pub slice_bounds-check-start : goal.slice_bounds-check-start
slice_bounds-check-start c = search (ends, rules)

pub slice_bounds-check-end : goal.slice_bounds-check-end
slice_bounds-check-end c = search (ends, rules)

pub check-requires : goal.check-requires
check-requires c = search (ends, rules)

pub returns : goal.returns
returns c = clients_ok _ _ c.requires c.shared_slice_known-1.given _ _ _ c.clients_at-a.ensures c.whole_words-e.ensures c.check.ensures
