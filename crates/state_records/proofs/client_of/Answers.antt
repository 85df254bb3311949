-- Made by tools/uniform from proofs.txt, not by hand: 88a450c11ef345d8
use Rattle.state_records.specs.ClientRows.{client_read_lem, clients_end, clients_within}
use borrow.Author.Rules.{rules}
use Rattle.state_records.proofs.client_of.Goals as goal

pub clients_at-at-requires : goal.clients_at-at-requires
clients_at-at-requires c = search (clients_end, clients_within, rules)

pub overflow_mul-a : goal.overflow_mul-a
overflow_mul-a c = search (clients_end, clients_within, rules)

pub overflow_mul-e : goal.overflow_mul-e
overflow_mul-e c = search (clients_end, clients_within, rules)

pub overflow_add-e : goal.overflow_add-e
overflow_add-e c = search (clients_end, clients_within, rules)

pub overflow_mul-e-2 : goal.overflow_mul-e-2
overflow_mul-e-2 c = search (clients_end, clients_within, rules)

pub slice_bounds-read-count : goal.slice_bounds-read-count
slice_bounds-read-count c = search (clients_end, clients_within, rules)

pub slice_bounds-read-start : goal.slice_bounds-read-start
slice_bounds-read-start c = search (clients_end, clients_within, rules)

pub slice_bounds-read-end : goal.slice_bounds-read-end
slice_bounds-read-end c = search (clients_end, clients_within, rules)

pub read-requires : goal.read-requires
read-requires c = search (clients_end, clients_within, rules)

pub returns : goal.returns
returns c = client_read_lem _ _ _ c.clients_at-at.ensures _ _ c.requires.c_lt_clients c.read.ensures
