-- Made by tools/uniform from proofs.txt, not by hand: 17f9e2b38c15e721
use Rattle.state_records.specs.ClientRows.{client_put, clients_end, clients_within}
use borrow.Author.Rules.{rules}
use Rattle.state_records.proofs.set_client.Goals as goal

pub clients_at-at-requires : goal.clients_at-at-requires
clients_at-at-requires c = search (clients_end, clients_within, rules)

pub overflow_mul-a : goal.overflow_mul-a
overflow_mul-a c = search (clients_end, clients_within, rules)

pub overflow_mul-e : goal.overflow_mul-e
overflow_mul-e c = search (clients_end, clients_within, rules)

pub overflow_add-e : goal.overflow_add-e
overflow_add-e c = search (clients_end, clients_within, rules)

pub overflow_mul-e-2 : goal.overflow_mul-e-2
overflow_mul-e-2 c = search (clients_end, clients_within, rules)

pub slice_bounds-write-count : goal.slice_bounds-write-count
slice_bounds-write-count c = search (clients_end, clients_within, rules)

pub slice_bounds-write-start : goal.slice_bounds-write-start
slice_bounds-write-start c = search (clients_end, clients_within, rules)

pub slice_bounds-write-end : goal.slice_bounds-write-end
slice_bounds-write-end c = search (clients_end, clients_within, rules)

pub write-requires : goal.write-requires
write-requires c = search (clients_end, clients_within, rules)

pub returns : goal.returns
returns c = client_put _ _ _ c.clients_at-at.ensures _ _ _ c.requires.c_lt_clients c.write.ensures
