-- Made by tools/uniform from proofs.txt, not by hand: eba388cd75d7dd89
use Rattle.state_gate.specs.TableLaws.{ends, servers_long, servers_ok_lem}
use borrow.Author.Rules.{rules}
use Rattle.state_gate.proofs.tables.servers.Goals as goal

pub queue_at-e-requires : goal.queue_at-e-requires
queue_at-e-requires c = search (ends, servers_long, rules)

pub overflow_mul-e : goal.overflow_mul-e
overflow_mul-e c = search (ends, servers_long, rules)

pub slice_bounds-blocks-count : goal.slice_bounds-blocks-count
slice_bounds-blocks-count c = search (ends, servers_long, rules)

pub slice_bounds-blocks-start : goal.slice_bounds-blocks-start
slice_bounds-blocks-start c = search (ends, servers_long, rules)

pub slice_bounds-blocks-end : goal.slice_bounds-blocks-end
slice_bounds-blocks-end c = search (ends, servers_long, rules)

pub blocks-requires : goal.blocks-requires
blocks-requires c = search (ends, servers_long, rules)

pub returns : goal.returns
returns c = servers_ok_lem _ _ c.requires _ _ c.queue_at-e.ensures c.blocks-2.ensures
