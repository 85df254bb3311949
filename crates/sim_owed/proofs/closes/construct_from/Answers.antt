-- Made by tools/uniform from proofs.txt, not by hand: 35098c00e54945b2
use Rattle.state.specs.Exits.{inside_after}
use Rattle.sim_owed.specs.CloseLaws.{construct_goes, construct_ends}
use borrow.Author.Rules.{rules}
use Rattle.sim_owed.proofs.closes.construct_from.Goals as goal

pub overflow_add-place : goal.overflow_add-place
overflow_add-place c = search (inside_after, construct_goes, construct_ends, rules)

pub start_server-requires : goal.start_server-requires
start_server-requires c = search (inside_after, construct_goes, construct_ends, rules)

pub returns-then-place-f : goal.returns-then-place-f
returns-then-place-f c = search (inside_after, construct_goes, construct_ends, rules)

pub close_phase-none-requires : goal.close_phase-none-requires
close_phase-none-requires c = search (inside_after, construct_goes, construct_ends, rules)

pub push_first_sends-requires : goal.push_first_sends-requires
push_first_sends-requires c = search (inside_after, construct_goes, construct_ends, rules)

pub returns : goal.returns
returns c = search (inside_after, construct_goes, construct_ends, rules)
