-- Made by tools/uniform from proofs.txt, not by hand: b190f302bfef369d
use Rattle.sim_events.specs.Laws.{proposal_opened}
use borrow.Author.Rules.{rules}
use Rattle.sim_events.proofs.open_proposal.Goals as goal

pub opened_input-input-requires : goal.opened_input-input-requires
opened_input-input-requires c = search (proposal_opened, rules)

pub set_open-requires : goal.set_open-requires
set_open-requires c = search (proposal_opened, rules)

pub returns : goal.returns
returns c = search (proposal_opened, rules)
