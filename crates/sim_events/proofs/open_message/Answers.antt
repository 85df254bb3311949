-- Made by tools/uniform from proofs.txt, not by hand: 0b7f05412e702191
use Rattle.sim_events.specs.Laws.{message_opened}
use borrow.Author.Rules.{rules}
use Rattle.sim_events.proofs.open_message.Goals as goal

pub opened_input-input-requires : goal.opened_input-input-requires
opened_input-input-requires c = search (message_opened, rules)

pub set_open-requires : goal.set_open-requires
set_open-requires c = search (message_opened, rules)

pub returns : goal.returns
returns c = search (message_opened, rules)
