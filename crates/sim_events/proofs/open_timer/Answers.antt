-- Made by tools/uniform from proofs.txt, not by hand: ac68c36d1fcd9f6e
use Rattle.sim_events.specs.Laws.{timer_opened}
use borrow.Author.Rules.{rules}
use Rattle.sim_events.proofs.open_timer.Goals as goal

pub opened_input-input-requires : goal.opened_input-input-requires
opened_input-input-requires c = search (timer_opened, rules)

pub set_open-requires : goal.set_open-requires
set_open-requires c = search (timer_opened, rules)

pub returns : goal.returns
returns c = search (timer_opened, rules)
