-- Made by tools/uniform from proofs.txt, not by hand: 363e9e112d8afaf7
use Rattle.state_header.specs.Laws.{events_put}
use borrow.Author.Rules.{rules}
use Rattle.state_header.proofs.set_events.Goals as goal

pub returns : goal.returns
returns c = search (events_put, rules)
