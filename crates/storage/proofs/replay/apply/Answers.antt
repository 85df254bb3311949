-- Made by tools/uniform from proofs.txt, not by hand: 089b71ab6e81078e
use Rattle.storage.specs.ReplayLaws.{applies}
use borrow.Author.Rules.{rules}
use Rattle.storage.proofs.replay.apply.Goals as goal

pub put_waiting-requires : goal.put_waiting-requires
put_waiting-requires c = search (applies, rules)

pub returns-in-HardState : goal.returns-in-HardState
returns-in-HardState c = search (applies, rules)

pub returns-in-Put : goal.returns-in-Put
returns-in-Put c = search (applies, rules)

pub returns-in-Truncate : goal.returns-in-Truncate
returns-in-Truncate c = search (applies, rules)
