-- Made by tools/uniform from proofs.txt, not by hand: 59bb54b5dc1ad804
use Rattle.api.specs.CalledLaws.{applied_called}
use borrow.Author.Rules.{rules}
use Rattle.api.proofs.reads.sim_read_applied_entry.Goals as goal

pub gate-g-requires : goal.gate-g-requires
gate-g-requires c = search (applied_called, rules)

pub read_applied_entry_in-requires : goal.read_applied_entry_in-requires
read_applied_entry_in-requires c = search (applied_called, rules)

pub returns : goal.returns
returns c = search (applied_called, rules)
