-- Made by tools/uniform from proofs.txt, not by hand: 297505e01c62fc8c
use Rattle.api.specs.CalledLaws.{entry_called}
use borrow.Author.Rules.{rules}
use Rattle.api.proofs.reads.sim_read_entry.Goals as goal

pub gate-g-requires : goal.gate-g-requires
gate-g-requires c = search (entry_called, rules)

pub read_entry_in-requires : goal.read_entry_in-requires
read_entry_in-requires c = search (entry_called, rules)

pub returns : goal.returns
returns c = search (entry_called, rules)
