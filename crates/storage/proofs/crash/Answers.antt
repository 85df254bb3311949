-- Made by tools/uniform from proofs.txt, not by hand: 4cddbe1b428e41ca
use Rattle.storage.specs.StoresLaws.{crashed}
use Rattle.storage.specs.PartLaws.{rooms}
use borrow.Author.Rules.{rules}
use Rattle.storage.proofs.crash.Goals as goal

pub clear-requires : goal.clear-requires
clear-requires c = search (rooms, rules)

pub returns : goal.returns
returns c = search (crashed, rules)
