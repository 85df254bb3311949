-- Made by tools/uniform from proofs.txt, not by hand: 8950aa5cad57183e
use Rattle.storage.proofs.WritesLaws.{replaced_is}
use borrow.Author.Rules.{rules}
use Rattle.storage.proofs.write.replaces.Goals as goal

pub returns : goal.returns
returns c = search (replaced_is, rules)
