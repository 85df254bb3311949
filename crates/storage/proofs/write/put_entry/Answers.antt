-- Made by tools/uniform from proofs.txt, not by hand: e9c7759a02a5ec6e
use Rattle.storage.proofs.WritesLaws.{makings}
use borrow.Author.Rules.{rules}
use Rattle.storage.proofs.write.put_entry.Goals as goal

pub push_put-requires : goal.push_put-requires
push_put-requires c = search (makings, rules)

pub returns : goal.returns
returns c = search (makings, rules)
