-- Made by tools/uniform from proofs.txt, not by hand: c8dde837d6498ca5
use Rattle.words.specs.Numbers.{get_64}
use borrow.Author.Rules.{rules}
use Rattle.words.proofs.get64.Goals as goal

pub returns : goal.returns
returns c = search (get_64, rules)
