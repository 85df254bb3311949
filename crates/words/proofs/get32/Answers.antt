-- Made by tools/uniform from proofs.txt, not by hand: 68a009568f9493de
use Rattle.words.specs.Numbers.{get_32}
use borrow.Author.Rules.{rules}
use Rattle.words.proofs.get32.Goals as goal

pub returns : goal.returns
returns c = search (get_32, rules)
