-- Made by tools/uniform from proofs.txt, not by hand: 7d6dfbb5a3ed5b5b
use Rattle.words.specs.Lift.{load_w}
use borrow.Author.Rules.{rules}
use Rattle.words.proofs.load.Goals as goal

pub returns : goal.returns
returns c = search (load_w, rules)
