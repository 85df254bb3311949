-- Made by tools/uniform from proofs.txt, not by hand: 201a7e21488c55d5
use Rattle.words.specs.Zero.{ored}
use borrow.Author.Rules.{rules}
use Rattle.words.proofs.none_set.Goals as goal

pub returns : goal.returns
returns c = search (ored, rules)
