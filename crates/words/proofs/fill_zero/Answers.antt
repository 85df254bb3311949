-- Made by tools/uniform from proofs.txt, not by hand: 1f65ae692c7b6c04
use Rattle.words.specs.Sets.{filled}
use borrow.Author.Rules.{rules}
use Rattle.words.proofs.fill_zero.Goals as goal

pub returns : goal.returns
returns c = search (filled, rules)
