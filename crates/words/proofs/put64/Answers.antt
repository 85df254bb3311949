-- Made by tools/uniform from proofs.txt, not by hand: c134b7b1826fe0b4
use Rattle.words.specs.Sets.{copied}
use Rattle.words.specs.Numbers.{eight_bytes}
use borrow.Author.Rules.{rules}
use Rattle.words.proofs.put64.Goals as goal

pub returns : goal.returns
returns c = search (copied, eight_bytes, rules)
