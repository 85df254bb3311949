-- Made by tools/uniform from proofs.txt, not by hand: 9a00cbbc4a571ab7
use Rattle.words.specs.Sets.{copied}
use Rattle.words.specs.Numbers.{four_bytes}
use borrow.Author.Rules.{rules}
use Rattle.words.proofs.put32.Goals as goal

pub returns : goal.returns
returns c = search (copied, four_bytes, rules)
