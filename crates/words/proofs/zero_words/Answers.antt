-- Made by tools/uniform from proofs.txt, not by hand: 06cf04bc4bf9aeed
use Rattle.words.specs.Lift.{zero_part}
use borrow.Author.Rules.{rules}
use Rattle.words.proofs.zero_words.Goals as goal

pub returns : goal.returns
returns c = search (zero_part, rules)
