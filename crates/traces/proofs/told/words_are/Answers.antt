-- Made by tools/uniform from proofs.txt, not by hand: 577d7734206868a0
use Rattle.traces.specs.Laws.{stored_front}
use borrow.Author.Rules.{rules}
use Rattle.traces.proofs.told.words_are.Goals as goal

pub returns : goal.returns
returns c = search (stored_front, rules)
