-- Made by tools/uniform from proofs.txt, not by hand: 40220e56decd0e70
use Rattle.metrics_words.specs.Laws.{not_all, unused_decide}
use borrow.Author.Rules.{rules}
use Rattle.metrics_words.proofs.check.Goals as goal

pub returns-then-s-ne248 : goal.returns-then-s-ne248
returns-then-s-ne248 c = search (not_all, rules)

pub returns : goal.returns
returns c = unused_decide _ _ _ c.requires c.if-s-ne248.false c.shared_slice_known-1.given c.zero_words.ensures
