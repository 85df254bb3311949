-- Made by tools/uniform from proofs.txt, not by hand: a5aaac78612996e6
use Rattle.network_words.specs.Laws.{not_five, ranges_decide}
use borrow.Author.Rules.{rules}
use Rattle.network_words.proofs.check.Goals as goal

pub returns-then-s-ne40 : goal.returns-then-s-ne40
returns-then-s-ne40 c = search (not_five, rules)

pub returns : goal.returns
returns c = ranges_decide _ _ _ _ _ _ _ _ _ c.if-s-ne40.false c.shared_slice_known-1.given c.load-loss.ensures c.load-duplication.ensures c.load-factor.ensures c.load.ensures c.links_of-links.ensures c.links_within-within.ensures
