-- Made by tools/uniform from proofs.txt, not by hand: 6bbde5d73126af7b
use Rattle.std.proofs.Common.{◌∙◌, None}
use Rattle.std.proofs.lemmas.Iterator.{YieldsList-from_slice}
use Rattle.std.proofs.lemmas.Iterator.Consumers.{fold_from_yields_List}
use Rattle.leader.specs.Leader.{better, leader}
use Rattle.leader.specs.Laws.{fold_better}
use borrow.Author.Rules.{rules}
use Rattle.leader.proofs.leader.Goals as goal

pub returns : goal.returns
unfolding leader
returns c = fold_from_yields_List _ better None _ c.fold.ensures.ran (YieldsList-from_slice c.args.reported.now cc) (λ a x b q k. search rules) ∙ fold_better None c.args.reported.now
