-- Made by tools/uniform from proofs.txt, not by hand: c910165db6f3e0a4
use Rattle.std.proofs.Common.{◌∙◌, None}
use Rattle.std.proofs.lemmas.Iterator.{YieldsList-from_slice, YieldsList-from_zip}
use Rattle.std.proofs.lemmas.Iterator.Consumers.{fold_from_yields_List}
use Rattle.leader.specs.Leader.{leader}
use Rattle.leader.specs.Laws.{better_numbered, fold_numbered}
use borrow.Author.Rules.{rules}
use Rattle.leader.proofs.leader_of_numbers.Goals as goal

pub returns : goal.returns
unfolding leader
returns c = fold_from_yields_List _ better_numbered None _ c.fold.ensures.ran (YieldsList-from_zip (YieldsList-from_zip (YieldsList-from_slice c.args.ids.now cc) (YieldsList-from_slice c.args.roles.now cc)) (YieldsList-from_slice c.args.terms.now cc)) (λ a x b q k. search rules) ∙ fold_numbered None c.args.ids.now c.args.roles.now c.args.terms.now
