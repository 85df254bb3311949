-- Made by tools/uniform from proofs.txt, not by hand: 9986a26163cc81a0
use Rattle.std.proofs.Common.{◌&&◌, leb, ◌∙◌, tests}
use Rattle.std.proofs.lemmas.Iterator.{YieldsList-from_slice}
use Rattle.std.proofs.lemmas.Iterator.Search.{all_from_yields_List}
use Rattle.faults_chaos.specs.Draws.{ids_tested}
use borrow.Author.Rules.{rules}
use Rattle.faults_chaos.proofs.known_ids.Goals as goal

pub returns : goal.returns
returns c = all_from_yields_List (λ id. leb 1 id && leb id 8) _ _ _ c.all.ensures.ran (YieldsList-from_slice c.args.ids.now cc) (λ x b q k. search (rules, tests)) ∙ ids_tested _
