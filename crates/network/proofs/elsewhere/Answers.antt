-- Made by tools/uniform from proofs.txt, not by hand: 59476114873b26d7
use Rattle.std.proofs.Common.{◌∙◌, refl, not, ◌&&◌, eqb}
use Rattle.std.proofs.lemmas.Iterator.{YieldsList-from_range}
use Rattle.std.proofs.lemmas.Iterator.Search.{any_from_yields_List}
use Rattle.network.specs.Network.{in_group, elsewhere}
use Rattle.network.specs.Laws.{list_any_from}
use borrow.Author.Rules.{rules}
use Rattle.network.proofs.elsewhere.Goals as goal

pub returns : goal.returns
unfolding elsewhere
returns c = any_from_yields_List (λ j. not (eqb c.args.i j) && in_group c.args.groups j c.args.server) _ _ _ c.any.ensures.ran (YieldsList-from_range 0 8 8 refl refl) (λ x b q k. search rules) ∙ list_any_from _ 0 8
