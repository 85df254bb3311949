-- Made by tools/uniform from proofs.txt, not by hand: d474894350d2ceeb
use Rattle.std.proofs.Common.{◌∙◌, refl, ◌&&◌}
use Rattle.std.proofs.lemmas.Iterator.{YieldsList-from_range}
use Rattle.std.proofs.lemmas.Iterator.Search.{any_from_yields_List}
use Rattle.network.specs.Network.{in_group, elsewhere, separated}
use Rattle.network.specs.Laws.{list_any_from}
use borrow.Author.Rules.{rules}
use Rattle.network.proofs.separated.Goals as goal

pub returns : goal.returns
unfolding separated
returns c = any_from_yields_List (λ i. in_group c.args.groups i c.args.link.from.0 && elsewhere c.args.groups i c.args.link.to.0) _ _ _ c.any.ensures.ran (YieldsList-from_range 0 8 8 refl refl) (λ x b q k. search rules) ∙ list_any_from _ 0 8
