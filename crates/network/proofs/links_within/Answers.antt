-- Made by tools/uniform from proofs.txt, not by hand: 0ab3acca4fee3edb
use Rattle.std.proofs.Common.{◌∙◌, not, ◌||◌, Bool, ℕ}
use Rattle.std.proofs.lemmas.Iterator.{YieldsList-from_slice}
use Rattle.std.proofs.lemmas.Iterator.Consumers.{YieldsList-from_enumerate}
use Rattle.std.proofs.lemmas.Iterator.Search.{all_from_yields_List}
use Rattle.network.specs.Network.{link_within}
use Rattle.network.specs.Ranges.{list_all_within}
use borrow.Author.Rules.{rules}
use Rattle.network.proofs.links_within.Goals as goal

pub returns : goal.returns
returns c = all_from_yields_List (λ (p : ℕ × Bool). not p.1 || link_within c.args.servers p.0) _ _ _ c.all.ensures.ran (YieldsList-from_enumerate (YieldsList-from_slice c.args.links cc) cc) (λ x b q k. search rules) ∙ list_all_within _ 0 _
