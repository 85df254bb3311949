-- Made by tools/uniform from proofs.txt, not by hand: 44285dc662107204
use borrow.Author.Tests.{tests}
use Rattle.words.specs.Words.{W}
use Rattle.laws.specs.Order.{below}
use Rattle.layout.specs.RowLaws.{row_found}
use borrow.Author.Rules.{rules}
use Rattle.layout.proofs.rows.last_place.Goals as goal

pub returns : goal.returns
unfolding below
returns g c = row_found (below g.K.Key.order c.args.k) g.K.Key.head c.args.w c.args.n (W c.args.s.now) _ _ (λ i b f k. search (rules, tests)) _ _ _ c.position.ensures.ran c.unwrap_or.ensures
