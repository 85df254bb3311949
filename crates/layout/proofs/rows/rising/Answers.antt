-- Made by tools/uniform from proofs.txt, not by hand: 533bd2ed9a7fc849
use borrow.Author.Tests.{tests}
use Rattle.words.specs.Words.{W}
use Rattle.laws.specs.Order.{below}
use Rattle.layout.specs.RowLaws.{rows_ordered}
use borrow.Author.Rules.{rules}
use Rattle.layout.proofs.rows.rising.Goals as goal

pub returns : goal.returns
unfolding below
returns g c = rows_ordered (below g.K.Key.order) g.K.Key.head c.args.w c.args.n (W c.args.s.now) _ _ _ _ _ _ c.map.ensures.source c.map.ensures.closure (λ i x q k. search rules) (λ x y b f k. search (rules, tests)) c.is_sorted_by.ensures.ran
