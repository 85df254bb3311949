-- Made by tools/uniform from proofs.txt, not by hand: dee85dfc0010b11a
use borrow.Author.Tests.{tests}
use Rattle.words.specs.Words.{W}
use Rattle.laws.specs.Order.{not_below}
use Rattle.layout.specs.RowLaws.{rows_ordered}
use borrow.Author.Rules.{rules}
use Rattle.layout.proofs.rows.sorted.Goals as goal

pub returns : goal.returns
unfolding not_below
returns g c = rows_ordered (not_below g.K.Key.order) g.K.Key.head c.args.w c.args.n (W c.args.s.now) _ _ _ _ _ _ c.map.ensures.source c.map.ensures.closure (λ i x q k. search rules) (λ x y b f k. search (rules, tests)) c.is_sorted_by.ensures.ran
