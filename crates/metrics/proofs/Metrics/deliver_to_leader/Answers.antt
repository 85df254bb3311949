-- Made by tools/uniform from proofs.txt, not by hand: 1df5549705037769
use Rattle.metrics.proofs.Counting.{delivery_full, delivery_counted}
use Rattle.metrics.proofs.Typed.{metrics_typed}
use borrow.Author.Rules.{rules}
use Rattle.metrics.proofs.Metrics.deliver_to_leader.Goals as goal

pub returns-in_err-self : goal.returns-in_err-self
returns-in_err-self c = delivery_full _ (search (metrics_typed, rules)) _ _ c.in_err-self.ensures c.from_residual.ensures

pub returns : goal.returns
returns c = delivery_counted _ (search (metrics_typed, rules)) _ _ c.in_ok-self.ensures
