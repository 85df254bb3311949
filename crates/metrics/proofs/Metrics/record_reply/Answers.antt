-- Made by tools/uniform from proofs.txt, not by hand: 52466b56026065d9
use Rattle.metrics.proofs.Counting.{replies_full, reply_counted}
use Rattle.metrics.proofs.Typed.{metrics_typed}
use borrow.Author.Rules.{rules}
use Rattle.metrics.proofs.Metrics.record_reply.Goals as goal

pub returns-in_err-self : goal.returns-in_err-self
returns-in_err-self c = replies_full _ (search (metrics_typed, rules)) _ c.in_err-self.ensures c.from_residual.ensures

pub returns : goal.returns
returns c = reply_counted _ (search (metrics_typed, rules)) _ c.in_ok-self.ensures
