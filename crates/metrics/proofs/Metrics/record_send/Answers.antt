-- Made by tools/uniform from proofs.txt, not by hand: fc7e4ecc5e283309
use Rattle.metrics.proofs.Counting.{sent_full, sender_full, send_counted}
use Rattle.metrics.proofs.Typed.{metrics_typed}
use borrow.Author.Rules.{rules}
use Rattle.metrics.proofs.Metrics.record_send.Goals as goal

pub returns-in_err-self : goal.returns-in_err-self
returns-in_err-self c = sent_full _ (search (metrics_typed, rules)) _ _ _ _ (search rules) (search rules) c.in_err-self.ensures c.from_residual.ensures

pub returns-in_err-self-2 : goal.returns-in_err-self-2
returns-in_err-self-2 c = sender_full _ (search (metrics_typed, rules)) _ _ _ _ _ (search rules) (search rules) c.in_ok-self.ensures c.in_err-self-2.ensures c.from_residual-in_err-self-2.ensures

pub returns : goal.returns
returns c = send_counted _ (search (metrics_typed, rules)) _ _ _ _ _ (search rules) (search rules) c.in_ok-self.ensures c.in_ok-self-2.ensures
