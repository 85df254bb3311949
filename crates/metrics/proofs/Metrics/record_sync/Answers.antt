-- Made by tools/uniform from proofs.txt, not by hand: 9d9f05cbdf917274
use Rattle.metrics.proofs.Counting.{syncs_full, storage_full, sync_counted}
use Rattle.metrics.proofs.Typed.{metrics_typed}
use borrow.Author.Rules.{rules}
use Rattle.metrics.proofs.Metrics.record_sync.Goals as goal

pub returns-in_err-self : goal.returns-in_err-self
returns-in_err-self c = syncs_full _ (search (metrics_typed, rules)) _ _ c.in_err-self.ensures c.from_residual.ensures

pub returns-in_err-self-2 : goal.returns-in_err-self-2
returns-in_err-self-2 c = storage_full _ (search (metrics_typed, rules)) _ _ c.in_err-self-2.ensures c.from_residual-in_err-self-2.ensures

pub returns : goal.returns
returns c = sync_counted _ (search (metrics_typed, rules)) _ _ _ c.in_ok-self.ensures c.in_ok-self-2.ensures
