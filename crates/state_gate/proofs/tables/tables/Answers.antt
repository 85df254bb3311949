-- Made by tools/uniform from proofs.txt, not by hand: 67fab60742f9482d
use Rattle.state_gate.specs.TableLaws.{tables_ok}
use Rattle.state_gate.proofs.tables.tables.Goals as goal

pub returns : goal.returns
returns c = tables_ok c.args.f _ _ _ _ _ _ _ _ c.queue-queue.ensures c.seen-seen.ensures c.leaders-leaders.ensures c.replies-replies.ensures c.confirmations-confirmations.ensures c.applied-applied.ensures c.clients-clients.ensures
