-- Made by tools/uniform from proofs.txt, not by hand: 48db270057bcc499
use Rattle.checks_on_status.specs.Laws.{leading_asked}
use Rattle.checks_on_status.proofs.leader_asked.Goals as goal

pub returns : goal.returns
returns c = leading_asked c.ask-seen.ensures c.is_other-other.ensures c.first-first.ensures c.is_new-fresh.ensures c.is_some-lacks.ensures c.number_of.ensures c.one_if.ensures.0 c.one_if-2.ensures.0 c.one_if-3.ensures.0 c.counts_code-code.ensures
