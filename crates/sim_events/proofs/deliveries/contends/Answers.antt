-- Made by tools/uniform from proofs.txt, not by hand: 116a5fc606364956
use Rattle.sim_events.specs.Laws.{contends_none, contends_some}
use borrow.Author.Rules.{rules}
use Rattle.sim_events.proofs.deliveries.contends.Goals as goal

pub role_contends-requires : goal.role_contends-requires
role_contends-requires c = search (contends_none, contends_some, rules)

pub returns-in-None : goal.returns-in-None
returns-in-None c = search (contends_none, contends_some, rules)

pub returns-in-Some : goal.returns-in-Some
returns-in-Some c = search (contends_none, contends_some, rules)
