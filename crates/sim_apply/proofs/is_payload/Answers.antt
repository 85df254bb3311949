-- Made by tools/uniform from proofs.txt, not by hand: 313c461094885e33
use Rattle.sim_apply.specs.Laws.{noop_is, command_is}
use borrow.Author.Rules.{rules}
use Rattle.sim_apply.proofs.is_payload.Goals as goal

pub returns-then-kind-eq0 : goal.returns-then-kind-eq0
returns-then-kind-eq0 c = search (noop_is, command_is, rules)

pub returns : goal.returns
returns c = search (noop_is, command_is, rules)
