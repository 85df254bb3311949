-- Made by tools/uniform from proofs.txt, not by hand: 7967f365cc1c2721
use Rattle.state_gate_header.specs.PhaseLaws.{owed_nothing, owed_something}
use Rattle.state_gate_header.proofs.owed.Goals as goal

pub returns-then-kind-eq0 : goal.returns-then-kind-eq0
returns-then-kind-eq0 c = owed_nothing c.args.servers c.args.kind c.args.next c.if-kind-eq0.true

pub returns : goal.returns
returns c = owed_something c.args.servers c.args.kind c.args.next c.if-kind-eq0.false
