-- Made by tools/uniform from proofs.txt, not by hand: f7294534e8854f93
use Rattle.state_gate_header.specs.PhaseLaws.{verdict_yes, verdict_no, verdict_named}
use Rattle.state_gate_header.proofs.verdict.Goals as goal

pub returns-then-kind-eq0 : goal.returns-then-kind-eq0
returns-then-kind-eq0 c = verdict_yes c.args.input c.args.kind c.args.leader c.if-kind-eq0.true

pub returns-then-kind-eq1 : goal.returns-then-kind-eq1
returns-then-kind-eq1 c = verdict_no c.args.input c.args.kind c.args.leader c.if-kind-eq0.false c.if-kind-eq1.true

pub returns : goal.returns
returns c = verdict_named c.args.input c.args.kind c.args.leader c.if-kind-eq0.false c.if-kind-eq1.false
