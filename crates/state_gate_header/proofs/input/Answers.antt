-- Made by tools/uniform from proofs.txt, not by hand: 35cff97d216b9a5d
use Rattle.state_gate_header.specs.PhaseLaws.{input_client, input_other}
use Rattle.state_gate_header.proofs.input.Goals as goal

pub returns-then-kind-eq4 : goal.returns-then-kind-eq4
returns-then-kind-eq4 c = input_client c.args.clients c.args.kind c.args.client c.args.seq c.args.attempt c.if-kind-eq4.true

pub returns : goal.returns
returns c = input_other c.args.clients c.args.kind c.args.client c.args.seq c.args.attempt c.if-kind-eq4.false
