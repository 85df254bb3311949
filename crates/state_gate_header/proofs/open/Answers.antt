-- Made by tools/uniform from proofs.txt, not by hand: 65d6718a2dc660ee
use Rattle.state_gate_header.specs.PhaseLaws.{open_closed, open_writing, open_sending}
use Rattle.state_gate_header.proofs.open.Goals as goal

pub returns-then-o-eq0 : goal.returns-then-o-eq0
returns-then-o-eq0 c = open_closed c.args.servers c.args.clients c.args.o c.if-o-eq0.true

pub returns-then-o-eq1 : goal.returns-then-o-eq1
returns-then-o-eq1 c = open_writing c.args.servers c.args.clients c.args.o _ _ c.input-input.ensures c.owed-owed.ensures c.if-o-eq0.false c.if-o-eq1.true

pub returns : goal.returns
returns c = open_sending c.args.servers c.args.clients c.args.o _ _ c.input-input.ensures c.owed-owed.ensures c.if-o-eq0.false _ c.if-o-eq1.false c.verdict-verdict.ensures
