-- Made by tools/uniform from proofs.txt, not by hand: e994b4e6ad577efb
use Rattle.state_gate_blocks.specs.Laws.{flag_none, flag_some}
use Rattle.state_gate_blocks.proofs.flagged.Goals as goal

pub returns-then-flag-eq0 : goal.returns-then-flag-eq0
returns-then-flag-eq0 c = flag_none c.args.flag c.args.number c.if-flag-eq0.true

pub returns : goal.returns
returns c = flag_some c.args.flag c.args.number c.if-flag-eq0.false
