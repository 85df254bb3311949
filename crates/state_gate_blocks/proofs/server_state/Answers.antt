-- Made by tools/uniform from proofs.txt, not by hand: 7137e0ca27ca3eb1
use Rattle.state_gate_blocks.specs.Laws.{server_told}
use Rattle.state_gate_blocks.proofs.server_state.Goals as goal

pub returns : goal.returns
returns c = server_told c.args.l _ _ _ _ _ _ _ _ c.status-status.ensures c.load-incarnation.ensures c.load-crash.ensures c.load-next.ensures c.load.ensures c.load-2.ensures c.flagged-leading.ensures
