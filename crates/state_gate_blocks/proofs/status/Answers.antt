-- Made by tools/uniform from proofs.txt, not by hand: 0cfe8828d75bb9db
use Rattle.state_gate_blocks.specs.Laws.{no_status, some_status}
use Rattle.state_gate_blocks.proofs.status.Goals as goal

pub returns-then-flag-eq0 : goal.returns-then-flag-eq0
returns-then-flag-eq0 c = no_status _ _ _ _ _ _ _ c.load-flag.ensures c.load-role.ensures c.load-term.ensures c.load-known.ensures c.load-leader.ensures c.load-commit_index.ensures c.if-flag-eq0.true

pub returns : goal.returns
returns c = some_status _ _ _ _ _ _ _ c.load-flag.ensures c.load-role.ensures c.load-term.ensures c.load-known.ensures c.load-leader.ensures c.load-commit_index.ensures _ c.if-flag-eq0.false c.flagged-hint.ensures
