-- Made by tools/uniform from proofs.txt, not by hand: 4b75378ce366de9e
use Rattle.state_gate_header.specs.Laws.{header_ok}
use Rattle.state_gate_header.proofs.header.Goals as goal

pub returns : goal.returns
returns c = header_ok c.args.f _ _ _ _ _ _ _ _ c.capacity-capacity.ensures c.settings-settings.ensures c.network-network.ensures c.metrics-metrics.ensures c.phase-phase.ensures c.unused-unused.ensures c.violations-violations.ensures
