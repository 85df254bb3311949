-- Made by tools/uniform from proofs.txt, not by hand: d30aa88353ee9c8a
use Rattle.state_gate_header.specs.Laws.{settings_ok}
use Rattle.state_gate_header.proofs.settings.Goals as goal

pub returns : goal.returns
returns c = settings_ok _ _ c.requires c.shared_slice_known-1.given _ _ c.load_settings-c.ensures c.accepted.ensures
