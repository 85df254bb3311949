-- Made by tools/uniform from proofs.txt, not by hand: 796f7fdca0841aa7
use Rattle.state_asks.specs.DurabilityLaws.{command_bytes_read}
use Rattle.state_asks.proofs.durability.command_bytes_of.Goals as goal

pub returns : goal.returns
returns c = command_bytes_read _ _ _ c.load.ensures
