-- Made by tools/uniform from proofs.txt, not by hand: eeeebc2c87955a6e
use Rattle.sim_send.specs.Draws.{bytes_yes, bytes_no}
use borrow.Author.Rules.{rules}
use Rattle.sim_send.proofs.bytes_counted.Goals as goal

pub settings_of-settings-requires : goal.settings_of-settings-requires
settings_of-settings-requires c = search (bytes_yes, bytes_no, rules)

pub returns-then-settings-eq1 : goal.returns-then-settings-eq1
returns-then-settings-eq1 c = search (bytes_yes, bytes_no, rules)

pub returns-else-settings-eq1 : goal.returns-else-settings-eq1
returns-else-settings-eq1 c = search (bytes_yes, bytes_no, rules)
