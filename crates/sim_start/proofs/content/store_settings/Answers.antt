-- Made by tools/uniform from proofs.txt, not by hand: d3c1ce9b05afd642
use Rattle.sim_start.specs.ContentLaws.{settings_stored}
use borrow.Author.Rules.{rules}
use Rattle.sim_start.proofs.content.store_settings.Goals as goal

pub returns : goal.returns
returns c = search (settings_stored, rules)
