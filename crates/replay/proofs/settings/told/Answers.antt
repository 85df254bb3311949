-- Made by tools/uniform from proofs.txt, not by hand: e439ed43456958b1
use Rattle.config.specs.Laws.{in_limits}
use borrow.Author.Rules.{rules}
use Rattle.replay.proofs.settings.told.Goals as goal

pub area_length-requires : goal.area_length-requires
area_length-requires c = search (in_limits, rules)
