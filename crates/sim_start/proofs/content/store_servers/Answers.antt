-- Made by tools/uniform from proofs.txt, not by hand: 5eec204feefc047d
use Rattle.sim_start.specs.ContentLaws.{serving_start, serving_room, serving_turn, serving_done}
use borrow.Author.Rules.{rules}
use Rattle.sim_start.proofs.content.store_servers.Goals as goal

pub loop-slot-init : goal.loop-slot-init
loop-slot-init c = search (serving_start, serving_room, serving_turn, serving_done, rules)

pub store-requires : goal.store-requires
store-requires c = search (serving_start, serving_room, serving_turn, serving_done, rules)

pub loop-slot-preserved : goal.loop-slot-preserved
loop-slot-preserved c = search (serving_start, serving_room, serving_turn, serving_done, rules)
