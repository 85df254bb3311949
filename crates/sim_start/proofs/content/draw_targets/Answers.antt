-- Made by tools/uniform from proofs.txt, not by hand: 0157ee8b9f542066
use Rattle.sim_start.specs.ContentLaws.{drawing_start, drawing_room, drawing_turn, drawing_done}
use borrow.Author.Rules.{rules}
use Rattle.sim_start.proofs.content.draw_targets.Goals as goal

pub loop-c-init : goal.loop-c-init
loop-c-init c = search (drawing_start, drawing_room, drawing_turn, drawing_done, rules)

pub store-requires : goal.store-requires
store-requires c = search (drawing_start, drawing_room, drawing_turn, drawing_done, rules)

pub loop-c-preserved : goal.loop-c-preserved
loop-c-preserved c = search (drawing_start, drawing_room, drawing_turn, drawing_done, rules)

pub returns : goal.returns
returns c = search (drawing_start, drawing_room, drawing_turn, drawing_done, rules)
