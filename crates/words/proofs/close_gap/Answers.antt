-- Made by tools/uniform from proofs.txt, not by hand: c9d31b472ef13a0a
use Rattle.words.specs.Runs.{move_down}
use borrow.Author.Rules.{rules}
use Rattle.words.proofs.close_gap.Goals as goal

pub overflow_add-from : goal.overflow_add-from
overflow_add-from c = search (move_down, rules)

pub overflow_sub-n : goal.overflow_sub-n
overflow_sub-n c = search (move_down, rules)

pub loop-k-init : goal.loop-k-init
loop-k-init c = search (move_down, rules)

pub overflow_add-s : goal.overflow_add-s
overflow_add-s c = search (move_down, rules)

pub bounds-s-from : goal.bounds-s-from
bounds-s-from c = search (move_down, rules)

pub overflow_add-s-in-loop-k : goal.overflow_add-s-in-loop-k
overflow_add-s-in-loop-k c = search (move_down, rules)

pub bounds-s-at : goal.bounds-s-at
bounds-s-at c = search (move_down, rules)

pub loop-k-smaller : goal.loop-k-smaller
loop-k-smaller c = search (move_down, rules)

pub loop-k-preserved : goal.loop-k-preserved
loop-k-preserved c = search (move_down, rules)

pub returns : goal.returns
returns c = search (move_down, rules)
