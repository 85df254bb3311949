-- Made by tools/uniform from proofs.txt, not by hand: c4ea68db9fecedf0
use Rattle.words.specs.Runs.{move_up}
use borrow.Author.Rules.{rules}
use Rattle.words.proofs.open_gap.Goals as goal

pub loop-k-init : goal.loop-k-init
loop-k-init c = search (move_up, rules)

pub overflow_step-k : goal.overflow_step-k
overflow_step-k c = search (move_up, rules)

pub bounds-s-k : goal.bounds-s-k
bounds-s-k c = search (move_up, rules)

pub overflow_add-s : goal.overflow_add-s
overflow_add-s c = search (move_up, rules)

pub bounds-s-k-in-loop-k : goal.bounds-s-k-in-loop-k
bounds-s-k-in-loop-k c = search (move_up, rules)

pub loop-k-smaller : goal.loop-k-smaller
loop-k-smaller c = search (move_up, rules)

pub loop-k-preserved : goal.loop-k-preserved
loop-k-preserved c = search (move_up, rules)

pub returns : goal.returns
returns c = search (move_up, rules)
