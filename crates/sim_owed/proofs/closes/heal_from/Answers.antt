-- Made by tools/uniform from proofs.txt, not by hand: e19fe619e62cde6b
use Rattle.state.specs.Exits.{inside_after}
use Rattle.sim_owed.specs.CloseLaws.{healing_start, healing_turn, healing_stop, healing_done}
use borrow.Author.Rules.{rules}
use Rattle.sim_owed.proofs.closes.heal_from.Goals as goal

pub loop-k-init : goal.loop-k-init
loop-k-init c = search (inside_after, healing_start, healing_turn, healing_stop, healing_done, rules)

pub heal_one-requires : goal.heal_one-requires
heal_one-requires c = search (inside_after, healing_start, healing_turn, healing_stop, healing_done, rules)

pub overflow_add-k : goal.overflow_add-k
overflow_add-k c = search (inside_after, healing_start, healing_turn, healing_stop, healing_done, rules)

pub restart_server-requires : goal.restart_server-requires
restart_server-requires c = search (inside_after, healing_start, healing_turn, healing_stop, healing_done, rules)

pub returns-then-not-heal_one : goal.returns-then-not-heal_one
returns-then-not-heal_one c = healing_stop _ _ _ _ _ c.loop-k.invariant _ _ c.loop-k-test.true c.heal_one.ensures _ _ c.if-not-heal_one.true-raw c.restart_server.ensures

pub loop-k-smaller : goal.loop-k-smaller
loop-k-smaller c = search (inside_after, healing_start, healing_turn, healing_stop, healing_done, rules)

pub loop-k-preserved : goal.loop-k-preserved
loop-k-preserved c = search (inside_after, healing_start, healing_turn, healing_stop, healing_done, rules)

pub close_phase-requires : goal.close_phase-requires
close_phase-requires c = search (inside_after, healing_start, healing_turn, healing_stop, healing_done, rules)

pub returns : goal.returns
returns c = search (inside_after, healing_start, healing_turn, healing_stop, healing_done, rules)
