-- Made by tools/uniform from proofs.txt, not by hand: 68558faa9c87f1e1
use Rattle.sim_start.specs.ContentLaws.{Drawing}
use Rattle.sim_start.proofs.content.draw_targets.Given as goal

abbrev pub invariant-loop-c : goal.invariant-loop-c
invariant-loop-c l = Drawing l.initial.area l.f l.initial.next l.at l.area l.next l.c
