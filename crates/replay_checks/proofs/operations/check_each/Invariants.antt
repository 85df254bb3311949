-- Made by tools/uniform from proofs.txt, not by hand: 323ce90013733dd3
use Rattle.state.specs.Changes.{Inside}
use Rattle.replay_checks.proofs.operations.check_each.Given as goal

abbrev pub invariant-loop-i : goal.invariant-loop-i
invariant-loop-i l = Inside l.area l.f
