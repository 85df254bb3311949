-- Made by tools/uniform from proofs.txt, not by hand: 6eed627407ba311d
use Rattle.sim_direct.specs.Laws.{timer_beat, timer_vote}
use borrow.Author.Rules.{rules}
use Rattle.sim_direct.proofs.timer_given.Goals as goal

pub returns-then-timer-eq1 : goal.returns-then-timer-eq1
returns-then-timer-eq1 c = search (timer_beat, timer_vote, rules)

pub returns-else-timer-eq1 : goal.returns-else-timer-eq1
returns-else-timer-eq1 c = search (timer_beat, timer_vote, rules)
