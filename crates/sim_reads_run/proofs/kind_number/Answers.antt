-- Made by tools/uniform from proofs.txt, not by hand: da88ae57c894c699
use Rattle.sim_reads_run.specs.Laws.{kind_closed, kind_low, kind_high}
use borrow.Author.Rules.{rules}
use Rattle.sim_reads_run.proofs.kind_number.Goals as goal

pub returns-then-phase-eq0 : goal.returns-then-phase-eq0
returns-then-phase-eq0 c = search (kind_closed, kind_low, kind_high, rules)

pub overflow_add-result : goal.overflow_add-result
overflow_add-result c = search (kind_closed, kind_low, kind_high, rules)

pub returns-then-input-lt4 : goal.returns-then-input-lt4
returns-then-input-lt4 c = search (kind_closed, kind_low, kind_high, rules)

pub returns : goal.returns
returns c = search (kind_closed, kind_low, kind_high, rules)
