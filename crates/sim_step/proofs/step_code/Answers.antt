-- Made by tools/uniform from proofs.txt, not by hand: f7dc0e19e5c0e355
use Rattle.sim_step.specs.StepLaws.{code_open, code_late, code_short, code_none}
use borrow.Author.Rules.{rules}
use Rattle.sim_step.proofs.step_code.Goals as goal

pub open_of-open-requires : goal.open_of-open-requires
open_of-open-requires c = search (code_open, code_late, code_short, code_none, rules)

pub returns-then-open-ne0 : goal.returns-then-open-ne0
returns-then-open-ne0 c = search (code_open, code_late, code_short, code_none, rules)

pub returns-then-deadline-gt4611686018427387904 : goal.returns-then-deadline-gt4611686018427387904
returns-then-deadline-gt4611686018427387904 c = search (code_open, code_late, code_short, code_none, rules)

pub returns-then-size-limits : goal.returns-then-size-limits
returns-then-size-limits c = search (code_open, code_late, code_short, code_none, rules)

pub returns : goal.returns
returns c = search (code_open, code_late, code_short, code_none, rules)
