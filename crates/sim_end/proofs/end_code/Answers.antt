-- Made by tools/uniform from proofs.txt, not by hand: d5e6d9239df46f57
use Rattle.sim_end.specs.Laws.{end_six, end_role, end_flag, end_none}
use borrow.Author.Rules.{rules}
use Rattle.sim_end.proofs.end_code.Goals as goal

pub returns-then-phase-ne2 : goal.returns-then-phase-ne2
returns-then-phase-ne2 c = search (end_six, end_role, end_flag, end_none, rules)

pub returns-then-role-gt2 : goal.returns-then-role-gt2
returns-then-role-gt2 c = search (end_six, end_role, end_flag, end_none, rules)

pub returns-then-present-gt1 : goal.returns-then-present-gt1
returns-then-present-gt1 c = search (end_six, end_role, end_flag, end_none, rules)

pub returns : goal.returns
returns c = search (end_six, end_role, end_flag, end_none, rules)
