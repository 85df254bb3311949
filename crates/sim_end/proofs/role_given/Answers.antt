-- Made by tools/uniform from proofs.txt, not by hand: af6a0f4db3292b98
use Rattle.sim_end.specs.Laws.{role_other}
use borrow.Author.Rules.{rules}
use Rattle.sim_end.proofs.role_given.Goals as goal

pub returns-then-n-eq1 : goal.returns-then-n-eq1
returns-then-n-eq1 c = search (role_other, rules)

pub returns-then-n-eq2 : goal.returns-then-n-eq2
returns-then-n-eq2 c = search (role_other, rules)

pub returns : goal.returns
returns c = search (role_other, rules)
