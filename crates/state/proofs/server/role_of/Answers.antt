-- Made by tools/uniform from proofs.txt, not by hand: 4477d2c416032dbd
use Rattle.state.specs.Loads.{role_candidate, role_leader, role_other}
use borrow.Author.Rules.{rules}
use Rattle.state.proofs.server.role_of.Goals as goal

pub returns-then-role-eq1 : goal.returns-then-role-eq1
returns-then-role-eq1 c = search (role_candidate, role_leader, role_other, rules)

pub returns-then-role-eq2 : goal.returns-then-role-eq2
returns-then-role-eq2 c = search (role_candidate, role_leader, role_other, rules)

pub returns-else-role-eq2 : goal.returns-else-role-eq2
returns-else-role-eq2 c = search (role_candidate, role_leader, role_other, rules)
