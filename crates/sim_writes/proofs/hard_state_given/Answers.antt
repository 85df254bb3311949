-- Made by tools/uniform from proofs.txt, not by hand: 4e3f02097b429482
use Rattle.sim_writes.specs.Laws.{vote_given, vote_none}
use borrow.Author.Rules.{rules}
use Rattle.sim_writes.proofs.hard_state_given.Goals as goal

pub returns-then-present-eq1 : goal.returns-then-present-eq1
returns-then-present-eq1 c = search (vote_given, vote_none, rules)

pub returns-else-present-eq1 : goal.returns-else-present-eq1
returns-else-present-eq1 c = search (vote_given, vote_none, rules)
