-- Made by tools/uniform from proofs.txt, not by hand: f02d6dff55ca95eb
use Rattle.checks.specs.LeaderLaws.{leader_asks}
use borrow.Author.Rules.{rules}
use Rattle.checks.proofs.leaders.ask.Goals as goal

pub returns-then-first-server : goal.returns-then-first-server
returns-then-first-server c = search (leader_asks, rules)

pub returns-else-first-server : goal.returns-else-first-server
returns-else-first-server c = search (leader_asks, rules)

pub returns-in-Err : goal.returns-in-Err
returns-in-Err c = search (leader_asks, rules)
