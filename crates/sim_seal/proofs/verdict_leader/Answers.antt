-- Made by tools/uniform from proofs.txt, not by hand: f0f2326588922142
use Rattle.sim_seal.specs.SealLaws.{leader_named, leader_none}
use borrow.Author.Rules.{rules}
use Rattle.sim_seal.proofs.verdict_leader.Goals as goal

pub verdict_kind-kind-requires : goal.verdict_kind-kind-requires
verdict_kind-kind-requires c = search (leader_named, leader_none, rules)

pub returns-then-kind-eq2 : goal.returns-then-kind-eq2
returns-then-kind-eq2 c = search (leader_named, leader_none, rules)

pub returns : goal.returns
returns c = search (leader_named, leader_none, rules)
