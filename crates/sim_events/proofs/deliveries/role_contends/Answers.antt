-- Made by tools/uniform from proofs.txt, not by hand: 617135159dd275c9
use Rattle.sim_events.specs.Laws.{role_follower, role_candidate, role_leader}
use borrow.Author.Rules.{rules}
use Rattle.sim_events.proofs.deliveries.role_contends.Goals as goal

pub returns-in-Follower : goal.returns-in-Follower
returns-in-Follower c = search (role_follower, role_candidate, role_leader, rules)

pub returns-in-Candidate : goal.returns-in-Candidate
returns-in-Candidate c = search (role_follower, role_candidate, role_leader, rules)

pub returns-in-Leader : goal.returns-in-Leader
returns-in-Leader c = search (role_follower, role_candidate, role_leader, rules)
