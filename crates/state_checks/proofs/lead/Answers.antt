-- Made by tools/uniform from proofs.txt, not by hand: c1be5601c6d28806
use Rattle.state_checks.specs.LeaderLaws.{leading, led_full, led_known, led_put}
use borrow.Author.Rules.{rules}
use Rattle.state_checks.proofs.lead.Goals as goal

pub returns-then-not-due : goal.returns-then-not-due
returns-then-not-due c = search (leading, rules)

pub count_of-n-requires : goal.count_of-n-requires
count_of-n-requires c = search (leading, rules)

pub returns-then-limits-n : goal.returns-then-limits-n
returns-then-limits-n c = led_full _ _ _ _ _ (search rules) _ c.count_of-n.ensures (search rules)

pub is_leaderless-requires : goal.is_leaderless-requires
is_leaderless-requires c = search (leading, rules)

pub returns-then-not-is_leaderless : goal.returns-then-not-is_leaderless
returns-then-not-is_leaderless c = led_known _ _ _ _ _ (search rules) _ c.count_of-n.ensures _ c.is_leaderless.ensures (search rules)

pub insert_leader-requires : goal.insert_leader-requires
insert_leader-requires c = search (leading, rules)

pub returns : goal.returns
returns c = led_put _ _ _ _ _ (search rules) _ c.count_of-n.ensures _ c.is_leaderless.ensures _ (search rules) c.insert_leader.ensures
