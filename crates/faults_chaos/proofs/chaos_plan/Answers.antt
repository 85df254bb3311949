-- Made by tools/uniform from proofs.txt, not by hand: 43f01701bdb6ba2e
use Rattle.std.proofs.Common.{tests}
use Rattle.faults_chaos.specs.Plans.{wrong_count, unknown_server, time_limit, times_told, planned}
use borrow.Author.Rules.{rules}
use Rattle.faults_chaos.proofs.chaos_plan.Goals as goal

pub returns-then-not-contains : goal.returns-then-not-contains
returns-then-not-contains c = wrong_count _ _ _ _ _ (search (rules, tests)) c.if-not-contains.true

pub returns-then-not-known_ids : goal.returns-then-not-known_ids
returns-then-not-known_ids c = unknown_server _ _ _ _ _ (search (rules, tests)) c.if-not-contains.false _ c.known_ids.ensures c.if-not-known_ids.true

pub returns-then-not-times_in_range : goal.returns-then-not-times_in_range
returns-then-not-times_in_range c = time_limit _ _ _ _ _ (search (rules, tests)) c.if-not-contains.false _ c.known_ids.ensures c.if-not-known_ids.false _ c.times_in_range.ensures c.if-not-times_in_range.true

pub plan-requires : goal.plan-requires
plan-requires c = record { times = times_told _ _ c.times_in_range.ensures c.if-not-times_in_range.false; room_bound = search rules }

pub returns : goal.returns
returns c = planned _ _ _ _ _ (search (rules, tests)) c.if-not-contains.false _ c.known_ids.ensures c.if-not-known_ids.false _ c.times_in_range.ensures _ c.if-not-times_in_range.false c.plan.ensures
