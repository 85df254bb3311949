-- Made by tools/uniform from proofs.txt, not by hand: 07ef7abc599f74ee
use Rattle.sim_checks.specs.DurabilityLaws.{reply_checked_lem}
use borrow.Author.Rules.{rules}
use Rattle.sim_checks.proofs.durability.check_reply.Goals as goal

pub reply_missing_of-missing-requires : goal.reply_missing_of-missing-requires
reply_missing_of-missing-requires c = search (reply_checked_lem, rules)

pub reply_index_of-index-requires : goal.reply_index_of-index-requires
reply_index_of-index-requires c = search (reply_checked_lem, rules)

pub acknowledged_act-requires : goal.acknowledged_act-requires
acknowledged_act-requires c = search (reply_checked_lem, rules)

pub returns : goal.returns
returns c = search (reply_checked_lem, rules)
