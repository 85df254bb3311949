-- Made by tools/uniform from proofs.txt, not by hand: 308a2d46effbf14b
use Rattle.sim_checks.specs.DurabilityLaws.{replies_first, replies_turn, replies_last}
use borrow.Author.Rules.{rules}
use Rattle.sim_checks.proofs.durability.check_replies.Goals as goal

pub loop-i-init : goal.loop-i-init
loop-i-init c = search (replies_first, replies_turn, replies_last, rules)

pub check_reply-requires : goal.check_reply-requires
check_reply-requires c = search (replies_first, replies_turn, replies_last, rules)

pub loop-i-smaller : goal.loop-i-smaller
loop-i-smaller c = search (replies_first, replies_turn, replies_last, rules)

pub loop-i-preserved : goal.loop-i-preserved
loop-i-preserved c = search (replies_first, replies_turn, replies_last, rules)

pub returns : goal.returns
returns c = search (replies_first, replies_turn, replies_last, rules)
