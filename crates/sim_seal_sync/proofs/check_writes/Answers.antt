-- Made by tools/uniform from proofs.txt, not by hand: 496fe385338f374b
use Rattle.sim_seal_sync.specs.Laws.{checking_start, checking_turn, checking_done}
use borrow.Author.Rules.{rules}
use Rattle.sim_seal_sync.proofs.check_writes.Goals as goal

pub write_count-n-requires : goal.write_count-n-requires
write_count-n-requires c = search (checking_start, checking_turn, checking_done, rules)

pub loop-i-init : goal.loop-i-init
loop-i-init c = checking_start _ _ _ _ c.requires.inside c.write_count-n.ensures

pub check_write-requires : goal.check_write-requires
check_write-requires c = search (checking_start, checking_turn, checking_done, rules)

pub loop-i-smaller : goal.loop-i-smaller
loop-i-smaller c = search (checking_start, checking_turn, checking_done, rules)

pub loop-i-preserved : goal.loop-i-preserved
loop-i-preserved c = search (checking_start, checking_turn, checking_done, rules)

pub returns : goal.returns
returns c = search (checking_start, checking_turn, checking_done, rules)
