-- Made by tools/uniform from proofs.txt, not by hand: eae51c1a960a2a18
use Rattle.storage.specs.ReplayLaws.{sums}
use borrow.Author.Rules.{rules}
use Rattle.storage.proofs.replay.unsynced_bytes.Goals as goal

pub loop-i-init : goal.loop-i-init
loop-i-init c = search (sums, rules)

pub record_bytes-total-requires : goal.record_bytes-total-requires
record_bytes-total-requires c = search (sums, rules)

pub loop-i-preserved : goal.loop-i-preserved
loop-i-preserved c = search (sums, rules)

pub returns : goal.returns
returns c = search (sums, rules)
