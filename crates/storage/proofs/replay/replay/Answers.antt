-- Made by tools/uniform from proofs.txt, not by hand: c41e4cacda1859d5
use Rattle.storage.specs.ReplayLaws.{replays}
use borrow.Author.Rules.{rules}
use Rattle.storage.proofs.replay.replay.Goals as goal

pub loop-k-init : goal.loop-k-init
loop-k-init c = search (replays, rules)

pub loop-k-preserved : goal.loop-k-preserved
loop-k-preserved c = search (replays, rules)

pub returns : goal.returns
returns c = search (replays, rules)
