-- Made by tools/uniform from proofs.txt, not by hand: e16e90336e207fde
use Rattle.storage.specs.ReplayLaws.{cut_off}
use borrow.Author.Rules.{rules}
use Rattle.storage.proofs.replay.truncate.Goals as goal

pub returns : goal.returns
returns c = search (cut_off, rules)
