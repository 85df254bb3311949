-- Made by tools/uniform from proofs.txt, not by hand: 6ba8f6fd0ba43003
use Rattle.storage.specs.ReplayLaws.{told}
use Rattle.storage.specs.PartLaws.{rooms}
use borrow.Author.Rules.{rules}
use Rattle.storage.proofs.replay.write_at.Goals as goal

pub write_at-requires : goal.write_at-requires
write_at-requires c = search (rooms, rules)

pub returns : goal.returns
returns c = search (told, rules)
