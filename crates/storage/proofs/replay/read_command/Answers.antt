-- Made by tools/uniform from proofs.txt, not by hand: 1e1df2d427884bcf
use Rattle.storage.specs.ReplayLaws.{read_front}
use borrow.Author.Rules.{rules}
use Rattle.storage.proofs.replay.read_command.Goals as goal

pub returns : goal.returns
returns c = search (read_front, rules)
