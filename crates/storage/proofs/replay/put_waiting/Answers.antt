-- Made by tools/uniform from proofs.txt, not by hand: cf7a20f54f698e7e
use Rattle.storage.specs.ReplayLaws.{put_reads}
use borrow.Author.Rules.{rules}
use Rattle.storage.proofs.replay.put_waiting.Goals as goal

pub returns-in-Noop : goal.returns-in-Noop
returns-in-Noop c = search (put_reads, rules)

pub returns-in-Command : goal.returns-in-Command
returns-in-Command c = search (put_reads, rules)
