-- Made by tools/uniform from proofs.txt, not by hand: 7983019702bdd88e
use Rattle.storage.specs.WaitingLaws.{shows}
use borrow.Author.Rules.{rules}
use Rattle.storage.proofs.waiting.write_at.Goals as goal

pub returns : goal.returns
returns c = search (shows, rules)
