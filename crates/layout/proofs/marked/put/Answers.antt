-- Made by tools/uniform from proofs.txt, not by hand: ab06d8d5a26e7cac
use Rattle.layout.specs.MarkedLaws.{put_calls}
use borrow.Author.Rules.{rules}
use Rattle.layout.proofs.marked.put.Goals as goal

pub returns : goal.returns
returns c = search (put_calls, rules)
