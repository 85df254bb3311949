-- Made by tools/uniform from proofs.txt, not by hand: 99b8f36bb86f29f2
use Rattle.sim_writes.specs.Laws.{asked_other, asked_writing}
use borrow.Author.Rules.{rules}
use Rattle.sim_writes.proofs.writing_asked.Goals as goal

pub open_of-open-requires : goal.open_of-open-requires
open_of-open-requires c = search (asked_other, asked_writing, rules)

pub returns-then-phase-ne1 : goal.returns-then-phase-ne1
returns-then-phase-ne1 c = search (asked_other, asked_writing, rules)

pub returns : goal.returns
returns c = search (asked_other, asked_writing, rules)
