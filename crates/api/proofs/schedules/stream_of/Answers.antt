-- Made by tools/uniform from proofs.txt, not by hand: c9a2711729a0a405
use Rattle.api.specs.Laws.{stream_0, stream_1, stream_2, stream_3, stream_4, stream_5}
use borrow.Author.Rules.{rules}
use Rattle.api.proofs.schedules.stream_of.Goals as goal

pub returns-in-0 : goal.returns-in-0
returns-in-0 c = search (stream_0, stream_1, stream_2, stream_3, stream_4, stream_5, rules)

pub returns-in-1 : goal.returns-in-1
returns-in-1 c = search (stream_0, stream_1, stream_2, stream_3, stream_4, stream_5, rules)

pub returns-in-2 : goal.returns-in-2
returns-in-2 c = search (stream_0, stream_1, stream_2, stream_3, stream_4, stream_5, rules)

pub returns-in-3 : goal.returns-in-3
returns-in-3 c = search (stream_0, stream_1, stream_2, stream_3, stream_4, stream_5, rules)

pub returns-in-4 : goal.returns-in-4
returns-in-4 c = search (stream_0, stream_1, stream_2, stream_3, stream_4, stream_5, rules)

pub returns-in_default : goal.returns-in_default
returns-in_default c = search (stream_0, stream_1, stream_2, stream_3, stream_4, stream_5, rules)
