-- Made by tools/uniform from proofs.txt, not by hand: 8055846b03b18db9
use Rattle.words.specs.Words.{W}
use Rattle.layout.specs.TableLaws.{Rowed}
use Rattle.queue.specs.RowLaws.{event_row}
use Rattle.queue.proofs.table.check_rows.Given as goal

abbrev pub invariant-loop-i : goal.invariant-loop-i
invariant-loop-i l = Rowed (event_row l.ranges.servers l.ranges.clients l.ranges.indexes l.ranges.message) l.n (W l.s) l.i
