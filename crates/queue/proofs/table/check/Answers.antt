-- Made by tools/uniform from proofs.txt, not by hand: 3ca2652a7112199d
use Rattle.layout.specs.TableLaws.{checks, check_rule}
use Rattle.queue.specs.Table.{events}
use Rattle.queue.specs.TableLaws.{queue_sorted}
use borrow.Author.Rules.{rules}
use Rattle.queue.proofs.table.check.Goals as goal

pub returns-then-not-padding : goal.returns-then-not-padding
returns-then-not-padding c = search (checks, rules)

pub check_rows-requires : goal.check_rows-requires
check_rows-requires c = search (checks, rules)

pub returns-then-not-check_rows : goal.returns-then-not-check_rows
returns-then-not-check_rows c = search (checks, rules)

pub sorted-requires : goal.sorted-requires
sorted-requires c = search (checks, rules)

pub returns : goal.returns
returns c = check_rule (events c.args.ranges.servers c.args.ranges.clients c.args.ranges.indexes c.args.ranges.message) _ _ c.shared_slice_known-1.given _ _ _ c.padding.ensures c.if-not-padding.false-raw c.check_rows.ensures c.if-not-check_rows.false-raw (queue_sorted _ _ _ _ _ _ _ c.sorted.ensures)
