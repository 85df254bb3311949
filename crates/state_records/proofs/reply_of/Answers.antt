-- Made by tools/uniform from proofs.txt, not by hand: 2c7d38d5894c0fec
use Rattle.state_records.specs.ReplyRows.{reply_past, reply_none, reply_read, replies_end, replies_rows}
use borrow.Author.Rules.{rules}
use Rattle.state_records.proofs.reply_of.Goals as goal

pub reply_count-n-requires : goal.reply_count-n-requires
reply_count-n-requires c = search (replies_end, replies_rows, rules)

pub returns-then-most-n : goal.returns-then-most-n
returns-then-most-n c = reply_past _ _ _ c.reply_count-n.ensures _ c.if-most-n.true

pub returns-then-n-i : goal.returns-then-n-i
returns-then-n-i c = reply_none _ _ _ c.reply_count-n.ensures _ c.if-n-i.true

pub replies_at-at-requires : goal.replies_at-at-requires
replies_at-at-requires c = search (replies_end, replies_rows, rules)

pub overflow_mul-a : goal.overflow_mul-a
overflow_mul-a c = search (replies_end, replies_rows, rules)

pub overflow_mul-e : goal.overflow_mul-e
overflow_mul-e c = search (replies_end, replies_rows, rules)

pub overflow_add-e : goal.overflow_add-e
overflow_add-e c = search (replies_end, replies_rows, rules)

pub overflow_mul-e-2 : goal.overflow_mul-e-2
overflow_mul-e-2 c = search (replies_end, replies_rows, rules)

pub slice_bounds-read-count : goal.slice_bounds-read-count
slice_bounds-read-count c = search (replies_end, replies_rows, rules)

pub slice_bounds-read-start : goal.slice_bounds-read-start
slice_bounds-read-start c = search (replies_end, replies_rows, rules)

pub slice_bounds-read-end : goal.slice_bounds-read-end
slice_bounds-read-end c = search (replies_end, replies_rows, rules)

pub read-requires : goal.read-requires
read-requires c = search (replies_end, replies_rows, rules)

pub returns : goal.returns
returns c = reply_read _ _ _ c.reply_count-n.ensures _ c.replies_at-at.ensures _ _ c.read.ensures
