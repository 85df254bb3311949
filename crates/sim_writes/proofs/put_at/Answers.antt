-- Made by tools/uniform from proofs.txt, not by hand: ffa1b5320c52ec6c
use Rattle.sim_writes.specs.Laws.{put_low, put_high, put_kind_lem, put_long, put_bound, put_made}
use borrow.Author.Rules.{rules}
use Rattle.sim_writes.proofs.put_at.Goals as goal

pub returns-then-index-lt1 : goal.returns-then-index-lt1
returns-then-index-lt1 c = search (put_low, put_high, put_kind_lem, put_long, put_bound, put_made, rules)

pub returns-then-limits-index : goal.returns-then-limits-index
returns-then-limits-index c = search (put_low, put_high, put_kind_lem, put_long, put_bound, put_made, rules)

pub returns-then-kind-gt1 : goal.returns-then-kind-gt1
returns-then-kind-gt1 c = search (put_low, put_high, put_kind_lem, put_long, put_bound, put_made, rules)

pub most_bytes-most-requires : goal.most_bytes-most-requires
most_bytes-most-requires c = search (put_low, put_high, put_kind_lem, put_long, put_bound, put_made, rules)

pub returns-then-most-payload : goal.returns-then-most-payload
returns-then-most-payload c = search (put_low, put_high, put_kind_lem, put_long, put_bound, put_made, rules)

pub payload_of-given-requires : goal.payload_of-given-requires
payload_of-given-requires c = search (put_low, put_high, put_kind_lem, put_long, put_bound, put_made, rules)

pub write_put-requires : goal.write_put-requires
write_put-requires c = search (put_low, put_high, put_kind_lem, put_long, put_bound, put_made, rules)

pub returns : goal.returns
returns c = search (put_low, put_high, put_kind_lem, put_long, put_bound, put_made, rules)
