-- Made by tools/uniform from proofs.txt, not by hand: 0b2c2ebeb1a07251
use Rattle.sim_replies.specs.Laws.{base_past, factor_past, may_delay, drawn_within}
use borrow.Author.Rules.{rules}
use Rattle.sim_replies.proofs.delay_within.Goals as goal

pub returns-then-n-gt1099511627776 : goal.returns-then-n-gt1099511627776
returns-then-n-gt1099511627776 c = search (base_past, factor_past, may_delay, drawn_within, rules)

pub returns-then-n-gt65536 : goal.returns-then-n-gt65536
returns-then-n-gt65536 c = search (base_past, factor_past, may_delay, drawn_within, rules)

pub delay-requires : goal.delay-requires
delay-requires c = search (base_past, factor_past, may_delay, drawn_within, rules)

pub returns : goal.returns
returns c = search (base_past, factor_past, may_delay, drawn_within, rules)
