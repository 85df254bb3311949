-- Made by tools/uniform from proofs.txt, not by hand: acd4cbd061d4d392
use Rattle.state_gate.specs.Laws.{gate_short, gate_counts, gate_within, gate_room, gate_inside, gate_regions, gate_open}
use borrow.Author.Rules.{rules}
use Rattle.state_gate.proofs.gate.Goals as goal

pub refused-requires : goal.refused-requires
refused-requires c = search (gate_within, gate_inside, rules)

pub returns-then-area-lt4096 : goal.returns-then-area-lt4096
returns-then-area-lt4096 c = gate_short _ _ c.if-area-lt4096.true c.refused.ensures

pub load_capacity-f-requires : goal.load_capacity-f-requires
load_capacity-f-requires c = search (gate_within, gate_inside, rules)

pub counts_fit-requires : goal.counts_fit-requires
counts_fit-requires c = search (gate_within, gate_inside, rules)

pub refused-requires-then-not-counts_fit : goal.refused-requires-then-not-counts_fit
refused-requires-then-not-counts_fit c = search (gate_within, gate_inside, rules)

pub returns-then-not-counts_fit : goal.returns-then-not-counts_fit
returns-then-not-counts_fit c = gate_counts _ _ _ c.if-area-lt4096.false c.load_capacity-f.ensures c.counts_fit.ensures _ c.if-not-counts_fit.true-raw c.refused-then-not-counts_fit.ensures

pub area_length-need-requires : goal.area_length-need-requires
area_length-need-requires c = search (gate_within, gate_inside, rules)

pub refused-requires-then-area-need : goal.refused-requires-then-area-need
refused-requires-then-area-need c = search (gate_within, gate_inside, rules)

pub returns-then-area-need : goal.returns-then-area-need
returns-then-area-need c = gate_room _ _ _ c.if-area-lt4096.false c.load_capacity-f.ensures c.counts_fit.ensures c.if-not-counts_fit.false-raw _ _ c.area_length-need.ensures.0 c.if-area-need.true c.refused-then-area-need.ensures

pub contents-requires : goal.contents-requires
contents-requires c = search (gate_within, gate_inside, rules)

pub refused-requires-then-not-contents : goal.refused-requires-then-not-contents
refused-requires-then-not-contents c = search (gate_within, gate_inside, rules)

pub returns-then-not-contents : goal.returns-then-not-contents
returns-then-not-contents c = gate_regions _ _ _ c.if-area-lt4096.false c.load_capacity-f.ensures c.counts_fit.ensures c.if-not-counts_fit.false-raw _ c.area_length-need.ensures.0 c.if-area-need.false _ c.contents.ensures _ c.if-not-contents.true-raw c.refused-then-not-contents.ensures

pub returns : goal.returns
returns c = gate_open _ _ _ c.if-area-lt4096.false c.load_capacity-f.ensures c.counts_fit.ensures c.if-not-counts_fit.false-raw _ c.area_length-need.ensures.0 c.if-area-need.false _ c.contents.ensures c.shared_slice_known-1.given c.if-not-contents.false-raw
