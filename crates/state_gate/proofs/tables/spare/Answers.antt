-- Made by tools/uniform from proofs.txt, not by hand: 4c0afe4659c27bc5
use Rattle.state_gate.specs.TableLaws.{ends, spare_ok}
use borrow.Author.Rules.{rules}
use Rattle.state_gate.proofs.tables.spare.Goals as goal

pub whole_words-a-requires : goal.whole_words-a-requires
whole_words-a-requires c = search (ends, rules)

pub overflow_mul-a : goal.overflow_mul-a
overflow_mul-a c = search (ends, rules)

pub area_length-e-requires : goal.area_length-e-requires
area_length-e-requires c = search (ends, rules)

pub slice_bounds-all_zero-count : goal.slice_bounds-all_zero-count
slice_bounds-all_zero-count c = search (ends, rules)

pub slice_bounds-all_zero-start : goal.slice_bounds-all_zero-start
slice_bounds-all_zero-start c = search (ends, rules)

pub slice_bounds-all_zero-end : goal.slice_bounds-all_zero-end
slice_bounds-all_zero-end c = search (ends, rules)

pub all_zero-requires : goal.all_zero-requires
all_zero-requires c = search (ends, rules)

pub returns : goal.returns
returns c = spare_ok _ _ c.requires _ _ _ c.whole_words-a.ensures c.area_length-e.ensures.0 c.all_zero.ensures
