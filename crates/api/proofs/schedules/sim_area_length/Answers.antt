-- Made by tools/uniform from proofs.txt, not by hand: 9fef86551d966873
use Rattle.api.specs.Laws.{length_none, length_many, length_within, length_counts, length_given}
use borrow.Author.Rules.{rules}
use Rattle.api.proofs.schedules.sim_area_length.Goals as goal

pub limits_given-capacity-requires : goal.limits_given-capacity-requires
limits_given-capacity-requires c = search (length_none, length_many, length_within, length_counts, length_given, rules)

pub returns-then-servers-lt1 : goal.returns-then-servers-lt1
returns-then-servers-lt1 c = search (length_none, length_many, length_within, length_counts, length_given, rules)

pub returns-then-servers-gt8 : goal.returns-then-servers-gt8
returns-then-servers-gt8 c = search (length_none, length_many, length_within, length_counts, length_given, rules)

pub counts_fit-requires : goal.counts_fit-requires
counts_fit-requires c = search (length_none, length_many, length_within, length_counts, length_given, rules)

pub returns-then-not-counts_fit : goal.returns-then-not-counts_fit
returns-then-not-counts_fit c = search (length_none, length_many, length_within, length_counts, length_given, rules)

pub area_length-requires : goal.area_length-requires
area_length-requires c = search (length_none, length_many, length_within, length_counts, length_given, rules)

pub returns : goal.returns
returns c = search (length_none, length_many, length_within, length_counts, length_given, rules)
