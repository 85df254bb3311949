-- Made by tools/uniform from proofs.txt, not by hand: a015b1cbdbe2719a
use Rattle.api.specs.Laws.{start_given}
use borrow.Author.Rules.{rules}
use Rattle.api.proofs.run.sim_start.Goals as goal

pub settings_given-config-requires : goal.settings_given-config-requires
settings_given-config-requires c = search (start_given, rules)

pub limits_given-capacity-requires : goal.limits_given-capacity-requires
limits_given-capacity-requires c = search (start_given, rules)

pub start_in-requires : goal.start_in-requires
start_in-requires c = search (start_given, rules)

pub returns : goal.returns
returns c = search (start_given, rules)
