-- Made by tools/uniform from proofs.txt, not by hand: 044b9c3ac9f176a1
use Rattle.sim_outputs.specs.Laws.{passed_inside}
use Rattle.sim_seal.specs.SealLaws.{open_below, seal_planned}
use borrow.Author.Rules.{rules}
use Rattle.sim_seal.proofs.seal_plan.Goals as goal

pub open_of-open-requires : goal.open_of-open-requires
open_of-open-requires c = search (passed_inside, open_below, seal_planned, rules)

pub sealing-input-requires : goal.sealing-input-requires
sealing-input-requires c = search (passed_inside, open_below, seal_planned, rules)

pub crashes-cuts-requires : goal.crashes-cuts-requires
crashes-cuts-requires c = search (passed_inside, open_below, seal_planned, rules)

pub seal_fits-fits-requires : goal.seal_fits-fits-requires
seal_fits-fits-requires c = search (passed_inside, open_below, seal_planned, rules)

pub outcome_of-outcome-requires : goal.outcome_of-outcome-requires
outcome_of-outcome-requires c = search (passed_inside, open_below, seal_planned, rules)

pub seal_args-args-requires : goal.seal_args-args-requires
seal_args-args-requires c = search (passed_inside, open_below, seal_planned, rules)

pub asks_code-code-requires : goal.asks_code-code-requires
asks_code-code-requires c = search (passed_inside, open_below, seal_planned, rules)

pub returns : goal.returns
returns c = search (passed_inside, open_below, seal_planned, rules)
