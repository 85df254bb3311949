-- Made by tools/uniform from proofs.txt, not by hand: 0475dcd3678ab108
use Rattle.state.specs.Exits.{inside_of, call_shut}
use Rattle.sim_outputs.specs.Laws.{passed_of}
use Rattle.sim_seal.specs.SealLaws.{seal_below, seal_no, seal_cut, seal_synced}
use borrow.Author.Rules.{rules}
use Rattle.sim_seal.proofs.seal_in.Goals as goal

pub sealed_no-requires : goal.sealed_no-requires
sealed_no-requires c = search (passed_of, inside_of, seal_below, call_shut, seal_no, seal_cut, seal_synced, rules)

pub returns-then-shut-gt0 : goal.returns-then-shut-gt0
returns-then-shut-gt0 c = search (passed_of, inside_of, seal_below, call_shut, seal_no, seal_cut, seal_synced, rules)

pub seal_plan-p-requires : goal.seal_plan-p-requires
seal_plan-p-requires c = search (passed_of, inside_of, seal_below, call_shut, seal_no, seal_cut, seal_synced, rules)

pub sealed_no-requires-then-code-gt0 : goal.sealed_no-requires-then-code-gt0
sealed_no-requires-then-code-gt0 c = search (passed_of, inside_of, seal_below, call_shut, seal_no, seal_cut, seal_synced, rules)

pub returns-then-code-gt0 : goal.returns-then-code-gt0
returns-then-code-gt0 c = search (passed_of, inside_of, seal_below, call_shut, seal_no, seal_cut, seal_synced, rules)

pub cut_input-start-requires : goal.cut_input-start-requires
cut_input-start-requires c = search (passed_of, inside_of, seal_below, call_shut, seal_no, seal_cut, seal_synced, rules)

pub sealed-requires : goal.sealed-requires
sealed-requires c = search (passed_of, inside_of, seal_below, call_shut, seal_no, seal_cut, seal_synced, rules)

pub returns-then-cuts : goal.returns-then-cuts
returns-then-cuts c = search (passed_of, inside_of, seal_below, call_shut, seal_no, seal_cut, seal_synced, rules)

pub sync_input-requires : goal.sync_input-requires
sync_input-requires c = search (passed_of, inside_of, seal_below, call_shut, seal_no, seal_cut, seal_synced, rules)

pub no_input-requires : goal.no_input-requires
no_input-requires c = search (passed_of, inside_of, seal_below, call_shut, seal_no, seal_cut, seal_synced, rules)

pub sealed-requires-2 : goal.sealed-requires-2
sealed-requires-2 c = search (passed_of, inside_of, seal_below, call_shut, seal_no, seal_cut, seal_synced, rules)

pub returns : goal.returns
returns c = search (passed_of, inside_of, seal_below, call_shut, seal_no, seal_cut, seal_synced, rules)
