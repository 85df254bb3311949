-- Made by tools/uniform from proofs.txt, not by hand: 09ec1765d2cd8023
use Rattle.sim_seal_sync.specs.Laws.{write_checked_lem}
use borrow.Author.Rules.{rules}
use Rattle.sim_seal_sync.proofs.check_write.Goals as goal

pub run_of-run-requires : goal.run_of-run-requires
run_of-run-requires c = search (write_checked_lem, rules)

pub written_index-index-requires : goal.written_index-index-requires
written_index-index-requires c = search (write_checked_lem, rules)

pub write_asked-asked-requires : goal.write_asked-asked-requires
write_asked-asked-requires c = search (write_checked_lem, rules)

pub on_write_act-requires : goal.on_write_act-requires
on_write_act-requires c = search (write_checked_lem, rules)

pub returns : goal.returns
returns c = search (write_checked_lem, rules)
