-- Made by tools/uniform from proofs.txt, not by hand: fb934ba51aee031f
use Rattle.state.specs.Exits.{read_shut}
use Rattle.sim_reads_run.specs.Laws.{settings_read_lem}
use borrow.Author.Rules.{rules}
use Rattle.sim_reads_run.proofs.read_settings_in.Goals as goal

pub settings_no-requires : goal.settings_no-requires
settings_no-requires c = search (read_shut, settings_read_lem, rules)

pub returns-then-refusal-gt0 : goal.returns-then-refusal-gt0
returns-then-refusal-gt0 c = search (read_shut, settings_read_lem, rules)

pub settings_yes-requires : goal.settings_yes-requires
settings_yes-requires c = search (read_shut, settings_read_lem, rules)

pub returns : goal.returns
returns c = search (read_shut, settings_read_lem, rules)
