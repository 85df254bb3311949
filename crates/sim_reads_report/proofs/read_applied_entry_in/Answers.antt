-- Made by tools/uniform from proofs.txt, not by hand: bd58cceef57f165e
use Rattle.state.specs.Exits.{inside_of}
use Rattle.sim_reads_report.specs.Laws.{applied_shut, applied_nine, applied_read}
use borrow.Author.Rules.{rules}
use Rattle.sim_reads_report.proofs.read_applied_entry_in.Goals as goal

pub applied_entry_no-requires : goal.applied_entry_no-requires
applied_entry_no-requires c = search (inside_of, applied_shut, applied_nine, applied_read, rules)

pub returns-then-refusal-gt0 : goal.returns-then-refusal-gt0
returns-then-refusal-gt0 c = search (inside_of, applied_shut, applied_nine, applied_read, rules)

pub applied_entry_no-requires-then-buffer-limits : goal.applied_entry_no-requires-then-buffer-limits
applied_entry_no-requires-then-buffer-limits c = search (inside_of, applied_shut, applied_nine, applied_read, rules)

pub returns-then-buffer-limits : goal.returns-then-buffer-limits
returns-then-buffer-limits c = search (inside_of, applied_shut, applied_nine, applied_read, rules)

pub read_applied-payload-requires : goal.read_applied-payload-requires
read_applied-payload-requires c = search (inside_of, applied_shut, applied_nine, applied_read, rules)

pub applied_entry_yes-requires : goal.applied_entry_yes-requires
applied_entry_yes-requires c = search (inside_of, applied_shut, applied_nine, applied_read, rules)

pub returns : goal.returns
returns c = search (inside_of, applied_shut, applied_nine, applied_read, rules)
