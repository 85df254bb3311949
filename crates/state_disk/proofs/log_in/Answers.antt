-- Made by tools/uniform from proofs.txt, not by hand: a5df17a35b4bd099
use Rattle.state_disk.specs.Laws.{log_in}
use borrow.Author.Rules.{rules}
use Rattle.state_disk.proofs.log_in.Goals as goal

pub block_at-at-requires : goal.block_at-at-requires
block_at-at-requires c = search (log_in, rules)

pub log_words-logs-requires : goal.log_words-logs-requires
log_words-logs-requires c = search (log_in, rules)

pub overflow_add-result : goal.overflow_add-result
overflow_add-result c = search (log_in, rules)

pub overflow_mul-result : goal.overflow_mul-result
overflow_mul-result c = search (log_in, rules)

pub overflow_add-result-2 : goal.overflow_add-result-2
overflow_add-result-2 c = search (log_in, rules)

pub overflow_add-result-3 : goal.overflow_add-result-3
overflow_add-result-3 c = search (log_in, rules)

pub overflow_mul-result-2 : goal.overflow_mul-result-2
overflow_mul-result-2 c = search (log_in, rules)

pub returns : goal.returns
returns c = log_in _ _ _ _ _ c.requires.inside c.block_at-at.ensures c.log_words-logs.ensures
