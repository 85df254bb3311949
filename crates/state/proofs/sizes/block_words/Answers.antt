-- Made by tools/uniform from proofs.txt, not by hand: 1de251aeebfcfc8a
use Rattle.state.specs.SizeLaws.{block_counted}
use borrow.Author.Rules.{rules}
use Rattle.state.proofs.sizes.block_words.Goals as goal

pub log_words-logs-requires : goal.log_words-logs-requires
log_words-logs-requires c = search (block_counted, rules)

pub waiting_words-waiting-requires : goal.waiting_words-waiting-requires
waiting_words-waiting-requires c = search (block_counted, rules)

pub overflow_mul-result : goal.overflow_mul-result
overflow_mul-result c = search (block_counted, rules)

pub overflow_add-result : goal.overflow_add-result
overflow_add-result c = search (block_counted, rules)

pub overflow_add-result-2 : goal.overflow_add-result-2
overflow_add-result-2 c = search (block_counted, rules)

pub overflow_add-result-3 : goal.overflow_add-result-3
overflow_add-result-3 c = search (block_counted, rules)

pub overflow_add-result-4 : goal.overflow_add-result-4
overflow_add-result-4 c = search (block_counted, rules)

pub returns : goal.returns
returns c = search (block_counted, rules)
