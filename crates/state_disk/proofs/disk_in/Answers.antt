-- Made by tools/uniform from proofs.txt, not by hand: 5366cc0958fbf96e
use Rattle.state_disk.specs.Laws.{disk_in}
use borrow.Author.Rules.{rules}
use Rattle.state_disk.proofs.disk_in.Goals as goal

pub block_at-at-requires : goal.block_at-at-requires
block_at-at-requires c = search (disk_in, rules)

pub log_words-logs-requires : goal.log_words-logs-requires
log_words-logs-requires c = search (disk_in, rules)

pub waiting_words-waiting-requires : goal.waiting_words-waiting-requires
waiting_words-waiting-requires c = search (disk_in, rules)

pub overflow_mul-result : goal.overflow_mul-result
overflow_mul-result c = search (disk_in, rules)

pub overflow_mul-result-2 : goal.overflow_mul-result-2
overflow_mul-result-2 c = search (disk_in, rules)

pub overflow_add-result : goal.overflow_add-result
overflow_add-result c = search (disk_in, rules)

pub overflow_mul-result-3 : goal.overflow_mul-result-3
overflow_mul-result-3 c = search (disk_in, rules)

pub overflow_add-result-2 : goal.overflow_add-result-2
overflow_add-result-2 c = search (disk_in, rules)

pub overflow_add-result-3 : goal.overflow_add-result-3
overflow_add-result-3 c = search (disk_in, rules)

pub overflow_add-result-4 : goal.overflow_add-result-4
overflow_add-result-4 c = search (disk_in, rules)

pub overflow_mul-result-4 : goal.overflow_mul-result-4
overflow_mul-result-4 c = search (disk_in, rules)

pub overflow_add-result-5 : goal.overflow_add-result-5
overflow_add-result-5 c = search (disk_in, rules)

pub returns : goal.returns
returns c = disk_in _ _ _ _ _ _ c.requires.inside c.block_at-at.ensures c.log_words-logs.ensures c.waiting_words-waiting.ensures
