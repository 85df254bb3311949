-- Made by tools/uniform from proofs.txt, not by hand: dd6e6c5c1d53bdfe
use Rattle.sim_outputs.specs.Laws.{passed_inside}
use Rattle.sim_attempt.specs.Acts.{attempt_read}
use borrow.Author.Rules.{rules}
use Rattle.sim_attempt.proofs.attempt_fits.Goals as goal

pub arrival_at-at-requires : goal.arrival_at-at-requires
arrival_at-at-requires c = search (passed_inside, attempt_read, rules)

pub timeout_at-end-requires : goal.timeout_at-end-requires
timeout_at-end-requires c = search (passed_inside, attempt_read, rules)

pub sum64-next-requires : goal.sum64-next-requires
sum64-next-requires c = search (passed_inside, attempt_read, rules)

pub returns : goal.returns
returns c = search (passed_inside, attempt_read, rules)
