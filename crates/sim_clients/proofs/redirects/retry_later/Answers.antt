-- Made by tools/uniform from proofs.txt, not by hand: 0bccc5fef919182e
use Rattle.state.specs.Exits.{inside_after}
use Rattle.sim_clients.specs.RedirectLaws.{retry_acts}
use borrow.Author.Rules.{rules}
use Rattle.sim_clients.proofs.redirects.retry_later.Goals as goal

pub run_of-run-requires : goal.run_of-run-requires
run_of-run-requires c = search (inside_after, retry_acts, rules)

pub backoff_at-end-requires : goal.backoff_at-end-requires
backoff_at-end-requires c = search (inside_after, retry_acts, rules)

pub random_target-requires : goal.random_target-requires
random_target-requires c = search (inside_after, retry_acts, rules)

pub push_plain-requires : goal.push_plain-requires
push_plain-requires c = search (inside_after, retry_acts, rules)

pub returns : goal.returns
returns c = search (inside_after, retry_acts, rules)
