-- Made by tools/uniform from proofs.txt, not by hand: f747b949338f364a
use Rattle.state_checks.specs.TableLaws.{applying, applied_full, applied_put}
use borrow.Author.Rules.{rules}
use Rattle.state_checks.proofs.apply_payload.Goals as goal

pub returns-then-not-due : goal.returns-then-not-due
returns-then-not-due c = search (applying, rules)

pub count_of-n-requires : goal.count_of-n-requires
count_of-n-requires c = search (applying, rules)

pub returns-then-limits-n : goal.returns-then-limits-n
returns-then-limits-n c = applied_full _ _ _ _ (search rules) _ c.count_of-n.ensures (search rules)

pub append_payload-requires : goal.append_payload-requires
append_payload-requires c = search (applying, rules)

pub returns : goal.returns
returns c = applied_put _ _ _ _ (search rules) _ c.count_of-n.ensures _ c.append_payload.ensures
