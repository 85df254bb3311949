-- Made by tools/uniform from proofs.txt, not by hand: 522efee7963efef8
use Rattle.state_checks.specs.EntryLaws.{seeing, seen_full, seen_known, seen_put}
use borrow.Author.Rules.{rules}
use Rattle.state_checks.proofs.see_entry.Goals as goal

pub returns-then-not-due : goal.returns-then-not-due
returns-then-not-due c = search (seeing, rules)

pub count_of-n-requires : goal.count_of-n-requires
count_of-n-requires c = search (seeing, rules)

pub returns-then-limits-n : goal.returns-then-limits-n
returns-then-limits-n c = seen_full _ _ _ _ _ _ (search rules) _ c.count_of-n.ensures (search rules)

pub is_unseen-requires : goal.is_unseen-requires
is_unseen-requires c = search (seeing, rules)

pub returns-then-not-is_unseen : goal.returns-then-not-is_unseen
returns-then-not-is_unseen c = seen_known _ _ _ _ _ _ (search rules) _ c.count_of-n.ensures _ c.is_unseen.ensures (search rules)

pub insert_entry-requires : goal.insert_entry-requires
insert_entry-requires c = search (seeing, rules)

pub returns : goal.returns
returns c = seen_put _ _ _ _ _ _ (search rules) _ c.count_of-n.ensures _ c.is_unseen.ensures _ (search rules) c.insert_entry.ensures
