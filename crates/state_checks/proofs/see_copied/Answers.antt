-- Made by tools/uniform from proofs.txt, not by hand: 367aff196b66acf3
use Rattle.state_checks.specs.LogLaws.{entries_seen, absent_seen, entry_seen}
use borrow.Author.Rules.{rules}
use Rattle.state_checks.proofs.see_copied.Goals as goal

pub copy_entry-requires : goal.copy_entry-requires
copy_entry-requires c = search (entries_seen, rules)

pub see_entry-requires : goal.see_entry-requires
see_entry-requires c = search (entries_seen, rules)

pub returns-then-copy_entry : goal.returns-then-copy_entry
returns-then-copy_entry c = entry_seen _ _ _ _ _ _ _ c.copy_entry.ensures _ (search rules) c.see_entry.ensures

pub returns-else-copy_entry : goal.returns-else-copy_entry
returns-else-copy_entry c = absent_seen _ _ _ _ _ _ _ c.copy_entry.ensures (search rules)
