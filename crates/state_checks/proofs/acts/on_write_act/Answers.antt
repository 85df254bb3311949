-- Made by tools/uniform from proofs.txt, not by hand: 9cd31525baf50625
use Rattle.state.specs.Exits.{inside_after}
use Rattle.state_checks.specs.ActLaws.{write_acted}
use borrow.Author.Rules.{rules}
use Rattle.state_checks.proofs.acts.on_write_act.Goals as goal

pub overflow_add-other : goal.overflow_add-other
overflow_add-other c = search (write_acted, inside_after, rules)

pub keep-requires : goal.keep-requires
keep-requires c = search (write_acted, inside_after, rules)

pub see_entry_of-requires : goal.see_entry_of-requires
see_entry_of-requires c = search (write_acted, inside_after, rules)

pub returns : goal.returns
returns c = write_acted _ _ _ _ _ _ _ _ c.keep.ensures c.see_entry_of.ensures
