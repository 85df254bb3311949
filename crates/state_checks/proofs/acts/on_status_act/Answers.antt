-- Made by tools/uniform from proofs.txt, not by hand: f95d27ac630626fd
use Rattle.state.specs.Exits.{inside_after}
use Rattle.state_checks.specs.ActLaws.{status_acted}
use borrow.Author.Rules.{rules}
use Rattle.state_checks.proofs.acts.on_status_act.Goals as goal

pub keep-requires : goal.keep-requires
keep-requires c = search (status_acted, inside_after, rules)

pub lead-requires : goal.lead-requires
lead-requires c = search (status_acted, inside_after, rules)

pub keep-requires-2 : goal.keep-requires-2
keep-requires-2 c = search (status_acted, inside_after, rules)

pub returns : goal.returns
returns c = status_acted _ _ _ _ _ _ _ _ _ c.keep.ensures c.lead.ensures c.keep-2.ensures
