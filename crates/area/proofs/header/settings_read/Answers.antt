-- Made by tools/uniform from proofs.txt, not by hand: edd484102e98993e
use Rattle.state.specs.Exits.{inside_of, inside_after}
use borrow.Author.Rules.{rules}
use Rattle.area.proofs.header.settings_read.Goals as goal

pub gate-g-requires : goal.gate-g-requires
gate-g-requires c = search (inside_of, inside_after, rules)

pub returns-then-g-gt0 : goal.returns-then-g-gt0
returns-then-g-gt0 c = search (inside_of, inside_after, rules)

pub settings_of-settings-requires : goal.settings_of-settings-requires
settings_of-settings-requires c = search (inside_of, inside_after, rules)

pub counts_of-counts-requires : goal.counts_of-counts-requires
counts_of-counts-requires c = search (inside_of, inside_after, rules)

pub returns : goal.returns
returns c = search (inside_of, inside_after, rules)
