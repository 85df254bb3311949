-- Made by tools/uniform from proofs.txt, not by hand: e1999945b0a9a30a
use Rattle.state_header.specs.Laws.{settings_read_lem}
use borrow.Author.Rules.{rules}
use Rattle.state_header.proofs.settings_of.Goals as goal

pub returns : goal.returns
returns c = search (settings_read_lem, rules)
