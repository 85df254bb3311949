-- Made by tools/uniform from proofs.txt, not by hand: 3081aa4187cf5d64
use Rattle.state.specs.Exits.{inside_after}
use Rattle.sim_start.specs.Laws.{start_inside, start_no, start_yes}
use Rattle.sim_start.proofs.Typed.{config_typed}
use borrow.Author.Rules.{rules}
use Rattle.sim_start.proofs.start_in.Goals as goal

pub returns-then-code-gt0 : goal.returns-then-code-gt0
returns-then-code-gt0 c = search (start_inside, inside_after, config_typed, start_no, start_yes, rules)

pub lay_out-requires : goal.lay_out-requires
lay_out-requires c = search (start_inside, inside_after, config_typed, start_no, start_yes, rules)

pub begin-requires : goal.begin-requires
begin-requires c = search (start_inside, inside_after, config_typed, start_no, start_yes, rules)

pub returns : goal.returns
returns c = search (start_inside, inside_after, config_typed, start_no, start_yes, rules)
