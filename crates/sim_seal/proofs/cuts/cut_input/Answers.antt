-- Made by tools/uniform from proofs.txt, not by hand: 5346781a2c763c59
use Rattle.state.specs.Exits.{inside_after}
use Rattle.sim_seal.specs.CutLaws.{cut_done}
use borrow.Author.Rules.{rules}
use Rattle.sim_seal.proofs.cuts.cut_input.Goals as goal

pub owed_given-owed-requires : goal.owed_given-owed-requires
owed_given-owed-requires c = search (inside_after, cut_done, rules)

pub stop_server-requires : goal.stop_server-requires
stop_server-requires c = search (inside_after, cut_done, rules)

pub redirect-requires : goal.redirect-requires
redirect-requires c = search (inside_after, cut_done, rules)

pub close_input-requires : goal.close_input-requires
close_input-requires c = search (inside_after, cut_done, rules)

pub returns : goal.returns
returns c = search (inside_after, cut_done, rules)
