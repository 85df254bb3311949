-- Made by tools/uniform from proofs.txt, not by hand: 713609f37689b567
use Rattle.state.specs.Exits.{inside_after}
use Rattle.sim_end.specs.EndLaws.{end_acts}
use borrow.Author.Rules.{rules}
use Rattle.sim_end.proofs.end_act.Goals as goal

pub end_status-requires : goal.end_status-requires
end_status-requires c = search (inside_after, end_acts, rules)

pub redirect-requires : goal.redirect-requires
redirect-requires c = search (inside_after, end_acts, rules)

pub owed_given-owed-requires : goal.owed_given-owed-requires
owed_given-owed-requires c = search (inside_after, end_acts, rules)

pub close_input-requires : goal.close_input-requires
close_input-requires c = search (inside_after, end_acts, rules)

pub returns : goal.returns
returns c = search (inside_after, end_acts, rules)
