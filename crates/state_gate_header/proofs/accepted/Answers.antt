-- Made by tools/uniform from proofs.txt, not by hand: b54452063de44391
use Rattle.state_gate_header.specs.Laws.{accepted_ok_lem, accepted_number}
use borrow.Author.Rules.{rules}
use Rattle.state_gate_header.proofs.accepted.Goals as goal

pub returns : goal.returns
returns c = search (accepted_ok_lem, accepted_number, rules)
