-- Made by tools/uniform from proofs.txt, not by hand: c8045d0352791983
use Rattle.state_header.specs.Laws.{workload_put}
use borrow.Author.Rules.{rules}
use Rattle.state_header.proofs.set_workload.Goals as goal

pub returns : goal.returns
returns c = search (workload_put, rules)
