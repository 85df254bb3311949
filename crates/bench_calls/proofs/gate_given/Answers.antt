-- Made by tools/uniform from proofs.txt, not by hand: f13b87f8ae50b691
use Rattle.bench_calls.specs.Counts.{gate_is}
use borrow.Author.Rules.{rules}
use Rattle.bench_calls.proofs.gate_given.Goals as goal

pub returns : goal.returns
returns c = search (gate_is, rules)
