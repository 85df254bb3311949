-- Made by tools/uniform from proofs.txt, not by hand: 05710f4421b999a9
use native.Mathlib.Omega.{arith}
use Rattle.queue.specs.NumberLaws.{candidate_last}
use Rattle.queue.proofs.numbers.candidate.Goals as goal

pub returns-in_default : goal.returns-in_default
returns-in_default c = candidate_last _ (omega arith)
