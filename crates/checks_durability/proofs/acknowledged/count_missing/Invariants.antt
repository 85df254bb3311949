-- Made by tools/uniform from proofs.txt, not by hand: be10c7ca7715c545
use Rattle.checks_durability.specs.MissingLaws.{Counting}
use Rattle.checks_durability.proofs.acknowledged.count_missing.Given as goal

abbrev pub invariant-loop-k : goal.invariant-loop-k
invariant-loop-k l = Counting l.p l.size l.n l.m l.s l.a l.count l.k
