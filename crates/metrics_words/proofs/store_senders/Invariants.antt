-- Made by tools/uniform from proofs.txt, not by hand: 8c4143d4df8f595d
use Rattle.metrics_words.specs.Laws.{Written}
use Rattle.metrics_words.proofs.store_senders.Given as goal

abbrev pub invariant-loop-k : goal.invariant-loop-k
invariant-loop-k l = Written l.initial.s l.fn.senders l.s l.k
