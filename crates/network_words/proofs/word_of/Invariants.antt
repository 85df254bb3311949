-- Made by tools/uniform from proofs.txt, not by hand: ee83a498702a2970
use Rattle.network_words.specs.LinkLaws.{Gathered}
use Rattle.network_words.proofs.word_of.Given as goal

abbrev pub invariant-loop-k : goal.invariant-loop-k
invariant-loop-k l = Gathered l.links l.k l.word
