-- Made by tools/uniform from proofs.txt, not by hand: b287064b5ec3bc68
use Rattle.network_words.specs.Laws.{loads_network}
use borrow.Author.Rules.{rules}
use Rattle.network_words.proofs.load.Goals as goal

pub returns : goal.returns
returns c = search (loads_network, rules)
