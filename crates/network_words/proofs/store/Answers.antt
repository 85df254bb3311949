-- Made by tools/uniform from proofs.txt, not by hand: 2c694f01d2c1f344
use Rattle.network_words.specs.Laws.{stores_network}
use borrow.Author.Rules.{rules}
use Rattle.network_words.proofs.store.Goals as goal

pub returns : goal.returns
returns c = search (stores_network, rules)
