-- Made by tools/uniform from proofs.txt, not by hand: 4ecf5e87f8224bc1
use Rattle.metrics_words.specs.Laws.{loads_metrics}
use borrow.Author.Rules.{rules}
use Rattle.metrics_words.proofs.load.Goals as goal

pub returns : goal.returns
returns c = search (loads_metrics, rules)
