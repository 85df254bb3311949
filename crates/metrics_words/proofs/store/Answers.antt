-- Made by tools/uniform from proofs.txt, not by hand: 9a67a96bdff511a3
use Rattle.metrics_words.proofs.Typed.{eight_senders}
use Rattle.metrics_words.specs.Laws.{stores_metrics}
use Rattle.metrics_words.proofs.store.Goals as goal

pub returns : goal.returns
returns c = stores_metrics _ _ _ _ _ c.requires (eight_senders c.args.m _ c.well_formed.1.0) c.store_counts.ensures c.store_senders.ensures c.store_all.ensures
