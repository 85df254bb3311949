-- Made by tools/uniform from proofs.txt, not by hand: 859838a4afbb7f56
use Rattle.std.proofs.Common.{◌∙◌, ◌+◌, ◌*◌}
use Rattle.laws.specs.Arrays.{from_fn_list}
use Rattle.words.specs.Words.{W}
use Rattle.metrics_words.specs.MetricsCode.{counts_at}
use Rattle.metrics_words.specs.Laws.{senders_at}
use borrow.Author.Rules.{rules}
use Rattle.metrics_words.proofs.load_senders.Goals as goal

pub returns : goal.returns
returns c = from_fn_list _ (λ k. counts_at (W c.args.s.now) (3 + k * 3)) _ (λ i y q k. search rules) c.from_fn.ensures.items ∙ senders_at (W c.args.s.now)
