-- What the type Metrics tells of a value: eight senders. Assumes nothing.
use mathlib.Core.Path.{◌≡◌}
use mathlib.Core.List.{List}
use mir.Val.{Val}
use denote.Laws.{Is}
use lib.ListN.{length}
use Rattle.metrics.specs.declared.Metrics.{Metrics}
use Rattle.metrics.specs.contracts.Metrics as Metrics'

pub eight_senders : (m : Metrics) (vs : List Val) → Is Metrics'.the_row m vs → length m.by_sender ≡ 8
eight_senders m vs p = p.1.1.1.0.1.0.1
