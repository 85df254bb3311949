-- Facts of the definitions: the number of what counting answers, where what it counts does not fit. Assumes nothing.
use Rattle.std.specs.Prelude.{◌≡◌, Bool, false, None}
use Rattle.laws.specs.Bools.{pick}
use Rattle.metrics.specs.declared.Metrics.{Metrics}
use Rattle.metrics.specs.Metrics.{counters_fit, counted_number}

pub number_false : (next : Metrics) (t : Bool) → counters_fit next ≡ t → t ≡ false → counted_number None ≡ pick (counters_fit next) 0 10
unfolding counted_number
number_false next t e h = rw (e, h)
