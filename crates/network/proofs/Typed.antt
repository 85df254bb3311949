-- What the type Network tells of a value: rates of 32 bits and 64 links. Assumes nothing.
use mathlib.Core.Path.{◌≡◌}
use mathlib.Core.Bool.{Bool, ◌&&◌}
use mathlib.Core.List.{List}
use Prim.Native.Nat.{ℕ}
use mir.Val.{Val}
use denote.Laws.{Is}
use lib.Dec.{leb}
use Rattle.network.specs.declared.Network.{Network}
use Rattle.network.specs.Network.{links_within, network_in_range}
use Rattle.network.specs.Ranges.{in_range_is}
use Rattle.network.specs.contracts.Network as Network'

pub typed_in_range : (S : ℕ) (n : Network) (vs : List Val) (w : Bool) → Is Network'.the_row n vs → w ≡ links_within S 0 n.blocked
    → (((leb n.base_delay.0 1_099_511_627_776 && leb 1 n.delay_factor) && leb n.delay_factor 65_536) && w) ≡ network_in_range S n
typed_in_range S n vs w p = in_range_is S n w p.1.1.1.0.1 p.1.1.1.1.0.1 p.1.1.1.1.1.1.0.1.0.1
