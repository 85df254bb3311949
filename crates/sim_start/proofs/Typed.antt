-- What the type SimConfig tells of a value: each number fits 64 bits. Assumes nothing.
use mathlib.Core.List.{List}
use mir.Val.{Val}
use denote.Laws.{Is}
use Rattle.config.specs.declared.SimConfig.{SimConfig}
use Rattle.config.specs.contracts.SimConfig as SimConfig'
use Rattle.sim_start.specs.Laws.{Typed}

pub config_typed : (c : SimConfig) (vs : List Val) → Is SimConfig'.the_row c vs → Typed c
config_typed c vs p =
    let q = p.1.1.1.0.1.1.1.1.1 in
    record { per_message = q.0.1; in_flight = q.1.0.1 }
