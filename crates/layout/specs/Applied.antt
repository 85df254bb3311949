-- Applied payloads as a table (applied.rt). Assumes nothing.
use Rattle.std.specs.Prelude.{true, ℕ}
use Rattle.units.specs.Types.{Payload}
use Rattle.layout.specs.Tables.{Table}
use Rattle.layout.specs.Payload.{payload}

-- Payloads of up to p bytes, in any order.
abbrev pub applied : ℕ → Table Payload
applied p = record { row = payload p; rule = λ x. true }
