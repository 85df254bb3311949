-- The settings that both algorithms share (config.rs). Assumes nothing.
use Rattle.std.specs.Prelude.{Bool, [], ◌∷◌, ltb, leb, Result, Ok, Err}
use Rattle.std.specs.Result.{is_ok}
use Rattle.laws.specs.Bools.{◌and◌}
use Rattle.config.specs.declared.Config.{Config}
use Rattle.config.specs.declared.ConfigError.{ConfigError}
use Rattle.config.specs.declared.ConfigError.TheVariants.{ElectionTimeoutMinZero, ElectionTimeoutMinAboveMax, HeartbeatIntervalOutOfRange, MaxEntriesPerMessageZero, MaxEntriesInFlightTooFew}
use Rattle.config.specs.Questions.{first_no}

-- The first problem of the settings, or none (validate).
unfoldable pub validate : Config → Result (Unit {0}) ConfigError
validate c =
    first_no (Ok tt) (
    (ltb 0 c.election_timeout_min.0, Err ElectionTimeoutMinZero)
    ∷ (leb c.election_timeout_min.0 c.election_timeout_max.0, Err ElectionTimeoutMinAboveMax)
    ∷ (ltb 0 c.heartbeat_interval.0 and ltb c.heartbeat_interval.0 c.election_timeout_min.0, Err HeartbeatIntervalOutOfRange)
    ∷ (ltb 0 c.max_entries_per_message, Err MaxEntriesPerMessageZero)
    ∷ (leb c.max_entries_per_message c.max_entries_in_flight, Err MaxEntriesInFlightTooFew)
    ∷ [])

-- Question 2: does `validate` accept?
unfoldable pub accepts : Config → Bool
accepts c = is_ok (validate c)
