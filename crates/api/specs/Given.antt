-- What C gives as numbers, and what the calls without an area answer. Assumes nothing.
use Rattle.std.specs.Prelude.{◌≡◌, List, [], ◌∷◌, ℕ, ◌/◌, ◌^◌, leb, ltb, eqb, length, get_or, Result, Ok, Err}
use Rattle.laws.specs.Bools.{pick}
use Rattle.units.specs.Refusals.{refusal_number}
use Rattle.units.specs.declared.refusal.Refusal.{Refusal}
use Rattle.seeds.specs.Seeds.{stream_seed}
use Rattle.seeds.specs.declared.Stream.{Stream}
use Rattle.seeds.specs.declared.Stream.TheVariants as stream
use Rattle.config.specs.declared.SimConfig.{SimConfig}
use Rattle.config.specs.declared.Limits.{Limits}
use Rattle.config.specs.Limits.{servers_fit, counts_fit, area_length}
use Rattle.rng.specs.declared.Rng.{Rng}
use Rattle.faults_chaos.specs.declared.ChaosConfig.{ChaosConfig}
use Rattle.faults_chaos.specs.Schedule.{Chaos, chaos_schedule}
use Rattle.faults_chaos.specs.Answers.{ids_of}
use Rattle.faults_schedule.specs.declared.Made.{Made}
use Rattle.faults_schedule.specs.Schedules.{answer_of, list_after, generator_after}
use Rattle.api.specs.declared.settings.SettingsNumbers.{SettingsNumbers}
use Rattle.api.specs.declared.settings.LimitsNumbers.{LimitsNumbers}
use Rattle.api.specs.declared.schedules.LengthAnswer.{LengthAnswer}
use Rattle.api.specs.declared.schedules.SeedAnswer.{SeedAnswer}
use Rattle.api.specs.declared.schedules.ChaosNumbers.{ChaosNumbers}
use Rattle.api.specs.declared.schedules.ScheduleAnswer.{ScheduleAnswer}

-- The settings of their numbers.
abbrev pub settings_given : SettingsNumbers → SimConfig
settings_given n = record {
  servers = n.servers;
  consensus = record {
    heartbeat_interval = record { 0 = n.heartbeat_interval };
    election_timeout_min = record { 0 = n.election_timeout_min };
    election_timeout_max = record { 0 = n.election_timeout_max };
    max_entries_per_message = n.max_entries_per_message;
    max_entries_in_flight = n.max_entries_in_flight;
  };
  one_way_delay = record { 0 = n.one_way_delay };
  clients = n.clients;
  command_bytes = n.command_bytes;
  client_timeout = record { 0 = n.client_timeout };
  client_backoff = record { 0 = n.client_backoff };
  count_bytes = n.count_bytes;
  raft_checks = n.raft_checks;
  start_spread = record { 0 = n.start_spread };
}

-- The limits of their numbers.
abbrev pub limits_given : LimitsNumbers → Limits
limits_given n = record {
  log_indexes = n.log_indexes;
  payload = n.payload;
  message = n.message;
  events = n.events;
  writes = n.writes;
  history = n.history;
}

-- The area's length: 1 for a number of servers that there cannot be, 3 for other counts outside the limits.
unfoldable pub length_of : ℕ → ℕ → LimitsNumbers → LengthAnswer
length_of servers clients limits =
    pick (servers_fit servers)
    (pick (counts_fit servers clients (limits_given limits))
    (record { refusal = 0; length = area_length servers clients (limits_given limits) })
    (record { refusal = 3; length = 0 }))
    (record { refusal = 1; length = 0 })

-- The stream of a number: faults, network, workload, scenario, startup, and 5 for a server's.
unfoldable pub stream_of : ℕ → ℕ → ℕ → Stream
stream_of n server incarnation =
    get_or (stream.Faults ∷ stream.Network ∷ stream.Workload ∷ stream.Scenario ∷ stream.Startup ∷ []) n (stream.Server (record { 0 = server }) incarnation)

-- The seed of a stream: 9 for a number that is none's and for an incarnation of more than 32 bits.
unfoldable pub seed_of : ℕ → ℕ → ℕ → ℕ → SeedAnswer
seed_of seed n server incarnation =
    pick (leb n 5)
    (pick (ltb incarnation (2 ^ 32))
    (record { refusal = 0; seed = stream_seed seed (stream_of n server incarnation) })
    (record { refusal = 9; seed = 0 }))
    (record { refusal = 9; seed = 0 })

-- The settings of a schedule of their numbers.
abbrev pub chaos_given : ChaosNumbers → ChaosConfig
chaos_given n = record {
  start = record { 0 = n.start };
  end = record { 0 = n.end };
  mean_gap = record { 0 = n.mean_gap };
  max_duration = record { 0 = n.max_duration };
}

-- A schedule's answer in numbers, with the generator after it.
unfoldable pub schedule_told : Result Made Refusal → Rng → ScheduleAnswer
schedule_told (Err refusal) next = record { refusal = refusal_number refusal; count = 0; generator = 0 }
schedule_told (Ok made) next = record { refusal = 0; count = made.count; generator = next.state }

-- The schedule of these numbers, drawn for the servers into a list of so many bytes.
unfoldable pub schedule_given : List ℕ → ChaosNumbers → ℕ → ℕ → Chaos
schedule_given servers n generator bytes = chaos_schedule (ids_of servers) (chaos_given n) (bytes / 32) (record { state = generator })

-- A schedule for the servers was drawn: its answer, and the list b, which has become b'.
pub record ScheduleDrawn (servers : List ℕ) (n : ChaosNumbers) (generator : ℕ) (r : ScheduleAnswer) (b b' : List ℕ) : Type 0 where
  pub answer : (let c = schedule_given servers n generator (length b) in r ≡ schedule_told (answer_of c) (generator_after c (record { state = generator })))
  pub list : b' ≡ list_after (schedule_given servers n generator (length b)) b
