-- The limits of document 01, questions 1 to 3 and the area's length. Assumes nothing.
use Rattle.std.specs.Prelude.{Bool, [], ◌∷◌, ℕ, ◌+◌, ◌*◌, ◌^◌, ◌≤◌, leb, Result, Ok, Err}
use Rattle.laws.specs.Bools.{◌and◌, allb, every}
use Rattle.units.specs.declared.Duration.{Duration}
use Rattle.config.specs.declared.SimConfig.{SimConfig}
use Rattle.config.specs.declared.Limits.{Limits}
use Rattle.units.specs.Refusals.{answer_number}
use Rattle.units.specs.declared.refusal.Refusal.{Refusal}
use Rattle.units.specs.declared.refusal.Refusal.TheVariants.{Servers, Consensus, Settings}
use Rattle.config.specs.Questions.{first_no}
use Rattle.config.specs.Config.{accepts}

-- A number from low to high.
unfoldable pub within : ℕ → ℕ → ℕ → Bool
within low high n = leb low n and leb n high

-- Question 1: servers S 1 to 8.
unfoldable pub servers_fit : ℕ → Bool
servers_fit servers = within 1 8 servers

-- A duration in settings: at most 2^40 ns.
unfoldable pub duration_fits : Duration → Bool
duration_fits d = leb d.0 (2 ^ 40)

-- All durations of the settings.
unfoldable pub durations_fit : SimConfig → Bool
durations_fit c =
    every duration_fits (
    c.consensus.heartbeat_interval ∷ c.consensus.election_timeout_min ∷ c.consensus.election_timeout_max ∷ c.one_way_delay ∷ c.client_timeout
    ∷ c.client_backoff ∷ c.start_spread ∷ [])

-- The capacities, by document 01's letters.
unfoldable pub limits_fit : Limits → Bool
limits_fit l =
    allb (
    within 1 1024 l.log_indexes  -- L
    ∷ within 12 256 l.payload  -- P
    ∷ within 0 4096 l.message  -- M
    ∷ within 1 65536 l.events  -- Q
    ∷ within 1 65536 l.writes  -- W
    ∷ within 1 65536 l.history  -- H
    ∷ [])

-- Question 3: clients C 0 to 64, the capacities, `command_bytes` 0 to P, the durations, and flags 0 or 1.
unfoldable pub settings_fit : SimConfig → Limits → Bool
settings_fit c l =
    allb (
    within 0 64 c.clients
    ∷ limits_fit l
    ∷ within 0 l.payload c.command_bytes
    ∷ durations_fit c
    ∷ within 0 1 c.count_bytes
    ∷ within 0 1 c.raft_checks
    ∷ [])

-- Questions 1 to 3, in order.
unfoldable pub judge : SimConfig → Limits → Result (Unit {0}) Refusal
judge c l = first_no (Ok tt) ((servers_fit c.servers, Err Servers) ∷ (accepts c.consensus, Err Consensus) ∷ (settings_fit c l, Err Settings) ∷ [])

-- Document 01's number for an answer.
abbrev pub judged_number : Result (Unit {0}) Refusal → ℕ
judged_number = answer_number

-- The counts that an area begins with: servers, clients and the capacities.
unfoldable pub counts_fit : ℕ → ℕ → Limits → Bool
counts_fit S C l = servers_fit S and within 0 64 C and limits_fit l

-- The area in bytes, for S servers and C clients.
unfoldable pub area_length : ℕ → ℕ → Limits → ℕ
area_length S C l =
    let L : ℕ = l.log_indexes in
    let P : ℕ = l.payload in
    let M : ℕ = l.message in
    let Q : ℕ = l.events in
    let W : ℕ = l.writes in
    let H : ℕ = l.history in
    4096 + S * (512 + 2 * L * (P + 24) + W * (P + 32) + 16 * H) + Q * (M + 64) + H * (2 * P + 160) + L * (P + 16) + 64 * C

-- What the area's length asks: each number in its range.
pub record InLimits (S C : ℕ) (l : Limits) : Type 0 where
  pub servers_low : 1 ≤ S
  pub servers : S ≤ 8
  pub clients : C ≤ 64
  pub log_indexes_low : 1 ≤ l.log_indexes
  pub log_indexes : l.log_indexes ≤ 1024
  pub payload_low : 12 ≤ l.payload
  pub payload : l.payload ≤ 256
  pub message : l.message ≤ 4096
  pub events_low : 1 ≤ l.events
  pub events : l.events ≤ 65536
  pub writes_low : 1 ≤ l.writes
  pub writes : l.writes ≤ 65536
  pub history_low : 1 ≤ l.history
  pub history : l.history ≤ 65536
