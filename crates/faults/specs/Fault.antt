-- Faults as numbers (faults.rs): the kind in order of declaration from 0, and two numbers; the ranges of document 01. Assumes nothing.
use Rattle.std.specs.Prelude.{Bool, true, ◌&&◌, List, [], ◌∷◌, ℕ, zero, suc, ◌/◌, ◌%◌, ◌^◌, leb, ltb, eqb, get_or, Option, None, Some}
use Rattle.std.specs.Bool.{then_some}
use Rattle.laws.specs.Bools.{◌and◌}
use Rattle.units.specs.declared.NodeId.{NodeId}
use Rattle.faults.specs.declared.Fault.{Fault}
use Rattle.faults.specs.declared.FaultNumbers.{FaultNumbers}
use Rattle.faults.specs.declared.Fault.TheVariants.{Crash, CrashDuringNextInput, Restart, CrashLeader, Partition, Block, Unblock, HealLinks, SetLoss, SetDuplication, SetDelayFactor, HealAll}

-- The number of a fault's kind.
abbrev pub fault_kind : Fault → ℕ
fault_kind (Crash server) = 0
fault_kind (CrashDuringNextInput server) = 1
fault_kind (Restart server) = 2
fault_kind (CrashLeader downtime) = 3
fault_kind (Partition groups) = 4
fault_kind (Block from to) = 5
fault_kind (Unblock from to) = 6
fault_kind HealLinks = 7
fault_kind (SetLoss rate) = 8
fault_kind (SetDuplication rate) = 9
fault_kind (SetDelayFactor factor) = 10
fault_kind HealAll = 11

-- A fault's first number, 0 where it has none.
abbrev pub fault_first : Fault → ℕ
fault_first (Crash server) = server.0
fault_first (CrashDuringNextInput server) = server.0
fault_first (Restart server) = server.0
fault_first (CrashLeader downtime) = downtime.0
fault_first (Partition groups) = groups
fault_first (Block from to) = from.0
fault_first (Unblock from to) = from.0
fault_first HealLinks = 0
fault_first (SetLoss rate) = rate
fault_first (SetDuplication rate) = rate
fault_first (SetDelayFactor factor) = factor
fault_first HealAll = 0

-- A fault's second number, 0 where it has none.
abbrev pub fault_second : Fault → ℕ
fault_second (Crash server) = 0
fault_second (CrashDuringNextInput server) = 0
fault_second (Restart server) = 0
fault_second (CrashLeader downtime) = 0
fault_second (Partition groups) = 0
fault_second (Block from to) = to.0
fault_second (Unblock from to) = to.0
fault_second HealLinks = 0
fault_second (SetLoss rate) = 0
fault_second (SetDuplication rate) = 0
fault_second (SetDelayFactor factor) = 0
fault_second HealAll = 0

-- A fault's numbers.
abbrev pub numbers_of : Fault → FaultNumbers
numbers_of fault = record { kind = fault_kind fault; first = fault_first fault; second = fault_second fault }

-- The faults of two numbers, in order of their kinds; a number that the kind does not have is 0, and a rate has 32 bits.
abbrev pub faults_of : ℕ → ℕ → List (Option Fault)
faults_of first second =
    then_some (eqb second 0) (Crash (record { 0 = first }))
    ∷ then_some (eqb second 0) (CrashDuringNextInput (record { 0 = first }))
    ∷ then_some (eqb second 0) (Restart (record { 0 = first }))
    ∷ then_some (eqb second 0) (CrashLeader (record { 0 = first }))
    ∷ then_some (eqb second 0) (Partition first)
    ∷ Some (Block (record { 0 = first }) (record { 0 = second }))
    ∷ Some (Unblock (record { 0 = first }) (record { 0 = second }))
    ∷ then_some (eqb first 0 && eqb second 0) HealLinks
    ∷ then_some (ltb first (2 ^ 32) && eqb second 0) (SetLoss first)
    ∷ then_some (ltb first (2 ^ 32) && eqb second 0) (SetDuplication first)
    ∷ then_some (eqb second 0) (SetDelayFactor first)
    ∷ then_some (eqb first 0 && eqb second 0) HealAll
    ∷ []

-- The fault of three numbers; none where they are not the numbers of a fault.
unfoldable pub fault_of : ℕ → ℕ → ℕ → Option Fault
fault_of kind first second = get_or (faults_of first second) kind None

-- Whether a server is in a cluster of so many servers.
unfoldable pub in_cluster : ℕ → NodeId → Bool
in_cluster servers id = leb 1 id.0 and leb id.0 servers

-- Whether the lowest n groups of a word have no member outside the cluster.
unfoldable pub groups_in : ℕ → ℕ → ℕ → Bool
groups_in zero groups servers = true
groups_in (suc n) groups servers = eqb (groups % 256 / 2 ^ servers) 0 and groups_in n (groups / 256) servers

-- Whether every server that a fault names is in the cluster: question 7.
abbrev pub targets_known : ℕ → Fault → Bool
targets_known servers (Crash server) = in_cluster servers server
targets_known servers (CrashDuringNextInput server) = in_cluster servers server
targets_known servers (Restart server) = in_cluster servers server
targets_known servers (CrashLeader downtime) = true
targets_known servers (Partition groups) = groups_in 8 groups servers
targets_known servers (Block from to) = in_cluster servers from and in_cluster servers to
targets_known servers (Unblock from to) = in_cluster servers from and in_cluster servers to
targets_known servers HealLinks = true
targets_known servers (SetLoss rate) = true
targets_known servers (SetDuplication rate) = true
targets_known servers (SetDelayFactor factor) = true
targets_known servers HealAll = true

-- Whether a fault's other numbers are within limits: question 9.
abbrev pub within_limits : Fault → Bool
within_limits (Crash server) = true
within_limits (CrashDuringNextInput server) = true
within_limits (Restart server) = true
within_limits (CrashLeader downtime) = leb downtime.0 (2 ^ 40)
within_limits (Partition groups) = true
within_limits (Block from to) = true
within_limits (Unblock from to) = true
within_limits HealLinks = true
within_limits (SetLoss rate) = ltb rate (2 ^ 32)
within_limits (SetDuplication rate) = ltb rate (2 ^ 32)
within_limits (SetDelayFactor factor) = leb factor 65_536
within_limits HealAll = true

-- Whether a fault is in range in a cluster of so many servers.
abbrev pub fault_in_range : ℕ → Fault → Bool
fault_in_range servers fault = targets_known servers fault and within_limits fault
