-- The numbers of document 01 for kinds of timer and role: their order of declaration in the Rust (protocol.rs), from 0. Assumes nothing.
use Rattle.std.specs.Prelude.{Bool, true, false, List, [], ◌∷◌, ℕ, Option, None, Some}
use Rattle.laws.specs.Kinds.{kind_of}
use Rattle.protocol.specs.declared.Timer.{Timer}
use Rattle.protocol.specs.declared.Timer.TheVariants.{Election, Heartbeat}
use Rattle.protocol.specs.declared.Role.{Role}
use Rattle.protocol.specs.declared.Role.TheVariants.{Follower, Candidate, Leader}

-- The number of a timer.
abbrev pub timer_number : Timer → ℕ
timer_number Election = 0
timer_number Heartbeat = 1

-- Every kind of timer.
abbrev pub timers : List Timer
timers = Election ∷ Heartbeat ∷ []

-- The timer with a number, if there is one.
unfoldable pub timer_of : ℕ → Option Timer
timer_of = kind_of timer_number Some None timers

-- The number of a role.
abbrev pub role_number : Role → ℕ
role_number Follower = 0
role_number Candidate = 1
role_number Leader = 2

-- Every role.
abbrev pub roles : List Role
roles = Follower ∷ Candidate ∷ Leader ∷ []

-- The role with a number, if there is one.
unfoldable pub role_of : ℕ → Option Role
role_of = kind_of role_number Some None roles

-- Whether a role is that of a leader.
abbrev pub leads : Role → Bool
leads Follower = false
leads Candidate = false
leads Leader = true
