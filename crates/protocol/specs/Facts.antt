-- Facts of the definitions: a number that is a timer's or a role's is read as that timer or role. Assumes nothing.
use Rattle.std.specs.Prelude.{◌≡◌, ℕ, Some}
use Rattle.laws.specs.Kinds.{kind_is}
use Rattle.protocol.specs.declared.Timer.{Timer}
use Rattle.protocol.specs.declared.Role.{Role}
use Rattle.protocol.specs.Numbers.{timer_number, timer_of, role_number, role_of}
use Rattle.protocol.specs.Laws.{timers_numbered, roles_numbered}

pub timer_is : (n : ℕ) (t : Timer) → n ≡ timer_number t → Some t ≡ timer_of n
timer_is = kind_is timers_numbered

pub role_is : (n : ℕ) (r : Role) → n ≡ role_number r → Some r ≡ role_of n
role_is = kind_is roles_numbered
