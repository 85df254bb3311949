-- Timers and roles and their numbers give each other. Assumes nothing.
use Rattle.std.specs.Prelude.{refl, None, Some}
use Rattle.laws.specs.Kinds.{kind_of, Numbered, numbered}
use Rattle.protocol.specs.declared.Timer.TheVariants.{Election, Heartbeat}
use Rattle.protocol.specs.declared.Role.TheVariants.{Follower, Candidate, Leader}
use Rattle.protocol.specs.Numbers.{timer_number, timers, timer_of, role_number, roles, role_of}

pub timers_numbered : Numbered timer_number Some timer_of
unfolding timer_of kind_of
timers_numbered = numbered _ _ None (λ j k e. cc) (λ k e. cc) timers (elim [ Election ↦ refl | Heartbeat ↦ refl ])

pub roles_numbered : Numbered role_number Some role_of
unfolding role_of kind_of
roles_numbered = numbered _ _ None (λ j k e. cc) (λ k e. cc) roles (elim [ Follower ↦ refl | Candidate ↦ refl | Leader ↦ refl ])
