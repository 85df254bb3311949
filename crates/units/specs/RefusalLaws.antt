-- Answers and their numbers: 0 is an acceptance, and no question has it. Assumes nothing.
use Rattle.std.specs.Prelude.{◌≡◌, refl, false, eqb, Result, Ok, Err}
use Rattle.std.specs.Result.{is_ok}
use Rattle.units.specs.declared.refusal.Refusal.{Refusal}
use Rattle.units.specs.declared.refusal.Refusal.TheVariants as question
use Rattle.units.specs.Refusals.{refusal_number, answer_number}

pub refusal_positive : (r : Refusal) → eqb (refusal_number r) 0 ≡ false
refusal_positive question.Servers = refl
refusal_positive question.Consensus = refl
refusal_positive question.Settings = refl
refusal_positive question.AreaLength = refl
refusal_positive question.AreaBytes = refl
refusal_positive question.Phase = refl
refusal_positive question.UnknownServer = refl
refusal_positive question.LogIndex = refl
refusal_positive question.Argument = refl
refusal_positive question.Room = refl
refusal_positive question.SecondServer = refl

pub answered_zero : {A : Type 0} (r : Result A Refusal) → eqb (answer_number r) 0 ≡ is_ok r
answered_zero (Ok answer) = refl
answered_zero (Err r) = refusal_positive r
