-- Why a call is refused (document 01, its questions), by number. Assumes nothing.
use Rattle.std.specs.Prelude.{ℕ, Ok, Err}
use Rattle.std.specs.declared.result.Result.{Result}
use Rattle.units.specs.declared.refusal.Refusal.{Refusal}
use Rattle.units.specs.declared.refusal.Refusal.TheVariants as question

-- A question's number.
abbrev pub refusal_number : Refusal → ℕ
refusal_number question.Servers = 1
refusal_number question.Consensus = 2
refusal_number question.Settings = 3
refusal_number question.AreaLength = 4
refusal_number question.AreaBytes = 5
refusal_number question.Phase = 6
refusal_number question.UnknownServer = 7
refusal_number question.LogIndex = 8
refusal_number question.Argument = 9
refusal_number question.Room = 10
refusal_number question.SecondServer = 11

-- Document 01's number for an answer: 0 where it is accepted, else that of the question answered no.
abbrev pub answer_number : {A : Type 0} → Result A Refusal → ℕ
answer_number (Ok answer) = 0
answer_number (Err refusal) = refusal_number refusal
