-- What stands behind the gate says what the contracts of the calls with a lent buffer say. Assumes nothing.
use Rattle.std.proofs.Common.{◌∙◌}
use Rattle.std.specs.Prelude.{List, ℕ}
use Rattle.model.specs.Outcome.{outcome}
use Rattle.answers.specs.declared.SteppedAnswer.{SteppedAnswer}
use Rattle.answers.specs.declared.EntryAnswer.{EntryAnswer}
use Rattle.answers.specs.declared.AppliedEntryAnswer.{AppliedEntryAnswer}
use Rattle.sim_step.specs.Steps.{StepMade}
use Rattle.sim_reads.specs.Servers.{EntryRead}
use Rattle.sim_reads_report.specs.Report.{AppliedRead}
use Rattle.demands.specs.WrittenLaws.{step_filled, entry_filled, applied_filled}
use Rattle.api.specs.Called.{StepCalled, EntryCalled, AppliedCalled}

pub step_called : {b b' z z' : List ℕ} {deadline : ℕ} {r : SteppedAnswer} → StepMade b b' deadline z z' r → StepCalled b b' deadline z z' r
step_called {b} {b'} {z} {z'} {deadline} m = record { answer = m.answer; buffer = m.buffer ∙ step_filled b z (record { 0 = deadline }) }

pub entry_called : {b z z' : List ℕ} {server index : ℕ} {r : EntryAnswer} → EntryRead b server index z z' r → EntryCalled b server index z z' r
unfolding outcome
entry_called {b} {z} {z'} {server} {index} m = record { answer = m.answer; buffer = m.buffer ∙ entry_filled b z server index }

pub applied_called : {b z z' : List ℕ} {index : ℕ} {r : AppliedEntryAnswer} → AppliedRead b index z z' r → AppliedCalled b index z z' r
unfolding outcome
applied_called {b} {z} {z'} {index} m = record { answer = m.answer; buffer = m.buffer ∙ applied_filled b z index }
