-- The contracts that are records, of the calls with a lent buffer, say what `Made` says of an exported call; so do those of the other calls, word for word. Assumes nothing.
use Rattle.std.specs.Prelude.{List, ℕ, length}
use Rattle.model.specs.Outcome.{step, read, read_entry, read_applied_entry}
use Rattle.answers.specs.declared.SteppedAnswer.{SteppedAnswer}
use Rattle.answers.specs.declared.EntryAnswer.{EntryAnswer}
use Rattle.answers.specs.declared.AppliedEntryAnswer.{AppliedEntryAnswer}
use Rattle.demands.specs.Heard.{heard_stepped, heard_entry, heard_applied_entry}
use Rattle.demands.specs.Exported.{Made, made_step, made_read_entry, made_read_applied_entry}
use Rattle.api.specs.Called.{StepCalled, EntryCalled, AppliedCalled}

-- A step.
pub step_made : {b b' z z' : List ℕ} {deadline : ℕ} {r : SteppedAnswer} → StepCalled b b' deadline z z' r → Made b z b' z' (step (record { 0 = deadline }) (length z)) (heard_stepped r z')
step_made m = made_step m.answer m.buffer

-- The read of an entry.
pub entry_made : {b z z' : List ℕ} {server index : ℕ} {r : EntryAnswer} → EntryCalled b server index z z' r → Made b z b z' (read (read_entry server index (length z))) (heard_entry r z')
entry_made m = made_read_entry m.answer m.buffer

-- The read of an applied entry.
pub applied_made : {b z z' : List ℕ} {index : ℕ} {r : AppliedEntryAnswer} → AppliedCalled b index z z' r → Made b z b z' (read (read_applied_entry index (length z))) (heard_applied_entry r z')
applied_made m = made_read_applied_entry m.answer m.buffer
