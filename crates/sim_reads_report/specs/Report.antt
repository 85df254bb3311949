-- What the reads of a run's report answer, by the values that the code has (lib.rt): what their contracts cite. Assumes nothing.
use Rattle.std.specs.Prelude.{◌≡◌, List, ℕ, length, Option, None, Some}
use Rattle.layout.specs.declared.marked.Kind.{Kind}
use Rattle.layout.specs.declared.marked.Kind.TheVariants as kind
use Rattle.model.specs.State.{State}
use Rattle.model.specs.Reads as reads
use Rattle.model.specs.Outcome.{read_applied_entry, no, read_outcome}
use Rattle.state.specs.Call.{reading}
use Rattle.claims.specs.OnArea.{same}
use Rattle.answers.specs.declared.ViolationAnswer.{ViolationAnswer}
use Rattle.answers.specs.declared.MetricsAnswer.{MetricsAnswer}
use Rattle.answers.specs.declared.AppliedEntryAnswer.{AppliedEntryAnswer}
use Rattle.answers.specs.Answers.{violation_no, metrics_yes, applied_entry_no, applied_entry_yes}
use Rattle.answers.specs.Numbers.{filled}
use Rattle.checks.specs.declared.violations.Violation.{Violation}

-- The numbers of a violation that may be absent.
unfoldable pub violation_given : Option Violation → ViolationAnswer
violation_given None = violation_no 0
violation_given (Some v) = record { refusal = 0; present = 1; time = v.time.0; check = v.check; count = v.count; numbers = v.numbers }

-- The numbers of a state's counters, with those of the entries discarded and of the greatest gaps of a log.
unfoldable pub metrics_told : ℕ → ℕ → State → MetricsAnswer
metrics_told discarded gaps s = metrics_yes (record { metrics = s.metrics; discarded = discarded; max_log_gaps = gaps })

-- The numbers of a payload, by its kind and the length of a command.
unfoldable pub kind_given : Kind → AppliedEntryAnswer
kind_given kind.Noop = record { refusal = 0; present = 1; kind = 0; length = 0 }
kind_given (kind.Command n) = record { refusal = 0; present = 1; kind = 1; length = n }

-- The numbers of a payload that may be absent.
unfoldable pub applied_given : Option Kind → AppliedEntryAnswer
applied_given None = applied_entry_no 0
applied_given (Some k) = kind_given k

-- An applied payload was read of the area b into the buffer z, which has become z': the answer, and the buffer as the definition of the call fills it.
pub record AppliedRead (b : List ℕ) (index : ℕ) (z z' : List ℕ) (r : AppliedEntryAnswer) : Type 0 where
  pub answer : r ≡ reading applied_entry_no applied_entry_yes b (reads.read_applied_entry index (length z))
  pub buffer : z' ≡ filled z (reading no same b (read_outcome (read_applied_entry index (length z))))
