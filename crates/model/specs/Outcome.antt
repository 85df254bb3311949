-- The calls as data, their answers, and what each answers of a state and makes of it. Assumes nothing.
use Rattle.std.specs.Prelude.{Bool, true, false, ◌||◌, List, [], ◌∷◌, ℕ, Option}
use Rattle.laws.specs.Bools.{pick}
use Rattle.units.specs.Types.{Payload, Entry}
use Rattle.units.specs.declared.Term.{Term}
use Rattle.units.specs.declared.LogIndex.{LogIndex}
use Rattle.units.specs.declared.SimTime.{SimTime}
use Rattle.units.specs.declared.Duration.{Duration}
use Rattle.protocol.specs.declared.RequestId.{RequestId}
use Rattle.protocol.specs.declared.Status.{Status}
use Rattle.config.specs.declared.SimConfig.{SimConfig}
use Rattle.config.specs.declared.Limits.{Limits}
use Rattle.metrics.specs.declared.Counts.{Counts}
use Rattle.storage.specs.declared.HardState.{HardState}
use Rattle.checks.specs.Checks.{Violation}
use Rattle.checks_durability.specs.declared.replies.Reply.{Reply}
use Rattle.model.specs.State.{State, Confirmation}
use Rattle.model.specs.Simulation.{Opening}
use Rattle.model.specs.Calls as model
use Rattle.model.specs.Calls.{Out, refused, done, Stepped, Asked, Sealed}
use Rattle.model.specs.Reads as reads
use Rattle.model.specs.Reads.{LogRead, MetricsRead, RunRead, SettingsRead}
use Rattle.leader.specs.declared.Leading.{Leading}

-- The writes of the open input.
pub data WriteCall : Type 0 where
  hard_state : Term → (present vote : ℕ) → WriteCall
  put : LogIndex → Term → (kind : ℕ) → (bytes : List ℕ) → WriteCall
  truncate : (from : LogIndex) → WriteCall

-- The outputs of the open input.
pub data OutputCall : Type 0 where
  send : (to : ℕ) → (message : List ℕ) → (entries : ℕ) → OutputCall
  set_timer : (timer : ℕ) → (after : Duration) → OutputCall
  cancel_timer : (timer : ℕ) → OutputCall
  apply : LogIndex → (kind : ℕ) → (bytes : List ℕ) → OutputCall
  confirmed : RequestId → (read_index : LogIndex) → OutputCall
  lost : RequestId → OutputCall

-- The calls that only read.
pub data ReadCall : Type 0 where
  read_status : (server : ℕ) → ReadCall
  read_hard_state : (server : ℕ) → ReadCall
  read_log : (server : ℕ) → ReadCall
  read_entry : (server index buffer : ℕ) → ReadCall
  read_leader : ReadCall
  read_applied : (server : ℕ) → ReadCall
  read_applied_entry : (index buffer : ℕ) → ReadCall
  read_metrics : ReadCall
  read_sent_by : (server : ℕ) → ReadCall
  read_reply : (place : ℕ) → ReadCall
  read_confirmation : (place : ℕ) → ReadCall
  read_violation : (place : ℕ) → ReadCall
  read_run : ReadCall
  read_settings : ReadCall

-- Every call that takes an area, with its arguments; of a lent buffer, its length.
pub data Call : Type 0 where
  start : SimConfig → Limits → (seed : ℕ) → Call
  step : (deadline : SimTime) → (buffer : ℕ) → Call
  propose : (server : ℕ) → Call
  fire_timer : (server timer : ℕ) → Call
  confirm_leadership : (server : ℕ) → RequestId → Call
  schedule : SimTime → (kind first second : ℕ) → (groups : List ℕ) → Call
  write : WriteCall → Call
  seal : (refusal present leader : ℕ) → Call
  output : OutputCall → Call
  end : (role : ℕ) → Term → (present leader : ℕ) → (commit : LogIndex) → Call
  check_log_matching : Call
  check_durability : Call
  read : ReadCall → Call

-- What a read answers.
pub data Reading : Type 0 where
  got_status : Option Status → Reading
  got_hard_state : HardState → Reading
  got_log : LogRead → Reading
  got_entry : Option Entry → Reading
  got_leader : Option Leading → Reading
  got_applied : ℕ → Reading
  got_applied_entry : Option Payload → Reading
  got_metrics : MetricsRead → Reading
  got_sent_by : Counts → Reading
  got_reply : Option Reply → Reading
  got_confirmation : Option Confirmation → Reading
  got_violation : Option Violation → Reading
  got_run : RunRead → Reading
  got_settings : SettingsRead → Reading

-- What a call answers: the number of the question that refused it, or what its definition gives.
pub data Answer : Type 0 where
  no : ℕ → Answer
  acted : Answer
  opened : Opening → Answer
  stepped : Stepped → Answer
  asked : Asked → Answer
  sealed : Sealed → Answer
  got : Reading → Answer

-- ---- what a call gives of a state, without question 10

-- What is given, with the answer in another form.
abbrev pub given : {A : Type 0} → (A → Answer) → Out A → Out Answer
given f (refused number) = refused number
given f (done a s) = done (f a) s

-- A call that answers nothing besides.
abbrev pub act : Unit {0} → Answer
act _ = acted

-- What a write gives.
unfoldable pub write_outcome : WriteCall → State → Out Answer
write_outcome (hard_state term present vote) s = given act (model.write_hard_state_call term present vote s)
write_outcome (put index term kind bytes) s = given act (model.write_put_call index term kind bytes s)
write_outcome (truncate from) s = given act (model.write_truncate_call from s)

-- What an output gives.
unfoldable pub output_outcome : OutputCall → State → Out Answer
output_outcome (send to message entries) s = given act (model.output_send to message entries s)
output_outcome (set_timer timer duration) s = given act (model.output_set_timer timer duration s)
output_outcome (cancel_timer timer) s = given act (model.output_cancel_timer timer s)
output_outcome (apply index kind bytes) s = given act (model.output_apply index kind bytes s)
output_outcome (confirmed request read_index) s = given act (model.output_confirmed request read_index s)
output_outcome (lost request) s = given act (model.output_lost request s)

-- What a read gives.
unfoldable pub read_outcome : ReadCall → State → Out Answer
read_outcome (read_status server) s = given (λ x. got (got_status x)) (reads.read_status server s)
read_outcome (read_hard_state server) s = given (λ x. got (got_hard_state x)) (reads.read_hard_state server s)
read_outcome (read_log server) s = given (λ x. got (got_log x)) (reads.read_log server s)
read_outcome (read_entry server index buffer) s = given (λ x. got (got_entry x)) (reads.read_entry server index buffer s)
read_outcome read_leader s = given (λ x. got (got_leader x)) (reads.read_leader s)
read_outcome (read_applied server) s = given (λ x. got (got_applied x)) (reads.read_applied server s)
read_outcome (read_applied_entry index buffer) s = given (λ x. got (got_applied_entry x)) (reads.read_applied_entry index buffer s)
read_outcome read_metrics s = given (λ x. got (got_metrics x)) (reads.read_metrics s)
read_outcome (read_sent_by server) s = given (λ x. got (got_sent_by x)) (reads.read_sent_by server s)
read_outcome (read_reply place) s = given (λ x. got (got_reply x)) (reads.read_reply place s)
read_outcome (read_confirmation place) s = given (λ x. got (got_confirmation x)) (reads.read_confirmation place s)
read_outcome (read_violation place) s = given (λ x. got (got_violation x)) (reads.read_violation place s)
read_outcome read_run s = given (λ x. got (got_run x)) (reads.read_run s)
read_outcome read_settings s = given (λ x. got (got_settings x)) (reads.read_settings s)

-- What any call gives. A start does not look at the state that was before.
unfoldable pub outcome : Call → State → Out Answer
outcome (start config limits seed) s = given opened (model.start config limits seed)
outcome (step deadline buffer) s = given stepped (model.step deadline buffer s)
outcome (propose server) s = given asked (model.propose server s)
outcome (fire_timer server timer) s = given opened (model.fire_timer server timer s)
outcome (confirm_leadership server request) s = given asked (model.confirm_leadership server request s)
outcome (schedule time kind first second groups) s = given act (model.schedule time kind first second groups s)
outcome (write w) s = write_outcome w s
outcome (seal refusal present leader) s = given sealed (model.seal refusal present leader s)
outcome (output o) s = output_outcome o s
outcome (end role term present leader commit) s = given opened (model.end role term present leader commit s)
outcome check_log_matching s = given act (model.check_log_matching_call s)
outcome check_durability s = given act (model.check_durability_call s)
outcome (read r) s = read_outcome r s

-- ---- question 10

-- Whether a call only reads: then question 10 is not asked.
abbrev pub only_reads : Call → Bool
only_reads (start config limits seed) = false
only_reads (step deadline buffer) = false
only_reads (propose server) = false
only_reads (fire_timer server timer) = false
only_reads (confirm_leadership server request) = false
only_reads (schedule time kind first second groups) = false
only_reads (write w) = false
only_reads (seal refusal present leader) = false
only_reads (output o) = false
only_reads (end role term present leader commit) = false
only_reads check_log_matching = false
only_reads check_durability = false
only_reads (read r) = true

-- An answer, and the state after it.
pub record After : Type 0 where
  pub answer : Answer
  pub state : State

-- A call on a state: refused, it leaves the state as it was; question 10 asks whether the state that it gives fits.
unfoldable pub finish : (State → Bool) → Bool → State → Out Answer → After
finish fits reads s (refused number) = record { answer = no number; state = s }
finish fits reads s (done a next) = pick (reads || fits next) (record { answer = a; state = next }) (record { answer = no 10; state = s })

-- What a call answers and leaves, where `fits` is question 10's test.
abbrev pub after : (State → Bool) → State → Call → After
after fits s c = finish fits (only_reads c) s (outcome c s)

-- The answers of a list of calls, refused ones included, each call getting the state as the last one left it.
unfoldable pub answers : (State → Bool) → State → List Call → List (Call × Answer)
answers fits s [] = []
answers fits s (c ∷ cs) = (c, (after fits s c).answer) ∷ answers fits (after fits s c).state cs
