-- What a step asks and does: what the contracts cite. Assumes nothing.
use Rattle.std.specs.Prelude.{◌≡◌, Bool, true, List, [], ◌∷◌, ℕ, ◌+◌, ◌-◌, ◌^◌, ◌≤◌, max, leb, eqb, length, drop, Some}
use Rattle.std.proofs.lemmas.List.Edits.{sets}
use Rattle.laws.specs.Bools.{pick, ◌and◌}
use Rattle.units.specs.declared.SimTime.{SimTime}
use Rattle.queue.specs.Queue.{Scheduled, Queue}
use Rattle.queue.specs.Numbers.{words_of}
use Rattle.queue.specs.Range.{word, in_range}
use Rattle.queue.specs.declared.Event.{Event}
use Rattle.queue.specs.declared.Event.TheVariants as event
use Rattle.queue.specs.declared.table.Earliest.{Earliest}
use Rattle.model.specs.State.{State}
use Rattle.model.specs.Fields.{with_now}
use Rattle.model.specs.Simulation.{running}
use Rattle.model.specs.Calls.{is_closed, step}
use Rattle.model.specs.Outcome.{no, outcome}
use Rattle.model.specs.Outcome as calls
use Rattle.claims.specs.OnArea.{on_area, same}
use Rattle.state.specs.declared.Capacity.{Capacity}
use Rattle.state.specs.Area.{Area, capacity_of}
use Rattle.state.specs.Decode.{decode}
use Rattle.state.specs.Call.{finish, call}
use Rattle.state.specs.Sizes.{bytes_of}
use Rattle.state.specs.Changes.{AreaOf, Reads}
use Rattle.state_header.specs.Header.{now_set, events_set}
use Rattle.state_queue.specs.Events.{next_event, dequeued}
use Rattle.answers.specs.declared.InputNumbers.{InputNumbers}
use Rattle.answers.specs.declared.SteppedAnswer.{SteppedAnswer}
use Rattle.answers.specs.Answers.{input_of, stepped_no, stepped_yes}
use Rattle.answers.specs.Numbers.{input_bytes, filled}
use Rattle.sim_outputs.specs.Outputs.{Passed}
use Rattle.sim_attempt.specs.Attempts.{room_of}
use Rattle.sim_clients.specs.ClientEvents.{send_test, again_test}
use Rattle.sim_clients.specs.Redirects.{redirect_test}
use Rattle.sim_clients.specs.Replies.{reply_test}
use Rattle.sim_events.specs.Moves.{processed, deliver_test, arrive_test}
use Rattle.sim_faults.specs.Faults.{fault_test}

-- ---- the call

-- A step was made on the area b with the buffer z: the answer and the area after it are those of the call, and the buffer has the bytes of the message that the
-- call opened at its front; all else of it is as it was.
pub record StepMade (b b' : List ℕ) (deadline : ℕ) (z z' : List ℕ) (r : SteppedAnswer) : Type 0 where
  pub answer : (r, b') ≡ call stepped_no stepped_yes b (step (record { 0 = deadline }) (length z))
  pub buffer : z' ≡ filled z (on_area b (calls.step (record { 0 = deadline }) (length z))).0

-- The same behind the gate.
pub record StepDone (b b' : List ℕ) (deadline : ℕ) (z z' : List ℕ) (r : SteppedAnswer) : Type 0 where
  pub answer : (r, b') ≡ finish stepped_no stepped_yes b (step (record { 0 = deadline }) (length z) (decode b))
  pub buffer : z' ≡ filled z (finish no same b (outcome (calls.step (record { 0 = deadline }) (length z)) (decode b))).0

-- ---- what is asked

-- Questions 6 and 9 of a step, into a buffer of so many bytes: the number of the first that is answered no, or 0.
unfoldable pub step_code : ℕ → ℕ → State → ℕ
step_code deadline size s = pick (is_closed s.phase) (pick (leb deadline (2 ^ 62) and leb s.limits.message size) 0 9) 6

-- How many events more the queue takes once its first event is taken.
unfoldable pub room_after : State → ℕ
room_after s = room_of s + 1

-- Question 10 of an event, by its kind: at a time, where the queue takes so many events more.
unfoldable pub process_test : ℕ → ℕ → Event → State → Bool
process_test time room (event.Start slot) s = true
process_test time room (event.Deliver from to entries) s = deliver_test to entries s
process_test time room (event.Timer slot timer generation) s = true
process_test time room (event.Fault fault) s = fault_test fault (record { 0 = time }) s
process_test time room (event.ClientSend c) s = send_test time room c s
process_test time room (event.ClientArrive slot c seq attempt) s = arrive_test slot c seq s
process_test time room (event.ClientRedirect c attempt hint) s = redirect_test time room c attempt hint s
process_test time room (event.ClientRetry c attempt) s = again_test time room c attempt s
process_test time room (event.ClientReply c seq index) s = reply_test room c seq s
process_test time room (event.ClientTimeout c attempt) s = again_test time room c attempt s

-- Question 10 of the first event, before it is taken: one event more is counted, and the event's own test.
unfoldable pub event_test : Earliest → State → Bool
event_test e s = word (s.events + 1) and process_test e.time.0 (room_after s) e.event s

-- An event's numbers are in range.
pub record EventIn (F : Capacity) (e : Event) : Type 0 where
  pub fits : in_range F.servers F.clients F.limits.log_indexes e ≡ true
  pub few : F.servers ≤ 8

-- The gate let the area through, and e is the first event of its state.
pub record Next (b : List ℕ) (F : Capacity) (e : Earliest) : Type 0 where
  pub passed : Passed b F
  pub first : Reads b F (Some e) next_event
  pub event : EventIn F e.event
  pub short : e.length ≤ F.limits.message

-- Questions 6 and 9 of a step are answered yes.
pub record Asked (b : List ℕ) (F : Capacity) (deadline size : ℕ) : Type 0 where
  pub code : Reads b F 0 (step_code deadline size)
  pub room : F.limits.message ≤ size

-- The state after the first event fits.
pub record Fitting (b : List ℕ) (F : Capacity) (e : Earliest) : Type 0 where
  pub next : Next b F e
  pub fits : Reads b F true (event_test e)

-- ---- what is done

-- The state with the time raised to a deadline.
unfoldable pub now_raised : ℕ → State → State
now_raised deadline s = with_now s (record { 0 = max s.now.0 deadline })

-- The state with its first event taken, at a time.
unfoldable pub popped : SimTime → State → State
popped time s = events_set (s.events + 1) (now_set time (dequeued s))

-- The bytes of the message that an event opens: that of a delivery, kind 1, to a server that runs.
unfoldable pub opened_bytes : Event → List ℕ → State → List ℕ
opened_bytes e message s = pick (eqb (words_of e).kind 1) (pick (running s ((words_of e).b - 1)) message []) []

-- The first event's message of so many bytes was copied to the front of the buffer z, if the server of an id runs; the buffer has become z'.
pub record CopiedTo (b : List ℕ) (F : Capacity) (id size : ℕ) (z z' : List ℕ) : Type 0 where
  pub to : (s : State) → Area b s → F ≡ capacity_of s → (x : Scheduled) (q : Queue) → s.queue ≡ x ∷ q → size ≡ length x.message
      → z' ≡ sets z 0 (pick (running s (id - 1)) x.message [])

-- The message that the first event opens was copied.
pub record Copied (b : List ℕ) (F : Capacity) (e : Earliest) (z z' : List ℕ) : Type 0 where
  pub to : (s : State) → Area b s → F ≡ capacity_of s → (x : Scheduled) (q : Queue) → s.queue ≡ x ∷ q → z' ≡ sets z 0 (opened_bytes x.event x.message s)

-- The first event x of the state in b was taken and has happened: b' hold the state after it, r are the numbers of the input that it opened, and the buffer z has
-- become z', with the bytes of that input at its front.
pub record Taken (b b' : List ℕ) (F : Capacity) (e : Earliest) (z z' : List ℕ) (r : InputNumbers) : Type 0 where
  pub area : (x : Scheduled) (q : Queue) → (decode b).queue ≡ x ∷ q → AreaOf b' (drop (bytes_of F) b) F (processed x.event x.message (popped x.time (decode b))).state
  pub input : (x : Scheduled) (q : Queue) → (decode b).queue ≡ x ∷ q → r ≡ input_of (processed x.event x.message (popped x.time (decode b))).opening
  pub buffer : (x : Scheduled) (q : Queue) → (decode b).queue ≡ x ∷ q → z' ≡ sets z 0 (input_bytes (processed x.event x.message (popped x.time (decode b))).opening)
