-- What every call's definition gives can be heard: it refuses with a number that is not 0, and the bytes of its answer have room in the lent buffer. Assumes nothing.
use Rattle.std.specs.Prelude.{◌≡◌, refl, Bool, false, not, ◌&&◌, List, [], ◌∷◌, ℕ, zero, suc, ◌-◌, ◌^◌, ◌≤◌, ◌<◌, leb, ltb, get_or, Option, None, Some}
use Rattle.std.proofs.Common.{sym, ap, subst, ◌∙◌, arith}
use Rattle.std.proofs.Math.Bool.{true}
use Rattle.std.proofs.Math.Dec.{eqb}
use Rattle.std.proofs.Math.ListN.{length}
use borrow.Author.Tests.{leb-true, ltb-false}
use Rattle.laws.specs.Bools.{pick, cases, every, ◌and◌, and_left}
use Rattle.laws.proofs.BoolLaws.{and_right, every_get}
use Rattle.laws.specs.Decides.{false_true}
use Rattle.laws.specs.Lists.{at}
use Rattle.units.specs.Types.{Payload, noop, command, Entry}
use Rattle.units.specs.declared.NodeId.{NodeId}
use Rattle.units.specs.declared.SimTime.{SimTime}
use Rattle.units.specs.declared.Term.{Term}
use Rattle.units.specs.declared.LogIndex.{LogIndex}
use Rattle.units.specs.declared.Duration.{Duration}
use Rattle.protocol.specs.declared.RequestId.{RequestId}
use Rattle.protocol.specs.declared.Status.{Status}
use Rattle.protocol.specs.declared.Timer.{Timer}
use Rattle.config.specs.declared.SimConfig.{SimConfig}
use Rattle.config.specs.declared.Limits.{Limits}
use Rattle.config.specs.Limits.{judge, judged_number}
use Rattle.faults.specs.Fault as faults
use Rattle.faults.specs.Fault.{within_limits}
use Rattle.faults.specs.declared.Fault.{Fault}
use Rattle.faults.specs.declared.Fault.TheVariants.{Crash, CrashDuringNextInput, Restart, CrashLeader, Partition, Block, Unblock, HealLinks, SetLoss, SetDuplication, SetDelayFactor, HealAll}
use Rattle.layout.specs.Payload.{payload}
use Rattle.raft_log.specs.Log.{entry_at, Log}
use Rattle.raft_log.specs.Places.{place}
use Rattle.queue.specs.Range.{scheduled_fits, message_room}
use Rattle.queue.specs.Queue.{Scheduled, Queue, Popped, empty, taken, pop}
use Rattle.queue.specs.declared.Event.{Event}
use Rattle.queue.specs.declared.Event.TheVariants as event
use Rattle.model.specs.State.{State, Server, server_at, slot_of, Input, Verdict, Owed, nothing, construction, healing, Phase, closed, writing, sending}
use Rattle.model.specs.Fits.{state_fits, queue_fits}
use Rattle.model.specs.Fields.{with_crash_on_next_input}
use Rattle.model.specs.Simulation.{on_server, Opening, no_input, open_start, open_message, open_timer, open_proposal, open_confirmation, Moved, running, start_server, restart_server, construct_from, heal_from, close_input, apply_fault, client_arrive, deliver, generation_of, process, begin, schedule_fault, cut_input, end_input}
use Rattle.model.specs.Calls.{Out, refused, done, ask, while_writing, while_sending, output, with_fault, Stepped, Asked, Sealed, start, stepped, step, propose, fire_timer, confirm_leadership, fault_given, schedule, write_hard_state_call, write_put_call, write_truncate_call, sealed, seal, output_send, output_set_timer, output_cancel_timer, output_apply, output_confirmed, output_lost, end, check_log_matching_call, check_durability_call}
use Rattle.model.specs.Calls as model
use Rattle.model.specs.Reads.{named, of_server, read_hard_state, read_log, read_entry, read_applied, applied_at, read_applied_entry, read_reply, read_confirmation}
use Rattle.state.specs.FitsBy.{fits_test, server_fits_at, server_count}
use Rattle.answers.specs.Answers.{input_of, commandBytes}
use Rattle.answers.specs.Numbers.{input_bytes, entry_bytes, applied_bytes}
use Rattle.demands.specs.Returned.{Directly, opens, stops}

-- A refusal has a number that is not 0, and an answer can be heard.
pub data Clean {A : Type 0} (Fine : A → Type 0) : Out A → Type 0 where
  refuses : (n : ℕ) → ltb 0 n ≡ true → Clean Fine (refused n)
  gives : {a : A} {s : State} → Fine a → Clean Fine (done a s)

-- Any answer can be heard.
abbrev pub Any : {A : Type 0} → A → Type 0
Any a = Unit {0}

module _ {A : Type 0} {Fine : A → Type 0} where
  clean_writing : (p : Phase) (f : ℕ → Input → Owed → Out A) → ((slot : ℕ) (i : Input) (o : Owed) → Clean Fine (f slot i o)) → Clean Fine (while_writing p f)
  clean_writing closed f c = refuses 6 refl
  clean_writing (writing slot input owed) f c = c slot input owed
  clean_writing (sending slot input verdict owed) f c = refuses 6 refl

  clean_sending : (p : Phase) (f : ℕ → Input → Verdict → Owed → Out A) → ((slot : ℕ) (i : Input) (v : Verdict) (o : Owed) → Clean Fine (f slot i v o)) → Clean Fine (while_sending p f)
  clean_sending closed f c = refuses 6 refl
  clean_sending (writing slot input owed) f c = refuses 6 refl
  clean_sending (sending slot input verdict owed) f c = c slot input verdict owed

  clean_output : (p : Phase) (f : ℕ → Out A) → ((slot : ℕ) → Clean Fine (f slot)) → Clean Fine (output p f)
  clean_output p f c =
      clean_sending p _
      (λ slot input verdict owed. cases (model.is_accepted verdict) (λ t. rw t (c slot)) (λ t. rw t (refuses 6 refl)))

-- ---- inputs without bytes

quiet_pick : (t : Bool) (m m' : Moved) → input_bytes m.opening ≡ [] → input_bytes m'.opening ≡ [] → input_bytes (pick t m m').opening ≡ []
quiet_pick true m m' e e' = e
quiet_pick false m m' e e' = e'

quiet_start : (s : State) (slot : ℕ) (owed : Owed) → input_bytes (start_server s slot owed).opening ≡ []
unfolding start_server
quiet_start s slot owed = refl

quiet_restart : (s : State) (slot : ℕ) (owed : Owed) → input_bytes (restart_server s slot owed).opening ≡ []
unfolding restart_server
quiet_restart s slot owed = quiet_start _ slot owed

quiet_construct : (s : State) (slot : ℕ) → input_bytes (construct_from s slot).opening ≡ []
unfolding construct_from
quiet_construct s slot = quiet_pick (ltb slot (length s.servers)) _ _ (quiet_start s slot (construction (suc slot))) refl

quiet_heal : (s : State) (slot left : ℕ) → input_bytes (heal_from s slot left).opening ≡ []
unfolding heal_from
quiet_heal s slot zero = refl
quiet_heal s slot (suc left) = quiet_pick (running s slot) _ _ (quiet_heal (on_server s slot (λ v. with_crash_on_next_input v false)) (suc slot) left) (quiet_restart _ slot (healing (suc slot)))

quiet_close : (s : State) (owed : Owed) → input_bytes (close_input s owed).opening ≡ []
quiet_close s nothing = refl
quiet_close s (construction slot) = quiet_construct s slot
quiet_close s (healing slot) = quiet_heal s slot _

quiet_begin : (config : SimConfig) (limits : Limits) (seed : ℕ) → input_bytes (begin config limits seed).opening ≡ []
unfolding begin
quiet_begin config limits seed = quiet_pick (eqb config.start_spread.0 0) _ _ (quiet_construct _ 0) refl

quiet_cut : (s : State) (slot : ℕ) (i : Input) (v : Verdict) (owed : Owed) → input_bytes (cut_input s slot i v owed).opening ≡ []
unfolding cut_input
quiet_cut s slot i v owed = quiet_close _ owed

quiet_end : (s : State) (slot : ℕ) (i : Input) (v : Verdict) (owed : Owed) (status : Status) → input_bytes (end_input s slot i v owed status).opening ≡ []
unfolding end_input
quiet_end s slot i v owed status = quiet_close _ owed

-- ---- an event's input has the bytes of its message, or none

-- An input whose bytes are at most so many.
pub record Within (n : ℕ) (o : Opening) : Type 0 where
  pub bytes : length (input_bytes o) ≤ n

module _ (n : ℕ) (m : List ℕ) (l : length m ≤ n) where
  quiet_within : {o : Opening} → input_bytes o ≡ [] → Within n o
  quiet_within e = record { bytes = subst (λ (xs : List ℕ). length xs ≤ n) (sym e) (omega arith) }

  none_within : Within n no_input
  none_within = record { bytes = omega arith }

  fault_within : (s : State) (f : Fault) → Within n (apply_fault s f).opening
  unfolding apply_fault
  fault_within s (Crash id) = none_within
  fault_within s (CrashDuringNextInput id) = none_within
  fault_within s (Restart id) = cases (running s (slot_of id)) (λ t. rw t none_within) (λ t. rw t (quiet_within (quiet_restart s (slot_of id) nothing)))
  fault_within s (CrashLeader downtime) = none_within
  fault_within s (Partition groups) = none_within
  fault_within s (Block from to) = none_within
  fault_within s (Unblock from to) = none_within
  fault_within s HealLinks = none_within
  fault_within s (SetLoss rate) = none_within
  fault_within s (SetDuplication rate) = none_within
  fault_within s (SetDelayFactor factor) = none_within
  fault_within s HealAll = quiet_within (quiet_heal _ 0 _)

  event_within : (s : State) (e : Event) → Within n (process s e m).opening
  unfolding process deliver client_arrive
  event_within s (event.Start slot) =
      cases (not (running s slot) && eqb (server_at s slot).incarnation 0) (λ t. rw t (quiet_within (quiet_start s slot nothing))) (λ t. rw t none_within)
  event_within s (event.Deliver from to entries) = cases (running s (slot_of to)) (λ t. rw t (record { bytes = l })) (λ t. rw t none_within)
  event_within s (event.Timer slot timer generation) =
      cases (running s slot && eqb (generation_of (server_at s slot) timer) generation) (λ t. rw t (quiet_within refl)) (λ t. rw t none_within)
  event_within s (event.Fault fault) = fault_within s fault
  event_within s (event.ClientSend c) = none_within
  event_within s (event.ClientArrive slot c seq attempt) = cases (running s slot) (λ t. rw t (quiet_within refl)) (λ t. rw t none_within)
  event_within s (event.ClientRedirect c attempt hint) = none_within
  event_within s (event.ClientRetry c attempt) = none_within
  event_within s (event.ClientReply c seq index) = none_within
  event_within s (event.ClientTimeout c attempt) = none_within

-- the message of a queue's first event has at most M bytes
first_short : (S C L M : ℕ) (e : Scheduled) → scheduled_fits S C L M e ≡ true → length e.message ≤ M
unfolding message_room
first_short S C L M e h =
    let t : length e.message ≤ message_room M e.event = leb-true _ _ (and_left _ _ (and_right _ _ (and_right _ _ (and_right _ _ h)))) in
    cases (eqb (Rattle.queue.specs.Numbers.words_of e.event).kind 1)
    (λ k. let u : length e.message ≤ M = rw k at t in u)
    (λ k. let u : length e.message ≤ 0 = rw k at t in omega arith)

-- ---- calls that act

-- An input without bytes.
abbrev pub Quiet : Opening → Type 0
Quiet o = input_bytes o ≡ []

-- A step whose input's bytes have room in a buffer of so many.
abbrev pub Room : ℕ → Stepped → Type 0
Room n s = Within n s.opening

pub clean_start : (config : SimConfig) (limits : Limits) (seed : ℕ) → Clean Quiet (start config limits seed)
unfolding start
clean_start config limits seed =
    cases (eqb (judged_number (judge config limits)) 0)
    (λ t. rw t (gives (quiet_begin config limits seed)))
    (λ t. rw t (refuses (judged_number (judge config limits)) (nonzero (judged_number (judge config limits)) t)))
  where
    nonzero : (n : ℕ) → eqb n 0 ≡ false → ltb 0 n ≡ true
    nonzero n e = cases (ltb 0 n) (λ t. t) (λ t. let z : n ≡ 0 = omega (arith, ltb-false 0 n t) in absurd (false_true (sym e ∙ ap (λ (k : ℕ). eqb k 0) z)))

pub clean_step : (s : State) (deadline : SimTime) (n : ℕ) → state_fits s ≡ true → Clean (Room n) (step deadline n s)
unfolding step
clean_step s deadline n f =
    cases (model.is_closed s.phase)
    (λ t. rw t
    (cases (leb deadline.0 (2 ^ 62) and leb s.limits.message n)
    (λ u. rw u (by s.queue refl (leb-true s.limits.message n (and_right (leb deadline.0 (2 ^ 62)) _ u))))
    (λ u. rw u (refuses 9 refl))))
    (λ t. rw t (refuses 6 refl))
  where
    by : (q : Queue) → s.queue ≡ q → s.limits.message ≤ n → Clean (Room n) (stepped s deadline (pop q))
    by [] e l = gives (none_within n [] (omega arith))
    by (x ∷ q) e l =
        let g : scheduled_fits s.config.servers s.config.clients s.limits.log_indexes s.limits.message x ≡ true =
        and_left _ _ (and_left _ _ (and_right _ _ (ap (queue_fits s.config s.limits) (sym e) ∙ fits_test s f 3))) in
        let k : length x.message ≤ n = omega (arith, first_short _ _ _ _ x g, l) in
        cases (leb x.time.0 deadline.0) (λ t. rw t (gives (event_within n x.message k _ x.event))) (λ t. rw t (gives (none_within n [] (omega arith))))

pub clean_propose : (s : State) (server : ℕ) → Clean Directly (propose server s)
unfolding propose
clean_propose s server =
    cases (model.is_closed s.phase)
    (λ t. rw t
    (cases (model.in_cluster s server)
    (λ u. rw u (cases (running s (server - 1)) (λ v. rw v (gives (opens refl refl))) (λ v. rw v (gives stops))))
    (λ u. rw u (refuses 7 refl))))
    (λ t. rw t (refuses 6 refl))

pub clean_fire_timer : (s : State) (server timer : ℕ) → Clean Quiet (fire_timer server timer s)
unfolding fire_timer
clean_fire_timer s server timer =
    cases (model.is_closed s.phase)
    (λ t. rw t
    (cases (model.in_cluster s server)
    (λ u. rw u
    (cases (model.is_flag timer)
    (λ w. rw w (cases (running s (server - 1)) (λ v. rw v (gives refl)) (λ v. rw v (gives refl))))
    (λ w. rw w (refuses 9 refl))))
    (λ u. rw u (refuses 7 refl))))
    (λ t. rw t (refuses 6 refl))

pub clean_confirm_leadership : (s : State) (server : ℕ) (request : RequestId) → Clean Directly (confirm_leadership server request s)
unfolding confirm_leadership
clean_confirm_leadership s server request =
    cases (model.is_closed s.phase)
    (λ t. rw t
    (cases (model.in_cluster s server)
    (λ u. rw u (cases (running s (server - 1)) (λ v. rw v (gives (opens refl refl))) (λ v. rw v (gives stops))))
    (λ u. rw u (refuses 7 refl))))
    (λ t. rw t (refuses 6 refl))

pub clean_schedule : (s : State) (time : SimTime) (kind first second : ℕ) (groups : List ℕ) → Clean Any (schedule time kind first second groups s)
unfolding schedule
clean_schedule s time kind first second groups =
    cases (model.is_closed s.phase)
    (λ t. rw t
    (cases (pick (eqb kind 4) (model.members_known s groups) (model.targets_known s (fault_given kind first second groups)))
    (λ u. rw u
    (cases (leb time.0 (2 ^ 62) and pick (eqb kind 4) (leb (length groups) 8) true)
    (λ v. rw v (by (fault_given kind first second groups)))
    (λ v. rw v (refuses 9 refl))))
    (λ u. rw u (refuses 7 refl))))
    (λ t. rw t (refuses 6 refl))
  where
    by : (o : Option Fault) → Clean {A = Unit {0}} Any (with_fault o (λ f. done tt (schedule_fault s time f)))
    by None = refuses 9 refl
    by (Some f) = cases (within_limits f) (λ t. rw t (gives tt)) (λ t. rw t (refuses 9 refl))

pub clean_write_hard_state : (s : State) (term : Term) (present vote : ℕ) → Clean Any (write_hard_state_call term present vote s)
unfolding write_hard_state_call
clean_write_hard_state s term present vote =
    clean_writing s.phase _ (λ slot i o. cases (model.is_flag present) (λ t. rw t (gives tt)) (λ t. rw t (refuses 9 refl)))

pub clean_write_put : (s : State) (index : LogIndex) (term : Term) (kind : ℕ) (bytes : List ℕ) → Clean Any (write_put_call index term kind bytes s)
unfolding write_put_call
clean_write_put s index term kind bytes =
    clean_writing s.phase _ (λ slot i o.
    cases (leb 1 index.0 and leb index.0 s.limits.log_indexes)
    (λ t. rw t (cases (model.is_payload s kind bytes) (λ u. rw u (gives tt)) (λ u. rw u (refuses 9 refl))))
    (λ t. rw t (refuses 8 refl)))

pub clean_write_truncate : (s : State) (from : LogIndex) → Clean Any (write_truncate_call from s)
unfolding write_truncate_call
clean_write_truncate s from = clean_writing s.phase _ (λ slot i o. gives tt)

pub clean_seal : (s : State) (refusal present leader : ℕ) → Clean (λ x. Quiet x.opening) (seal refusal present leader s)
unfolding seal sealed
clean_seal s refusal present leader =
    clean_writing s.phase _ (λ slot i o.
    cases (model.is_flag refusal and (pick (eqb refusal 1) (model.is_flag present and model.can_be_refused i) true))
    (λ t. rw t (cases (server_at s slot).crash_on_next_input (λ u. rw u (gives (quiet_cut s slot i _ o))) (λ u. rw u (gives refl))))
    (λ t. rw t (refuses 9 refl)))

pub clean_output_send : (s : State) (to : ℕ) (message : List ℕ) (entries : ℕ) → Clean Any (output_send to message entries s)
unfolding output_send
clean_output_send s to message entries =
    clean_output s.phase _ (λ slot.
    cases (model.in_cluster s to)
    (λ t. rw t (cases (leb (length message) s.limits.message and ltb entries (2 ^ 32)) (λ u. rw u (gives tt)) (λ u. rw u (refuses 9 refl))))
    (λ t. rw t (refuses 7 refl)))

pub clean_output_set_timer : (s : State) (timer : ℕ) (after : Duration) → Clean Any (output_set_timer timer after s)
unfolding output_set_timer
clean_output_set_timer s timer after =
    clean_output s.phase _ (λ slot. cases (model.is_flag timer and leb after.0 (2 ^ 40)) (λ t. rw t (gives tt)) (λ t. rw t (refuses 9 refl)))

pub clean_output_cancel_timer : (s : State) (timer : ℕ) → Clean Any (output_cancel_timer timer s)
unfolding output_cancel_timer
clean_output_cancel_timer s timer = clean_output s.phase _ (λ slot. cases (model.is_flag timer) (λ t. rw t (gives tt)) (λ t. rw t (refuses 9 refl)))

pub clean_output_apply : (s : State) (index : LogIndex) (kind : ℕ) (bytes : List ℕ) → Clean Any (output_apply index kind bytes s)
unfolding output_apply
clean_output_apply s index kind bytes =
    clean_output s.phase _ (λ slot.
    cases (leb index.0 s.limits.log_indexes)
    (λ t. rw t (cases (model.is_payload s kind bytes) (λ u. rw u (gives tt)) (λ u. rw u (refuses 9 refl))))
    (λ t. rw t (refuses 8 refl)))

pub clean_output_confirmed : (s : State) (request : RequestId) (index : LogIndex) → Clean Any (output_confirmed request index s)
unfolding output_confirmed
clean_output_confirmed s request index = clean_output s.phase _ (λ slot. gives tt)

pub clean_output_lost : (s : State) (request : RequestId) → Clean Any (output_lost request s)
unfolding output_lost
clean_output_lost s request = clean_output s.phase _ (λ slot. gives tt)

pub clean_end : (s : State) (role : ℕ) (term : Term) (present leader : ℕ) (commit : LogIndex) → Clean Quiet (end role term present leader commit s)
unfolding end
clean_end s role term present leader commit =
    clean_sending s.phase _ (λ slot i v o. cases (leb role 2 and model.is_flag present) (λ t. rw t (gives (quiet_end s slot i v o _))) (λ t. rw t (refuses 9 refl)))

pub clean_check_log_matching : (s : State) → Clean Any (check_log_matching_call s)
unfolding check_log_matching_call
clean_check_log_matching s = cases (model.is_closed s.phase) (λ t. rw t (gives tt)) (λ t. rw t (refuses 6 refl))

pub clean_check_durability : (s : State) → Clean Any (check_durability_call s)
unfolding check_durability_call
clean_check_durability s = cases (model.is_closed s.phase) (λ t. rw t (gives tt)) (λ t. rw t (refuses 6 refl))

-- ---- reads

-- an entry of a log in range has at most P bytes, and so has a payload
payload_short : (p : ℕ) (x : Payload) → (payload p).good x ≡ true → length (commandBytes x) ≤ p
payload_short p noop h = omega arith
payload_short p (command bytes) h = leb-true _ _ (and_left _ _ (and_right _ _ h))

place_short : (p : ℕ) (o : Option Entry) → (place p).good o ≡ true → length (entry_bytes o) ≤ p
place_short p None h = omega arith
place_short p (Some e) h = payload_short p e.payload (and_left _ _ h)

-- an element of a list of which each is in range, or none
entry_short : (p : ℕ) (log : Log) (index : ℕ) → every (place p).good log ≡ true → length (entry_bytes (entry_at log index)) ≤ p
unfolding entry_at
entry_short p log zero h = omega arith
entry_short p [] (suc i) h = omega arith
entry_short p (o ∷ log) (suc zero) h = place_short p o (and_left _ _ h)
entry_short p (o ∷ log) (suc (suc i)) h = entry_short p log (suc i) (and_right _ _ h)

applied_short : (p : ℕ) (xs : List Payload) (index : ℕ) → every (payload p).good xs ≡ true → length (applied_bytes (applied_at xs index)) ≤ p
unfolding at
applied_short p xs zero h = omega arith
applied_short p [] (suc i) h = omega arith
applied_short p (x ∷ xs) (suc zero) h = payload_short p x (and_left _ _ h)
applied_short p (x ∷ xs) (suc (suc i)) h = applied_short p xs (suc i) (and_right _ _ h)

module _ (s : State) (server : ℕ) where
  pub clean_read_hard_state : Clean Any (read_hard_state server s)
  unfolding read_hard_state
  clean_read_hard_state = cases (model.in_cluster s server) (λ t. rw t (gives tt)) (λ t. rw t (refuses 7 refl))

  pub clean_read_log : Clean Any (read_log server s)
  unfolding read_log
  clean_read_log = cases (model.in_cluster s server) (λ t. rw t (gives tt)) (λ t. rw t (refuses 7 refl))

  pub clean_read_applied : Clean Any (read_applied server s)
  unfolding read_applied
  clean_read_applied = cases (model.in_cluster s server) (λ t. rw t (gives tt)) (λ t. rw t (refuses 7 refl))

  -- the log of a server in the cluster is in range
  named_fits : state_fits s ≡ true → model.in_cluster s server ≡ true → every (place s.limits.payload).good (named s server).storage.current.log ≡ true
  unfolding faults.in_cluster
  named_fits f t =
      let lo = leb-true 1 server (and_left _ _ t) in
      let hi = leb-true server (length s.servers) (and_right _ _ t) in
      let v = server_fits_at s f (server - 1) (omega (arith, server_count s f)) in
      and_right _ _ (and_right _ _ (and_left _ _ (and_left _ _ (and_right _ _ v))))

  pub clean_read_entry : (index n : ℕ) → state_fits s ≡ true → Clean (λ e. length (entry_bytes e) ≤ n) (read_entry server index n s)
  unfolding read_entry
  clean_read_entry index n f =
      cases (model.in_cluster s server)
      (λ t. rw t
      (cases (leb s.limits.payload n)
      (λ u. rw u (gives (short (named_fits f t) (leb-true s.limits.payload n u))))
      (λ u. rw u (refuses 9 refl))))
      (λ t. rw t (refuses 7 refl))
    where
      short : every (place s.limits.payload).good (named s server).storage.current.log ≡ true → s.limits.payload ≤ n
          → length (entry_bytes (entry_at (named s server).storage.current.log index)) ≤ n
      short e l = omega (arith, entry_short s.limits.payload (named s server).storage.current.log index e)

pub clean_read_applied_entry : (s : State) (index n : ℕ) → state_fits s ≡ true → Clean (λ p. length (applied_bytes p) ≤ n) (read_applied_entry index n s)
unfolding read_applied_entry
clean_read_applied_entry s index n f =
    cases (leb s.limits.payload n)
    (λ u. rw u (gives (short (leb-true s.limits.payload n u))))
    (λ u. rw u (refuses 9 refl))
  where
    short : s.limits.payload ≤ n → length (applied_bytes (applied_at s.checker.applied index)) ≤ n
    short l =
        let c = fits_test s f 13 in
        let e : every (payload s.limits.payload).good s.checker.applied ≡ true = and_left _ _ (and_right _ _ (and_left _ _ (and_right _ _ c))) in
        omega (arith, applied_short s.limits.payload s.checker.applied index e)

pub clean_read_reply : (s : State) (place : ℕ) → Clean Any (read_reply place s)
unfolding read_reply
clean_read_reply s place = gives tt

pub clean_read_confirmation : (s : State) (place : ℕ) → Clean Any (read_confirmation place s)
unfolding read_confirmation
clean_read_confirmation s place = gives tt
