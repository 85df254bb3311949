-- The book of demand 3 (document 01): it is told each call's arguments and, of the answer, whether the call was accepted, whose input it opened, and whether it synced
-- or cut. From this it says what a server that starts must find, and what may be handed back. Assumes nothing.
use Rattle.std.specs.Prelude.{Bool, true, false, ◌≡◌, ℕ, zero, suc, ◌+◌, leb, eqb, Option, None, Some}
use mathlib.Core.List.{List, [], ◌∷◌, ◌++◌, Memᴰ}
use Rattle.laws.specs.Bools.{pick}
use Rattle.laws.specs.Lists.{is_some}
use Rattle.units.specs.Types.{Payload, noop, command, Entry}
use Rattle.units.specs.declared.NodeId.{NodeId}
use Rattle.units.specs.declared.LogIndex.{LogIndex}
use Rattle.units.specs.declared.Duration.{Duration}
use Rattle.client.specs.Key.{decode}
use Rattle.protocol.specs.declared.Timer.{Timer}
use Rattle.protocol.specs.declared.Timer.TheVariants.{Election, Heartbeat}
use Rattle.protocol.specs.declared.RequestId.{RequestId}
use Rattle.storage.specs.Storage as storage
use Rattle.storage.specs.Storage.{Write}
use Rattle.storage.specs.declared.HardState.{HardState}
use Rattle.checks_durability.specs.declared.replies.Reply.{Reply}
use Rattle.model.specs.State.{Confirmation}
use Rattle.model.specs.Simulation.{Opening, no_input, open_start, open_message, open_timer, open_proposal, open_confirmation}
use Rattle.model.specs.Calls.{Asked, Sealing, synced, nothing_to_sync, cut}
use Rattle.model.specs.Calls as model
use Rattle.model.specs.Reads.{LogRead}
use Rattle.model.specs.Outcome.{WriteCall, OutputCall, send, set_timer, cancel_timer, apply, confirmed, lost, ReadCall, read_status, read_hard_state, read_log, read_entry, read_leader, read_applied, read_applied_entry, read_metrics, read_sent_by, read_reply, read_confirmation, read_violation, read_run, read_settings, Call, start, step, propose, fire_timer, confirm_leadership, schedule, write, seal, output, end, check_log_matching, check_durability, read, Answer, no, acted, opened, stepped, asked, sealed, got, got_hard_state, got_log, got_entry, got_applied, got_applied_entry, got_reply, got_confirmation}
use Rattle.model.specs.Outcome as calls
use Rattle.claims.specs.Claim.{accepted}

-- ---- arguments, as document 01 reads them

-- A vote that may be absent: 1 says that there is one.
abbrev pub vote_of : ℕ → ℕ → Option NodeId
vote_of present id = pick (eqb present 1) (Some (record { 0 = id })) None

-- A payload: kind 0 is a noop, kind 1 a command of the bytes.
abbrev pub payload_of : ℕ → List ℕ → Payload
payload_of kind bytes = pick (eqb kind 0) noop (command bytes)

-- A timer: kind 0 is that of elections, kind 1 that of heartbeats.
abbrev pub timer_of : ℕ → Timer
timer_of kind = pick (eqb kind 1) Heartbeat Election

-- ---- what a server finds

-- What the book says of a server: its term and vote, and its log as a function of the index.
pub record Found : Type 0 where
  pub hard_state : HardState
  pub log : ℕ → Option Entry

-- Term 0, no vote, no entry.
abbrev pub empty : Found
empty = record { hard_state = record { term = record { 0 = 0 }; voted_for = None }; log = λ index. None }

-- One write done: hard state sets term and vote, put sets its index, truncate removes its index and all above.
abbrev pub do_write : Found → Write → Found
do_write d (storage.write_hard_state h) = record { hard_state = h; log = d.log }
do_write d (storage.write_put index e) = record { hard_state = d.hard_state; log = λ i. pick (eqb i index.0) (Some e) (d.log i) }
do_write d (storage.write_truncate from) = record { hard_state = d.hard_state; log = λ i. pick (leb from.0 i) None (d.log i) }

-- Writes done in order.
unfoldable pub do_writes : Found → List Write → Found
do_writes d [] = d
do_writes d (w ∷ ws) = do_writes (do_write d w) ws

-- The number of indexes that hold an entry, from 1 up to the last that there is.
unfoldable pub count_up_to : ℕ → (ℕ → Option Entry) → ℕ
count_up_to zero log = 0
count_up_to (suc last) log = pick (is_some (log (suc last))) 1 0 + count_up_to last log

-- ---- what output calls hand over

-- An output call, with the server whose input was open.
pub data Given : Type 0 where
  sent : (from to : NodeId) → (message : List ℕ) → (entries : ℕ) → Given
  timer_set : NodeId → Timer → (after : Duration) → Given
  was_applied : NodeId → LogIndex → Payload → Given
  answered : NodeId → RequestId → (read_index : Option LogIndex) → Given

-- ---- the book

-- Whether an input is open, and whether it is synced.
pub data Open : Type 0 where
  not_open : Open
  unsealed : Open
  sealed_by_sync : Open

-- What the book holds.
pub record Book : Type 0 where
  -- the last log index that there is, from the latest fresh start
  pub last_index : ℕ
  -- the writes of each server's finished inputs since then, in order
  pub finished : NodeId → List Write
  -- the writes that wait for the seal
  pub waiting : List Write
  pub input : Open
  -- the server whose input is open, or was last
  pub server : NodeId
  -- what output calls have handed over since the latest fresh start
  pub given : List Given

-- What a server finds: the writes of its finished inputs replayed on an empty log, in order.
abbrev pub found : Book → NodeId → Found
found b id = do_writes empty (b.finished id)

-- A fresh start: every server is empty, and no write waits.
abbrev pub fresh : ℕ → Book
fresh indexes = record { last_index = indexes; finished = λ _. []; waiting = []; input = not_open; server = record { 0 = 0 }; given = [] }

-- The book with an input of a server opened, and with none open.
abbrev pub open_input : Book → NodeId → Book
open_input b server =
    record { last_index = b.last_index; finished = b.finished; waiting = b.waiting; input = unsealed; server = server; given = b.given }

-- The book after an input has ended: none is open.
abbrev pub none_open : Book → Book
none_open b = record { last_index = b.last_index; finished = b.finished; waiting = b.waiting; input = not_open; server = b.server; given = b.given }

-- Whose input was opened; with none opened nothing changes.
abbrev pub tell_opened : Book → Option NodeId → Book
tell_opened b None = b
tell_opened b (Some server) = open_input b server

-- A write waits.
abbrev pub wait : Book → Write → Book
wait b w =
    record { last_index = b.last_index; finished = b.finished; waiting = b.waiting ++ (w ∷ []); input = b.input; server = b.server; given = b.given }

-- The waiting writes done, in order, for the open input's server: the input is finished.
abbrev pub finish_input : Book → Book
finish_input b =
    record {
      last_index = b.last_index;
      finished = λ id. pick (eqb id.0 b.server.0) (b.finished id ++ b.waiting) (b.finished id);
      waiting = [];
      input = sealed_by_sync;
      server = b.server;
      given = b.given;
    }

-- The waiting writes dropped: the input is struck, and none is open.
abbrev pub strike_input : Book → Book
strike_input b = record { last_index = b.last_index; finished = b.finished; waiting = []; input = not_open; server = b.server; given = b.given }

-- How a seal ended an input.
pub data Ending : Type 0 where
  by_sync : Ending
  by_cut : Ending

-- A seal that syncs finishes the input; one that cuts strikes it, and the next start may open.
abbrev pub tell_seal : Book → Option Ending → Option NodeId → Book
tell_seal b None next = b
tell_seal b (Some by_sync) next = finish_input b
tell_seal b (Some by_cut) next = tell_opened (strike_input b) next

-- The write of a call's arguments.
abbrev pub write_of : WriteCall → Write
write_of (calls.hard_state term present vote) = storage.write_hard_state (record { term = term; voted_for = vote_of present vote })
write_of (calls.put index term kind bytes) = storage.write_put index (record { term = term; payload = payload_of kind bytes })
write_of (calls.truncate from) = storage.write_truncate from

-- What an output call hands over, in front of what was; a cancelled timer is nothing that could be handed back.
abbrev pub give_output : NodeId → OutputCall → List Given → List Given
give_output server (send to message entries) given = sent server (record { 0 = to }) message entries ∷ given
give_output server (set_timer timer duration) given = timer_set server (timer_of timer) duration ∷ given
give_output server (cancel_timer timer) given = given
give_output server (apply index kind bytes) given = was_applied server index (payload_of kind bytes) ∷ given
give_output server (confirmed request read_index) given = answered server request (Some read_index) ∷ given
give_output server (lost request) given = answered server request None ∷ given

-- An output call has handed something over.
abbrev pub give : Book → OutputCall → Book
give b o =
    record { last_index = b.last_index; finished = b.finished; waiting = b.waiting; input = b.input; server = b.server; given = give_output b.server o b.given }

-- ---- what the book is told

-- Of an answer: whether the call was accepted, whose input it opened, and whether it synced or cut.
pub record Told : Type 0 where
  pub accepted : Bool
  pub opened : Option NodeId
  pub ending : Option Ending

-- Whose input was opened.
abbrev pub whose : Opening → Option NodeId
whose no_input = None
whose (open_start server incarnation seed) = Some server
whose (open_message server sender entries bytes) = Some server
whose (open_timer server timer) = Some server
whose (open_proposal server client seq) = Some server
whose (open_confirmation server request) = Some server

-- What a direct call opened.
abbrev pub asked_opening : Asked → Opening
asked_opening (model.asked next) = next
asked_opening model.stopped = no_input

-- The input that an answer opened.
abbrev pub opening_of : Answer → Opening
opening_of (opened next) = next
opening_of (stepped s) = s.opening
opening_of (asked a) = asked_opening a
opening_of (sealed s) = s.opening
opening_of (no number) = no_input
opening_of acted = no_input
opening_of (got x) = no_input

-- A seal with nothing to sync finishes its input as one that syncs does.
abbrev pub ending_of : Sealing → Ending
ending_of synced = by_sync
ending_of nothing_to_sync = by_sync
ending_of cut = by_cut

-- How an answer sealed, if its call was a seal.
abbrev pub sealed_by : Answer → Option Ending
sealed_by (sealed s) = Some (ending_of s.sealing)
sealed_by (no number) = None
sealed_by acted = None
sealed_by (opened next) = None
sealed_by (stepped s) = None
sealed_by (asked a) = None
sealed_by (got x) = None

-- What the book is told of an answer.
abbrev pub told_of : Answer → Told
told_of a = record { accepted = accepted a; opened = whose (opening_of a); ending = sealed_by a }

-- The book after an accepted call: of the answer it is told whose input it opened, and how it sealed.
abbrev pub enter : Book → Call → Option NodeId → Option Ending → Book
enter b (start config limits seed) next how = tell_opened (fresh limits.log_indexes) next
enter b (step deadline buffer) next how = tell_opened b next
enter b (propose server) next how = tell_opened b next
enter b (fire_timer server timer) next how = tell_opened b next
enter b (confirm_leadership server request) next how = tell_opened b next
enter b (schedule time kind first second groups) next how = b
enter b (write w) next how = wait b (write_of w)
enter b (calls.seal refusal present leader) next how = tell_seal b how next
enter b (output o) next how = give b o
enter b (end role term present leader commit) next how = tell_opened (none_open b) next
enter b check_log_matching next how = b
enter b check_durability next how = b
enter b (read r) next how = b

-- The book after any call: a refused one changes nothing.
unfoldable pub note : Book → Call → Told → Book
note b c t = pick t.accepted (enter b c t.opened t.ending) b

-- ---- the claim: (a) what a server finds when it starts, (b) when outputs come, (c) what a step or a read hands back

-- What a server has written so far: what it finds, and the writes of its open input that wait.
abbrev pub so_far : Book → ℕ → Found
so_far b server = do_writes (found b (record { 0 = server })) (pick (eqb server b.server.0) b.waiting [])

-- What a step hands back was handed over by an output call.
abbrev pub HandedOver : List Given → Opening → Type 0
HandedOver given no_input = Unit {0}
HandedOver given (open_start server incarnation seed) = Unit {0}
HandedOver given (open_message server sender entries bytes) = Memᴰ (sent sender server bytes entries) given
HandedOver given (open_timer server timer) = (duration : Duration) × Memᴰ (timer_set server timer duration) given
HandedOver given (open_proposal server client seq) = Unit {0}
HandedOver given (open_confirmation server request) = Unit {0}

-- An apply call has applied a reply's client key at its index.
pub record KeyApplied (given : List Given) (client seq : ℕ) (index : LogIndex) : Type 0 where
  pub server : NodeId
  pub bytes : List ℕ
  pub key : decode bytes ≡ Some (record { client = client; seq = seq })
  pub handed : Memᴰ (was_applied server index (command bytes)) given

-- What the answer of an accepted read must be: (a) what the book says of what the server has written so far; (c) what was handed over, in every field that both carry.
abbrev pub RightRead : Book → ReadCall → Answer → Type 0
RightRead b (read_hard_state server) a = (h : HardState) → a ≡ got (got_hard_state h) → h ≡ (so_far b server).hard_state
RightRead b (read_log server) a = (l : LogRead) → a ≡ got (got_log l) → l.entries ≡ count_up_to b.last_index (so_far b server).log
RightRead b (read_entry server index buffer) a = (e : Option Entry) → a ≡ got (got_entry e) → e ≡ (so_far b server).log index
RightRead b (read_applied server) a =
    (n : ℕ) → a ≡ got (got_applied (suc n)) → (p : Payload) × Memᴰ (was_applied (record { 0 = server }) (record { 0 = suc n }) p) b.given
RightRead b (read_applied_entry index buffer) a =
    (p : Payload) → a ≡ got (got_applied_entry (Some p)) → (server : NodeId) × Memᴰ (was_applied server (record { 0 = index }) p) b.given
RightRead b (read_reply place) a = (r : Reply) → a ≡ got (got_reply (Some r)) → KeyApplied b.given r.client r.seq r.index
RightRead b (read_confirmation place) a =
    (r : Confirmation) → a ≡ got (got_confirmation (Some r)) → (server : NodeId) × Memᴰ (answered server r.request r.read_index) b.given
RightRead b (read_status server) a = Unit {0}
RightRead b read_leader a = Unit {0}
RightRead b read_metrics a = Unit {0}
RightRead b (read_sent_by server) a = Unit {0}
RightRead b (read_violation place) a = Unit {0}
RightRead b read_run a = Unit {0}
RightRead b read_settings a = Unit {0}

-- What the answer of an accepted call must be: no write waits where a call opens an input, and no other call does; (b) an output comes while a synced input is open; (c) what a step hands
-- back was handed over.
abbrev pub Right : Book → Call → Answer → Type 0
Right b (step deadline buffer) a = (b.waiting ≡ []) × HandedOver b.given (opening_of a)
Right b (output o) a = (b.input ≡ sealed_by_sync) × (opening_of a ≡ no_input)
Right b (read r) a = RightRead b r a × (opening_of a ≡ no_input)
Right b (start config limits seed) a = Unit {0}
Right b (propose server) a = b.waiting ≡ []
Right b (fire_timer server timer) a = b.waiting ≡ []
Right b (confirm_leadership server request) a = b.waiting ≡ []
Right b (schedule time kind first second groups) a = opening_of a ≡ no_input
Right b (write w) a = opening_of a ≡ no_input
Right b (calls.seal refusal present leader) a = (sealed_by a ≡ Some by_cut → ⊥) → opening_of a ≡ no_input
Right b (end role term present leader commit) a = b.waiting ≡ []
Right b check_log_matching a = opening_of a ≡ no_input
Right b check_durability a = opening_of a ≡ no_input
