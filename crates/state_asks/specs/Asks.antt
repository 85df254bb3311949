-- The questions of checks.rs over the state that an area holds: what is asked, and what the answers say. Assumes nothing.
use Rattle.std.specs.Prelude.{◌≡◌, Bool, true, false, not, List, map, ℕ, ◌+◌, ◌-◌, ◌*◌, ◌≤◌, eqb, length, Option, None, Some, Ok, Err}
use Rattle.laws.specs.Bools.{pick}
use Rattle.laws.specs.Lists.{at}
use Rattle.laws.specs.Order.{numbers, lookup}
use Rattle.units.specs.Types.{Payload, Entry}
use Rattle.units.specs.declared.LogIndex.{LogIndex}
use Rattle.protocol.specs.declared.Status.{Status}
use Rattle.layout.specs.Tables.{Holds}
use Rattle.layout.specs.Payload.{payload}
use Rattle.raft_log.specs.Log.{Log, entry_at}
use Rattle.storage.specs.Storage.{Write, written}
use Rattle.checks.specs.declared.Mismatch.{Mismatch}
use Rattle.checks.specs.Checks.{Checker, Led, Acknowledged, leader_key, on_apply, on_writes, on_status, log_matching_failure}
use Rattle.checks.specs.Checks.{check_log_matching, highest_of, check_durability}
use Rattle.units.specs.declared.refusal.Refusal.TheVariants.{Room}
use Rattle.checks_on_apply.specs.declared.ApplyAsked.{ApplyAsked}
use Rattle.checks_on_apply.specs.OnApply.{apply_acts}
use Rattle.checks_on_write.specs.declared.WriteAsked.{WriteAsked}
use Rattle.checks_on_write.specs.declared.WritesAsked.{WritesAsked}
use Rattle.checks_on_write.specs.OnWrite.{write_asked}
use Rattle.checks_on_write.specs.OnWrites.{index_of}
use Rattle.checks_on_status.specs.declared.StatusAsked.{StatusAsked}
use Rattle.checks_on_status.specs.OnStatus.{status_acts}
use Rattle.checks_log_matching.specs.declared.pairs.MatchingAsked.{MatchingAsked}
use Rattle.checks_durability.specs.declared.DurabilityAsked.{DurabilityAsked}
use Rattle.checks_durability.specs.declared.replies.Reply.{Reply}
use Rattle.checks_durability.specs.Acknowledged.{acknowledged_from, is_applied}
use Rattle.model.specs.State.{State, Server, server_at, id_of}
use Rattle.model.specs.Calls.{logs_from, applied_from}
use Rattle.model.specs.Fits.{checker_fits}
use Rattle.state.specs.declared.Capacity.{Capacity}
use Rattle.state.specs.Area.{Area, capacity_of}
use Rattle.units.specs.declared.Term.{Term}

-- ---- numbers

-- r is n, or the greatest where that is less.
pub record AtMost (n most r : ℕ) : Type 0 where
  pub is : n ≤ most → r ≡ n
  pub low : r ≤ most

-- r is n, or the room where that is less; so many rows of w words have room.
pub record Rows (n room w r : ℕ) : Type 0 where
  pub is : n ≤ room → r ≡ n
  pub few : r ≤ room
  pub bytes : 8 * (r * w) ≤ 8 * (room * w)

-- r is the word `at`, and the w words from there on lie in the area.
pub record Begins (b : List ℕ) (r at w : ℕ) : Type 0 where
  pub is : r ≡ at
  pub ends : 8 * (r + w) ≤ length b

-- The index that the server at a place is expected to apply next.
unfoldable pub next_apply_of : ℕ → State → ℕ
next_apply_of k s = (server_at s k).next_apply

-- Question 10 of the checks alone: 0 where they fit, else 10.
unfoldable pub checker_code : State → Checker → ℕ
checker_code s c = pick (checker_fits s.config s.limits c) 0 10

-- Whatever state with these counts the bytes hold, what is told of it holds.
pub record Asks (b : List ℕ) (F : Capacity) (told : State → Type 0) : Type 0 where
  pub to : (s : State) → Area b s → F ≡ capacity_of s → told s

-- ---- a payload applied

-- The checks after the server at a place applied a payload at an index.
unfoldable pub after_apply : ℕ → LogIndex → Payload → State → Checker
after_apply k index x s = on_apply s.checker s.now (id_of k) index x (server_at s k).next_apply

-- The answer for a state: question 10 is answered yes exactly where what the definition gives fits, and flags say what it does, also where
-- it does not fit.
pub record ApplyTold (k : ℕ) (index : LogIndex) (x : Payload) (r : ApplyAsked) (s : State) : Type 0 where
  pub room : r.room ≡ pick (checker_fits s.config s.limits (after_apply k index x s)) (Ok tt) (Err Room)
  pub does : after_apply k index x s ≡ apply_acts r index (server_at s k).next_apply s.checker s.now (id_of k) x

-- The same whatever payload the lent words hold.
pub record AsksRow (b : List ℕ) (F : Capacity) (k : ℕ) (index : LogIndex) (content : List ℕ) (r : ApplyAsked) : Type 0 where
  pub to : (x : Payload) → Holds (payload F.limits.payload) content x → Asks b F (ApplyTold k index x r)

-- ---- a status

-- Whether leader completeness is asked for.
unfoldable pub raft_checks_of : State → Bool
raft_checks_of s = eqb s.config.raft_checks 1

-- The term that the server at a place leads.
unfoldable pub leading_of : ℕ → State → Option Term
leading_of k s = (server_at s k).leading

-- The current log of the server at a place.
unfoldable pub log_of : ℕ → State → Log
log_of k s = (server_at s k).storage.current.log

-- The checks after a status of the server at a place, and the term that it leads then.
unfoldable pub after_status : ℕ → Status → State → Led
after_status k status s = on_status (raft_checks_of s) s.checker s.now (id_of k) status (log_of k s) (server_at s k).leading

-- The answer for a state: 10 exactly where what the definition gives does not fit; flags that say what it does, and whether the server
-- leads; and a leader to be kept is the first of its term.
pub record StatusTold (k : ℕ) (status : Status) (r : StatusAsked) (s : State) : Type 0 where
  pub code : r.code ≡ checker_code s (after_status k status s).checker
  pub does : (after_status k status s).checker ≡ status_acts r s.checker s.now (id_of k) status.term
  pub led : (after_status k status s).leading ≡ pick r.leads (Some status.term) None
  pub absent : r.fresh ≡ true → lookup numbers leader_key status.term.0 s.checker.leaders ≡ None

-- The same where the numbers are the state's: how many leaders and applied payloads there are, the total of violations, whether leader
-- completeness is asked for, and the term that the server leads.
pub record StatusGiven (leaders applied total : ℕ) (raft_checks : Bool) (leading : Option Term) (k : ℕ) (status : Status) (r : StatusAsked)
    (s : State) : Type 0 where
  pub to : leaders ≡ length s.checker.leaders → applied ≡ length s.checker.applied → total ≡ s.checker.total
      → raft_checks ≡ raft_checks_of s
      → leading ≡ leading_of k s → StatusTold k status r s

-- ---- writes

-- The waiting writes of the server at a place.
unfoldable pub waiting_of : ℕ → State → List Write
waiting_of k s = (server_at s k).storage.waiting

-- How many there are.
unfoldable pub write_count_of : ℕ → State → ℕ
write_count_of k s = length (waiting_of k s)

-- The index of write i where it is a put, else 0, where no entry is.
unfoldable pub written_index_of : ℕ → ℕ → State → LogIndex
written_index_of k i s = index_of i (waiting_of k s)

-- What the entry at an index of the log of the server at a place gives, against the entries seen.
unfoldable pub write_asked_of : ℕ → LogIndex → State → WriteAsked
write_asked_of k index s = write_asked (entry_at (log_of k s) index.0) index s.checker.entries

-- The words hold the payload of the entry at an index of the log of the server at a place, where there is one.
pub record PayloadTold (k : ℕ) (index : LogIndex) (content : List ℕ) (s : State) : Type 0 where
  pub to : (e : Entry) → entry_at (log_of k s) index.0 ≡ Some e → Holds (payload s.limits.payload) content e.payload

-- The checks after all waiting writes of the server at a place.
unfoldable pub after_writes : ℕ → State → Checker
after_writes k s = on_writes s.checker s.now (id_of k) (log_of k s) (written (waiting_of k s))

-- The answer for a state: 10 exactly where what the definition gives does not fit, how many entries are new, and how many reports are due.
pub record WritesTold (k : ℕ) (r : WritesAsked) (s : State) : Type 0 where
  pub code : r.code ≡ checker_code s (after_writes k s)
  pub added : length (after_writes k s).entries ≡ length s.checker.entries + r.added
  pub reports : (after_writes k s).total ≡ s.checker.total + r.reports

-- The same where the numbers are the state's: how many writes wait, how many entries were seen, and the total of violations.
pub record WritesGiven (writes seen total k : ℕ) (r : WritesAsked) (s : State) : Type 0 where
  pub to : writes ≡ write_count_of k s → seen ≡ length s.checker.entries → total ≡ s.checker.total → WritesTold k r s

-- ---- log matching

-- How the current logs of the servers at two places break log matching.
unfoldable pub mismatch_between : ℕ → ℕ → State → Option Mismatch
mismatch_between i j s = log_matching_failure (log_of i s) (log_of j s)

-- The checks after every pair of logs is checked.
unfoldable pub after_matching : State → Checker
after_matching s = check_log_matching s.checker s.now (logs_from 0 s.servers)

-- The answer for a state: question 10 is answered yes exactly where what the definition gives fits, and it is told how many reports are
-- due, also where it does not fit.
pub record MatchingTold (r : MatchingAsked) (s : State) : Type 0 where
  pub room : r.room ≡ pick (checker_fits s.config s.limits (after_matching s)) (Ok tt) (Err Room)
  pub reports : (after_matching s).total ≡ s.checker.total + r.reports

-- The same where the total of violations is the state's.
pub record MatchingGiven (total : ℕ) (r : MatchingAsked) (s : State) : Type 0 where
  pub to : total ≡ s.checker.total → MatchingTold r s

-- ---- durability

-- The bytes of a client's command.
unfoldable pub command_bytes_of : State → ℕ
command_bytes_of s = s.config.command_bytes

-- How far a server has applied since it last started.
abbrev pub applied_by : Server → ℕ
applied_by v = v.next_apply - 1

-- The same of the server at a place.
unfoldable pub applied_of : ℕ → State → ℕ
applied_of k s = applied_by (server_at s k)

-- The same of each server.
unfoldable pub up_to_of : State → List ℕ
up_to_of s = map applied_by s.servers

-- The index of a reply that may be absent, or 0.
abbrev pub index_in : Option Reply → LogIndex
index_in None = record { 0 = 0 }
index_in (Some reply) = reply.index

-- The index of reply i.
unfoldable pub reply_index_of : ℕ → State → LogIndex
reply_index_of i s = index_in (at s.replies i)

-- Whether there is a reply whose command, of so many bytes, is not the payload applied at its index.
abbrev pub missing_in : ℕ → List Payload → Option Reply → Bool
missing_in size payloads None = false
missing_in size payloads (Some reply) = not (is_applied size reply payloads)

-- Whether the command of reply i is not the payload applied at its index.
unfoldable pub reply_missing_of : ℕ → State → Bool
reply_missing_of i s = missing_in s.config.command_bytes s.checker.applied (at s.replies i)

-- The commands whose replies reached their clients.
unfoldable pub acknowledged_of : State → List Acknowledged
acknowledged_of s = acknowledged_from s.config.command_bytes s.replies

-- The checks after durability is checked.
unfoldable pub after_durability : State → Checker
after_durability s = check_durability s.checker s.now (acknowledged_of s) (applied_from 0 s.servers)

-- The answer for a state: 10 exactly where what the definition gives does not fit, how many reports are due, and the highest acknowledged
-- index.
pub record DurabilityTold (r : DurabilityAsked) (s : State) : Type 0 where
  pub code : r.code ≡ checker_code s (after_durability s)
  pub reports : (after_durability s).total ≡ s.checker.total + r.reports
  pub highest : r.highest ≡ highest_of (acknowledged_of s)

-- The same where the numbers are the state's: how many replies and applied payloads there are, the total of violations, the bytes of a
-- command, and how far each server has applied.
pub record DurabilityGiven (replies applied total size : ℕ) (up_to : List ℕ) (r : DurabilityAsked) (s : State) : Type 0 where
  pub to : replies ≡ length s.replies → applied ≡ length s.checker.applied → total ≡ s.checker.total → size ≡ command_bytes_of s
      → up_to ≡ up_to_of s
      → DurabilityTold r s
