-- Safety checks (checks.rs), over numbers and tables without limit. Assumes nothing.
use Rattle.std.specs.Prelude.{Bool, true, false, not, ◌&&◌, List, [], ◌∷◌, ◌++◌, ℕ, zero, suc, ◌+◌, ◌-◌, min, max, ltb, eqb, length, Option, None, Some}
use Rattle.laws.specs.Bools.{pick}
use Rattle.laws.specs.Lists.{at}
use Rattle.laws.specs.Order.{numbers, pairs, lookup, insert_by}
use Rattle.units.specs.Types.{Payload, Entry, same_payload}
use Rattle.units.specs.declared.NodeId.{NodeId}
use Rattle.units.specs.declared.Term.{Term}
use Rattle.units.specs.declared.LogIndex.{LogIndex}
use Rattle.units.specs.declared.SimTime.{SimTime}
use Rattle.protocol.specs.Numbers.{leads}
use Rattle.protocol.specs.declared.Status.{Status}
use Rattle.raft_log.specs.Log.{Log, entry_at, last_index}
use Rattle.checks.specs.declared.Check.{Check}
use Rattle.checks.specs.declared.Check.TheVariants.{ElectionSafety, StateMachineSafety, ApplyOrder, UniqueEntries, Durability, Liveness, LogMatching, LeaderCompleteness}
use Rattle.checks.specs.declared.TermLeader.{TermLeader}
use Rattle.checks.specs.declared.Mismatch.{Mismatch}

-- Document 01's number of a check: its place in the Rust's order.
abbrev pub check_number : Check → ℕ
check_number ElectionSafety = 0
check_number StateMachineSafety = 1
check_number ApplyOrder = 2
check_number UniqueEntries = 3
check_number Durability = 4
check_number Liveness = 5
check_number LogMatching = 6
check_number LeaderCompleteness = 7

-- A broken property: when it was seen, which, and the numbers of the Rust's text in its order.
pub record Violation : Type 0 where
  pub time : SimTime
  pub check : Check
  pub detail : List ℕ

-- An entry seen: the first payload written under its index and term.
pub record Seen : Type 0 where
  pub index : LogIndex
  pub term : Term
  pub payload : Payload

-- What the checks remember (Checker); the term that each server leads stands with the server.
pub record Checker : Type 0 where
  -- the leader of each term seen so far, by term
  pub leaders : List TermLeader
  -- the first payload any server applied at each index; index i is at place i - 1
  pub applied : List Payload
  -- the first payload written under each index and term
  pub entries : List Seen
  -- the first 32 violations
  pub violations : List Violation
  -- how many violations there were
  pub total : ℕ

-- Nothing seen yet (Checker::new).
abbrev pub new_checker : Checker
new_checker = record { leaders = []; applied = []; entries = []; violations = []; total = 0 }

-- What the checks remember, with other leaders.
abbrev pub with_leaders : Checker → List TermLeader → Checker
with_leaders c l = record { leaders = l; applied = c.applied; entries = c.entries; violations = c.violations; total = c.total }

-- With other applied payloads.
abbrev pub with_applied : Checker → List Payload → Checker
with_applied c a = record { leaders = c.leaders; applied = a; entries = c.entries; violations = c.violations; total = c.total }

-- With other entries seen.
abbrev pub with_entries : Checker → List Seen → Checker
with_entries c e = record { leaders = c.leaders; applied = c.applied; entries = e; violations = c.violations; total = c.total }

-- How many violations are kept (MAX_RECORDED).
abbrev pub max_recorded : ℕ
max_recorded = 32

-- A violation counted, and kept while there are fewer than 32 (report).
unfoldable pub report : Checker → SimTime → Check → List ℕ → Checker
report c time check detail =
    record {
      leaders = c.leaders;
      applied = c.applied;
      entries = c.entries;
      violations =
          pick (ltb (length c.violations) max_recorded)
          (c.violations ++ record { time = time; check = check; detail = detail } ∷ [])
          c.violations;
      total = c.total + 1;
    }

-- A violation reported where a test is true.
abbrev pub report_if : Bool → Checker → SimTime → Check → List ℕ → Checker
report_if broken c time check detail = pick broken (report c time check detail) c

-- ---- applied entries

-- An applied payload compared with the first applied at its place, or kept where the place is the next free one.
abbrev pub compare_applied : Option Payload → Checker → SimTime → NodeId → ℕ → Payload → Checker
compare_applied (Some first) c time server place payload =
    report_if (not (same_payload first payload)) c time StateMachineSafety (server.0 ∷ suc place ∷ [])
compare_applied None c time server place payload =
    pick (eqb place (length c.applied)) (with_applied c (c.applied ++ payload ∷ [])) c

-- The same by index: index 0 has no place.
abbrev pub record_applied : ℕ → Checker → SimTime → NodeId → Payload → Checker
record_applied zero c time server payload = c
record_applied (suc place) c time server payload = compare_applied (at c.applied place) c time server place payload

-- A server applied a payload at an index, and was expected to apply another (on_apply): apply order first, then state machine safety. It is then expected to apply the next.
unfoldable pub on_apply : Checker → SimTime → NodeId → LogIndex → Payload → ℕ → Checker
on_apply c time server index payload expected =
    record_applied index.0
    (report_if (not (eqb index.0 expected)) c time ApplyOrder (server.0 ∷ index.0 ∷ expected ∷ []))
    time
    server
    payload

-- ---- written entries

-- What entries seen are sorted by: index, then term.
abbrev pub seen_key : Seen → ℕ × ℕ
seen_key s = (s.index.0, s.term.0)

-- An entry compared with the first seen under its index and term, or seen now.
abbrev pub compare_seen : Option Seen → Checker → SimTime → NodeId → LogIndex → Entry → Checker
compare_seen (Some first) c time server index e =
    report_if (not (same_payload first.payload e.payload)) c time UniqueEntries (server.0 ∷ index.0 ∷ e.term.0 ∷ [])
compare_seen None c time server index e =
    with_entries c (insert_by pairs seen_key (record { index = index; term = e.term; payload = e.payload }) c.entries)

-- The entry at a written index, if it is still there.
abbrev pub written_entry : Option Entry → Checker → SimTime → NodeId → LogIndex → Checker
written_entry None c time server index = c
written_entry (Some e) c time server index =
    compare_seen (lookup pairs seen_key (index.0, e.term.0) c.entries) c time server index e

-- A server has written at an index (on_write).
unfoldable pub on_write : Checker → SimTime → NodeId → Log → LogIndex → Checker
on_write c time server log index = written_entry (entry_at log index.0) c time server index

-- A server has written at several indexes, in order.
unfoldable pub on_writes : Checker → SimTime → NodeId → Log → List LogIndex → Checker
on_writes c time server log [] = c
on_writes c time server log (index ∷ indexes) = on_writes (on_write c time server log index) time server log indexes

-- ---- status

-- What leaders are sorted by: the term.
abbrev pub leader_key : TermLeader → ℕ
leader_key l = l.term.0

-- A leader compared with the first of its term, or seen now.
abbrev pub compare_leader : Option TermLeader → Checker → SimTime → NodeId → Term → Checker
compare_leader (Some other) c time server term =
    report_if (not (eqb other.server.0 server.0)) c time ElectionSafety (other.server.0 ∷ server.0 ∷ term.0 ∷ [])
compare_leader None c time server term = with_leaders c (insert_by numbers leader_key (record { term = term; server = server }) c.leaders)

-- Whether a log's entry has a payload.
abbrev pub holds : Option Entry → Payload → Bool
holds None payload = false
holds (Some e) payload = same_payload e.payload payload

-- The first index from `index` on whose applied payload a log does not hold.
unfoldable pub first_missing : Log → ℕ → List Payload → Option LogIndex
first_missing log index [] = None
first_missing log index (payload ∷ payloads) = pick (holds (entry_at log index) payload) (first_missing log (suc index) payloads) (Some (record { 0 = index }))

-- The missing index reported, if there is one.
abbrev pub report_missing : Option LogIndex → Checker → SimTime → NodeId → Term → Checker
report_missing None c time server term = c
report_missing (Some index) c time server term = report c time LeaderCompleteness (server.0 ∷ term.0 ∷ index.0 ∷ [])

-- A new leader's log holds every applied payload (check_leader_completeness).
unfoldable pub check_leader_completeness : Checker → SimTime → NodeId → Term → Log → Checker
check_leader_completeness c time server term log = report_missing (first_missing log 1 c.applied) c time server term

-- What the checks and a server's led term become.
pub record Led : Type 0 where
  pub checker : Checker
  pub leading : Option Term

-- Whether a server already leads a term.
abbrev pub already_leads : Option Term → Term → Bool
already_leads None term = false
already_leads (Some led) term = eqb led.0 term.0

-- A server's status after an input (on_status), with the term that it led before; leader completeness is asked only where it is wanted and the led term changes.
unfoldable pub on_status : Bool → Checker → SimTime → NodeId → Status → Log → Option Term → Led
on_status raft_checks c time server status log leading =
    let term = status.term in
    let seen = compare_leader (lookup numbers leader_key term.0 c.leaders) c time server term in
    pick (leads status.role)
    (record {
      checker = pick (raft_checks && not (already_leads leading term)) (check_leader_completeness seen time server term log) seen;
      leading = Some term;
    })
    (record { checker = c; leading = None })

-- ---- log matching

-- Whether two places hold equal entries, or neither holds one.
abbrev pub same_entry : Option Entry → Option Entry → Bool
same_entry None None = true
same_entry None (Some y) = false
same_entry (Some x) None = false
same_entry (Some x) (Some y) = eqb x.term.0 y.term.0 && same_payload x.payload y.payload

-- Two entries of one term: that term.
abbrev pub shared_term : Option Entry → Option Entry → Option Term
shared_term None y = None
shared_term (Some x) None = None
shared_term (Some x) (Some y) = pick (eqb x.term.0 y.term.0) (Some x.term) None

-- A mismatch at an index, where a difference came before it and both logs hold a term there; else what follows.
abbrev pub mismatch_at : Option LogIndex → Option Term → LogIndex → Option Mismatch → Option Mismatch
mismatch_at None term index later = later
mismatch_at (Some difference) None index later = later
mismatch_at (Some difference) (Some term) index later = Some (record { term = term; index = index; difference = difference })

-- The first difference so far, or this index where there was none and the entries differ.
abbrev pub difference_at : Option LogIndex → Bool → LogIndex → Option LogIndex
difference_at (Some difference) same index = Some difference
difference_at None same index = pick same None (Some index)

-- The first mismatch among so many indexes from `index` on: the term there is compared before the entries are.
unfoldable pub mismatch_from : ℕ → ℕ → Option LogIndex → Log → Log → Option Mismatch
mismatch_from zero index difference a b = None
mismatch_from (suc left) index difference a b =
    let x = entry_at a index in
    let y = entry_at b index in
    let at : LogIndex = record { 0 = index } in
    mismatch_at difference (shared_term x y) at (mismatch_from left (suc index) (difference_at difference (same_entry x y) at) a b)

-- How two logs break log matching, up to the smaller last index (log_matching_failure).
unfoldable pub log_matching_failure : Log → Log → Option Mismatch
log_matching_failure a b = mismatch_from (min (last_index a) (last_index b)) 1 None a b

-- The mismatch of two servers' logs reported, if there is one.
abbrev pub report_mismatch : Option Mismatch → Checker → SimTime → NodeId → NodeId → Checker
report_mismatch None c time a b = c
report_mismatch (Some m) c time a b = report c time LogMatching (a.0 ∷ b.0 ∷ m.term.0 ∷ m.index.0 ∷ m.difference.0 ∷ [])

-- A server's log.
pub record ServerLog : Type 0 where
  pub server : NodeId
  pub log : Log

-- One log against each of those after it.
unfoldable pub check_against : Checker → SimTime → ServerLog → List ServerLog → Checker
check_against c time a [] = c
check_against c time a (b ∷ bs) = check_against (report_mismatch (log_matching_failure a.log b.log) c time a.server b.server) time a bs

-- Every pair of logs (check_log_matching).
unfoldable pub check_log_matching : Checker → SimTime → List ServerLog → Checker
check_log_matching c time [] = c
check_log_matching c time (a ∷ bs) = check_log_matching (check_against c time a bs) time bs

-- ---- durability

-- A command acknowledged to its client, and the index at which it was.
pub record Acknowledged : Type 0 where
  pub index : LogIndex
  pub payload : Payload

-- How far a server has applied.
pub record AppliedUpTo : Type 0 where
  pub server : NodeId
  pub up_to : ℕ

-- Whether a payload is there and equal to another.
abbrev pub is_payload : Option Payload → Payload → Bool
is_payload None payload = false
is_payload (Some first) payload = same_payload first payload

-- Each acknowledged command is the payload applied at its index; index 0 is compared with the payload at 1.
unfoldable pub check_acknowledged : Checker → SimTime → List Acknowledged → Checker
check_acknowledged c time [] = c
check_acknowledged c time (a ∷ more) =
    check_acknowledged
    (report_if (not (is_payload (at c.applied (a.index.0 - 1)) a.payload)) c time Durability (a.index.0 ∷ []))
    time
    more

-- The highest acknowledged index, or 0.
unfoldable pub highest_of : List Acknowledged → ℕ
highest_of [] = 0
highest_of (a ∷ more) = max a.index.0 (highest_of more)

-- Each server has applied up to the highest acknowledged index.
unfoldable pub check_applied_up_to : Checker → SimTime → ℕ → List AppliedUpTo → Checker
check_applied_up_to c time highest [] = c
check_applied_up_to c time highest (s ∷ ss) =
    check_applied_up_to (report_if (ltb s.up_to highest) c time Durability (s.server.0 ∷ s.up_to ∷ highest ∷ [])) time highest ss

-- Every server has applied every acknowledged command (check_durability): the commands in order, then the servers. With nothing acknowledged the highest index is 0, and no server is below it.
unfoldable pub check_durability : Checker → SimTime → List Acknowledged → List AppliedUpTo → Checker
check_durability c time acknowledged applied =
    check_applied_up_to (check_acknowledged c time acknowledged) time (highest_of acknowledged) applied
