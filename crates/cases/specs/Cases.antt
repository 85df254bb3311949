-- Document 01's cases, proved of the definitions by one theorem over a table: what is computed, and what it must be. Assumes nothing.
use Rattle.std.specs.Prelude.{◌≡◌, refl, Bool, true, false, List, [], ◌∷◌, ◌++◌, map, ℕ, ◌+◌, ◌*◌, length, replicate, Option, None, Some}
use Rattle.laws.specs.Bools.{◌and◌, every}
use Rattle.laws.specs.Lists.{same_list, list_from}
use Rattle.laws.specs.Order.{push_by}
use Rattle.units.specs.Types.{Entry, command, same_payload}
use Rattle.rng.specs.Rng.{mix, new, next_u64, under, below, bounded_number}
use Rattle.seeds.specs.Seeds.{tag}
use Rattle.seeds.specs.declared.Stream.TheVariants.{Server}
use Rattle.record.specs.Postcard.{varint_in, varint, option, payload, hard_state_record, put_record, truncate_record, framed, record_bytes}
use Rattle.queue.specs.Queue.{Queue, Scheduled, push}
use Rattle.queue.specs.declared.Event.TheVariants.{Deliver}
use Rattle.raft_log.specs.Log.{entry_at, put_at, truncate_at, count, last_index, gaps, removed_by}
use Rattle.storage.specs.Storage.{Storage, write_put, write_truncate, empty_storage, unsynced, write, crash}
use Rattle.network.specs.Network.{partition, separated, elsewhere, count_true, blocked_pairs}
use Rattle.network.specs.Network as network
use Rattle.checks.specs.declared.Mismatch.{Mismatch}
use Rattle.checks.specs.Checks.{mismatch_from, log_matching_failure, report}
use Rattle.checks.specs.Reports.{report_all, reports}

-- An entry of term 1 whose command is one byte.
abbrev entry : ℕ → Entry
entry n = record { term = record { 0 = 1 }; payload = command (n ∷ []) }

-- A disk of four indexes with entries put at some of them.
abbrev disk : List ℕ → Storage → Storage
disk [] s = s
disk (index ∷ indexes) s = disk indexes (write s (write_put (record { 0 = index }) (entry index)))

-- The same, and then a truncation.
abbrev cut_from : ℕ → Storage → Storage
cut_from from s = write s (write_truncate (record { 0 = from }))

abbrev bit : Bool → ℕ
bit true = 1
bit false = 0

-- The number that a draw below a bound gave, or 0.
abbrev value_of : Option ℕ → ℕ
value_of (Some v) = v
value_of None = 0

-- A message of one byte pushed at a time, and the messages in the order in which they leave.
abbrev at : ℕ → ℕ → Queue → Queue
at time name q = push q (record { 0 = time }) (Deliver (record { 0 = 1 }) (record { 0 = 2 }) 0) (name ∷ [])

abbrev leaving : Queue → List (List ℕ)
leaving q = map (λ (s : Scheduled). s.message) q

abbrev joined : List (List ℕ) → List ℕ
joined [] = []
joined (x ∷ xs) = x ++ joined xs

-- Where two logs fail to match, and where they first differ.
abbrev shown : Option Mismatch → List ℕ
shown None = []
shown (Some m) = m.index.0 ∷ m.difference.0 ∷ []

-- What a case computes, and what it must be.
pub record Case : Type 0 where
  pub computed : List ℕ
  pub expected : List ℕ

pub cases : List Case
cases =
    -- C1: state 0, one draw: the state
    record { computed = (next_u64 (new 0)).next.state ∷ []; expected = 0x9E37_79B9_7F4A_7C15 ∷ [] }
    -- C2: below(1) is 0, and accepted
    ∷ record { computed = bounded_number (below (new 0) 1).value ∷ value_of (below (new 0) 1).value ∷ []; expected = 0 ∷ 0 ∷ [] }
    -- C3: server 1, incarnation 0: the tag
    ∷ record { computed = tag (Server (record { 0 = 1 }) 0) ∷ []; expected = 0x0500_0000_0000_0001 ∷ [] }
    -- C4: (term 0, no vote) counts 7 bytes
    ∷ record { computed = record_bytes (hard_state_record (record { 0 = 0 }) None) ∷ []; expected = 7 ∷ [] }
    -- C5: put index 1, term 1, 12-byte command: 21
    ∷ record {
      computed = record_bytes (put_record (record { 0 = 1 }) (record { term = record { 0 = 1 }; payload = command (replicate 12 0) })) ∷ [];
      expected = 21 ∷ [];
    }
    -- C6: truncate from 128: 7
    ∷ record { computed = record_bytes (truncate_record (record { 0 = 128 })) ∷ []; expected = 7 ∷ [] }
    -- C7: puts at 1 and 3: gaps 1; truncate 2: gaps 0, discarded 1
    ∷ record {
      computed =
          gaps (disk (1 ∷ 3 ∷ []) (empty_storage 4)).current.log
          ∷ gaps (cut_from 2 (disk (1 ∷ 3 ∷ []) (empty_storage 4))).current.log
          ∷ (cut_from 2 (disk (1 ∷ 3 ∷ []) (empty_storage 4))).discarded
          ∷ [];
      expected = 1 ∷ 0 ∷ 1 ∷ [];
    }
    -- C8: put, crash: last index 0, sync says no
    ∷ record {
      computed = last_index (crash (disk (1 ∷ []) (empty_storage 4))).current.log ∷ bit (unsynced (crash (disk (1 ∷ []) (empty_storage 4)))) ∷ [];
      expected = 0 ∷ 0 ∷ [];
    }
    -- C9: pushes a at 5, b at 3, c at 5 leave as b, a, c
    ∷ record { computed = joined (leaving (at 5 99 (at 3 98 (at 5 97 [])))); expected = 98 ∷ 97 ∷ 99 ∷ [] }
    -- C10: partition {1,2},{2,3} blocks 7 ordered pairs
    ∷ record { computed = blocked_pairs (partition (network.new (record { 0 = 0 }) (new 0)) (3 + 256 * 6)) ∷ []; expected = 7 ∷ [] }
    -- C11: single entries, same term, other payloads: no log matching failure; an equal entry following at 2: failure at 2, difference at 1
    ∷ record {
      computed =
          length (shown (log_matching_failure (Some (entry 1) ∷ []) (Some (entry 2) ∷ [])))
          ∷ shown (log_matching_failure (Some (entry 1) ∷ Some (entry 3) ∷ []) (Some (entry 2) ∷ Some (entry 3) ∷ []));
      expected = 0 ∷ 2 ∷ 1 ∷ [];
    }
    -- C12: 33 reports: 32 kept, total 33
    ∷ record { computed = length (reports 33).violations ∷ (reports 33).total ∷ []; expected = 32 ∷ 33 ∷ [] }
    ∷ []

-- Each case computes what it must.
pub all_cases : every (λ (c : Case). same_list c.computed c.expected) cases ≡ true
unfolding cases same_list ◌and◌ mix next_u64 under below tag varint_in varint option payload hard_state_record put_record truncate_record framed record_bytes write crash entry_at put_at truncate_at count last_index gaps removed_by same_payload push push_by list_from partition separated elsewhere network.any_from count_true log_matching_failure mismatch_from reports report_all report
all_cases = refl
