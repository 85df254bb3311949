-- Every pair of servers' logs (pairs.rt): where the logs lie, how many pairs break log matching, and what is reported. Assumes nothing.
use Rattle.std.specs.Prelude.{◌≡◌, List, [], ◌∷◌, ℕ, suc, ◌+◌, ◌*◌, ◌≤◌, ◌<◌, length, get_or, take, drop, Option, None, Some}
use Rattle.units.specs.declared.NodeId.{NodeId}
use Rattle.units.specs.declared.SimTime.{SimTime}
use Rattle.layout.specs.Tables.{Held}
use Rattle.layout.specs.Marked.{words_for}
use Rattle.raft_log.specs.Log.{Log}
use Rattle.raft_log.specs.Places.{places}
use Rattle.checks.specs.declared.Mismatch.{Mismatch}
use Rattle.checks.specs.Checks.{Checker, log_matching_failure, report_mismatch, ServerLog, check_against, check_log_matching}
use Rattle.checks.specs.Violations.{violations}
use Rattle.checks.specs.Asked.{where_fits}
use Rattle.checks_log_matching.specs.declared.pairs.MatchingAsked.{MatchingAsked}

-- ---- where the logs lie

-- The bytes of slot k's log, of n places: it begins `from` words after the block, and a block has `stride` words.
unfoldable pub log_bytes : (p n stride from k : ℕ) → List ℕ → List ℕ
log_bytes p n stride from k b = take (8 * (n * (2 + words_for p))) (drop (8 * (k * stride + from)) b)

-- The bytes b hold the logs xs of so many servers.
pub record Logs (p n servers stride from : ℕ) (b : List ℕ) (xs : List Log) : Type 0 where
  pub count : length xs ≡ servers
  pub each : (k : ℕ) → k < servers → Held (places p) (n * (2 + words_for p)) n (log_bytes p n stride from k b) (get_or xs k [])

-- A slot's server has the next number for its id.
abbrev pub server_log : ℕ → Log → ServerLog
server_log slot x = record { server = record { 0 = slot + 1 }; log = x }

-- The logs of the servers from a slot on.
unfoldable pub server_logs : ℕ → List Log → List ServerLog
server_logs slot [] = []
server_logs slot (x ∷ xs) = server_log slot x ∷ server_logs (suc slot) xs

-- ---- one pair

-- Whatever logs xs are held, r is how those of slots i and j break log matching.
pub record Between (held : List Log → Type 0) (i j : ℕ) (r : Option Mismatch) : Type 0 where
  pub to : (xs : List Log) → held xs → r ≡ log_matching_failure (get_or xs i []) (get_or xs j [])

-- The checks with a mismatch of two servers' logs reported, if there is one.
unfoldable pub reported_mismatch : Option Mismatch → SimTime → NodeId → NodeId → Checker → Checker
reported_mismatch found time a b c = report_mismatch found c time a b

-- Whatever checks c have the `kept` violations that v holds, v' holds the r violations of `op c`.
pub record Records (kept r : ℕ) (v v' : List ℕ) (op : Checker → Checker) : Type 0 where
  pub to : (M : ℕ) (c : Checker) → Held violations M kept v c.violations → Held violations M r v' (op c).violations

-- ---- every pair, counted

-- 1 where there is a mismatch.
unfoldable pub one_of : Option Mismatch → ℕ
one_of None = 0
one_of (Some m) = 1

-- How many of some logs break log matching with another.
unfoldable pub failures_with : Log → List Log → ℕ
failures_with x [] = 0
failures_with x (y ∷ ys) = one_of (log_matching_failure x y) + failures_with x ys

-- How many pairs of logs break log matching.
unfoldable pub failures : List Log → ℕ
failures [] = 0
failures (x ∷ xs) = failures_with x xs + failures xs

-- Whatever logs are held, r of those after slot i's break log matching with it.
pub record CountsAfter (held : List Log → Type 0) (i r : ℕ) : Type 0 where
  pub is : (xs : List Log) → held xs → r ≡ failures_with (get_or xs i []) (drop (i + 1) xs)
  pub most : r ≤ 8

-- Whatever logs are held, r pairs of them break log matching.
pub record Counts (held : List Log → Type 0) (r : ℕ) : Type 0 where
  pub is : (xs : List Log) → held xs → r ≡ failures xs
  pub most : r ≤ 64

-- ---- the question

-- Whatever logs are held, whatever checks have the total: whether the total has 64 bits with every pair checked, and how many pairs are
-- reported, also where it has not.
pub record AsksLogs (held : List Log → Type 0) (total : ℕ) (r : MatchingAsked) : Type 0 where
  pub room : (xs : List Log) → held xs → (c : Checker) (time : SimTime) → c.total ≡ total
      → r.room ≡ where_fits 0 0 (check_log_matching c time (server_logs 0 xs)).total tt
  pub counted : (xs : List Log) → held xs → (c : Checker) (time : SimTime) → c.total ≡ total
      → (check_log_matching c time (server_logs 0 xs)).total ≡ total + r.reports

-- ---- a loop over the pairs

-- What is left when slot i's log was compared with those before slot j: its pairs from slot j on, then those of the slots after it.
unfoldable pub check_rest : Checker → SimTime → List Log → (i j : ℕ) → Checker
check_rest c time xs i j =
    check_log_matching (check_against c time (server_log i (get_or xs i [])) (server_logs j (drop j xs))) time
    (server_logs (i + 1) (drop (i + 1) xs))
