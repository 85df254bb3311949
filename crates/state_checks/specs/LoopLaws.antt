-- A check of many, one after another: what checks the rest checks the whole, and a state before fits where the state after does. Assumes
-- nothing.
use Rattle.std.specs.Prelude.{◌≡◌, true, ℕ, ◌+◌, ◌-◌, get_or, drop, Option}
use Rattle.std.proofs.Math.Path.{refl}
use Rattle.std.proofs.Math.Bool.{Bool, not}
use mathlib.Core.List.{List, [], ◌∷◌}
use Rattle.laws.specs.Lists.{at}
use Rattle.units.specs.declared.SimTime.{SimTime}
use Rattle.units.specs.declared.LogIndex.{LogIndex}
use Rattle.raft_log.specs.Log.{Log}
use Rattle.checks.specs.declared.Mismatch.{Mismatch}
use Rattle.checks.specs.Checks.{ServerLog, Acknowledged, AppliedUpTo, is_payload, on_writes, log_matching_failure}
use Rattle.checks.specs.Checks.{check_against, check_log_matching, check_acknowledged, check_applied_up_to}
use Rattle.checks_log_matching.specs.Pairs.{reported_mismatch, server_log, server_logs, check_rest}
use Rattle.model.specs.State.{State}
use Rattle.model.specs.Fields.{with_checker}
use Rattle.model.specs.Fits.{state_fits}
use Rattle.state_checks.specs.Acts.{write_checked, writes_checked, mismatch_reported, missing_reported, behind_reported}
use Rattle.state_checks.specs.ActLaws.{before_write, before_mismatch, before_missing, before_behind}

-- ---- written indexes

module _ (k : ℕ) (time : SimTime) where
  pub writes_done : (s : State) → writes_checked k time [] s ≡ s
  unfolding writes_checked on_writes
  writes_done s = refl

  pub writes_turn : (index : LogIndex) (indexes : List LogIndex) (s : State)
      → writes_checked k time (index ∷ indexes) s ≡ writes_checked k time indexes (write_checked k time index s)
  unfolding writes_checked write_checked on_writes
  writes_turn index indexes s = refl

  pub before_writes : (indexes : List LogIndex) (s : State) → state_fits (writes_checked k time indexes s) ≡ true → state_fits s ≡ true
  unfolding writes_checked write_checked on_writes
  before_writes [] s u = u
  before_writes (index ∷ indexes) s u = before_write k time index s (before_writes indexes (write_checked k time index s) u)

-- ---- pairs of logs

module _ (time : SimTime) where
  pub before_against : (a : ServerLog) (bs : List ServerLog) (s : State)
      → state_fits (with_checker s (check_against s.checker time a bs)) ≡ true
      → state_fits s ≡ true
  unfolding check_against mismatch_reported reported_mismatch
  before_against a [] s u = u
  before_against a (b ∷ bs) s u =
      let m : Option Mismatch = log_matching_failure a.log b.log in
      before_mismatch m time a.server b.server s (before_against a bs (mismatch_reported m time a.server b.server s) u)

  pub before_pairs : (bs : List ServerLog) (s : State) → state_fits (with_checker s (check_log_matching s.checker time bs)) ≡ true
      → state_fits s ≡ true
  unfolding check_log_matching
  before_pairs [] s u = u
  before_pairs (a ∷ bs) s u = before_against a bs s (before_pairs bs (with_checker s (check_against s.checker time a bs)) u)

  pub before_rest : (xs : List Log) (i j : ℕ) (s : State) → state_fits (with_checker s (check_rest s.checker time xs i j)) ≡ true
      → state_fits s ≡ true
  unfolding check_rest
  before_rest xs i j s u =
      let a : ServerLog = server_log i (get_or xs i []) in
      let bs : List ServerLog = server_logs j (drop j xs) in
      before_against a bs s (before_pairs (server_logs (i + 1) (drop (i + 1) xs)) (with_checker s (check_against s.checker time a bs)) u)

  -- ---- durability

  pub before_acknowledged : (acks : List Acknowledged) (s : State)
      → state_fits (with_checker s (check_acknowledged s.checker time acks)) ≡ true
      → state_fits s ≡ true
  unfolding check_acknowledged missing_reported
  before_acknowledged [] s u = u
  before_acknowledged (a ∷ more) s u =
      let missing : Bool = not (is_payload (at s.checker.applied (a.index.0 - 1)) a.payload) in
      before_missing s time missing a.index (before_acknowledged more (missing_reported missing time a.index s) u)

  pub before_up_to : (highest : ℕ) (vs : List AppliedUpTo) (s : State)
      → state_fits (with_checker s (check_applied_up_to s.checker time highest vs)) ≡ true
      → state_fits s ≡ true
  unfolding check_applied_up_to behind_reported
  before_up_to highest [] s u = u
  before_up_to highest (v ∷ vs) s u =
      before_behind s time v.server v.up_to highest (before_up_to highest vs (behind_reported time v.server v.up_to highest s) u)
