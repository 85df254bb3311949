-- The first payload applied at each index: every check but that of an applied entry leaves them as they are. Assumes nothing.
use Rattle.std.specs.Prelude.{◌≡◌, refl, Bool, not, ◌&&◌, List, [], ◌∷◌, ℕ, zero, suc, ◌-◌, ltb, eqb, length, Option, None, Some}
use Rattle.std.proofs.Common.{◌∙◌, eqb-true}
use Rattle.laws.specs.Bools.{cases}
use Rattle.laws.specs.Lists.{at}
use Rattle.laws.specs.Order.{numbers, pairs, lookup}
use Rattle.laws.specs.ListLaws.{Each, each_snoc}
use Rattle.units.specs.Types.{Payload, Entry, same_payload}
use Rattle.units.specs.declared.NodeId.{NodeId}
use Rattle.units.specs.declared.Term.{Term}
use Rattle.units.specs.declared.LogIndex.{LogIndex}
use Rattle.units.specs.declared.SimTime.{SimTime}
use Rattle.protocol.specs.Numbers.{leads}
use Rattle.protocol.specs.declared.Status.{Status}
use Rattle.raft_log.specs.Log.{Log, entry_at}
use Rattle.checks.specs.declared.Mismatch.{Mismatch}
use Rattle.checks.specs.Checks.{Checker, report, report_if, compare_applied, record_applied, on_apply, Seen, compare_seen, written_entry, on_write, on_writes, compare_leader, first_missing, report_missing, check_leader_completeness, on_status, already_leads, leader_key, seen_key, report_mismatch, log_matching_failure, ServerLog, check_against, check_log_matching, Acknowledged, AppliedUpTo, check_acknowledged, highest_of, check_applied_up_to, check_durability, is_payload}
use Rattle.checks.specs.Reports.{applied_if_lem}
use Rattle.checks.specs.declared.Check.TheVariants.{StateMachineSafety, ApplyOrder, Durability}
use Rattle.checks.specs.declared.TermLeader.{TermLeader}

-- ---- written entries

written_applied : (e : Option Entry) (c : Checker) (time : SimTime) (server : NodeId) (index : LogIndex) → (written_entry e c time server index).applied ≡ c.applied
written_applied None c time server index = refl
written_applied (Some e) c time server index = by (lookup pairs seen_key (index.0, e.term.0) c.entries)
  where
    by : (first : Option Seen) → (compare_seen first c time server index e).applied ≡ c.applied
    by None = refl
    by (Some first) = applied_if_lem (not (same_payload first.payload e.payload)) c time _ _

pub on_writes_applied : (c : Checker) (time : SimTime) (server : NodeId) (log : Log) (is : List LogIndex) → (on_writes c time server log is).applied ≡ c.applied
unfolding on_writes on_write
on_writes_applied c time server log [] = refl
on_writes_applied c time server log (i ∷ is) =
    on_writes_applied (on_write c time server log i) time server log is ∙ written_applied (entry_at log i.0) c time server i

-- ---- status

leader_applied : (first : Option TermLeader) (c : Checker) (time : SimTime) (server : NodeId) (term : Term) → (compare_leader first c time server term).applied ≡ c.applied
leader_applied None c time server term = refl
leader_applied (Some first) c time server term = applied_if_lem (not (eqb first.server.0 server.0)) c time _ _

missing_applied : (first : Option LogIndex) (c : Checker) (time : SimTime) (server : NodeId) (term : Term) → (report_missing first c time server term).applied ≡ c.applied
unfolding report
missing_applied None c time server term = refl
missing_applied (Some index) c time server term = refl

pub on_status_applied : (wanted : Bool) (c : Checker) (time : SimTime) (server : NodeId) (status : Status) (log : Log) (leading : Option Term)
    → (on_status wanted c time server status log leading).checker.applied ≡ c.applied
unfolding on_status check_leader_completeness
on_status_applied wanted c time server status log leading =
    let first = lookup numbers leader_key status.term.0 c.leaders in
    let seen = compare_leader first c time server status.term in
    let kept : seen.applied ≡ c.applied = leader_applied first c time server status.term in
    cases (leads status.role)
    (λ e. rw e
    (cases (wanted && not (already_leads leading status.term))
    (λ f. rw f (missing_applied (first_missing log 1 seen.applied) seen time server status.term ∙ kept))
    (λ f. rw f kept)))
    (λ e. rw e)

-- ---- checks on request

mismatch_applied : (m : Option Mismatch) (c : Checker) (time : SimTime) (x y : NodeId) → (report_mismatch m c time x y).applied ≡ c.applied
unfolding report
mismatch_applied None c time x y = refl
mismatch_applied (Some m) c time x y = refl

against_applied : (c : Checker) (time : SimTime) (x : ServerLog) (ys : List ServerLog) → (check_against c time x ys).applied ≡ c.applied
unfolding check_against
against_applied c time x [] = refl
against_applied c time x (y ∷ ys) =
    let m = log_matching_failure x.log y.log in
    against_applied (report_mismatch m c time x.server y.server) time x ys ∙ mismatch_applied m c time x.server y.server

pub log_matching_applied : (c : Checker) (time : SimTime) (xs : List ServerLog) → (check_log_matching c time xs).applied ≡ c.applied
unfolding check_log_matching
log_matching_applied c time [] = refl
log_matching_applied c time (x ∷ xs) = log_matching_applied (check_against c time x xs) time xs ∙ against_applied c time x xs

acknowledged_applied : (c : Checker) (time : SimTime) (xs : List Acknowledged) → (check_acknowledged c time xs).applied ≡ c.applied
unfolding check_acknowledged
acknowledged_applied c time [] = refl
acknowledged_applied c time (x ∷ xs) =
    let t = not (is_payload (at c.applied (x.index.0 - 1)) x.payload) in
    acknowledged_applied (report_if t c time Durability (x.index.0 ∷ [])) time xs ∙ applied_if_lem t c time Durability (x.index.0 ∷ [])

up_to_applied : (c : Checker) (time : SimTime) (highest : ℕ) (xs : List AppliedUpTo) → (check_applied_up_to c time highest xs).applied ≡ c.applied
unfolding check_applied_up_to
up_to_applied c time highest [] = refl
up_to_applied c time highest (x ∷ xs) =
    let detail = x.server.0 ∷ x.up_to ∷ highest ∷ [] in
    up_to_applied (report_if (ltb x.up_to highest) c time Durability detail) time highest xs ∙ applied_if_lem (ltb x.up_to highest) c time Durability detail

pub durability_applied : (c : Checker) (time : SimTime) (xs : List Acknowledged) (ys : List AppliedUpTo) → (check_durability c time xs ys).applied ≡ c.applied
unfolding check_durability
durability_applied c time xs ys = up_to_applied (check_acknowledged c time xs) time (highest_of xs) ys ∙ acknowledged_applied c time xs

-- ---- an applied entry

-- It is kept where its index is the next one, and nothing else is.
pub on_apply_applied : (P : ℕ → Payload → Type 0) (c : Checker) (time : SimTime) (server : NodeId) (index : LogIndex) (payload : Payload) (expected : ℕ)
    → ((i : ℕ) → index.0 ≡ suc i → P i payload) → Each P c.applied → Each P (on_apply c time server index payload expected).applied
unfolding on_apply
on_apply_applied P c time server index payload expected p h =
    let t = not (eqb index.0 expected) in
    let detail = server.0 ∷ index.0 ∷ expected ∷ [] in
    by index.0 p (report_if t c time ApplyOrder detail) (rw (applied_if_lem t c time ApplyOrder detail) h)
  where
    compared : (first : Option Payload) (d : Checker) (place : ℕ) → P place payload → Each P d.applied
        → Each P (compare_applied first d time server place payload).applied
    compared None d place q k =
        cases (eqb place (length d.applied))
        (λ e. rw e (each_snoc P d.applied payload k (rw (eqb-true place (length d.applied) e) at q)))
        (λ e. rw e k)
    compared (Some first) d place q k =
        rw (applied_if_lem (not (same_payload first payload)) d time StateMachineSafety (server.0 ∷ suc place ∷ [])) k

    by : (n : ℕ) → ((i : ℕ) → n ≡ suc i → P i payload) → (d : Checker) → Each P d.applied → Each P (record_applied n d time server payload).applied
    by zero q d k = k
    by (suc place) q d k = compared (at d.applied place) d place (q place refl) k
