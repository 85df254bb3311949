-- What the proofs of pairs.rt cite, and the laws by which a caller's loop over the pairs checks them all. Assumes nothing.
use Rattle.std.specs.Prelude.{◌≡◌, refl, true, ℕ, suc, ◌+◌, ◌-◌, ◌*◌, ◌≤◌, ◌<◌, length, take, drop, Option, None, Some}
use Rattle.std.proofs.Math.Path.{sym, ap}
use Rattle.std.proofs.Common.{ap₂, ◌∙◌, subst, add-one, arith, drop_of_length-le}
use mathlib.Core.List.{List, [], ◌∷◌}
use Rattle.std.proofs.Math.ListN.{get_or}
use Rattle.laws.specs.ListLaws.{drop_next}
use Rattle.units.specs.declared.NodeId.{NodeId}
use Rattle.units.specs.declared.SimTime.{SimTime}
use Rattle.layout.specs.Marked.{words_for}
use Rattle.raft_log.specs.Log.{Log}
use Rattle.checks.specs.declared.Check.TheVariants.{LogMatching}
use Rattle.checks.specs.Checks.{Checker, log_matching_failure, report, report_mismatch, ServerLog, check_against, check_log_matching}
use Rattle.checks.specs.Violations.{Keeps}
use Rattle.checks.specs.Asked.{where_fits}
use Rattle.std.specs.declared.result.Result.{Result}
use Rattle.units.specs.declared.refusal.Refusal.{Refusal}
use Rattle.checks_log_matching.specs.Matching.{Compares}
use Rattle.checks_log_matching.specs.declared.pairs.MatchingAsked.{MatchingAsked}
use Rattle.checks_log_matching.specs.Pairs.{log_bytes, Logs, server_log, server_logs, Between, reported_mismatch, Records, one_of}
use Rattle.checks_log_matching.specs.Pairs.{failures_with, failures, CountsAfter, Counts, AsksLogs, check_rest}
use Rattle.checks.specs.declared.Mismatch.{Mismatch}

-- ---- mismatch_between

-- a log as it is lent
lent_is : (p n stride from k at : ℕ) (b : List ℕ) → at ≡ k * stride
    → take (8 * (at + from) + 8 * (n * (2 + words_for p)) - 8 * (at + from)) (drop (8 * (at + from)) b) ≡ log_bytes p n stride from k b
unfolding log_bytes
lent_is p n stride from k at b e =
    let s : 8 * (at + from) + 8 * (n * (2 + words_for p)) - 8 * (at + from) ≡ 8 * (n * (2 + words_for p)) = omega arith in
    ap₂ (λ (u m : ℕ). take u (drop (8 * (m + from)) b)) s e

pub pair_compared : (p n servers stride from i j at at' : ℕ) (b : List ℕ) (r : Option Mismatch) → i < servers → j < servers → at ≡ i * stride
    → at' ≡ j * stride
    → Compares p n (take (8 * (at + from) + 8 * (n * (2 + words_for p)) - 8 * (at + from)) (drop (8 * (at + from)) b))
    (take (8 * (at' + from) + 8 * (n * (2 + words_for p)) - 8 * (at' + from)) (drop (8 * (at' + from)) b)) r log_matching_failure
    → Between (Logs p n servers stride from b) i j r
pair_compared p n servers stride from i j at at' b r h k e f q =
    let s : Compares p n (log_bytes p n stride from i b) (log_bytes p n stride from j b) r log_matching_failure =
    subst (λ (t : List ℕ). Compares p n (log_bytes p n stride from i b) t r log_matching_failure)
    (lent_is p n stride from j at' b f)
    (subst
    (λ (t : List ℕ). Compares p n t (take (8 * (at' + from) + 8 * (n * (2 + words_for p)) - 8 * (at' + from)) (drop (8 * (at' + from)) b))
    r log_matching_failure)
    (lent_is p n stride from i at b e) q) in
    record { to = λ xs l. s.to _ _ (get_or xs i []) (get_or xs j []) (l.each i h) (l.each j k) }

-- ---- keep_mismatch

module _ (kept : ℕ) (time : SimTime) (a b : NodeId) (found : Option Mismatch) (v : List ℕ) where
  pub matching_kept : found ≡ None → Records kept kept v v (reported_mismatch found time a b)
  unfolding reported_mismatch
  matching_kept e = record { to = λ M c h. rw e h }

  pub mismatch_kept : (m : Mismatch) (r : ℕ) (v' : List ℕ) → found ≡ Some m
      → Keeps true time LogMatching (a.0 ∷ b.0 ∷ m.term.0 ∷ m.index.0 ∷ m.difference.0 ∷ []) kept r v v'
      → Records kept r v v' (reported_mismatch found time a b)
  unfolding reported_mismatch
  mismatch_kept m r v' e q = record { to = λ M c h. rw e (q.to c M h) }

pub ruleset keeps = (matching_kept, mismatch_kept)

-- ---- counting

module _ (p n servers stride from : ℕ) (b : List ℕ) where
  -- the slots from a slot on: that slot, and those after it
  from_slot : (j : ℕ) (xs : List Log) → Logs p n servers stride from b xs → j < servers → drop j xs ≡ get_or xs j [] ∷ drop (j + 1) xs
  from_slot j xs l k = drop_next xs j [] (omega (arith, l.count))

  past_last : (j : ℕ) (xs : List Log) → Logs p n servers stride from b xs → servers ≤ j → drop j xs ≡ []
  past_last j xs l k = drop_of_length-le xs {i = j} (omega (arith, l.count))

  -- r of the slots up to slot j break log matching with slot i
  pub record CountingAfter (i r j : ℕ) : Type 0 where
    pub is : (xs : List Log) → Logs p n servers stride from b xs
        → failures_with (get_or xs i []) (drop (i + 1) xs) ≡ r + failures_with (get_or xs i []) (drop j xs)
    pub upto : j ≤ servers
    pub most : r ≤ j

  module _ (i : ℕ) where
    pub after_start : i < servers → CountingAfter i 0 (i + 1)
    after_start h = record { is = λ xs l. omega arith; upto = omega arith; most = omega arith }

    pub after_turn : (r j d : ℕ) (found : Option Mismatch) → CountingAfter i r j → j < servers
        → Between (Logs p n servers stride from b) i j found → d ≡ one_of found → d ≤ 1
        → CountingAfter i (r + d) (j + 1)
    unfolding failures_with
    after_turn r j d found c k q e m = record {
      is = λ xs l.
          let x : Log = get_or xs i [] in
          let f : failures_with x (drop j xs) ≡ d + failures_with x (drop (j + 1) xs) =
          ap (failures_with x) (from_slot j xs l k)
          ∙ ap (λ (o : ℕ). o + failures_with x (drop (j + 1) xs)) (sym (e ∙ ap one_of (q.to xs l))) in
          omega (arith, c.is xs l);
      upto = omega arith;
      most = omega (arith, c.most);
    }

    pub after_done : (r j : ℕ) → CountingAfter i r j → servers ≤ j → servers ≤ 8 → CountsAfter (Logs p n servers stride from b) i r
    unfolding failures_with
    after_done r j c h m = record {
      is = λ xs l.
          let z : failures_with (get_or xs i []) (drop j xs) ≡ 0 = ap (failures_with (get_or xs i [])) (past_last j xs l h) in
          omega (arith, c.is xs l);
      most = omega (arith, c.most, c.upto);
    }

  -- r pairs whose first slot is before slot i break log matching
  pub record CountingAll (r i : ℕ) : Type 0 where
    pub is : (xs : List Log) → Logs p n servers stride from b xs → failures xs ≡ r + failures (drop i xs)
    pub upto : i ≤ servers
    pub most : r ≤ 8 * i

  pub all_start : CountingAll 0 0
  all_start = record { is = λ xs l. omega arith; upto = omega arith; most = omega arith }

  pub all_turn : (r i d : ℕ) → CountingAll r i → i < servers → CountsAfter (Logs p n servers stride from b) i d
      → CountingAll (r + d) (i + 1)
  unfolding failures
  all_turn r i d c h q = record {
    is = λ xs l.
        let f : failures (drop i xs) ≡ d + failures (drop (i + 1) xs) =
        ap failures (from_slot i xs l h) ∙ ap (λ (o : ℕ). o + failures (drop (i + 1) xs)) (sym (q.is xs l)) in
        omega (arith, c.is xs l);
    upto = omega arith;
    most = omega (arith, c.most, q.most);
  }

  pub all_done : (r i : ℕ) → CountingAll r i → servers ≤ i → servers ≤ 8 → Counts (Logs p n servers stride from b) r
  unfolding failures
  all_done r i c h m = record {
    is = λ xs l.
        let z : failures (drop i xs) ≡ 0 = ap failures (past_last i xs l h) in
        omega (arith, c.is xs l);
    most = omega (arith, c.most, c.upto);
  }

pub ruleset counts_after = (after_start, after_turn, after_done)

pub ruleset counts_all = (all_start, all_turn, all_done)

-- ---- totals

mismatch_total : (m : Option Mismatch) (c : Checker) (time : SimTime) (a b : NodeId)
    → (report_mismatch m c time a b).total ≡ c.total + one_of m
unfolding report one_of
mismatch_total None c time a b = omega arith
mismatch_total (Some m) c time a b = refl

against_total : (c : Checker) (time : SimTime) (a : ServerLog) (slot : ℕ) (ys : List Log)
    → (check_against c time a (server_logs slot ys)).total ≡ c.total + failures_with a.log ys
unfolding check_against server_logs failures_with
against_total c time a slot [] = omega arith
against_total c time a slot (y ∷ ys) =
    let m = log_matching_failure a.log y in
    omega (
      arith,
      against_total (report_mismatch m c time a.server (record { 0 = slot + 1 })) time a (suc slot) ys,
      mismatch_total m c time a.server (record { 0 = slot + 1 }),
    )

pub pairs_total : (c : Checker) (time : SimTime) (slot : ℕ) (xs : List Log)
    → (check_log_matching c time (server_logs slot xs)).total ≡ c.total + failures xs
unfolding check_log_matching server_logs failures
pairs_total c time slot [] = omega arith
pairs_total c time slot (x ∷ xs) =
    omega (
      arith,
      pairs_total (check_against c time (server_log slot x) (server_logs (suc slot) xs)) time (suc slot) xs,
      against_total c time (server_log slot x) (suc slot) xs,
    )

-- where no pair breaks log matching, nothing is reported

mismatch_none : (m : Option Mismatch) (c : Checker) (time : SimTime) (a b : NodeId) → one_of m ≡ 0 → report_mismatch m c time a b ≡ c
unfolding one_of
mismatch_none None c time a b h = refl
mismatch_none (Some m) c time a b h = absurd (omega arith)

against_none : (c : Checker) (time : SimTime) (a : ServerLog) (slot : ℕ) (ys : List Log) → failures_with a.log ys ≡ 0
    → check_against c time a (server_logs slot ys) ≡ c
unfolding check_against server_logs failures_with
against_none c time a slot [] h = refl
against_none c time a slot (y ∷ ys) h =
    let m = log_matching_failure a.log y in
    ap (λ (d : Checker). check_against d time a (server_logs (suc slot) ys))
    (mismatch_none m c time a.server (record { 0 = slot + 1 }) (omega arith)) ∙ against_none c time a (suc slot) ys (omega arith)

pairs_none : (c : Checker) (time : SimTime) (slot : ℕ) (xs : List Log) → failures xs ≡ 0 → check_log_matching c time (server_logs slot xs) ≡ c
unfolding check_log_matching server_logs failures
pairs_none c time slot [] h = refl
pairs_none c time slot (x ∷ xs) h =
    ap (λ (d : Checker). check_log_matching d time (server_logs (suc slot) xs))
    (against_none c time (server_log slot x) (suc slot) xs (omega arith)) ∙ pairs_none c time (suc slot) xs (omega arith)

-- ---- the question

pub asked : {held : List Log → Type 0} (total reports : ℕ) (room : Result (Unit {0}) Refusal) → Counts held reports
    → room ≡ where_fits 0 0 (total + reports) tt → AsksLogs held total (record { room = room; reports = reports })
asked total reports room q e = record {
  room = λ xs l c time t.
      let s : total + reports ≡ (check_log_matching c time (server_logs 0 xs)).total = omega (arith, q.is xs l, pairs_total c time 0 xs) in
      e ∙ ap (λ (n : ℕ). where_fits 0 0 n tt) s;
  counted = λ xs l c time t. omega (arith, q.is xs l, pairs_total c time 0 xs);
}

-- with nothing to report the checks are as they were
pub none_reported : {held : List Log → Type 0} (total : ℕ) (r : MatchingAsked) → AsksLogs held total r → r.reports ≡ 0 → (xs : List Log)
    → held xs → (c : Checker) (time : SimTime) → c.total ≡ total
    → check_log_matching c time (server_logs 0 xs) ≡ c
none_reported total r q z xs l c time t = pairs_none c time 0 xs (omega (arith, q.counted xs l c time t, pairs_total c time 0 xs))

-- ---- a loop over the pairs, in the order of the first slot and then of the second: what checks the rest checks the whole

-- one log against those from a slot on: the first of them, and those after it
pub against_slot : (c : Checker) (time : SimTime) (a : ServerLog) (xs : List Log) (j : ℕ) → j < length xs
    → check_against c time a (server_logs j (drop j xs))
    ≡ check_against (report_mismatch (log_matching_failure a.log (get_or xs j [])) c time a.server (record { 0 = j + 1 })) time a
    (server_logs (j + 1) (drop (j + 1) xs))
unfolding check_against server_logs
against_slot c time a xs j h =
    ap (λ (t : List Log). check_against c time a (server_logs j t)) (drop_next xs j [] h)
    ∙ ap (λ (u : ℕ). check_against (report_mismatch (log_matching_failure a.log (get_or xs j [])) c time a.server
    (record { 0 = j + 1 })) time a (server_logs u (drop (j + 1) xs))) (sym (add-one j))

pub against_past : (c : Checker) (time : SimTime) (a : ServerLog) (xs : List Log) (j : ℕ) → length xs ≤ j
    → check_against c time a (server_logs j (drop j xs)) ≡ c
unfolding check_against server_logs
against_past c time a xs j h = ap (λ (t : List Log). check_against c time a (server_logs j t)) (drop_of_length-le xs {i = j} h)

-- the pairs from a slot on: its own, and those of the slots after it
pub pairs_slot : (c : Checker) (time : SimTime) (xs : List Log) (i : ℕ) → i < length xs
    → check_log_matching c time (server_logs i (drop i xs)) ≡ check_rest c time xs i (i + 1)
unfolding check_log_matching server_logs check_rest
pairs_slot c time xs i h =
    let x : ServerLog = server_log i (get_or xs i []) in
    ap (λ (t : List Log). check_log_matching c time (server_logs i t)) (drop_next xs i [] h)
    ∙ ap (λ (u : ℕ). check_log_matching (check_against c time x (server_logs u (drop (i + 1) xs))) time (server_logs u (drop (i + 1) xs)))
    (sym (add-one i))

pub pairs_past : (c : Checker) (time : SimTime) (xs : List Log) (i : ℕ) → length xs ≤ i
    → check_log_matching c time (server_logs i (drop i xs)) ≡ c
unfolding check_log_matching server_logs
pairs_past c time xs i h = ap (λ (t : List Log). check_log_matching c time (server_logs i t)) (drop_of_length-le xs {i = i} h)

-- what is left at pair (i, j): at the first pair, past a pair, past a slot's last pair, and at the end
module _ (c : Checker) (time : SimTime) (xs : List Log) where
  pub rest_start : 0 < length xs → check_log_matching c time (server_logs 0 xs) ≡ check_rest c time xs 0 1
  rest_start h = pairs_slot c time xs 0 h

  module _ (i j : ℕ) where
    pub rest_turn : (m : Option Mismatch) → j < length xs → m ≡ log_matching_failure (get_or xs i []) (get_or xs j [])
        → check_rest c time xs i j ≡ check_rest (report_mismatch m c time (record { 0 = i + 1 }) (record { 0 = j + 1 })) time xs i (j + 1)
    unfolding check_rest
    rest_turn m h e =
        let x : ServerLog = server_log i (get_or xs i []) in
        let rest : List ServerLog = server_logs (i + 1) (drop (i + 1) xs) in
        let ys : List ServerLog = server_logs (j + 1) (drop (j + 1) xs) in
        ap (λ (d : Checker). check_log_matching d time rest) (against_slot c time x xs j h)
        ∙ ap (λ (o : Option Mismatch). check_log_matching
        (check_against (report_mismatch o c time x.server (record { 0 = j + 1 })) time x ys) time rest) (sym e)

    -- slot i has no pair left
    rest_after : length xs ≤ j → check_rest c time xs i j ≡ check_log_matching c time (server_logs (i + 1) (drop (i + 1) xs))
    unfolding check_rest
    rest_after h =
        ap (λ (d : Checker). check_log_matching d time (server_logs (i + 1) (drop (i + 1) xs)))
        (against_past c time (server_log i (get_or xs i [])) xs j h)

    pub rest_next : length xs ≤ j → i + 1 < length xs → check_rest c time xs i j ≡ check_rest c time xs (i + 1) (i + 1 + 1)
    rest_next h k = rest_after h ∙ pairs_slot c time xs (i + 1) k

    pub rest_done : length xs ≤ j → length xs ≤ i + 1 → check_rest c time xs i j ≡ c
    rest_done h k = rest_after h ∙ pairs_past c time xs (i + 1) k
