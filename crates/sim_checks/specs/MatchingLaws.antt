-- What the proofs of matching.rt cite. Assumes nothing.
use Rattle.std.specs.Prelude.{◌≡◌, refl, Bool, true, false, not, length, drop, Option}
use Rattle.std.proofs.Math.Path.{sym, ap}
use Rattle.std.proofs.Common.{subst, ◌∙◌, add-one, arith, drop_of_length-le, drop-cons}
use mathlib.Core.List.{List, [], ◌∷◌}
use Prim.Native.Nat.{ℕ, zero, suc, ◌+◌, ◌-◌, ◌≤◌, ◌<◌}
use Rattle.units.specs.declared.SimTime.{SimTime}
use Rattle.checks.specs.Checks.{ServerLog, check_against, check_log_matching}
use Rattle.std.specs.Prelude.{Ok, Err}
use Rattle.laws.specs.Bools.{pick}
use Rattle.units.specs.declared.refusal.Refusal.TheVariants.{Room}
use Rattle.units.specs.Refusals.{answer_number}
use Rattle.model.specs.Fits.{checker_fits}
use Rattle.checks_log_matching.specs.declared.pairs.MatchingAsked.{MatchingAsked}
use Rattle.checks_log_matching.specs.Pairs.{reported_mismatch}
use Rattle.model.specs.State.{State, new_server, server_at, id_of}
use Rattle.model.specs.Fields.{with_checker}
use Rattle.model.specs.Calls.{logs_from, check_log_matching_call}
use Rattle.model.specs.Fits.{state_fits}
use Rattle.state.specs.declared.Capacity.{Capacity}
use Rattle.state.specs.declared.Run.{Run}
use Rattle.state.specs.Area.{run_of}
use Rattle.state.specs.Fitting.{area_fits}
use Rattle.state.specs.FitsBy.{server_count}
use Rattle.state.specs.Changes.{Inside, AreaOf, Changes, Reads, Planned}
use Rattle.state_asks.specs.Asks.{Asks, checker_code, log_of, mismatch_between, after_matching, MatchingTold}
use Rattle.state_checks.specs.Acts.{mismatch_reported}
use Rattle.state_checks.specs.ActLaws.{before_mismatch}
use Rattle.sim_checks.specs.Steps.{closed_of, each, Turning}
use Rattle.sim_checks.specs.StepLaws.{check_open, check_asked, before_each, turn, turn_first, turn_last}
use Rattle.sim_checks.specs.Matching.{pair_checked, against_checked, matching_checked}
use Rattle.checks.specs.declared.Mismatch.{Mismatch}

-- ---- matching_plan

module _ (b : List ℕ) (F : Capacity) (c : Bool) (q : Reads b F c closed_of) where
  pub matching_open : not c ≡ true → Planned b F 6 check_log_matching_call tt matching_checked
  unfolding check_log_matching_call after_matching
  matching_open n = check_open q check_log_matching_call after_matching (λ s. refl) matching_checked n

  pub matching_planned : (r : MatchingAsked) (k : ℕ) → not c ≡ false → Asks b F (MatchingTold r) → k ≡ answer_number r.room
      → Planned b F k check_log_matching_call tt matching_checked
  unfolding check_log_matching_call after_matching matching_checked checker_code
  matching_planned r k n p e =
      check_asked q check_log_matching_call after_matching (λ s. refl) n k
      (λ s h ef. e ∙ ap answer_number (p.to s h ef).room ∙ number (checker_fits s.config s.limits (after_matching s)) tt) matching_checked
      (λ s h ef. refl)
    where
      number : (t : Bool) (answer : Unit {0}) → answer_number (pick t (Ok answer) (Err Room)) ≡ pick t 0 10
      number true answer = refl
      number false answer = refl

-- ---- check_pair

pub pair_checked_lem : (b b₁ : List ℕ) (F : Capacity) (time : SimTime) (i j : ℕ) (r : Option Mismatch)
    → Reads b F r (mismatch_between i j)
    → Changes b b₁ F (mismatch_reported r time (record { 0 = i + 1 }) (record { 0 = j + 1 }))
    → Changes b b₁ F (pair_checked time i j)
unfolding pair_checked
pair_checked_lem b b₁ F time i j r q p = record {
  to = λ s l h u.
      let e : mismatch_reported r time (id_of i) (id_of j) s ≡ pair_checked time i j s =
      ap (λ (m : Option Mismatch). mismatch_reported m time (id_of i) (id_of j) s) (q.to s h.area h.capacity) in
      subst (AreaOf b₁ l F) e (p.to s l h (ap state_fits e ∙ u));
}

-- ---- check_against, check_pairs

before_pair : (time : SimTime) (i j : ℕ) (s : State) → state_fits (pair_checked time i j s) ≡ true → state_fits s ≡ true
unfolding pair_checked
before_pair time i j s u = before_mismatch (mismatch_between i j s) time (id_of i) (id_of j) s u

before_against : (time : SimTime) (servers i : ℕ) (s : State) → state_fits (against_checked time servers i s) ≡ true → state_fits s ≡ true
unfolding against_checked
before_against time servers i s u = before_each (pair_checked time i) (before_pair time i) (servers - (i + 1)) (i + 1) s u

module _ (b : List ℕ) (F : Capacity) (time : SimTime) where
  module _ (i : ℕ) where
    pub against_first : Inside b F → Turning (pair_checked time i) b b F (i + 1) (i + 1) F.servers
    against_first h = turn_first (pair_checked time i) b F (i + 1) F.servers h

    module _ (b₁ : List ℕ) (j : ℕ) (p : Turning (pair_checked time i) b b₁ F (i + 1) j F.servers) where
      pub against_turn : (b₂ : List ℕ) → j < F.servers → length b₂ ≡ length b₁ → Changes b₁ b₂ F (pair_checked time i j)
          → Turning (pair_checked time i) b b₂ F (i + 1) (j + 1) F.servers
      against_turn b₂ l n q = turn (pair_checked time i) (before_pair time i) p l n q

      pub against_last : F.servers ≤ j → Changes b b₁ F (against_checked time F.servers i)
      unfolding against_checked
      against_last l = turn_last (pair_checked time i) p l

  pub pairs_first : Inside b F → Turning (against_checked time F.servers) b b F 0 0 F.servers
  pairs_first h = turn_first (against_checked time F.servers) b F 0 F.servers h

  module _ (b₁ : List ℕ) (i : ℕ) (p : Turning (against_checked time F.servers) b b₁ F 0 i F.servers) where
    pub pairs_turn : (b₂ : List ℕ) → i < F.servers → length b₂ ≡ length b₁ → Changes b₁ b₂ F (against_checked time F.servers i)
        → Turning (against_checked time F.servers) b b₂ F 0 (i + 1) F.servers
    pairs_turn b₂ l n q = turn (against_checked time F.servers) (before_against time F.servers) p l n q

    pub pairs_last : F.servers ≤ i → Changes b b₁ F (each (against_checked time F.servers) 0 F.servers)
    pairs_last l =
        let e : F.servers - 0 ≡ F.servers = omega arith in
        subst (λ (n : ℕ). Changes b b₁ F (each (against_checked time F.servers) 0 n)) e (turn_last (against_checked time F.servers) p l)

-- ---- the steps are the definition's

module _ (time : SimTime) where
  -- The log of the server at a place.
  abbrev log_at : ℕ → State → ServerLog
  log_at i s = record { server = id_of i; log = (server_at s i).storage.current.log }

  -- The logs from a place on.
  abbrev logs_behind : ℕ → State → List ServerLog
  logs_behind j s = logs_from j (drop j s.servers)

  logs_end : (j : ℕ) (s : State) → length s.servers ≤ j → logs_behind j s ≡ []
  unfolding logs_from
  logs_end j s l = ap (logs_from j) (drop_of_length-le s.servers {i = j} l)

  logs_next : (j : ℕ) (s : State) → j < length s.servers → logs_behind j s ≡ log_at j s ∷ logs_behind (suc j) s
  unfolding logs_from
  logs_next j s l = ap (logs_from j) (drop-cons s.servers j (new_server 0) l)

  against_is : (n i j : ℕ) (s : State) → j + n ≡ length s.servers
      → each (pair_checked time i) j n s ≡ with_checker s (check_against s.checker time (log_at i s) (logs_behind j s))
  unfolding each pair_checked mismatch_reported reported_mismatch mismatch_between log_of check_against
  against_is zero i j s e = sym (ap (λ (l : List ServerLog). with_checker s (check_against s.checker time (log_at i s) l))
      (logs_end j s (omega arith)))
  against_is (suc n) i j s e =
      against_is n i (suc j) (pair_checked time i j s) (omega arith)
      ∙ sym (ap (λ (l : List ServerLog). with_checker s (check_against s.checker time (log_at i s) l)) (logs_next j s (omega arith)))

  all_against : (servers i : ℕ) (s : State) → servers ≡ length s.servers → i < servers
      → against_checked time servers i s ≡ with_checker s (check_against s.checker time (log_at i s) (logs_behind (suc i) s))
  unfolding against_checked
  all_against servers i s e l =
      against_is (servers - (i + 1)) i (i + 1) s (omega arith)
      ∙ ap (λ (k : ℕ). with_checker s (check_against s.checker time (log_at i s) (logs_behind k s))) (add-one i)

  pairs_are : (n i servers : ℕ) (s : State) → servers ≡ length s.servers → i + n ≡ servers
      → each (against_checked time servers) i n s ≡ with_checker s (check_log_matching s.checker time (logs_behind i s))
  unfolding each check_log_matching
  pairs_are zero i servers s es e = sym (ap (λ (l : List ServerLog). with_checker s (check_log_matching s.checker time l))
      (logs_end i s (omega arith)))
  pairs_are (suc n) i servers s es e =
      ap (each (against_checked time servers) (suc i) n) (all_against servers i s es (omega arith))
      ∙ pairs_are n (suc i) servers (with_checker s (check_against s.checker time (log_at i s) (logs_behind (suc i) s))) es (omega arith)
      ∙ sym (ap (λ (l : List ServerLog). with_checker s (check_log_matching s.checker time l)) (logs_next i s (omega arith)))

-- ---- matching_act

pub matching_acts : (b b₁ : List ℕ) (F : Capacity) (run : Run) → Reads b F run run_of
    → Changes b b₁ F (each (against_checked run.now F.servers) 0 F.servers)
    → Changes b b₁ F matching_checked
unfolding matching_checked after_matching
matching_acts b b₁ F run q p = record {
  to = λ s r h u.
      let n : F.servers ≡ length s.servers = ap (λ (G : Capacity). G.servers) h.capacity
      ∙ sym (server_count s (area_fits h.area)) in
      let time : run.now ≡ s.now = ap (λ (x : Run). x.now) (q.to s h.area h.capacity) in
      let e : each (against_checked run.now F.servers) 0 F.servers s
      ≡ with_checker s (check_log_matching s.checker s.now (logs_from 0 s.servers)) =
      pairs_are run.now F.servers 0 F.servers s n (omega arith)
      ∙ ap (λ (t : SimTime). with_checker s (check_log_matching s.checker t (logs_from 0 s.servers))) time in
      subst (AreaOf b₁ r F) e (p.to s r h (ap state_fits e ∙ u));
}
