-- Question 10 of what the checks write: the test of what was changed, and all tests that were before. Assumes nothing.
use Rattle.std.specs.Prelude.{◌≡◌, ℕ, ◌+◌, ◌^◌, ◌<◌, length, get_or, Option, None, Some}
use Rattle.std.proofs.Math.Path.{refl, sym, ap}
use Rattle.std.proofs.Common.{◌∙◌, arith}
use Rattle.std.proofs.Math.Bool.{Bool, true, false}
use mathlib.Core.List.{List, [], ◌∷◌, ◌++◌}
use Rattle.std.proofs.Math.Dec.{ltb}
use Rattle.std.proofs.Math.ListN.{set, length-append}
use borrow.Author.Tests.{lt-ltb, le-leb, ltb-true}
use Rattle.laws.specs.Bools.{pick, pick_both, cases, ◌and◌, allb, and_assoc, and_true}
use Rattle.laws.proofs.BoolLaws.{true_and}
use Rattle.units.specs.Types.{Payload, Entry}
use Rattle.laws.specs.Order.{numbers, pairs, insert_by}
use Rattle.units.specs.declared.NodeId.{NodeId}
use Rattle.units.specs.declared.Term.{Term}
use Rattle.units.specs.declared.LogIndex.{LogIndex}
use Rattle.units.specs.declared.SimTime.{SimTime}
use Rattle.queue.specs.Range.{word}
use Rattle.checks.specs.declared.Check.{Check}
use Rattle.checks.specs.declared.TermLeader.{TermLeader}
use Rattle.checks.specs.Checks.{Checker, Violation, Seen, max_recorded, report, with_applied, with_leaders, with_entries, leader_key, seen_key}
use Rattle.checks.specs.Violations.{violation_row, violations}
use Rattle.checks.specs.Leaders.{leaders}
use Rattle.checks.specs.Entries.{seen_in}
use Rattle.layout.specs.Tables.{Table}
use Rattle.layout.specs.Payload.{payload}
use Rattle.layout.specs.Applied.{applied}
use Rattle.model.specs.State.{State}
use Rattle.model.specs.Fields.{with_checker}
use Rattle.model.specs.Fits.{state_fits, state_tests, checker_fits, table_fits}
use Rattle.state.specs.FitsBy.{allb_one}
use Rattle.state_checks.specs.Checked.{reported_if, applied_if, led_if, seen_if, entry_of, seen_maybe, seen_of_if}
use Rattle.state_checks.specs.TestLaws.{and_swap, allb_more, allb_before, table_room, table_every, append_fits, append_before}
use Rattle.state_checks.specs.TestLaws.{insert_fits, insert_fits_lem, insert_before}

-- ---- what the checks remember

-- The tests of what the checks of a state remember.
abbrev pub checker_tests : State → Checker → List Bool
checker_tests s c =
    table_fits (leaders s.config.servers) s.limits.history c.leaders
    ∷ table_fits (applied s.limits.payload) s.limits.log_indexes c.applied
    ∷ table_fits (seen_in s.limits.log_indexes s.limits.payload) s.limits.history c.entries
    ∷ table_fits violations max_recorded c.violations
    ∷ word c.total
    ∷ []

module _ (s : State) where
  -- other checks, by their tests
  pub fits_checker : (c : Checker) (t : Bool) → allb (checker_tests s c) ≡ (t and allb (checker_tests s s.checker))
      → state_fits (with_checker s c) ≡ (t and state_fits s)
  unfolding state_fits
  fits_checker c t e = ap (λ (u : Bool). allb (set (state_tests s) 13 u)) e ∙ allb_more (state_tests s) 13 t (omega arith)

  -- one part of the checks is another
  pub fits_checker_one : (c : Checker) (j : ℕ) (t : Bool) → j < 5 → get_or (checker_tests s s.checker) j true ≡ true
      → checker_tests s c ≡ set (checker_tests s s.checker) j t → state_fits (with_checker s c) ≡ (t and state_fits s)
  fits_checker_one c j t k h e = fits_checker c t (ap allb e ∙ allb_one (checker_tests s s.checker) j t k h)

  -- one part of the checks is another, where the new one's test follows: the state fits that fits with it
  before_checker_one : (c : Checker) (j : ℕ) (t : Bool) → j < 5 → (t ≡ true → get_or (checker_tests s s.checker) j true ≡ true)
      → checker_tests s c ≡ set (checker_tests s s.checker) j t → state_fits (with_checker s c) ≡ true → state_fits s ≡ true
  unfolding state_fits
  before_checker_one c j t k f e h =
      allb_before (state_tests s) 13 (allb (checker_tests s c)) (omega arith)
      (λ y. allb_before (checker_tests s s.checker) j t k f (sym (ap allb e) ∙ y)) h

  -- any other checks
  pub fits_checks : (c : Checker) → checker_fits s.config s.limits s.checker ≡ true
      → state_fits (with_checker s c) ≡ (checker_fits s.config s.limits c and state_fits s)
  fits_checks c h =
      fits_checker c (checker_fits s.config s.limits c)
      (sym (ap (λ (u : Bool). checker_fits s.config s.limits c and u) h ∙ and_true _))

-- ---- a violation reported

-- A report in range: the violation while fewer than 32 are kept, and the total with one more.
abbrev pub report_fits : SimTime → Check → List ℕ → Checker → Bool
report_fits time check numbers c =
    pick (ltb (length c.violations) max_recorded) (violation_row.good (record { time = time; check = check; detail = numbers })) true and
    word (c.total + 1)

module _ (s : State) (time : SimTime) (check : Check) (numbers : List ℕ)
    (h : table_fits violations max_recorded s.checker.violations ≡ true) (k : word s.checker.total ≡ true) where
  -- The violations that are kept.
  abbrev kept : List Violation
  kept = s.checker.violations

  -- The violation that is reported.
  abbrev one : Violation
  one = record { time = time; check = check; detail = numbers }

  -- the violations after a report
  kept_fits : table_fits violations max_recorded (report s.checker time check numbers).violations
      ≡ pick (ltb (length kept) max_recorded) (violation_row.good one) true
  unfolding report
  kept_fits = cases (ltb (length kept) max_recorded) (λ e. rw e (yes e)) (λ e. rw e h)
    where
      yes : ltb (length kept) max_recorded ≡ true → table_fits violations max_recorded (kept ++ one ∷ []) ≡ violation_row.good one
      yes e =
          append_fits violations max_recorded kept one (table_every violations max_recorded kept h)
          (λ l. le-leb (length (kept ++ one ∷ [])) max_recorded (omega (arith, length-append kept (one ∷ []))))
          ∙ ap (λ (u : Bool). u and violation_row.good one) e ∙ true_and _

  -- the tests after a report
  tests : checker_tests s (report s.checker time check numbers)
      ≡ set (set (checker_tests s s.checker) 3 (pick (ltb (length kept) max_recorded) (violation_row.good one) true)) 4
      (word (s.checker.total + 1))
  unfolding report
  tests = ap (λ (u : Bool). set (set (checker_tests s s.checker) 3 u) 4 (word (s.checker.total + 1))) kept_fits

  -- a violation reported
  pub fits_report : state_fits (with_checker s (report s.checker time check numbers))
      ≡ (report_fits time check numbers s.checker and state_fits s)
  fits_report =
      let bs : List Bool = checker_tests s s.checker in
      let t : Bool = pick (ltb (length kept) max_recorded) (violation_row.good one) true in
      let w : Bool = word (s.checker.total + 1) in
      fits_checker s (report s.checker time check numbers) (t and w)
      (ap allb tests ∙ allb_one (set bs 3 t) 4 w (omega arith) k ∙ ap (λ (u : Bool). w and u) (allb_one bs 3 t (omega arith) h)
      ∙ and_swap w t (allb bs) ∙ sym (and_assoc t w (allb bs)))

  -- the same where it is due
  pub fits_reported : (due : Bool)
      → state_fits (reported_if due time check numbers s) ≡ (pick due (report_fits time check numbers s.checker) true and state_fits s)
  unfolding reported_if
  fits_reported true = fits_report
  fits_reported false = sym (true_and (state_fits s))

-- a state fits that fits with one report more
module _ (s : State) (time : SimTime) (check : Check) (numbers : List ℕ) where
  before_violations : table_fits violations max_recorded (report s.checker time check numbers).violations ≡ true
      → table_fits violations max_recorded s.checker.violations ≡ true
  unfolding report
  before_violations h = by (ltb (length s.checker.violations) max_recorded) h
    where
      v : Violation
      v = record { time = time; check = check; detail = numbers }

      by : (t : Bool) → table_fits violations max_recorded (pick t (s.checker.violations ++ v ∷ []) s.checker.violations) ≡ true
          → table_fits violations max_recorded s.checker.violations ≡ true
      by true k =
          let xs : List Violation = s.checker.violations in
          append_before violations max_recorded xs v
          (le-leb (length xs) max_recorded (omega (arith, table_room violations max_recorded (xs ++ v ∷ []) k, length-append xs (v ∷ [])))) k
      by false k = k

  pub before_reported : (due : Bool) → state_fits (reported_if due time check numbers s) ≡ true → state_fits s ≡ true
  unfolding state_fits reported_if report
  before_reported true h =
      let c : Checker = report s.checker time check numbers in
      let bs : List Bool = checker_tests s s.checker in
      let w : Bool = word (s.checker.total + 1) in
      allb_before (state_tests s) 13 (allb (checker_tests s c)) (omega arith)
      (λ k. allb_before bs 3 (table_fits violations max_recorded c.violations) (omega arith) before_violations
      (allb_before (set bs 3 (table_fits violations max_recorded c.violations)) 4 w (omega arith)
      (λ y. let m : s.checker.total + 1 < 2 ^ 64 = ltb-true _ _ y in lt-ltb s.checker.total (2 ^ 64) (omega arith)) k)) h
  before_reported false h = h

-- ---- a payload applied

-- An applied payload in range: there is a place for it, and it is short enough.
abbrev pub apply_fits : Payload → State → Bool
apply_fits x s = ltb (length s.checker.applied) s.limits.log_indexes and (payload s.limits.payload).good x

module _ (s : State) (x : Payload) (h : table_fits (applied s.limits.payload) s.limits.log_indexes s.checker.applied ≡ true)
  where
    pub fits_applied : (due : Bool) → state_fits (applied_if due x s) ≡ (pick due (apply_fits x s) true and state_fits s)
    unfolding applied_if
    fits_applied true =
        let t : Table Payload = applied s.limits.payload in
        let xs : List Payload = s.checker.applied in
        let c : Checker = with_applied s.checker (xs ++ x ∷ []) in
        fits_checker_one s c 1 (apply_fits x s) (omega arith) h
        (ap (λ (u : Bool). set (checker_tests s s.checker) 1 u)
        (append_fits t s.limits.log_indexes xs x (table_every t s.limits.log_indexes xs h) (λ l. refl)))
    fits_applied false = sym (true_and (state_fits s))

pub before_applied : (s : State) (x : Payload) (due : Bool) → state_fits (applied_if due x s) ≡ true → state_fits s ≡ true
unfolding applied_if
before_applied s x true h =
    let t : Table Payload = applied s.limits.payload in
    let xs : List Payload = s.checker.applied in
    before_checker_one s (with_applied s.checker (xs ++ x ∷ [])) 1 (table_fits t s.limits.log_indexes (xs ++ x ∷ [])) (omega arith)
    (append_before t s.limits.log_indexes xs x refl) refl h
before_applied s x false h = h

-- ---- a leader of a term

-- A leader in range: the term has one; or there is room, and it is one of the servers.
abbrev pub lead_fits : Term → NodeId → State → Bool
lead_fits term server s =
    insert_fits numbers leader_key (leaders s.config.servers) s.limits.history (record { term = term; server = server })
    s.checker.leaders

module _ (s : State) (term : Term) (server : NodeId)
    (h : table_fits (leaders s.config.servers) s.limits.history s.checker.leaders ≡ true) where
  pub fits_led : (due : Bool) → state_fits (led_if due term server s) ≡ (pick due (lead_fits term server s) true and state_fits s)
  unfolding led_if
  fits_led true =
      let l : TermLeader = record { term = term; server = server } in
      fits_checker_one s (with_leaders s.checker (insert_by numbers leader_key l s.checker.leaders)) 0 (lead_fits term server s)
      (omega arith) h
      (ap (λ (u : Bool). set (checker_tests s s.checker) 0 u)
      (insert_fits_lem numbers leader_key (leaders s.config.servers) s.limits.history l s.checker.leaders (λ y. refl) h))
  fits_led false = sym (true_and (state_fits s))

pub before_led : (s : State) (term : Term) (server : NodeId) (due : Bool) → state_fits (led_if due term server s) ≡ true → state_fits s ≡ true
unfolding led_if
before_led s term server true h =
    let t : Table TermLeader = leaders s.config.servers in
    let l : TermLeader = record { term = term; server = server } in
    let xs : List TermLeader = insert_by numbers leader_key l s.checker.leaders in
    before_checker_one s (with_leaders s.checker xs) 0 (table_fits t s.limits.history xs) (omega arith)
    (insert_before numbers leader_key t s.limits.history l s.checker.leaders (λ y. refl)) refl h
before_led s term server false h = h

-- ---- an entry seen

-- An entry in range: one was seen under its index and term; or there is room, its index is a place of the log, and its payload is short
-- enough.
abbrev pub see_fits : LogIndex → Term → Payload → State → Bool
see_fits index term x s =
    insert_fits pairs seen_key (seen_in s.limits.log_indexes s.limits.payload) s.limits.history
    (record { index = index; term = term; payload = x }) s.checker.entries

module _ (s : State) (index : LogIndex) (term : Term) (x : Payload)
    (h : table_fits (seen_in s.limits.log_indexes s.limits.payload) s.limits.history s.checker.entries ≡ true) where
  pub fits_seen : (due : Bool) → state_fits (seen_if due index term x s) ≡ (pick due (see_fits index term x s) true and state_fits s)
  unfolding seen_if
  fits_seen true =
      let e : Seen = record { index = index; term = term; payload = x } in
      fits_checker_one s (with_entries s.checker (insert_by pairs seen_key e s.checker.entries)) 2 (see_fits index term x s)
      (omega arith) h
      (ap (λ (u : Bool). set (checker_tests s s.checker) 2 u)
      (insert_fits_lem pairs seen_key (seen_in s.limits.log_indexes s.limits.payload) s.limits.history e s.checker.entries
      (λ y. refl) h))
  fits_seen false = sym (true_and (state_fits s))

pub before_seen : (s : State) (index : LogIndex) (term : Term) (x : Payload) (due : Bool) → state_fits (seen_if due index term x s) ≡ true
    → state_fits s ≡ true
unfolding seen_if
before_seen s index term x true h =
    let t : Table Seen = seen_in s.limits.log_indexes s.limits.payload in
    let e : Seen = record { index = index; term = term; payload = x } in
    let xs : List Seen = insert_by pairs seen_key e s.checker.entries in
    before_checker_one s (with_entries s.checker xs) 2 (table_fits t s.limits.history xs) (omega arith)
    (insert_before pairs seen_key t s.limits.history e s.checker.entries (λ y. refl)) refl h
before_seen s index term x false h = h

-- The same of an entry that may be there.
abbrev pub see_maybe_fits : Option Entry → LogIndex → Term → State → Bool
see_maybe_fits None index term s = true
see_maybe_fits (Some e) index term s = see_fits index term e.payload s

module _ (s : State) (k : ℕ) (index : LogIndex) (term : Term)
    (h : table_fits (seen_in s.limits.log_indexes s.limits.payload) s.limits.history s.checker.entries ≡ true) where
  pub fits_seen_of : (due : Bool)
      → state_fits (seen_of_if due k index term s) ≡ (pick due (see_maybe_fits (entry_of k index s) index term s) true and state_fits s)
  unfolding seen_of_if
  fits_seen_of due = by (entry_of k index s)
    where
      by : (o : Option Entry) → state_fits (seen_maybe o due index term s) ≡ (pick due (see_maybe_fits o index term s) true and state_fits s)
      by None = sym (ap (λ (u : Bool). u and state_fits s) (pick_both (λ (u : Bool). u ≡ true) due refl refl) ∙ true_and _)
      by (Some e) = fits_seen s index term e.payload h due

pub before_seen_of : (s : State) (k : ℕ) (index : LogIndex) (term : Term) (due : Bool) → state_fits (seen_of_if due k index term s) ≡ true
    → state_fits s ≡ true
unfolding seen_of_if
before_seen_of s k index term due h = by (entry_of k index s) h
  where
    by : (o : Option Entry) → state_fits (seen_maybe o due index term s) ≡ true → state_fits s ≡ true
    by None h = h
    by (Some e) h = before_seen s index term e.payload due h
