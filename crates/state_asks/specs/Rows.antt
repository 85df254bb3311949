-- The rows of the checks: each in range and in order, whatever their counts; so question 10 of the checks is a test of counts. Assumes
-- nothing.
use Rattle.std.specs.Prelude.{◌≡◌, refl, Bool, true, false, List, [], ◌∷◌, ◌++◌, map, ℕ, ◌+◌, ◌^◌, ◌≤◌, ◌<◌, leb, ltb, length}
use Rattle.std.proofs.Common.{◌∙◌, arith, length-append, leb-true, le-leb, lt-ltb, ltb-true, eqb-true}
use Rattle.std.proofs.Math.Path.{ap}
use Rattle.laws.specs.Bools.{pick, ◌and◌, and_left, and_true, allb, every}
use Rattle.laws.proofs.BoolLaws.{and_right, and_both, true_and, allb_in, every_append}
use Rattle.laws.specs.Order.{numbers, pairs, rising, insert_by}
use Rattle.laws.proofs.OrderLaws.{every_insert}
use Rattle.units.specs.Types.{Payload}
use Rattle.units.specs.declared.SimTime.{SimTime}
use Rattle.layout.specs.UpTo.{is64}
use Rattle.layout.specs.Payload.{payload}
use Rattle.layout.specs.Sorted.{rising_insert}
use Rattle.queue.specs.Range.{word}
use Rattle.raft_log.specs.Places.{place}
use Rattle.config.specs.declared.SimConfig.{SimConfig}
use Rattle.config.specs.declared.Limits.{Limits}
use Rattle.checks.specs.declared.Check.{Check}
use Rattle.checks.specs.declared.Check.TheVariants.{ElectionSafety, StateMachineSafety, ApplyOrder, UniqueEntries, Durability, Liveness}
use Rattle.checks.specs.declared.Check.TheVariants.{LogMatching, LeaderCompleteness}
use Rattle.checks.specs.declared.TermLeader.{TermLeader}
use Rattle.checks.specs.Checks.{Checker, Violation, Seen, check_number, leader_key, seen_key, report, report_if, with_applied, with_entries}
use Rattle.checks.specs.Checks.{with_leaders}
use Rattle.checks.specs.Leaders.{leaders}
use Rattle.checks.specs.Entries.{seen_in}
use Rattle.checks.specs.Violations.{violations, violation_row}
use Rattle.checks.specs.Asked.{counts_code}
use Rattle.checks.specs.Reports.{leaders_if, applied_if_lem, entries_if}
use Rattle.model.specs.State.{State, server_at}
use Rattle.model.specs.Fits.{checker_fits, table_fits, server_fits, server_tests, storage_fits}
use Rattle.state.specs.Area.{Area}
use Rattle.state.specs.Fitting.{area_fits, laid_limits}
use Rattle.state.specs.FitsBy.{fits_test, server_fits_at}
use Rattle.state_asks.specs.Asks.{checker_code}

-- Rows in range and in order.
pub record Sound (S L P : ℕ) (c : Checker) : Type 0 where
  pub leaders : every (leaders S).row.good c.leaders ≡ true
  pub terms : rising numbers (map leader_key c.leaders) ≡ true
  pub applied : every (payload P).good c.applied ≡ true
  pub entries : every (seen_in L P).row.good c.entries ≡ true
  pub keys : rising pairs (map seen_key c.entries) ≡ true
  pub violations : table_fits violations 32 c.violations ≡ true

-- ---- question 10 of the checks

module _ (config : SimConfig) (limits : Limits) (c : Checker) where
  abbrev L : ℕ
  L = limits.log_indexes

  abbrev H : ℕ
  H = limits.history

  -- the counts of rows and the total are left
  pub sound_fits : Sound config.servers L limits.payload c
      → checker_fits config limits c ≡
      (leb (length c.leaders) H and (leb (length c.applied) L and (leb (length c.entries) H and word c.total)))
  sound_fits q = by _ _ _ _ _ _ _ _ _ _ q.leaders q.terms q.applied q.entries q.keys q.violations
    where
      by : (l a e t b₁ b₂ b₃ b₄ b₅ b₆ : Bool) → b₁ ≡ true → b₂ ≡ true → b₃ ≡ true → b₄ ≡ true → b₅ ≡ true → b₆ ≡ true
          → allb ((l and (b₁ and b₂)) ∷ (a and (b₃ and true)) ∷ (e and (b₄ and b₅)) ∷ b₆ ∷ t ∷ []) ≡ (l and (a and (e and t)))
      by l a e t b₁ b₂ b₃ b₄ b₅ b₆ e₁ e₂ e₃ e₄ e₅ e₆ = simp (e₁, e₂, e₃, e₄, e₅, e₆, true_and, and_true)

  pub fits_sound : checker_fits config limits c ≡ true → Sound config.servers L limits.payload c
  fits_sound h =
      let h₁ = and_right _ _ h in
      let h₂ = and_right _ _ h₁ in
      let l = and_right _ _ (and_left _ _ h) in
      let a = and_right _ _ (and_left _ _ h₁) in
      let e = and_right _ _ (and_left _ _ h₂) in
      record {
        leaders = and_left _ _ l;
        terms = and_right _ _ l;
        applied = and_left _ _ a;
        entries = and_left _ _ e;
        keys = and_right _ _ e;
        violations = and_left _ _ (and_right _ _ h₂);
      }

-- ---- what keeps rows sound

number_small : (k : Check) → check_number k < 8
number_small ElectionSafety = omega arith
number_small StateMachineSafety = omega arith
number_small ApplyOrder = omega arith
number_small UniqueEntries = omega arith
number_small Durability = omega arith
number_small Liveness = omega arith
number_small LogMatching = omega arith
number_small LeaderCompleteness = omega arith

-- The numbers of a violation have 64 bits, and are at most five.
unfoldable pub detail_fits : List ℕ → Bool
detail_fits d = leb (length d) 5 and every is64 d

module _ {S L P : ℕ} {c : Checker} (q : Sound S L P c) where
  module _ (time : SimTime) (k : Check) (d : List ℕ) (ht : word time.0 ≡ true) (hd : detail_fits d ≡ true) where
    abbrev v : Violation
    v = record { time = time; check = k; detail = d }

    violation_good : violation_row.good v ≡ true
    unfolding detail_fits
    violation_good =
        and_both _ _ ht (and_both _ _
        (and_both _ _ (lt-ltb (check_number k) (2 ^ 64) (omega (arith, number_small k))) (lt-ltb (check_number k) 8 (number_small k))) hd)

    kept : (t : Bool) → ltb (length c.violations) 32 ≡ t → table_fits violations 32 (pick t (c.violations ++ v ∷ []) c.violations)
        ≡ true
    kept true e =
        let few : leb (length (c.violations ++ v ∷ [])) 32 ≡ true =
        le-leb (length (c.violations ++ v ∷ [])) 32
        (omega (arith, length-append c.violations (v ∷ []), ltb-true (length c.violations) 32 e)) in
        let each : every violation_row.good (c.violations ++ v ∷ []) ≡ true =
        every_append violation_row.good c.violations (v ∷ [])
        ∙ and_both _ _ (and_left _ _ (and_right _ _ q.violations)) (and_both _ _ violation_good refl) in
        and_both _ _ few (and_both _ _ each few)
    kept false e = q.violations

    pub sound_report : Sound S L P (report c time k d)
    unfolding report
    sound_report = record {
      leaders = q.leaders;
      terms = q.terms;
      applied = q.applied;
      entries = q.entries;
      keys = q.keys;
      violations = kept (ltb (length c.violations) 32) refl;
    }

    pub sound_if : (t : Bool) → Sound S L P (report_if t c time k d)
    sound_if true = sound_report
    sound_if false = q

  pub sound_append : (x : Payload) → (payload P).good x ≡ true → Sound S L P (with_applied c (c.applied ++ x ∷ []))
  sound_append x h = record {
    leaders = q.leaders;
    terms = q.terms;
    applied = every_append (payload P).good c.applied (x ∷ []) ∙ and_both _ _ q.applied (and_both _ _ h refl);
    entries = q.entries;
    keys = q.keys;
    violations = q.violations;
  }

  pub sound_seen : (x : Seen) → (seen_in L P).row.good x ≡ true → Sound S L P (with_entries c (insert_by pairs seen_key x c.entries))
  sound_seen x h = record {
    leaders = q.leaders;
    terms = q.terms;
    applied = q.applied;
    entries = every_insert pairs seen_key (seen_in L P).row.good x c.entries h q.entries;
    keys = rising_insert pairs seen_key x c.entries q.keys;
    violations = q.violations;
  }

  pub sound_leader : (x : TermLeader) → (leaders S).row.good x ≡ true
      → Sound S L P (with_leaders c (insert_by numbers leader_key x c.leaders))
  sound_leader x h = record {
    leaders = every_insert numbers leader_key (leaders S).row.good x c.leaders h q.leaders;
    terms = rising_insert numbers leader_key x c.leaders q.terms;
    applied = q.applied;
    entries = q.entries;
    keys = q.keys;
    violations = q.violations;
  }

-- ---- checks that only report

-- The checks d have sound rows, and the tables of c.
pub record Reported (S L P : ℕ) (c d : Checker) : Type 0 where
  pub sound : Sound S L P d
  pub leaders : d.leaders ≡ c.leaders
  pub applied : d.applied ≡ c.applied
  pub entries : d.entries ≡ c.entries

module _ {S L P : ℕ} where
  pub reported_none : {c : Checker} → Sound S L P c → Reported S L P c c
  reported_none q = record { sound = q; leaders = refl; applied = refl; entries = refl }

  pub reported_if_lem : {c : Checker} → Sound S L P c → (time : SimTime) (k : Check) (d : List ℕ) → word time.0 ≡ true
      → detail_fits d ≡ true → (t : Bool)
      → Reported S L P c (report_if t c time k d)
  reported_if_lem {c} q time k d ht hd t =
      record {
        sound = sound_if q time k d ht hd t;
        leaders = leaders_if t c time k d;
        applied = applied_if_lem t c time k d;
        entries =
            entries_if t c time k d;
      }

  pub reported_then : {a b c : Checker} → Reported S L P a b → Reported S L P b c → Reported S L P a c
  reported_then p q = record {
    sound = q.sound;
    leaders = q.leaders ∙ p.leaders;
    applied = q.applied ∙ p.applied;
    entries =
        q.entries ∙ p.entries;
  }

-- ---- the codes of questions that count one table

module _ (s : State) (d : Checker) (q : Sound s.config.servers s.limits.log_indexes s.limits.payload d) where
  abbrev l : Bool
  l = leb (length d.leaders) s.limits.history

  abbrev a : Bool
  a = leb (length d.applied) s.limits.log_indexes

  abbrev e : Bool
  e = leb (length d.entries) s.limits.history

  abbrev t : Bool
  t = word d.total

  by_counts : (u : Bool) → (l and (a and (e and t))) ≡ u → checker_code s d ≡ pick u 0 10
  unfolding checker_code
  by_counts u h = ap (λ (x : Bool). pick x 0 10) (sound_fits s.config s.limits d q ∙ h)

  pub code_applied : l ≡ true → e ≡ true → checker_code s d ≡ counts_code (length d.applied) s.limits.log_indexes d.total
  unfolding counts_code
  code_applied hl he = by_counts (a and t) (simp (hl, he, true_and))

  pub code_entries : l ≡ true → a ≡ true → checker_code s d ≡ counts_code (length d.entries) s.limits.history d.total
  unfolding counts_code
  code_entries hl ha = by_counts (e and t) (simp (hl, ha, true_and))

  pub code_leaders : a ≡ true → e ≡ true → checker_code s d ≡ counts_code (length d.leaders) s.limits.history d.total
  unfolding counts_code
  code_leaders ha he = by_counts (l and t) (simp (ha, he, true_and))

  pub code_total : l ≡ true → a ≡ true → e ≡ true → checker_code s d ≡ pick (word d.total) 0 10
  code_total hl ha he = by_counts t (simp (hl, ha, he, true_and))

-- ---- the checks of a state in an area

module _ {b : List ℕ} {s : State} (h : Area b s) where
  abbrev c : Checker
  c = s.checker

  tests : checker_fits s.config s.limits c ≡ true
  tests = fits_test s (area_fits h) 13

  pub area_sound : Sound s.config.servers s.limits.log_indexes s.limits.payload c
  area_sound = fits_sound s.config s.limits c tests

  pub few_leaders : leb (length c.leaders) s.limits.history ≡ true
  few_leaders = and_left _ _ (and_left _ _ tests)

  pub few_applied : leb (length c.applied) s.limits.log_indexes ≡ true
  few_applied = and_left _ _ (and_left _ _ (and_right _ _ tests))

  pub few_entries : leb (length c.entries) s.limits.history ≡ true
  few_entries = and_left _ _ (and_left _ _ (and_right _ _ (and_right _ _ tests)))

  pub now_fits : word s.now.0 ≡ true
  now_fits = fits_test s (area_fits h) 2

  module _ (k : ℕ) (i : k < s.config.servers) where
    pub id_fits : is64 (k + 1) ≡ true
    id_fits = lt-ltb (k + 1) (2 ^ 64) (omega (arith, (laid_limits h.laid).servers))

    server_tests_lem : server_fits s.config s.limits (server_at s k) ≡ true
    server_tests_lem = server_fits_at s (area_fits h) k i

    pub next_few : (server_at s k).next_apply ≤ s.limits.log_indexes + 1
    next_few = leb-true _ _ (allb_in (server_tests s.config s.limits (server_at s k)) server_tests_lem 6)

    pub next_fits : is64 (server_at s k).next_apply ≡ true
    next_fits = lt-ltb (server_at s k).next_apply (2 ^ 64) (omega (arith, next_few, (laid_limits h.laid).log_indexes))

    storage_tests : storage_fits s.config s.limits (server_at s k).storage ≡ true
    storage_tests = allb_in (server_tests s.config s.limits (server_at s k)) server_tests_lem 1

    pub log_long : length (server_at s k).storage.current.log ≡ s.limits.log_indexes
    log_long = eqb-true _ _ (and_left _ _ (and_right _ _ (and_left _ _ storage_tests)))

    pub log_good : every (place s.limits.payload).good (server_at s k).storage.current.log ≡ true
    log_good = and_right _ _ (and_right _ _ (and_left _ _ storage_tests))

    pub few_writes : length (server_at s k).storage.waiting ≤ s.limits.writes
    few_writes = leb-true _ _ (and_left _ _ (and_left _ _ (and_right _ _ (and_right _ _ storage_tests))))

  -- what only reports has a code of the total alone
  pub reported_code : {d : Checker} → Reported s.config.servers s.limits.log_indexes s.limits.payload c d
      → checker_code s d ≡ pick (word d.total) 0 10
  reported_code {d} q =
      code_total s d q.sound (ap (λ (x : List TermLeader). leb (length x) s.limits.history) q.leaders ∙ few_leaders)
      (ap (λ (x : List Payload). leb (length x) s.limits.log_indexes) q.applied ∙ few_applied)
      (ap (λ (x : List Seen). leb (length x) s.limits.history) q.entries ∙ few_entries)
