-- What the proofs of violations.rt cite. Assumes nothing.
use Rattle.std.specs.Prelude.{◌≡◌, ◌⊎◌, Bool, true, false, ℕ, ◌+◌, ◌-◌, ◌*◌, ◌^◌, ◌≤◌, ◌<◌, min, ltb, leb, get_or, take, drop, replicate}
use Rattle.std.proofs.Common.{sym, inl, inr, ap₂, ◌∙◌, append_assoc, add-zero, arith, get_or-drop, drop-drop, take_all, length-take-le, leb-true, leb-false, Fits}
use Rattle.std.proofs.Math.Path.{ap}
use mathlib.Core.List.{List, [], ◌∷◌, ◌++◌}
use Rattle.std.proofs.Math.ListN.{length, length-append}
use Rattle.std.proofs.Math.Seq.{sets}
use Rattle.std.specs.Int.{w64}
use borrow.Author.Tests.{lt-ltb, le-ltb, le-leb, lt-leb}
use Rattle.laws.specs.Bools.{◌and◌, cases, no_and}
use Rattle.laws.proofs.BoolLaws.{and_both, and_no, true_and}
use Rattle.words.specs.Words.{bytes, W, allz, Fit}
use Rattle.std.proofs.lemmas.List.{drop-take}
use Rattle.words.specs.Numbers.{each_take}
use Rattle.words.specs.Sets.{sets_append}
use Rattle.words.specs.Lift.{length_bytes, bytes_append, bytes_zeros}
use Rattle.units.specs.declared.SimTime.{SimTime}
use Rattle.layout.specs.UpTo.{fit_each, get_d_padded}
use Rattle.layout.specs.Tables.{Gives, append, rows_in}
use Rattle.layout.specs.TableLaws.{held_rows, row_word, append_held, length_rows_in}
use Rattle.checks.specs.declared.Check.{Check}
use Rattle.checks.specs.declared.Check.TheVariants.{ElectionSafety, StateMachineSafety, ApplyOrder, UniqueEntries, Durability, Liveness, LogMatching, LeaderCompleteness}
use Rattle.checks.specs.Checks.{Violation, check_number, max_recorded, report}
use Rattle.checks.specs.Violations.{violation_row, violations, given, no_violation, Keeps}

-- ---- report

number_small : (c : Check) → check_number c < 8
number_small ElectionSafety = omega arith
number_small StateMachineSafety = omega arith
number_small ApplyOrder = omega arith
number_small UniqueEntries = omega arith
number_small Durability = omega arith
number_small Liveness = omega arith
number_small LogMatching = omega arith
number_small LeaderCompleteness = omega arith

module _ (time : SimTime) (check : Check) (detail : List ℕ) where
  abbrev v : Violation
  v = record { time = time; check = check; detail = detail }

  abbrev head : List ℕ
  head = time.0 ∷ check_number check ∷ length detail ∷ []

  good_is : Fits w64 time.0 → Fit detail → length detail ≤ 5 → violation_row.good v ≡ true
  good_is t f h =
      and_both _ _ (lt-ltb _ _ t.fits)
      (and_both _ _ (and_both _ _ (lt-ltb (check_number check) (2 ^ 64) (omega (arith, number_small check))) (lt-ltb _ 8 (number_small check)))
      (and_both _ _ (le-leb _ 5 h) (fit_each detail f)))

  -- its head, its numbers and zeros, written behind each other
  module _ (b b₁ b₂ b₃ : List ℕ) (at n : ℕ) (e : n ≡ check_number check) (few : length detail ≤ 5)
      (e₁ : b₁ ≡ sets b (8 * at) (bytes (time.0 ∷ n ∷ length detail ∷ []))) (e₂ : b₂ ≡ sets b₁ (8 * (at + 3)) (bytes detail))
      (e₃ : b₃ ≡ sets b₂ (8 * (at + 3 + length detail)) (replicate (8 * (at + 8) - 8 * (at + 3 + length detail)) 0)) where
    written : b₃ ≡ sets b (8 * at) (bytes (violation_row.enc v))
    written =
        let k : ℕ = length detail in
        let z : List ℕ = replicate (5 - k) 0 in
        let m : 8 * (at + 8) - 8 * (at + 3 + k) ≡ 8 * (5 - k) = omega arith in
        let zs : replicate (8 * (at + 8) - 8 * (at + 3 + k)) 0 ≡ bytes z = rw m (sym (bytes_zeros (5 - k))) in
        let s₁ : b₂ ≡ sets b (8 * at) (bytes (head ++ detail)) =
        e₂ ∙ ap (λ (l : List ℕ). sets l (8 * (at + 3)) (bytes detail)) (e₁ ∙ ap (λ (j : ℕ). sets b (8 * at) (bytes (time.0 ∷ j ∷ k ∷ []))) e)
        ∙ sets_append (bytes head) b (bytes detail) (8 * at) (8 * (at + 3)) (omega (arith, length_bytes head))
        ∙ ap (sets b (8 * at)) (sym (bytes_append head detail)) in
        let l : 8 * at + length (bytes (head ++ detail)) ≡ 8 * (at + 3 + k) = omega (arith, length_bytes (head ++ detail), length-append head detail) in
        let s₂ : b₃ ≡ sets (sets b (8 * at) (bytes (head ++ detail))) (8 * (at + 3 + k)) (bytes z) =
        e₃ ∙ ap₂ (λ (l y : List ℕ). sets l (8 * (at + 3 + k)) y) s₁ zs in
        let s₃ : b₃ ≡ sets b (8 * at) (bytes (head ++ detail) ++ bytes z) =
        s₂ ∙ sets_append (bytes (head ++ detail)) b (bytes z) (8 * at) (8 * (at + 3 + k)) l in
        s₃ ∙ ap (sets b (8 * at)) (sym (bytes_append (head ++ detail) z) ∙ ap bytes (append_assoc head detail z))

module _ (time : SimTime) (check : Check) (detail : List ℕ) (kept : ℕ) (b : List ℕ) (due : Bool) where
  pub keep_none : (due ≡ false) ⊎ ((due ≡ true) × (32 ≤ kept)) → Keeps due time check detail kept kept b b
  unfolding report
  keep_none (inl t) = record { count = rw t; to = λ c N h. rw t h }
  keep_none (inr h) = record {
    count = rw (h.0, le-ltb kept max_recorded h.1);
    to = λ c N k. rw (h.0, (held_rows k).count, le-ltb kept max_recorded h.1) k;
  }

  module _ (t : due ≡ true) where
    pub keep_row : (n : ℕ) (b₁ b₂ b₃ : List ℕ) → 2048 ≤ length b → length detail ≤ 5 → kept < 32 → Fits w64 time.0 → Fit detail → n ≡ check_number check
        → b₁ ≡ sets b (8 * (kept * 8)) (bytes (time.0 ∷ n ∷ length detail ∷ [])) → b₂ ≡ sets b₁ (8 * (kept * 8 + 3)) (bytes detail)
        → b₃ ≡ sets b₂ (8 * (kept * 8 + 3 + length detail)) (replicate (8 * (kept * 8 + 8) - 8 * (kept * 8 + 3 + length detail)) 0)
        → Keeps due time check detail kept (kept + 1) b b₃
    unfolding report append
    keep_row n b₁ b₂ b₃ room few h f g e e₁ e₂ e₃ = record {
      count = rw (t, lt-ltb kept max_recorded h);
      to = λ c N k.
          let l : length c.violations ≡ kept = (held_rows k).count in
          rw (t, l, lt-ltb kept max_recorded h)
          (append_held k (omega arith) (v time check detail) b₃ (good_is time check detail f g few)
          (le-leb (length (c.violations ++ v time check detail ∷ [])) max_recorded (omega (arith, length-append c.violations (v time check detail ∷ []))))
          (written time check detail b b₁ b₂ b₃ (kept * 8) n e few e₁ e₂ e₃));
    }

-- of the numbers that are given, k and thus at most five are kept
module _ (given_numbers : List ℕ) (k : ℕ) (ek : k ≡ min (length given_numbers) 5) where
  first_few : take k given_numbers ≡ take 5 given_numbers
  first_few = cases (leb 5 (length given_numbers)) all_five fewer
    where
      all_five : leb 5 (length given_numbers) ≡ true → take k given_numbers ≡ take 5 given_numbers
      all_five t = ap (λ (j : ℕ). take j given_numbers) (let e : k ≡ 5 = omega (arith, leb-true 5 (length given_numbers) t) in e)

      fewer : leb 5 (length given_numbers) ≡ false → take k given_numbers ≡ take 5 given_numbers
      fewer t =
          let l : length given_numbers < 5 = omega (arith, leb-false 5 (length given_numbers) t) in
          take_all k given_numbers (omega arith) ∙ sym (take_all 5 given_numbers (omega arith))

  first_count : length (take 5 given_numbers) ≡ k
  first_count = ap length (sym first_few) ∙ length-take-le k given_numbers (omega arith)

  module _ (time : SimTime) (check : Check) (kept : ℕ) (b : List ℕ) (due : Bool) (t : due ≡ true) where
    pub keep_first : (n : ℕ) (b₁ b₂ b₃ : List ℕ) → 2048 ≤ length b → kept < 32 → Fits w64 time.0 → Fit given_numbers → n ≡ check_number check
        → b₁ ≡ sets b (8 * (kept * 8)) (bytes (time.0 ∷ n ∷ k ∷ [])) → b₂ ≡ sets b₁ (8 * (kept * 8 + 3)) (bytes (take k given_numbers))
        → b₃ ≡ sets b₂ (8 * (kept * 8 + 3 + k)) (replicate (8 * (kept * 8 + 8) - 8 * (kept * 8 + 3 + k)) 0)
        → Keeps due time check (take 5 given_numbers) kept (kept + 1) b b₃
    keep_first n b₁ b₂ b₃ room h f g e e₁ e₂ e₃ =
        keep_row time check (take 5 given_numbers) kept b due t n b₁ b₂ b₃ room (omega (arith, first_count)) h f (each_take 5 given_numbers g) e (rw first_count e₁)
        (e₂ ∙ ap (λ (l : List ℕ). sets b₁ (8 * (kept * 8 + 3)) (bytes l)) first_few) (rw first_count e₃)

pub ruleset keeping = (keep_none, keep_first)

-- ---- read

module _ (b : List ℕ) (n k : ℕ) (h : k < n) where
  pub read_is : (t c m p q r u z : ℕ) → t ≡ get_or (W b) (k * 8) 0 → c ≡ get_or (W b) (k * 8 + 1) 0 → m ≡ get_or (W b) (k * 8 + 2) 0
      → p ≡ get_or (W b) (k * 8 + 3) 0 → q ≡ get_or (W b) (k * 8 + 4) 0 → r ≡ get_or (W b) (k * 8 + 5) 0 → u ≡ get_or (W b) (k * 8 + 6) 0 → z ≡ get_or (W b) (k * 8 + 7) 0
      → Gives violations n b (record { time = record { 0 = t }; check = c; count = m; numbers = p ∷ q ∷ r ∷ u ∷ z ∷ [] }) (λ x. given (get_or x k no_violation))
  read_is t c m p q r u z et ec em ep eq er eu ez = record {
    to = λ N x held.
        let a : Violation = get_or x k no_violation in
        let pad : ℕ = 5 - length a.detail in
        let e0 : t ≡ a.time.0 = et ∙ ap (λ (j : ℕ). get_or (W b) j 0) (sym (add-zero (k * 8))) ∙ row_word held k 0 no_violation h (omega arith) in
        let e1 : c ≡ check_number a.check = ec ∙ row_word held k 1 no_violation h (omega arith) in
        let e2 : m ≡ length a.detail = em ∙ row_word held k 2 no_violation h (omega arith) in
        let e3 : p ≡ get_or a.detail 0 0 = ep ∙ row_word held k 3 no_violation h (omega arith) ∙ get_d_padded a.detail pad 0 in
        let e4 : q ≡ get_or a.detail 1 0 = eq ∙ row_word held k 4 no_violation h (omega arith) ∙ get_d_padded a.detail pad 1 in
        let e5 : r ≡ get_or a.detail 2 0 = er ∙ row_word held k 5 no_violation h (omega arith) ∙ get_d_padded a.detail pad 2 in
        let e6 : u ≡ get_or a.detail 3 0 = eu ∙ row_word held k 6 no_violation h (omega arith) ∙ get_d_padded a.detail pad 3 in
        let e7 : z ≡ get_or a.detail 4 0 = ez ∙ row_word held k 7 no_violation h (omega arith) ∙ get_d_padded a.detail pad 4 in
        rw (e0, e1, e2, e3, e4, e5, e6, e7);
  }

-- ---- the test of each row: what it looks at

ok_is : (ws : List ℕ) → violation_row.ok ws ≡ (ltb (get_or ws 1 0) 8 and (leb (get_or ws 2 0) 5 and allz (drop (get_or ws 2 0) (take 5 (drop 3 ws)))))
ok_is ws =
    let e : drop 1 (drop 1 ws) ≡ drop 2 ws = drop-drop 1 1 ws in
    true_and _
    ∙ ap₂ (λ (x y : Bool). x and y) (true_and _ ∙ ap (λ (m : ℕ). ltb m 8) (get_or-drop 1 ws 0 0))
    (ap (λ (l : List ℕ). leb (get_or l 0 0) 5 and allz (drop (get_or l 0 0) (take 5 (drop 1 l)))) e
    ∙ ap₂ (λ (m : ℕ) (l : List ℕ). leb m 5 and allz (drop m (take 5 l))) (get_or-drop 2 ws 0 0) (drop-drop 1 2 ws))

-- row k, of which the code reads the check's number c and the count m of numbers, and asks whether the words behind them are zero
module _ (ws : List ℕ) (k c m : ℕ) (ec : c ≡ get_or ws (k * 8 + 1) 0) (em : m ≡ get_or ws (k * 8 + 2) 0) where
  row_is : violation_row.ok (drop (k * 8) ws) ≡ (ltb c 8 and (leb m 5 and allz (drop m (take 5 (drop 3 (drop (k * 8) ws))))))
  row_is =
      ok_is (drop (k * 8) ws)
      ∙ ap₂ (λ (i j : ℕ). ltb i 8 and (leb j 5 and allz (drop j (take 5 (drop 3 (drop (k * 8) ws))))))
      (get_or-drop (k * 8) ws 1 0 ∙ sym ec) (get_or-drop (k * 8) ws 2 0 ∙ sym em)

  pub row_unknown : (8 ≤ c) ⊎ ((c < 8) × (5 < m)) → false ≡ violation_row.ok (drop (k * 8) ws)
  row_unknown (inl h) = sym (row_is ∙ no_and _ _ (le-ltb c 8 h))
  row_unknown (inr h) = sym (row_is ∙ and_no _ _ (no_and _ _ (lt-leb m 5 h.1)))

  module _ (l : c < 8) where
    pub row_padded : m ≤ 5 → (z : Bool) → z ≡ allz (take (k * 8 + 8 - (k * 8 + 3 + m)) (drop (k * 8 + 3 + m) ws)) → z ≡ violation_row.ok (drop (k * 8) ws)
    row_padded h z ez =
        let e : k * 8 + 8 - (k * 8 + 3 + m) ≡ 5 - m = omega arith in
        let f : m + (5 - m) ≡ 5 = omega arith in
        let u : drop m (take 5 (drop 3 (drop (k * 8) ws))) ≡ take (k * 8 + 8 - (k * 8 + 3 + m)) (drop (k * 8 + 3 + m) ws) =
        ap (λ (j : ℕ). drop m (take j (drop 3 (drop (k * 8) ws)))) (sym f) ∙ drop-take m (5 - m) (drop 3 (drop (k * 8) ws))
        ∙ ap (take (5 - m)) (ap (drop m) (drop-drop 3 (k * 8) ws) ∙ drop-drop m (k * 8 + 3) ws) ∙ ap (λ (j : ℕ). take j (drop (k * 8 + 3 + m) ws)) (sym e) in
        let ws' : List ℕ = drop m (take 5 (drop 3 (drop (k * 8) ws))) in
        ez ∙ sym (ap allz u) ∙ sym (row_is ∙ ap₂ (λ (x y : Bool). x and (y and allz ws')) (lt-ltb c 8 l) (le-leb m 5 h) ∙ true_and _ ∙ true_and _)

pub ruleset violation_rows = (row_unknown, row_padded)

-- ---- check: at most 32

pub at_most : (n : ℕ) (b : List ℕ) → leb n 32 ≡ violations.rule (rows_in violations.row n b)
at_most n b = ap (λ (m : ℕ). leb m 32) (sym (length_rows_in violation_row n b))
