-- What the proofs of counts and of reports cite. Assumes nothing.
use Rattle.std.specs.Prelude.{◌≡◌, Bool, false, not, get_or, drop, take}
use Rattle.std.proofs.Math.Path.{refl, ap, ap₂, subst}
use Rattle.std.proofs.Common.{sym, ◌∙◌, arith, le-ltb}
use Rattle.std.proofs.Math.Bool.{true}
use mathlib.Core.List.{List, ◌++◌}
use Prim.Native.Nat.{ℕ, ◌+◌, ◌-◌, ◌*◌, ◌^◌}
use Rattle.std.proofs.Math.Dec.{ltb}
use Rattle.std.proofs.Math.ListN.{length, set}
use Rattle.std.proofs.lemmas.List.Edits.{sets}
use Rattle.std.proofs.lemmas.Bool.{not-true, not-false}
use Rattle.laws.specs.Bools.{and_left}
use Rattle.laws.proofs.BoolLaws.{and_right}
use Rattle.laws.specs.Decides.{false_true}
use Rattle.units.specs.declared.SimTime.{SimTime}
use Rattle.words.specs.Words.{W, bytes, bytes_of as bytesOfNumber}
use Rattle.layout.specs.Tables.{Held}
use Rattle.layout.specs.Contents.{holds_w, holds_length}
use Rattle.layout.specs.TableLaws.{held_rows}
use Rattle.layout.specs.Parts.{back_row}
use Rattle.layout.specs.Cuts.{region}
use Rattle.checks.specs.declared.Check.{Check}
use Rattle.checks.specs.Checks.{report, report_if}
use Rattle.checks.specs.Violations.{violations, Keeps}
use Rattle.model.specs.State.{State}
use Rattle.model.specs.Fields.{with_checker}
use Rattle.model.specs.Fits.{state_fits}
use Rattle.state.specs.declared.Capacity.{Capacity}
use Rattle.state.specs.Sizes.{sizes}
use Rattle.state.specs.Parts.{counts_words}
use Rattle.state.specs.Area.{capacity_of, counts_of, violations_code}
use Rattle.state.specs.Encode.{contents}
use Rattle.state.specs.FitsBy.{fits_test}
use Rattle.state.specs.Changes.{AreaOf, Changes, Reads}
use Rattle.state.specs.Puts.{Cut, area_cut, cut_area, region_put, region_word}
use Rattle.state.specs.Tables.{violations_span, table_lent, back_region}
use Rattle.state_checks.specs.Checked.{count_at, reported_if}

-- ---- the counts

pub count_read : (b : List ℕ) (F : Capacity) (j r : ℕ) → r ≡ get_or (W (take (728 - 664) (drop 664 b))) j 0 → Reads b F r (count_at j)
unfolding count_at
count_read b F j r e = record {
  to = λ s h ef.
      e ∙ ap (λ (l : List ℕ). get_or (W l) j 0) (region (sizes (capacity_of s)) b 6 (omega arith))
      ∙ ap (λ (ws : List ℕ). get_or ws j 0) (holds_w h.laid.counts);
}

-- ---- nothing is due

pub not_reported : (b : List ℕ) (F : Capacity) (due : Bool) (time : SimTime) (check : Check) (numbers : List ℕ) → not due ≡ true
    → Changes b b F (reported_if due time check numbers)
unfolding reported_if
not_reported b F due time check numbers t =
    record {
      to = λ s r h u. subst (λ (d : Bool). AreaOf b r F (with_checker s (report_if d s.checker time check numbers)))
          (sym (not-true due t)) h;
    }

-- ---- a report

module _ (b : List ℕ) (F : Capacity) (due : Bool) (time : SimTime) (check : Check) (numbers : List ℕ) (d : not due ≡ false) (kept total : ℕ)
    (p : Reads b F kept (count_at 6)) (q : Reads b F total (count_at 7)) where
  -- where it is due
  due_is : ((s : State) → reported_if true time check numbers s ≡ reported_if due time check numbers s)
  due_is s = ap (λ (t : Bool). reported_if t time check numbers s) (sym (not-false due d))

  -- the total has no 64 bits
  pub report_past : total ≡ 18446744073709551615 → Changes b b F (reported_if due time check numbers)
  unfolding reported_if count_at report
  report_past e = record {
    to = λ s r h u.
        let t : state_fits (reported_if true time check numbers s) ≡ true = ap state_fits (due_is s) ∙ u in
        let w : ltb (s.checker.total + 1) (2 ^ 64) ≡ true =
        and_left _ _
        (and_right _ _ (and_right _ _ (and_right _ _ (and_right _ _ (fits_test (reported_if true time check numbers s) t 13))))) in
        let z : total ≡ s.checker.total = q.to s h.area h.capacity in
        absurd (false_true (sym (le-ltb (s.checker.total + 1) (2 ^ 64) (omega arith)) ∙ w));
  }

  module _ (n : ℕ) (ys b₁ b₂ : List ℕ) (k : Keeps true time check numbers kept n (take (4096 - 2048) (drop 2048 b)) ys)
      (e₁ : b₁ ≡ sets (take 2048 b ++ (ys ++ drop (4096 - 2048) (drop 2048 b))) (8 * 89) (bytesOfNumber 8 n))
      (e₂ : b₂ ≡ sets b₁ (8 * 90) (bytesOfNumber 8 (total + 1))) where
    pub report_put : Changes b b₂ F (reported_if due time check numbers)
    unfolding reported_if count_at report
    report_put = record {
      to = λ s r h u.
          let s' : State = reported_if true time check numbers s in
          let t : state_fits s' ≡ true = ap state_fits (due_is s) ∙ u in
          let en : kept ≡ length s.checker.violations = p.to s h.area h.capacity in
          let et : total ≡ s.checker.total = q.to s h.area h.capacity in
          let held : Held violations 256 kept (take (4096 - 2048) (drop 2048 b)) s.checker.violations =
          subst (λ (m : ℕ). Held violations 256 m (take (4096 - 2048) (drop 2048 b)) s.checker.violations) (sym en)
          (record {
            holds = table_lent (violations_span (capacity_of s)) (violations_code (capacity_of s) (counts_of s)) b
                s.checker.violations h.area.laid.violations;
          }) in
          let after : Held violations 256 n ys s'.checker.violations = k.to s.checker 256 held in
          let counts : List ℕ = counts_words (counts_of s) in
          let c₀ : Cut (back_row 256 256 b ys) r F (set (contents s) 8 ys) =
          subst (λ (l : List ℕ). Cut l r F (set (contents s) 8 ys)) (sym (back_region (violations_span F) b ys))
          (region_put (area_cut h) 8 (omega arith) ys (holds_length after.holds)) in
          let c₁ : Cut b₁ r F (set (set (contents s) 8 ys) 6 (bytes (set counts 6 n))) =
          subst (λ (l : List ℕ). Cut l r F (set (set (contents s) 8 ys) 6 (bytes (set counts 6 n)))) (sym e₁)
          (region_word c₀ 6 (omega arith) 89 6 n counts refl refl refl (omega arith)) in
          let c₂ : Cut b₂ r F (set (set (contents s) 8 ys) 6 (bytes (set (set counts 6 n) 7 (total + 1)))) =
          subst (λ (l : List ℕ). Cut l r F (set (set (contents s) 8 ys) 6 (bytes (set (set counts 6 n) 7 (total + 1))))) (sym e₂)
          (region_word c₁ 6 (omega arith) 90 7 (total + 1) (set counts 6 n) refl refl refl (omega arith)) in
          let same : set (set (contents s) 8 ys) 6 (bytes (set (set counts 6 n) 7 (total + 1))) ≡ contents s' =
          ap (λ (l : List ℕ). set (set (contents s) 8 l) 6 (bytes (set (set counts 6 n) 7 (total + 1)))) after.holds.is
          ∙ ap₂ (λ (x y : ℕ). set (contents s') 6 (bytes (set (set counts 6 x) 7 (y + 1)))) (sym (held_rows after).count) et in
          subst (λ (x : State). AreaOf b₂ r F x) (due_is s) (cut_area s' h.capacity c₂ same t);
    }

pub ruleset reports = (not_reported, report_past, report_put)
