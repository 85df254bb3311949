-- A table of the checks that grew, put back with its count: what the proofs of applied payloads, leaders and entries cite. Assumes nothing.
use Rattle.std.specs.Prelude.{◌≡◌, Bool, false, not, ℕ, ◌+◌, ◌*◌, ◌≤◌, ◌<◌}
use Rattle.std.proofs.Math.Path.{refl, ap, ap₂, subst}
use Rattle.std.proofs.Common.{sym, ◌∙◌, arith}
use Rattle.std.proofs.Math.Bool.{true}
use mathlib.Core.List.{List, [], ◌∷◌, ◌++◌}
use Rattle.std.proofs.Math.ListN.{length, set, length-append}
use Rattle.std.proofs.lemmas.List.Edits.{sets}
use Rattle.std.proofs.lemmas.Bool.{not-true, not-false}
use Rattle.laws.specs.Bools.{and_left}
use Rattle.laws.proofs.BoolLaws.{and_right}
use Rattle.units.specs.Types.{Payload}
use Rattle.words.specs.Words.{bytes, bytes_of as bytesOfNumber}
use Rattle.layout.specs.Tables.{Held, Becomes, append}
use Rattle.layout.specs.TableLaws.{held_rows}
use Rattle.layout.specs.Parts.{lent_row, back_row, length_lent_row}
use Rattle.layout.specs.Rows.{row_end}
use Rattle.layout.specs.Marked.{words_for}
use Rattle.layout.specs.Applied.{applied}
use Rattle.checks.specs.Asked.{append_if}
use Rattle.model.specs.State.{State}
use Rattle.model.specs.Fields.{with_checker}
use Rattle.model.specs.Fits.{state_fits}
use Rattle.state.specs.declared.Capacity.{Capacity}
use Rattle.state.specs.Sizes.{applied_at, applied_words, Counted}
use Rattle.state.specs.SizeLaws.{room}
use Rattle.state.specs.Parts.{counts_words}
use Rattle.state.specs.Area.{capacity_of, counts_of, applied_code}
use Rattle.state.specs.Encode.{contents}
use Rattle.state.specs.FitsBy.{fits_test}
use Rattle.state.specs.Changes.{Inside, AreaOf, Changes, Reads}
use Rattle.state.specs.Tables.{Spans, applied_span, table_lent, table_put}
use Rattle.state_checks.specs.Checked.{count_at, applied_if, Stored}
use Rattle.state_checks.specs.TestLaws.{table_room}

-- ---- the regions

-- the applied payloads lie in the area
pub applied_inside : (b : List ℕ) (F : Capacity) (at w : ℕ) → Inside b F → Counted at (applied_at F) → Counted w (applied_words F)
    → 8 * (at + w) ≤ length b
applied_inside b F at w i p q = omega (arith, room F, i.long, p.is, q.is)

-- one more has room among them
pub applied_room : (b : List ℕ) (F : Capacity) (at w n : ℕ) → Inside b F → n < F.limits.log_indexes → Counted at (applied_at F)
    → Counted w (applied_words F)
    → 8 * (n * (1 + words_for F.limits.payload) + (1 + words_for F.limits.payload)) ≤ length (lent_row at w b)
applied_room b F at w n i h p q =
    omega (
      arith,
      row_end n F.limits.log_indexes (1 + words_for F.limits.payload) h,
      q.is,
      length_lent_row at w b
          (applied_inside b F at w i p q),
    )

-- ---- a table put back

module _ {b r : List ℕ} {F : Capacity} {s : State} (h : AreaOf b r F s) {i at w : ℕ} (p : Spans (capacity_of s) i at w) where
  pub rows_put : (s' : State) (ys b₂ : List ℕ) (k j v : ℕ) → capacity_of s ≡ capacity_of s' → (i ≡ 6 → ⊥) → k ≡ 83 + j → j < 8
      → b₂ ≡ sets (back_row at w b ys) (8 * k) (bytesOfNumber 8 v)
      → set (set (contents s) i ys) 6 (bytes (set (counts_words (counts_of s)) j v)) ≡ contents s' → state_fits s' ≡ true → AreaOf b₂ r F s'
  rows_put s' ys b₂ k j v c n ek lj e same t =
      let g : AreaOf b r (capacity_of s) s = subst (λ (G : Capacity). AreaOf b r G s) h.capacity h in
      subst (λ (G : Capacity). AreaOf b₂ r G s') (sym h.capacity)
      (subst (λ (l : List ℕ). AreaOf l r (capacity_of s) s') (sym e) (table_put g p s' ys c k j v n ek lj same t))

-- ---- applied payloads

pub not_applied : (b : List ℕ) (F : Capacity) (due : Bool) (x : Payload) → not due ≡ true → Changes b b F (applied_if due x)
unfolding applied_if
not_applied b F due x t =
    record { to = λ s r h u. subst (λ (d : Bool). AreaOf b r F (with_checker s (append_if d x s.checker))) (sym (not-true due t)) h }

module _ (F : Capacity) (n : ℕ) (x : Payload) where
  -- What appending a payload makes of the table.
  abbrev Appended : List ℕ → List ℕ → Type 0
  Appended u v = Becomes (applied F.limits.payload) n (n + 1) u v (append x)

  pub applied_stored : (b ys b₂ : List ℕ) (at w : ℕ) → Inside b F → Counted at (applied_at F) → Counted w (applied_words F)
      → Becomes (applied F.limits.payload) n (n + 1) (lent_row at w b) ys (append x)
      → b₂ ≡ sets (back_row at w b ys) (8 * 88) (bytesOfNumber 8 (n + 1))
      → Stored b b₂ (applied_at F) (applied_words F) 88 (n + 1) (λ u v. Becomes (applied F.limits.payload) n (n + 1) u v (append x))
  applied_stored b ys b₂ at w i p q g e =
      subst (λ (a : ℕ). Stored b b₂ a (applied_words F) 88 (n + 1) Appended) p.is
      (subst (λ (z : ℕ). Stored b b₂ at z 88 (n + 1) Appended) q.is (record { rows = ys; put = g; is = e }))

module _ (b : List ℕ) (F : Capacity) (due : Bool) (x : Payload) (d : not due ≡ false) (n : ℕ) (p : Reads b F n (count_at 5)) where
  due_applied : (s : State) → applied_if true x s ≡ applied_if due x s
  due_applied s = ap (λ (t : Bool). applied_if t x s) (sym (not-false due d))

  -- no place is left
  pub applied_full : F.limits.log_indexes ≤ n → Changes b b F (applied_if due x)
  unfolding applied_if count_at
  applied_full l = record {
    to = λ s r h u.
        let t : state_fits (applied_if true x s) ≡ true = ap state_fits (due_applied s) ∙ u in
        let m : length (s.checker.applied ++ x ∷ []) ≤ s.limits.log_indexes =
        table_room (applied s.limits.payload) s.limits.log_indexes (s.checker.applied ++ x ∷ [])
        (and_left _ _ (and_right _ _ (fits_test (applied_if true x s) t 13))) in
        let en : n ≡ length s.checker.applied = p.to s h.area h.capacity in
        absurd (omega
        (arith, m, en, length-append s.checker.applied (x ∷ []), ap (λ (G : Capacity). G.limits.log_indexes) h.capacity));
  }

  pub applied_put : (b₂ : List ℕ) → Stored b b₂ (applied_at F) (applied_words F) 88 (n + 1) (Appended F n x)
      → Changes b b₂ F (applied_if due x)
  unfolding applied_if count_at append
  applied_put b₂ q = record {
    to = λ s r h u.
        let G : Capacity = capacity_of s in
        let xs : List Payload = s.checker.applied in
        let s' : State = applied_if true x s in
        let q' : Stored b b₂ (applied_at G) (applied_words G) 88 (n + 1) (Appended G n x) =
        subst (λ (K : Capacity). Stored b b₂ (applied_at K) (applied_words K) 88 (n + 1) (Appended K n x)) h.capacity q in
        let held : Held (applied G.limits.payload) (applied_words G) n (lent_row (applied_at G) (applied_words G) b) xs =
        subst (λ (m : ℕ). Held (applied G.limits.payload) (applied_words G) m (lent_row (applied_at G) (applied_words G) b) xs)
        (sym (p.to s h.area h.capacity))
        (record { holds = table_lent (applied_span G) (applied_code G (counts_of s)) b xs h.area.laid.applied }) in
        let after : Held (applied G.limits.payload) (applied_words G) (n + 1) q'.rows s'.checker.applied =
        q'.put.to (applied_words G) xs held in
        let same : set (set (contents s) 15 q'.rows) 6 (bytes (set (counts_words (counts_of s)) 5 (n + 1))) ≡ contents s' =
        ap₂ (λ (l : List ℕ) (m : ℕ). set (set (contents s) 15 l) 6 (bytes (set (counts_words (counts_of s)) 5 m))) after.holds.is
        (sym (held_rows after).count) in
        subst (λ (y : State). AreaOf b₂ r F y) (due_applied s)
        (rows_put h (applied_span G) s' q'.rows b₂ 88 5 (n + 1) refl (omega arith) refl (omega arith) q'.is same
        (ap state_fits (due_applied s) ∙ u));
  }

pub ruleset applying = (not_applied, applied_full, applied_put)
