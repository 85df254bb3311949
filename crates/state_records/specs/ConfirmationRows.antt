-- What the proofs of the functions on confirmations cite. Assumes nothing.
use Rattle.std.proofs.Math.Path.{◌≡◌, refl, sym, ap, subst}
use Rattle.std.proofs.Common.{ap₂, ◌∙◌, arith}
use mathlib.Core.List.{List, [], ◌∷◌, ◌++◌}
use Prim.Native.Nat.{ℕ, ◌+◌, ◌-◌, ◌*◌, ◌≤◌, ◌<◌}
use Rattle.std.proofs.Math.ListN.{length, set, length-append}
use Rattle.std.specs.Prelude.{get_or, drop, take, Option, None, Some}
use Rattle.std.proofs.lemmas.List.Edits.{sets}
use borrow.Author.Tests.{leb-true}
use Rattle.laws.specs.Bools.{and_left}
use Rattle.laws.specs.ListLaws.{at_none}
use Rattle.words.specs.Words.{W, bytes, bytes_of as bytesOfNumber}
use Rattle.layout.specs.Tables.{Held, append}
use Rattle.layout.specs.Parts.{lent_row, back_row, length_lent_row}
use Rattle.checks_durability.specs.Replies.{appending_number, room_code}
use Rattle.clients.specs.Confirmations.{confirmations, ReadsConfirmation, Outcome, AppendsConfirmation}
use Rattle.clients.specs.declared.confirmations.Confirmation.{Confirmation}
use Rattle.model.specs.State.{State}
use Rattle.state.specs.declared.Capacity.{Capacity}
use Rattle.state.specs.Sizes.{confirmations_at, Counted}
use Rattle.state.specs.SizeLaws.{room}
use Rattle.state.specs.Parts.{counts_words}
use Rattle.state.specs.Area.{Area, capacity_of, counts_of, confirmations_code}
use Rattle.state.specs.Encode.{contents}
use Rattle.state.specs.Fitting.{area_fits}
use Rattle.state.specs.FitsBy.{fits_test}
use Rattle.state.specs.Changes.{Inside, AreaOf, Changes, Reads}
use Rattle.state.specs.Tables.{Spans, confirmations_span, table_put}
use Rattle.state_records.specs.Records.{confirmation_count, confirmation_at, confirmed}
use Rattle.state_records.specs.Fits.{fits_confirmed}
use Rattle.state_records.specs.Lent.{spans_is, lent_holds, counted, history_is, no_room}

module _ (b : List ℕ) (F : Capacity) (at : ℕ) where
  pub confirmations_end : Inside b F → Counted at (confirmations_at F) → 8 * (at + F.limits.history * 3) ≤ length b
  confirmations_end i p = omega (arith, i.long, room F, p.is)

  pub confirmations_within : Inside b F → Counted at (confirmations_at F)
      → 8 * (F.limits.history * 3) ≤ length (lent_row at (F.limits.history * 3) b)
  confirmations_within i p = omega (arith, length_lent_row at (F.limits.history * 3) b (confirmations_end i p))

  pub confirmations_rows : (n : ℕ) → Inside b F → Counted at (confirmations_at F) → n ≤ F.limits.history
      → 8 * (n * 3) ≤ length (lent_row at (F.limits.history * 3) b)
  confirmations_rows n i p k = omega (arith, confirmations_within i p)

module _ (b : List ℕ) (F : Capacity) where
  pub confirmations_counted : (n : ℕ) → n ≡ get_or (W (take (728 - 664) (drop 664 b))) 4 0 → Reads b F n confirmation_count
  unfolding confirmation_count
  confirmations_counted n e = record { to = λ s h ef. e ∙ counted h 4 }

  module _ (n : ℕ) (c : Reads b F n confirmation_count) where
    -- so many confirmations are within the limit, wherever the area holds a state
    pub confirmations_most : (s : State) → Area b s → F ≡ capacity_of s → n ≤ F.limits.history
    unfolding confirmation_count
    confirmations_most s h ef =
        omega (arith, c.to s h ef, leb-true (length s.confirmations) s.limits.history (and_left _ _ (fits_test s (area_fits h) 15)), history_is ef)

    pub confirmation_past : (i : ℕ) → F.limits.history < n → Reads b F None (confirmation_at i)
    confirmation_past i k = record { to = λ s h ef. absurd (let o : n ≤ F.limits.history = confirmations_most s h ef in omega arith) }

    pub confirmation_none : (i : ℕ) → n ≤ i → Reads b F None (confirmation_at i)
    unfolding confirmation_count confirmation_at
    confirmation_none i k = record { to = λ s h ef. sym (at_none s.confirmations i (omega (arith, c.to s h ef))) }

    module _ (at : ℕ) (p : Counted at (confirmations_at F)) where
      confirmations_spans : Spans F 14 at (F.limits.history * 3)
      confirmations_spans = spans_is p.is refl (confirmations_span F)

      confirmations_held : (s : State) → Area b s → F ≡ capacity_of s
          → Held confirmations (s.limits.history * 3) n (lent_row at (F.limits.history * 3) b) s.confirmations
      unfolding confirmation_count
      confirmations_held s h ef =
          subst (λ (m : ℕ). Held confirmations (s.limits.history * 3) m (lent_row at (F.limits.history * 3) b) s.confirmations) (sym (c.to s h ef))
          (record { holds = lent_holds confirmations_spans (confirmations_code (capacity_of s) (counts_of s)) b s s.confirmations ef h.laid.confirmations })

      pub confirmation_read_lem : (i : ℕ) (r : Confirmation) → ReadsConfirmation n i r (lent_row at (F.limits.history * 3) b)
          → Reads b F (Some r) (confirmation_at i)
      unfolding confirmation_at
      confirmation_read_lem i r g =
          record { to = λ s h ef. sym (g.to (s.limits.history * 3) s.confirmations (confirmations_held s h ef)) }

      module _ (r : Confirmation) (a : Option ℕ) (ys : List ℕ) (g : AppendsConfirmation r n F.limits.history a (lent_row at (F.limits.history * 3) b) ys) where
        abbrev x : Confirmation
        x = r

        pub confirmation_put : (m : ℕ) (b₂ : List ℕ) → a ≡ Some m
            → b₂ ≡ sets (back_row at (F.limits.history * 3) b ys) (8 * 87) (bytesOfNumber 8 m)
            → Changes b b₂ F (confirmed r)
        unfolding confirmed append confirmation_count
        confirmation_put m b₂ ea eb = record {
          to = λ s l h t.
              let N : ℕ = s.limits.history * 3 in
              let grown =
              subst (λ (u : Option ℕ). Outcome u N n (lent_row at (F.limits.history * 3) b) ys s.confirmations r) ea (g.to N s.confirmations (confirmations_held s h.area h.capacity)) in
              let more : m ≡ length (s.confirmations ++ x ∷ []) =
              omega (arith, grown.count, c.to s h.area h.capacity, length-append s.confirmations (x ∷ [])) in
              subst (λ (z : List ℕ). AreaOf z l F (confirmed x s)) (sym eb)
              (table_put h confirmations_spans (confirmed x s) ys refl 87 4 m (λ z. omega arith) refl (omega arith)
              (ap₂ (λ (y : List ℕ) (v : ℕ). set (set (contents s) 14 y) 6 (bytes (set (counts_words (counts_of s)) 4 v))) grown.held.holds.is more) t);
        }

        pub confirmation_full : a ≡ None → Changes b (back_row at (F.limits.history * 3) b ys) F (confirmed r)
        unfolding appending_number append
        confirmation_full ea = record {
          to = λ s l h t.
              let fit : length s.confirmations + 1 ≤ s.limits.history =
              leb-true _ _ (and_left _ _ (and_left _ _ (sym (fits_confirmed s x) ∙ t))) in
              let full : ◌≡◌ {A = ℕ} 10 (room_code (length (s.confirmations ++ x ∷ [])) F.limits.history) =
              ap appending_number (sym ea)
              ∙ g.number (s.limits.history * 3) s.confirmations (confirmations_held s h.area h.capacity) in
              absurd (no_room (length (s.confirmations ++ x ∷ [])) F.limits.history full (omega (arith, length-append s.confirmations (x ∷ []), history_is h.capacity)));
        }
