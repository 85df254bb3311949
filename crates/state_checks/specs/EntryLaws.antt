-- What the proofs of entries seen cite. Assumes nothing.
use Rattle.std.specs.Prelude.{◌≡◌, Bool, ℕ, ◌+◌, ◌*◌, ◌≤◌, ◌<◌, ltb, Result, Ok, Err}
use Rattle.std.proofs.Math.Path.{refl, ap, ap₂, subst}
use Rattle.std.proofs.Common.{sym, ◌∙◌, arith}
use Rattle.std.proofs.Math.Bool.{true, false, not}
use mathlib.Core.List.{List}
use Rattle.std.proofs.Math.ListN.{length, set}
use Rattle.std.proofs.lemmas.List.Edits.{sets}
use borrow.Author.Tests.{not-true, not-false, ltb-true}
use Rattle.laws.specs.Bools.{pick, cases, ◌and◌, and_left}
use Rattle.laws.proofs.BoolLaws.{and_right}
use Rattle.laws.specs.Decides.{false_true}
use Rattle.laws.specs.Lists.{is_some}
use Rattle.laws.specs.Order.{pairs, lookup, insert_by}
use Rattle.units.specs.Types.{Payload}
use Rattle.units.specs.declared.LogIndex.{LogIndex}
use Rattle.units.specs.declared.Term.{Term}
use Rattle.words.specs.Words.{W, bytes, bytes_of as bytesOfNumber}
use Rattle.layout.specs.Tables.{Holds, Held, rows_in}
use Rattle.layout.specs.TableLaws.{held_rows, rows_are, such_plain}
use Rattle.layout.specs.Parts.{lent_row, back_row, length_lent_row}
use Rattle.layout.specs.Rows.{row_end}
use Rattle.layout.specs.Marked.{words_for}
use Rattle.layout.specs.Payload.{payload}
use Rattle.layout.specs.Order.{find, two, heads}
use Rattle.layout.specs.SortedTables.{found_yes, found_no}
use Rattle.checks.specs.Checks.{Seen, seen_key, with_entries}
use Rattle.checks.specs.Asked.{insert_seen_if}
use Rattle.checks.specs.Entries.{seen, seen_row, seen_in, index_within, InsertsSeen}
use Rattle.checks.specs.EntryLaws.{seen_read, no_seen}
use Rattle.model.specs.State.{State}
use Rattle.model.specs.Fields.{with_checker}
use Rattle.model.specs.Fits.{state_fits}
use Rattle.state.specs.declared.Capacity.{Capacity}
use Rattle.state.specs.Sizes.{seen_at, seen_words, Counted}
use Rattle.state.specs.SizeLaws.{room}
use Rattle.state.specs.Parts.{counts_words}
use Rattle.state.specs.Area.{Area, capacity_of, counts_of, seen_code}
use Rattle.state.specs.Encode.{contents}
use Rattle.state.specs.Fitting.{area_fits}
use Rattle.state.specs.FitsBy.{fits_test}
use Rattle.state.specs.Changes.{Inside, AreaOf, Reads}
use Rattle.state.specs.Tables.{seen_span, table_lent}
use Rattle.state_checks.specs.Checked.{count_at, seen_if, unseen, Sees, Stored}
use Rattle.state_checks.specs.TestLaws.{insert_known, is_none}
use Rattle.state_checks.specs.FitLaws.{fits_seen}
use Rattle.state_checks.specs.TableLaws.{rows_put}

-- ---- the table as it is lent

module _ (b : List ℕ) (F : Capacity) (at w : ℕ) (i : Inside b F) (p : Counted at (seen_at F)) (q : Counted w (seen_words F)) where
  -- the entries lie in the area
  pub seen_inside : 8 * (at + w) ≤ length b
  seen_inside = omega (arith, room F, i.long, p.is, q.is)

  module _ (n : ℕ) (h : n < F.limits.history) where
    more : n * (3 + words_for F.limits.payload) + (3 + words_for F.limits.payload) ≤ F.limits.history *
        (3 + words_for F.limits.payload)
    more = row_end n F.limits.history (3 + words_for F.limits.payload) h

    -- n have room among them, and one more
    pub seen_rows : 8 * (n * (3 + words_for F.limits.payload)) ≤ length (lent_row at w b)
    seen_rows = omega (arith, more, q.is, length_lent_row at w b seen_inside)

    pub seen_room : 8 * (n * (3 + words_for F.limits.payload) + (3 + words_for F.limits.payload)) ≤ length (lent_row at w b)
    seen_room = omega (arith, more, q.is, length_lent_row at w b seen_inside)

-- the entries of the state that an area holds
seen_lent : {b : List ℕ} {s : State} (h : Area b s) (n : ℕ) → n ≡ length s.checker.entries
    → Held (seen s.limits.payload) (seen_words (capacity_of s)) n (lent_row (seen_at (capacity_of s)) (seen_words (capacity_of s)) b)
    s.checker.entries
seen_lent {b} {s} h n en =
    let G : Capacity = capacity_of s in
    let xs : List Seen = s.checker.entries in
    subst (λ (m : ℕ). Held (seen s.limits.payload) (seen_words G) m (lent_row (seen_at G) (seen_words G) b) xs) (sym en)
    (such_plain (seen s.limits.payload) (index_within s.limits.log_indexes)
    (record { holds = table_lent (seen_span G) (seen_code G (counts_of s)) b xs h.laid.seen }))

-- ---- whether an entry was seen

module _ (b : List ℕ) (F : Capacity) (n at w : ℕ) (index : LogIndex) (term : Term) (f : Result ℕ ℕ) (o : Inside b F)
    (p : Reads b F n (count_at 1)) (pa : Counted at (seen_at F)) (pw : Counted w (seen_words F))
    (e : f ≡ find pairs (index.0, term.0) (heads two (3 + words_for F.limits.payload) n (W (lent_row at w b)))) (i : ℕ) where
  -- the same for a state with these counts
  searched : (s : State) → F ≡ capacity_of s
      → f ≡ find pairs (index.0, term.0)
      (heads two (3 + words_for s.limits.payload) n (W (lent_row (seen_at (capacity_of s)) (seen_words (capacity_of s)) b)))
  searched s ef =
      subst (λ (G : Capacity). f ≡ find pairs (index.0, term.0)
      (heads two (3 + words_for G.limits.payload) n (W (lent_row (seen_at G) (seen_words G) b)))) ef
      (e ∙ ap₂ (λ (x y : ℕ). find pairs (index.0, term.0) (heads two (3 + words_for F.limits.payload) n (W (lent_row x y b)))) pa.is
      pw.is)

  rows : (s : State) (h : Area b s) → F ≡ capacity_of s
      → rows_in (seen_row s.limits.payload) n (lent_row (seen_at (capacity_of s)) (seen_words (capacity_of s)) b)
      ≡ s.checker.entries
  unfolding count_at
  rows s h ef = rows_are (seen_lent h n (p.to s h ef))

  pub entry_there : f ≡ Ok i → Reads b F false (unseen index term)
  unfolding unseen
  entry_there t = record {
    to = λ s h ef.
        ap not (found_yes pairs (index.0, term.0) two (seen_row s.limits.payload) seen_key n
        (lent_row (seen_at (capacity_of s)) (seen_words (capacity_of s)) b) f i (seen_read s.limits.payload) (searched s ef) no_seen t)
        ∙ ap (λ (y : List Seen). not (is_some (lookup pairs seen_key (index.0, term.0) y))) (rows s h ef);
  }

  pub entry_absent : f ≡ Err i → Reads b F true (unseen index term)
  unfolding unseen
  entry_absent t = record {
    to = λ s h ef.
        ap not (found_no pairs (index.0, term.0) two (seen_row s.limits.payload) seen_key n
        (lent_row (seen_at (capacity_of s)) (seen_words (capacity_of s)) b) f i (seen_read s.limits.payload) (searched s ef) t)
        ∙ ap (λ (y : List Seen). not (is_some (lookup pairs seen_key (index.0, term.0) y))) (rows s h ef);
  }

pub ruleset entries_known = (entry_there, entry_absent)

-- ---- an entry added

module _ (F : Capacity) (n : ℕ) (index : LogIndex) (term : Term) (content : List ℕ) where
  -- What putting an entry in makes of the table.
  abbrev Inserted : List ℕ → List ℕ → Type 0
  Inserted = InsertsSeen F.limits.payload index term content n

  pub entry_stored : (b ys b₂ : List ℕ) (at w : ℕ) → Inside b F → Counted at (seen_at F) → Counted w (seen_words F)
      → InsertsSeen F.limits.payload index term content n (lent_row at w b) ys
      → b₂ ≡ sets (back_row at w b ys) (8 * 84) (bytesOfNumber 8 (n + 1))
      → Stored b b₂ (seen_at F) (seen_words F) 84 (n + 1) (InsertsSeen F.limits.payload index term content n)
  entry_stored b ys b₂ at w i p q g e =
      subst (λ (a : ℕ). Stored b b₂ a (seen_words F) 84 (n + 1) Inserted) p.is
      (subst (λ (z : ℕ). Stored b b₂ at z 84 (n + 1) Inserted) q.is (record { rows = ys; put = g; is = e }))

module _ (b : List ℕ) (F : Capacity) (due : Bool) (index : LogIndex) (term : Term) (content : List ℕ) where
  pub not_seen : not due ≡ true → Sees b b content F due index term
  unfolding seen_if
  not_seen t = record {
    to = λ x k. record {
      to = λ s r h u. subst
          (λ (d : Bool). AreaOf b r F (with_checker s (insert_seen_if d (record { index = index; term = term; payload = x }) s.checker)))
          (sym (not-true due t)) h;
    };
  }

  module _ (d : not due ≡ false) where
    module _ (x : Payload) where
      -- The entry.
      abbrev e : Seen
      e = record { index = index; term = term; payload = x }

      -- Whether it is there.
      abbrev known : State → Bool
      known s = is_some (lookup pairs seen_key (index.0, term.0) s.checker.entries)

      -- Whether there is room, and it is in range.
      abbrev fine : State → Bool
      fine s = ltb (length s.checker.entries) s.limits.history and (seen_in s.limits.log_indexes s.limits.payload).row.good
          e

      due_seen : (s : State) → seen_if true index term x s ≡ seen_if due index term x s
      due_seen s = ap (λ (t : Bool). seen_if t index term x s) (sym (not-false due d))

      -- where it fits it is in range
      in_range_lem : {r : List ℕ} (s : State) → AreaOf b r F s → state_fits (seen_if due index term x s) ≡ true → known s ≡ false → fine s ≡ true
      in_range_lem s h u n =
          sym (ap (λ (t : Bool). pick t true (fine s)) n)
          ∙ and_left _ _
          (sym (fits_seen s index term x (and_left _ _ (and_right _ _ (and_right _ _ (fits_test s (area_fits h.area) 13)))) true)
          ∙ ap state_fits (due_seen s) ∙ u)

      -- one that is there stays
      stays : {r : List ℕ} (s : State) → AreaOf b r F s → known s ≡ true → AreaOf b r F (seen_if due index term x s)
      unfolding seen_if
      stays {r} s h k =
          subst (λ (y : State). AreaOf b r F y) (due_seen s)
          (subst (λ (l : List Seen). AreaOf b r F (with_checker s (with_entries s.checker l)))
          (sym (insert_known pairs seen_key e s.checker.entries k)) h)

    module _ (n : ℕ) (p : Reads b F n (count_at 1)) where
      -- no row is left
      pub seen_full : F.limits.history ≤ n → Sees b b content F due index term
      unfolding count_at
      seen_full l = record {
        to = λ x k.
            record {
              to = λ s r h u.
                  cases (known x s) (stays x s h)
                  (λ t.
                  let en : n ≡ length s.checker.entries = p.to s h.area h.capacity in
                  let m : length s.checker.entries < s.limits.history = ltb-true _ _ (and_left _ _ (in_range_lem x s h u t)) in
                  absurd (omega (arith, en, ap (λ (G : Capacity). G.limits.history) h.capacity)));
            };
      }

      module _ (q : Bool) (a : Reads b F q (unseen index term)) where
        pub seen_known : not q ≡ true → Sees b b content F due index term
        unfolding unseen
        seen_known t = record {
          to = λ x k. record {
            to = λ s r h u. cases (known x s) (stays x s h)
                (λ e. absurd (false_true (sym (not-true q t) ∙ a.to s h.area h.capacity ∙ ap not e)));
          };
        }

        pub seen_put : (b₂ : List ℕ) → not q ≡ false
            → Stored b b₂ (seen_at F) (seen_words F) 84 (n + 1) (InsertsSeen F.limits.payload index term content n)
            → Sees b b₂ content F due index term
        unfolding seen_if unseen count_at
        seen_put b₂ t w = record {
          to = λ x k.
              record {
                to = λ s r h u.
                    let G : Capacity = capacity_of s in
                    let xs : List Seen = s.checker.entries in
                    let s' : State = seen_if true index term x s in
                    let new : known x s ≡ false = not-true _ (sym (a.to s h.area h.capacity) ∙ not-false q t) in
                    let w' : Stored b b₂ (seen_at G) (seen_words G) 84 (n + 1) (Inserted G n index term content) =
                    subst (λ (K : Capacity). Stored b b₂ (seen_at K) (seen_words K) 84 (n + 1) (Inserted K n index term content))
                    h.capacity w in
                    let row : Holds (payload s.limits.payload) content x =
                    subst (λ (K : Capacity). Holds (payload K.limits.payload) content x) h.capacity k in
                    let after : Held (seen s.limits.payload) (seen_words G) (n + 1) w'.rows (insert_by pairs seen_key (e x) xs) =
                    w'.put.to (seen_words G) xs x row (seen_lent h.area n (p.to s h.area h.capacity)) (is_none _ new) in
                    let same : set (set (contents s) 11 w'.rows) 6 (bytes (set (counts_words (counts_of s)) 1 (n + 1))) ≡ contents s' =
                    ap₂ (λ (y : List ℕ) (m : ℕ). set (set (contents s) 11 y) 6 (bytes (set (counts_words (counts_of s)) 1 m)))
                    after.holds.is (sym (held_rows after).count) in
                    subst (λ (y : State). AreaOf b₂ r F y) (due_seen x s)
                    (rows_put h (seen_span G) s' w'.rows b₂ 84 1 (n + 1) refl (omega arith) refl (omega arith) w'.is same
                    (ap state_fits (due_seen x s) ∙ u));
              };
        }

pub ruleset seeing = (not_seen, seen_full, seen_known, seen_put)
