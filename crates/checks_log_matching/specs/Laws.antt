-- What the proofs of lib.rt cite. Assumes nothing.
use Rattle.std.specs.Bool.{then_some}
use Rattle.std.specs.Prelude.{◌≡◌, refl, Bool, true, false, not, List, [], ◌∷◌, eqb, length, get_or, Option, None, Some}
use Rattle.std.proofs.Math.Path.{sym, ap, ap₂}
use Rattle.std.proofs.Common.{◌∙◌, add-one}
use Prim.Native.Nat.{ℕ, suc, ◌+◌, ◌-◌, ◌*◌, ◌≤◌, ◌<◌, min}
use native.Mathlib.Omega.{arith}
use borrow.Author.Tests.{eqb-true, eq-eqb}
use Rattle.laws.specs.Bools.{pick, first_true, second_true}
use Rattle.laws.specs.Decides.{Decides, false_true, decided}
use Rattle.laws.specs.Lists.{is_some}
use Rattle.units.specs.Types.{Payload, Entry, same_payload}
use Rattle.units.specs.PayloadLaws.{payload_itself, payload_equal}
use Rattle.units.specs.declared.Term.{Term}
use Rattle.units.specs.declared.LogIndex.{LogIndex}
use Rattle.layout.specs.Tables.{Held, Gives, rows_in}
use Rattle.layout.specs.Contents.{decides_same}
use Rattle.layout.specs.Marked.{words_for}
use Rattle.layout.specs.Parts.{lent_row, row_lent}
use Rattle.layout.specs.TableLaws.{rows_are, length_rows_in}
use Rattle.raft_log.specs.Log.{Log, entry_at, last_index}
use Rattle.raft_log.specs.Places.{place, places, place_at, term_in, entry_term}
use Rattle.raft_log.specs.Payloads.{entry_place, place_term}
use Rattle.raft_log.specs.declared.EntryShape.{EntryShape}
use Rattle.checks.specs.Checks.{same_entry, shared_term, mismatch_at, difference_at, mismatch_from, log_matching_failure}
use Rattle.checks_log_matching.specs.Matching.{Compares, same_term, shared_term_at, same_entry_at, mismatch_here, difference_here}
use Rattle.checks.specs.declared.Mismatch.{Mismatch}

-- ---- shared_term

shared_is : (o q : Option Entry) → same_term (entry_term o) (entry_term q) ≡ shared_term o q
unfolding same_term
shared_is None q = refl
shared_is (Some d) None = refl
shared_is (Some d) (Some e) = refl

pub shares : (p n : ℕ) (index : LogIndex) (a b : List ℕ) (u v : Option EntryShape) (s t r : Option Term) → Gives (places p) n a u (place_at index.0) → s ≡ term_in u → Gives (places p) n b v (place_at index.0)
    → t ≡ term_in v → r ≡ same_term s t
    → Compares p n a b r (shared_term_at index.0)
unfolding shared_term_at place_at
shares p n index a b u v s t r g e h f q = record {
  to = λ N M x y k l.
      q ∙ ap₂ same_term (e ∙ ap term_in (g.to N x k) ∙ place_term (entry_at x index.0)) (f ∙ ap term_in (h.to M y l) ∙ place_term (entry_at y index.0))
      ∙ shared_is (entry_at x index.0) (entry_at y index.0);
}

-- ---- same_entry

entry_itself : (o : Option Entry) → same_entry o o ≡ true
entry_itself None = refl
entry_itself (Some e) = rw (eq-eqb e.term.0 e.term.0 refl) (payload_itself e.payload)

entry_equal : (o q : Option Entry) → same_entry o q ≡ true → o ≡ q
entry_equal None None h = refl
entry_equal None (Some e) h = absurd (false_true h)
entry_equal (Some d) None h = absurd (false_true h)
entry_equal (Some d) (Some e) h =
    let t : Bool = eqb d.term.0 e.term.0 in
    let u : Bool = same_payload d.payload e.payload in
    ap₂ (λ (t : ℕ) (y : Payload). Some (record { term = record { 0 = t }; payload = y })) (eqb-true d.term.0 e.term.0 (first_true t u h)) (payload_equal d.payload e.payload (second_true t u h))

pub rows_compared : (p n : ℕ) (index : LogIndex) (at : ℕ) (r : Bool) (a b : List ℕ) → 1 ≤ index.0 → index.0 ≤ n → at ≡ (index.0 - 1) * (2 + words_for p)
    → Decides r (lent_row at (2 + words_for p) a ≡ lent_row at (2 + words_for p) b)
    → Compares p n a b r (same_entry_at index.0)
unfolding same_entry_at
rows_compared p n index at r a b lo hi e d = record {
  to = λ N M x y g h.
      let i : ℕ = index.0 - 1 in
      let o : Option Entry = get_or x i None in
      let q : Option Entry = get_or y i None in
      decided r (same_entry o q) (decides_same (row_lent g i at None (omega arith) e) (row_lent h i at None (omega arith) e) d) (entry_equal o q) (λ k. ap (same_entry o) (sym k) ∙ entry_itself o)
      ∙ ap₂ same_entry (sym (entry_place x index.0 lo)) (sym (entry_place y index.0 lo));
}

-- ---- mismatch_at, difference_at

module _ (p n : ℕ) (a b : List ℕ) (index : LogIndex) (difference : Option LogIndex) where
  pub mismatch_none : (r : Option Mismatch) → difference ≡ None → r ≡ None → Compares p n a b r (mismatch_here difference index)
  unfolding mismatch_here
  mismatch_none r e z = record { to = λ N M x y g h. rw (e, z) }

  module _ (first : LogIndex) (e : difference ≡ Some first) (t : Option Term) (s : Compares p n a b t (shared_term_at index.0)) where
    pub mismatch_unshared : (r : Option Mismatch) → t ≡ None → r ≡ None → Compares p n a b r (mismatch_here difference index)
    unfolding mismatch_here
    mismatch_unshared r f z = record { to = λ N M x y g h. rw (e, sym (s.to N M x y g h), f, z) }

    pub mismatch_shared : (term : Term) → t ≡ Some term → Compares p n a b (Some (record { term = term; index = index; difference = first })) (mismatch_here difference index)
    unfolding mismatch_here
    mismatch_shared term f = record { to = λ N M x y g h. rw (e, sym (s.to N M x y g h), f) }

  pub difference_kept : (u : Bool) → u ≡ is_some difference → u ≡ true → Compares p n a b difference (difference_here difference index)
  unfolding difference_here
  difference_kept u f t = record { to = λ N M x y g h. by difference (sym f ∙ t) (same_entry_at index.0 x y) }
    where
      by : (d : Option LogIndex) → is_some d ≡ true → (same : Bool) → d ≡ difference_at d same index
      by None e same = absurd (false_true e)
      by (Some first) e same = refl

  pub difference_new : (u same : Bool) (r : Option LogIndex) → u ≡ is_some difference → u ≡ false → Compares p n a b same (same_entry_at index.0) → r ≡ then_some (not same) index
      → Compares p n a b r (difference_here difference index)
  unfolding difference_here
  difference_new u same r f t s z = record { to = λ N M x y g h. z ∙ by difference (sym f ∙ t) same ∙ ap (λ (v : Bool). difference_at difference v index) (s.to N M x y g h) }
    where
      by : (d : Option LogIndex) → is_some d ≡ false → (same : Bool) → then_some (not same) index ≡ difference_at d same index
      by None e true = refl
      by None e false = refl
      by (Some first) e same = absurd (false_true (sym e))

pub ruleset differences = (difference_kept, difference_new)

-- ---- the last index is that of a place

pub last_within : (x : Log) → last_index x ≤ length x
unfolding last_index
last_within [] = omega arith
last_within (o ∷ x) = by (eqb (last_index x) 0) (is_some o) (last_within x)
  where
    by : (t u : Bool) → last_index x ≤ length x → pick t (pick u 1 0) (suc (last_index x)) ≤ suc (length x)
    by true true h = omega arith
    by true false h = omega arith
    by false u h = omega arith

-- ---- the loop: i indexes are done

pub record Searching (p n : ℕ) (a b : List ℕ) (shared : ℕ) (difference : Option LogIndex) (i : ℕ) : Type 0 where
  pub is : (N M : ℕ) (x y : Log) → Held (places p) N n a x → Held (places p) M n b y → log_matching_failure x y ≡ mismatch_from (shared - i) (i + 1) difference x y
  pub upto : i ≤ shared
  pub within : shared ≤ n

-- what is found at an index is the answer, and where nothing is, what follows
found_some : (d : Option LogIndex) (t : Option Term) (i : LogIndex) (later : Option Mismatch) → is_some (mismatch_at d t i None) ≡ true → mismatch_at d t i later ≡ mismatch_at d t i None
found_some None t i later h = absurd (false_true h)
found_some (Some d) None i later h = absurd (false_true h)
found_some (Some d) (Some t) i later h = refl

found_none : (d : Option LogIndex) (t : Option Term) (i : LogIndex) (later : Option Mismatch) → is_some (mismatch_at d t i None) ≡ false → mismatch_at d t i later ≡ later
found_none None t i later h = refl
found_none (Some d) None i later h = refl
found_none (Some d) (Some t) i later h = absurd (false_true (sym h))

module _ (p n : ℕ) (a b : List ℕ) (shared : ℕ) where
  pub searching_start : (l m : LogIndex) → l.0 ≡ last_index (rows_in (place p) n a) → m.0 ≡ last_index (rows_in (place p) n b) → shared ≡ min l.0 m.0 → Searching p n a b shared None 0
  unfolding log_matching_failure
  searching_start l m e f g =
      let r : last_index (rows_in (place p) n a) ≤ n = omega (arith, last_within (rows_in (place p) n a), length_rows_in (place p) n a) in
      record {
        is = λ N M x y h k.
            let z : min (last_index x) (last_index y) ≡ shared - 0 = omega (arith, ap last_index (rows_are h), ap last_index (rows_are k)) in
            ap (λ (j : ℕ). mismatch_from j 1 None x y) z;
        upto = omega arith;
        within = omega arith;
      }

  module _ (difference : Option LogIndex) (i : ℕ) (s : Searching p n a b shared difference i) where
    module _ (k : i < shared) (found : Option Mismatch) (u : Compares p n a b found (mismatch_here difference (record { 0 = i + 1 }))) (z : Bool) (e : z ≡ is_some found) where
      -- the index that is looked at, and those after it
      split : (N M : ℕ) (x y : Log) → Held (places p) N n a x → Held (places p) M n b y
          → log_matching_failure x y
          ≡ mismatch_at difference (shared_term_at (i + 1) x y) (record { 0 = i + 1 }) (mismatch_from (shared - (i + 1)) (suc (i + 1)) (difference_here difference (record { 0 = i + 1 }) x y) x y)
      unfolding mismatch_from shared_term_at same_entry_at difference_here
      split N M x y h l =
          let c : shared - i ≡ suc (shared - (i + 1)) = omega arith in
          s.is N M x y h l ∙ ap (λ (j : ℕ). mismatch_from j (i + 1) difference x y) c

      pub searching_found : z ≡ true → Compares p n a b found log_matching_failure
      unfolding mismatch_here
      searching_found t = record {
        to = λ N M x y h l.
            u.to N M x y h l
            ∙ sym (split N M x y h l ∙ found_some difference (shared_term_at (i + 1) x y) (record { 0 = i + 1 }) _ (ap is_some (sym (u.to N M x y h l)) ∙ sym e ∙ t));
      }

      pub searching_turn : (next : Option LogIndex) → z ≡ false → Compares p n a b next (difference_here difference (record { 0 = i + 1 })) → Searching p n a b shared next (i + 1)
      unfolding mismatch_here
      searching_turn next t v = record {
        is = λ N M x y h l.
            split N M x y h l ∙ found_none difference (shared_term_at (i + 1) x y) (record { 0 = i + 1 }) _ (ap is_some (sym (u.to N M x y h l)) ∙ sym e ∙ t)
            ∙ ap₂ (λ (j : ℕ) (d : Option LogIndex). mismatch_from (shared - (i + 1)) j d x y) (sym (add-one (i + 1))) (sym (v.to N M x y h l));
        upto = omega arith;
        within = s.within;
      }

    pub searching_done : shared ≤ i → Compares p n a b None log_matching_failure
    unfolding mismatch_from
    searching_done k = record {
      to = λ N M x y h l.
          let c : shared - i ≡ 0 = omega arith in
          sym (s.is N M x y h l ∙ ap (λ (j : ℕ). mismatch_from j (i + 1) difference x y) c);
    }

pub ruleset searches = (searching_start, searching_found, searching_turn, searching_done)
