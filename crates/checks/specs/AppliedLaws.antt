-- What the proofs of applied.rt cite. Assumes nothing.
use Rattle.std.specs.Prelude.{◌≡◌, Bool, not, List, [], ◌∷◌, length, Option, None, Some}
use Rattle.std.proofs.Math.Path.{refl, sym, ap, ap₂}
use Rattle.std.proofs.Common.{◌∙◌}
use Rattle.std.proofs.Math.Bool.{true, false}
use Prim.Native.Nat.{ℕ, zero, suc, ◌+◌, ◌-◌, ◌*◌, ◌≤◌, ◌<◌}
use native.Mathlib.Omega.{arith}
use Rattle.std.proofs.Math.Dec.{eqb}
use Rattle.std.proofs.Math.ListN.{get_or}
use Rattle.std.proofs.lemmas.List.Edits.{sets}
use borrow.Author.Tests.{eq-eqb, ne_eqb}
use Rattle.laws.specs.Bools.{pick}
use Rattle.laws.specs.Decides.{Decides}
use Rattle.laws.specs.Lists.{at}
use Rattle.laws.specs.ListLaws.{at_there, at_none}
use Rattle.units.specs.Types.{Payload, noop, same_payload}
use Rattle.units.specs.declared.NodeId.{NodeId}
use Rattle.units.specs.declared.LogIndex.{LogIndex}
use Rattle.units.specs.declared.SimTime.{SimTime}
use Rattle.layout.specs.Tables.{Holds, Held, append}
use Rattle.layout.specs.TableLaws.{held_rows, append_held}
use Rattle.layout.specs.Parts.{lent_row, row_lent}
use Rattle.layout.specs.Marked.{words_for}
use Rattle.layout.specs.Payload.{payload}
use Rattle.layout.specs.MarkedLaws.{payloads_same}
use Rattle.layout.specs.Applied.{applied}
use Rattle.checks.specs.declared.Check.TheVariants.{StateMachineSafety}
use Rattle.checks.specs.declared.applied.AppliedSeen.TheVariants.{Same, Other, Next, Further}
use Rattle.checks.specs.Checks.{Checker, report_if, compare_applied, record_applied}
use Rattle.checks.specs.Asked.{append_if}
use Rattle.checks.specs.Applied.{place_seen, applied_seen, applied_after, AsksApplied, AppendsApplied}

-- ---- the answer says what the checks become

module _ (c : Checker) (time : SimTime) (server : NodeId) (x : Payload) where
  place_after : (o : Option Payload) (place : ℕ)
      → compare_applied o c time server place x ≡ applied_after (place_seen o (eqb place (length c.applied)) x) c time server (suc place) x
  unfolding place_seen
  place_after (Some first) place = by (same_payload first x)
    where
      by : (t : Bool)
          → report_if (not t) c time StateMachineSafety (server.0 ∷ suc place ∷ [])
          ≡ applied_after (pick t Same Other) c time server (suc place) x
      by true = refl
      by false = refl
  place_after None place = by (eqb place (length c.applied))
    where
      by : (t : Bool) → append_if t x c ≡ applied_after (pick t Next Further) c time server (suc place) x
      by true = refl
      by false = refl

  pub applied_after_lem : (index : ℕ)
      → record_applied index c time server x ≡ applied_after (applied_seen c.applied index x) c time server index x
  unfolding applied_seen
  applied_after_lem zero = refl
  applied_after_lem (suc place) = place_after (at c.applied place) place

-- ---- ask

by_place : (xs : List Payload) (i : ℕ) (x : Payload) → (i ≡ 0 → ⊥)
    → applied_seen xs i x ≡ place_seen (at xs (i - 1)) (eqb (i - 1) (length xs)) x
unfolding applied_seen
by_place xs zero x h = absurd (h refl)
by_place xs (suc place) x h =
    let e : suc place - 1 ≡ place = omega arith in
    ap (λ (i : ℕ). place_seen (at xs i) (eqb i (length xs)) x) (sym e)

module _ (p n : ℕ) (b content : List ℕ) (index : LogIndex) where
  pub index_zero : index.0 ≡ 0 → AsksApplied p index content n Further b
  unfolding applied_seen
  index_zero e = record { to = λ N xs x k h. sym (ap (λ (i : ℕ). applied_seen xs i x) e) }

  module _ (z : index.0 ≡ 0 → ⊥) where
    pub place_further : n < index.0 - 1 → AsksApplied p index content n Further b
    unfolding place_seen
    place_further l = record {
      to = λ N xs x k h.
          let e : eqb (index.0 - 1) (length xs)
          ≡ false = ne_eqb (index.0 - 1) (length xs) (λ u. absurd (omega (arith, u, (held_rows h).count))) in
          sym (by_place xs index.0 x z
          ∙ ap₂ (λ (o : Option Payload) (t : Bool). place_seen o t x) (at_none xs (index.0 - 1) (omega (arith, (held_rows h).count))) e);
    }

    pub place_next : index.0 - 1 ≡ n → AsksApplied p index content n Next b
    unfolding place_seen
    place_next l = record {
      to = λ N xs x k h.
          let e : eqb (index.0 - 1) (length xs) ≡ true = eq-eqb _ _ (l ∙ sym (held_rows h).count) in
          sym (by_place xs index.0 x z
          ∙ ap₂ (λ (o : Option Payload) (t : Bool). place_seen o t x) (at_none xs (index.0 - 1) (omega (arith, (held_rows h).count))) e);
    }

    module _ (l : index.0 - 1 ≤ n) (d : index.0 - 1 ≡ n → ⊥) (o : ℕ) (a : o ≡ (index.0 - 1) * (1 + words_for p)) (q : Bool)
        (y : Decides q (lent_row o (1 + words_for p) b ≡ content)) where
      row_seen : (N : ℕ) (xs : List Payload) (x : Payload) → Holds (payload p) content x → Held (applied p) N n b xs
          → pick q Same Other ≡ applied_seen xs index.0 x
      unfolding place_seen
      row_seen N xs x k h =
          let i : index.0 - 1 < n = omega arith in
          let first : Payload = get_or xs (index.0 - 1) noop in
          let e : q
          ≡ same_payload first x = payloads_same p (lent_row o (1 + words_for p) b) content first x q
          (row_lent h (index.0 - 1) o noop i a) k y in
          ap (λ (t : Bool). pick t Same Other) e
          ∙ sym (by_place xs index.0 x z
          ∙ ap (λ (u : Option Payload). place_seen u (eqb (index.0 - 1) (length xs)) x)
          (at_there xs (index.0 - 1) noop (omega (arith, (held_rows h).count))))

      pub row_same : q ≡ true → AsksApplied p index content n Same b
      row_same t = record { to = λ N xs x k h. sym (ap (λ (u : Bool). pick u Same Other) t) ∙ row_seen N xs x k h }

      pub row_other : q ≡ false → AsksApplied p index content n Other b
      row_other t = record { to = λ N xs x k h. sym (ap (λ (u : Bool). pick u Same Other) t) ∙ row_seen N xs x k h }

pub ruleset applied_asks = (index_zero, place_further, place_next, row_same, row_other)

-- ---- append

pub applied_appends : (p n : ℕ) (b b' content : List ℕ) → 8 * (n * (1 + words_for p) + (1 + words_for p)) ≤ length b
    → b' ≡ sets b (8 * (n * (1 + words_for p))) content
    → AppendsApplied p n content b b'
unfolding append
applied_appends p n b b' content r e = record {
  to = λ x k. record {
    to = λ N xs h. append_held h (omega arith) x b' k.good refl (e
        ∙ ap (sets b (8 * (n * (1 + words_for p)))) k.is);
  };
}
