-- What the proofs of leader completeness cite: the payload at each index of a log against the applied one. Assumes nothing.
use Rattle.std.specs.Prelude.{◌≡◌, refl, Bool, true, false, not, List, ℕ, suc, ◌+◌, ◌*◌, ◌≤◌, ◌<◌, get_or, drop, Option, None, Some}
use Rattle.std.proofs.Math.Path.{sym, ap}
use Rattle.std.proofs.Common.{◌∙◌, add-one, arith, drop_of_length-le, drop-cons}
use Rattle.std.proofs.Math.ListN.{get_or-eq_default}
use Rattle.std.proofs.lemmas.Bool.{not-true, not-false}
use Rattle.laws.specs.Bools.{pick}
use Rattle.laws.specs.Decides.{Decides}
use Rattle.units.specs.Types.{Payload, noop, Entry}
use Rattle.units.specs.declared.LogIndex.{LogIndex}
use Rattle.layout.specs.Tables.{Holds, Held}
use Rattle.layout.specs.Contents.{decides_same}
use Rattle.layout.specs.TableLaws.{held_rows}
use Rattle.layout.specs.Parts.{lent_row, row_lent}
use Rattle.layout.specs.Marked.{words_for}
use Rattle.layout.specs.Payload.{payload}
use Rattle.layout.specs.MarkedLaws.{payloads_same}
use Rattle.layout.specs.Applied.{applied}
use Rattle.raft_log.specs.Log.{Log, entry_at}
use Rattle.raft_log.specs.Places.{places}
use Rattle.raft_log.specs.Payloads.{payload_in, payload_code, place_start, payload_held}
use Rattle.checks.specs.Checks.{holds, first_missing}
use Rattle.checks_on_status.specs.OnStatus.{HoldsApplied, FindsMissing, AsksMissing}

-- ---- holds

-- rows that are compared: that of a place, and that of a payload
row_holds : (p : ℕ) (u v : List ℕ) (o : Option Entry) (x : Payload) (r : Bool) → Holds (payload_code p) u (payload_in o)
    → Holds (payload p) v x → Decides r (u ≡ v) → r ≡ holds o x
row_holds p u v None x r h k d = by r (decides_same h (record { good = k.good; is = k.is }) d)
  where
    by : (t : Bool) → Decides t (None ≡ Some x) → t ≡ false
    by true c = let e : None ≡ Some x = c.yes refl in absurd cc
    by false c = refl
row_holds p u v (Some e) x r h k d = payloads_same p u v e.payload x r (record { good = h.good; is = h.is }) k d

module _ (p l m i : ℕ) (b a : List ℕ) where
  pub holds_past : l ≤ i → HoldsApplied p l m i false b a
  unfolding entry_at
  holds_past g = record {
    to = λ L A log x h k. sym
        (ap (λ (o : Option Entry). holds o (get_or x i noop)) (get_or-eq_default log None {n = i} (omega (arith, (held_rows h).count))));
  }

  pub holds_row : (at at₂ : ℕ) (r : Bool) → i < m → i < l → at ≡ i * (1 + words_for p + 1) → at₂ ≡ i * (1 + words_for p)
      → Decides r (lent_row at (1 + words_for p) b ≡ lent_row at₂ (1 + words_for p) a)
      → HoldsApplied p l m i r b a
  unfolding entry_at
  holds_row at at₂ r hm hl e e₂ d = record {
    to = λ L A log x h k.
        row_holds p (lent_row at (1 + words_for p) b) (lent_row at₂ (1 + words_for p) a) (get_or log i None) (get_or x i noop) r
        (payload_held p l h i at hl (place_start p i at e))
        (row_lent k i at₂ noop hm e₂) d;
  }

pub ruleset holding = (holds_past, holds_row)

-- ---- first_missing: none is missing before index i + 1

pub record Seeking (p l m : ℕ) (b a : List ℕ) (i : ℕ) : Type 0 where
  pub upto : i ≤ m
  pub left : (L A : ℕ) (log : Log) (x : List Payload) → Held (places p) L l b log → Held (applied p) A m a x
      → first_missing log (suc i) (drop i x) ≡ first_missing log 1 x

pub seeking_start : (p l m : ℕ) (b a : List ℕ) → Seeking p l m b a 0
seeking_start p l m b a = record { upto = omega arith; left = λ L A log x h k. refl }

module _ {p l m : ℕ} {b a : List ℕ} {i : ℕ} (s : Seeking p l m b a i) where
  module _ (g : i < m) {r : Bool} (q : HoldsApplied p l m i r b a) where
    split : (L A : ℕ) (log : Log) (x : List Payload) → Held (places p) L l b log → Held (applied p) A m a x
        → pick r (first_missing log (suc (suc i)) (drop (suc i) x)) (Some (record { 0 = suc i })) ≡ first_missing log 1 x
    unfolding first_missing
    split L A log x h k =
        ap (λ (t : Bool). pick t (first_missing log (suc (suc i)) (drop (suc i) x)) (Some (record { 0 = suc i }))) (q.to L A log x h k)
        ∙ ap (first_missing log (suc i)) (sym (drop-cons x i noop (omega (arith, (held_rows k).count)))) ∙ s.left L A log x h k

    pub seeking_turn : not r ≡ false → Seeking p l m b a (i + 1)
    seeking_turn t = record {
      upto = omega arith;
      left = λ L A log x h k.
          ap (λ (j : ℕ). first_missing log (suc j) (drop j x)) (add-one i)
          ∙ sym (ap (λ (t : Bool). pick t (first_missing log (suc (suc i)) (drop (suc i) x)) (Some (record { 0 = suc i }))) (not-false r t))
          ∙ split L A log x h k;
    }

    pub seeking_found : not r ≡ true → FindsMissing p l m (Some (record { 0 = i + 1 })) b a
    seeking_found t = record {
      to = λ L A log x h k.
          ap (λ (j : ℕ). Some (record { 0 = j })) (add-one i)
          ∙ sym (ap (λ (t : Bool). pick t (first_missing log (suc (suc i)) (drop (suc i) x)) (Some (record { 0 = suc i }))) (not-true r t))
          ∙ split L A log x h k;
    }

  pub seeking_done : m ≤ i → FindsMissing p l m None b a
  unfolding first_missing
  seeking_done g = record {
    to = λ L A log x h k.
        ap (first_missing log (suc i)) (sym (drop_of_length-le x {i = i} (omega (arith, (held_rows k).count)))) ∙ s.left L A log x h k;
  }

pub ruleset seeking = (seeking_start, seeking_turn, seeking_found, seeking_done)

-- ---- where it is asked

module _ (asked : Bool) (p l m : ℕ) (b a : List ℕ) where
  pub not_asked : asked ≡ false → AsksMissing asked p l m None b a
  not_asked t = record { to = λ L A log x h k. rw t }

  pub is_asked : (r : Option LogIndex) → asked ≡ true → FindsMissing p l m r b a → AsksMissing asked p l m r b a
  is_asked r t q = record { to = λ L A log x h k. rw t (q.to L A log x h k) }

pub ruleset asking = (not_asked, is_asked)
