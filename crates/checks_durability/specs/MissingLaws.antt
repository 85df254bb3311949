-- What the loops of acknowledged.rt cite, and the laws by which a caller's loop over the replies checks them all. Assumes nothing.
use Rattle.std.specs.Prelude.{◌≡◌, Bool, not, ℕ, zero, suc, ◌+◌, ◌≤◌, ◌<◌, max, length, get_or, drop, Some}
use Rattle.std.proofs.Common.{sym, ◌∙◌, add-one, arith, drop_of_length-le}
use Rattle.std.proofs.Math.Path.{ap}
use mathlib.Core.List.{List, [], ◌∷◌}
use Rattle.laws.specs.Bools.{pick}
use Rattle.laws.specs.Lists.{at}
use Rattle.laws.specs.ListLaws.{at_there}
use Rattle.units.specs.Types.{Payload}
use Rattle.units.specs.declared.SimTime.{SimTime}
use Rattle.layout.specs.Tables.{Held}
use Rattle.layout.specs.TableLaws.{held_rows}
use Rattle.layout.specs.Applied.{applied}
use Rattle.checks.specs.declared.Check.TheVariants.{Durability}
use Rattle.checks.specs.Checks.{Checker, report_if, check_acknowledged, highest_of}
use Rattle.checks_durability.specs.declared.replies.Reply.{Reply}
use Rattle.checks_durability.specs.Replies.{Replied, Reads}
use Rattle.checks_durability.specs.ReplyLaws.{no_reply}
use Rattle.checks_durability.specs.Acknowledged.{acknowledged_from, place_of, is_applied, missing, Misses, CountsMissing, Highest}

-- ---- the replies from a place on

from_place : {A : Type 0} (x : List A) (i : ℕ) (a : A) → at x i ≡ Some a → drop i x ≡ a ∷ drop (suc i) x
unfolding at
from_place [] i a e = cc
from_place (y ∷ x) zero a e = cc
from_place (y ∷ x) (suc i) a e = from_place x i a e

next : (x : List Reply) (i : ℕ) (reply : Reply) → at x i ≡ Some reply → drop i x ≡ reply ∷ drop (i + 1) x
next x i reply there = from_place x i reply there ∙ ap (λ (k : ℕ). reply ∷ drop k x) (sym (add-one i))

none_left : {n i : ℕ} {s : List ℕ} {x : List Reply} → n ≤ i → Replied n s x → drop i x ≡ []
none_left {i = i} {x = x} l h = drop_of_length-le x {i = i} (omega (arith, (held_rows h.held).count))

-- ---- the commands that are missing, counted: count of those before reply i

pub record Counting (p size n m : ℕ) (s a : List ℕ) (count i : ℕ) : Type 0 where
  pub upto : i ≤ n
  pub most : count ≤ i
  pub is : (N : ℕ) (x : List Reply) (y : List Payload) → Replied n s x → Held (applied p) N m a y
      → count + missing y (acknowledged_from size (drop i x)) ≡ missing y (acknowledged_from size x)

pub counting_start : {p size n m : ℕ} {s a : List ℕ} → Counting p size n m s a 0 0
counting_start = record { upto = omega arith; most = omega arith; is = λ N x y h k. omega arith }

pub counting_turn : {p size n m : ℕ} {s a : List ℕ} {count i : ℕ} (due : Bool) (one : ℕ) → Counting p size n m s a count i → i < n
    → Misses p size n m i due s a → one ≡ pick due 1 0 → one ≤ 1
    → Counting p size n m s a (count + one) (i + 1)
unfolding missing acknowledged_from is_applied place_of
counting_turn {p} {size} {n} {m} {s} {a} {count} {i} due one c h r e l = record {
  upto = omega arith;
  most = omega (arith, c.most);
  is = λ N x y held k.
      let reply : Reply = get_or x i no_reply in
      let there : at x i ≡ Some reply = at_there x i no_reply (omega (arith, (held_rows held.held).count)) in
      let d : missing y (acknowledged_from size (drop i x)) ≡ one + missing y (acknowledged_from size (drop (i + 1) x)) =
      ap (λ (z : List Reply). missing y (acknowledged_from size z)) (next x i reply there)
      ∙ ap (λ (t : ℕ). t + missing y (acknowledged_from size (drop (i + 1) x)))
      (ap (λ (b : Bool). pick b 1 0) (sym (r.to N x y held k reply there)) ∙ sym e) in
      omega (arith, d, c.is N x y held k);
}

pub counting_done : {p size n m : ℕ} {s a : List ℕ} {count i : ℕ} → Counting p size n m s a count i → n ≤ i
    → CountsMissing p size n m count s a
unfolding missing acknowledged_from
counting_done {size = size} {count = count} c l = record {
  to = λ N x y h k. omega (arith, c.is N x y h k, ap (λ (z : List Reply). missing y (acknowledged_from size z)) (none_left l h));
  most = omega (arith, c.most, c.upto);
}

pub ruleset counting = (counting_start, counting_turn, counting_done)

-- ---- the highest index

pub record Rising (n : ℕ) (s : List ℕ) (best i : ℕ) : Type 0 where
  pub upto : i ≤ n
  pub is : (size : ℕ) (x : List Reply) → Replied n s x
      → max best (highest_of (acknowledged_from size (drop i x))) ≡ highest_of (acknowledged_from size x)

pub rising_start : {n : ℕ} {s : List ℕ} → Rising n s 0 0
rising_start = record { upto = omega arith; is = λ size x h. omega arith }

pub rising_turn : {n : ℕ} {s : List ℕ} {best i : ℕ} (reply : Reply) (b : ℕ) → Rising n s best i → i < n → Reads n i reply s
    → b ≡ max best reply.index.0 → Rising n s b (i + 1)
unfolding highest_of acknowledged_from
rising_turn {n} {s} {best} {i} reply b c h r e = record {
  upto = omega arith;
  is = λ size x held.
      let d : highest_of (acknowledged_from size (drop i x)) ≡ max reply.index.0 (highest_of (acknowledged_from size (drop (i + 1) x))) =
      ap (λ (z : List Reply). highest_of (acknowledged_from size z)) (next x i reply (r.to x held)) in
      omega (arith, d, c.is size x held);
}

pub rising_done : {n : ℕ} {s : List ℕ} {best i : ℕ} → Rising n s best i → n ≤ i → Highest n best s
unfolding highest_of acknowledged_from
rising_done {best = best} c l = record {
  to = λ size x h. omega (arith, c.is size x h, ap (λ (z : List Reply). highest_of (acknowledged_from size z)) (none_left l h));
}

pub ruleset rising = (rising_start, rising_turn, rising_done)

-- ---- a loop over the replies: what checks the rest checks the whole

module _ (size : ℕ) (time : SimTime) (x : List Reply) (i : ℕ) (c : Checker) where
  pub replies_turn : (reply : Reply) (due : Bool) → at x i ≡ Some reply → due ≡ not (is_applied size reply c.applied)
      → check_acknowledged c time (acknowledged_from size (drop i x))
      ≡ check_acknowledged (report_if due c time Durability (reply.index.0 ∷ [])) time (acknowledged_from size (drop (i + 1) x))
  unfolding check_acknowledged acknowledged_from is_applied place_of
  replies_turn reply due there e =
      ap (λ (z : List Reply). check_acknowledged c time (acknowledged_from size z)) (next x i reply there)
      ∙ ap (λ (b : Bool). check_acknowledged (report_if b c time Durability (reply.index.0 ∷ [])) time
      (acknowledged_from size (drop (i + 1) x))) (sym e)

  pub replies_done : length x ≤ i → check_acknowledged c time (acknowledged_from size (drop i x)) ≡ c
  unfolding check_acknowledged acknowledged_from
  replies_done l = ap (λ (z : List Reply). check_acknowledged c time (acknowledged_from size z)) (drop_of_length-le x {i = i} l)
