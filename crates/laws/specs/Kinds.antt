-- Kinds and their numbers: a kind is read back from its number, and from a number that is none nothing is. Assumes nothing.
use Rattle.std.proofs.Math.Path.{◌≡◌, refl, sym, ap}
use Rattle.std.proofs.Common.{◌∙◌, arith, eqb-true, ne_eqb}
use Rattle.std.specs.Prelude.{Bool, ℕ}
use Rattle.std.proofs.Math.Bool.{true, false}
use mathlib.Core.List.{List, [], ◌∷◌}
use Rattle.std.proofs.Math.Dec.{eqb}
use Rattle.laws.specs.Bools.{pick}

-- The first kind of a list with a number, as an answer; `none` where no kind has it.
unfoldable pub kind_of : {K A : Type 0} → (K → ℕ) → (K → A) → A → List K → ℕ → A
kind_of number some none [] n = none
kind_of number some none (k ∷ ks) n = pick (eqb n (number k)) (some k) (kind_of number some none ks n)

-- The two round trips: a kind's number gives the kind, and a number that gives a kind is that kind's.
pub record Numbered {K A : Type 0} (number : K → ℕ) (some : K → A) (of : ℕ → A) : Type 0 where
  pub of_number : (k : K) → of (number k) ≡ some k
  pub number_of : (n : ℕ) (k : K) → of n ≡ some k → number k ≡ n

module _ {K A : Type 0} (number : K → ℕ) (some : K → A) (none : A) where
  -- a number that is no kind's
  pub no_kind : (n : ℕ) → none ≡ kind_of number some none [] n
  unfolding kind_of
  no_kind n = refl

  pub not_kind : (k : K) (ks : List K) (n : ℕ) (a : A) → (n ≡ number k → ⊥) → a ≡ kind_of number some none ks n → a ≡ kind_of number some none (k ∷ ks) n
  unfolding kind_of
  not_kind k ks n a h e = rw (ne_eqb n (number k) h) e

module _ {K A : Type 0} (number : K → ℕ) (some : K → A) (none : A) (same : (j k : K) → some j ≡ some k → j ≡ k) (apart : (k : K) → none ≡ some k → ◌≡◌ {A = ℕ} 0 1) where
  number_of : (ks : List K) (n : ℕ) (k : K) → kind_of number some none ks n ≡ some k → number k ≡ n
  unfolding kind_of
  number_of [] n k e = let z : ◌≡◌ {A = ℕ} 0 1 = apart k e in absurd (omega arith)
  number_of (j ∷ ks) n k e = by (eqb n (number j)) refl (number_of ks n k) e
    where
      by : (b : Bool) → eqb n (number j) ≡ b → (kind_of number some none ks n ≡ some k → number k ≡ n) → pick b (some j) (kind_of number some none ks n) ≡ some k → number k ≡ n
      by true t later e = ap number (sym (same j k e)) ∙ sym (eqb-true n (number j) t)
      by false t later e = later e

  -- a list that has every kind under its own number makes both
  pub numbered : (ks : List K) → ((k : K) → kind_of number some none ks (number k) ≡ some k) → Numbered number some (kind_of number some none ks)
  numbered ks each = record { of_number = each; number_of = number_of ks }

-- a number that is a kind's
pub kind_is : {K A : Type 0} {number : K → ℕ} {some : K → A} {of : ℕ → A} → Numbered number some of → (n : ℕ) (k : K) → n ≡ number k → some k ≡ of n
kind_is numbers n k e = rw e (sym (numbers.of_number k))
