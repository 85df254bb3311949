-- Laws of faults as numbers: numbers to fault and back, and the tests of ranges. Assumes nothing.
use Rattle.std.specs.Prelude.{◌≡◌, Bool, ◌&&◌, List, [], ◌∷◌, get_or, Option, None, Some}
use Rattle.std.proofs.Math.Path.{refl, sym}
use Rattle.std.proofs.Common.{ap, ◌∙◌}
use Rattle.std.proofs.Math.Bool.{true, false}
use Prim.Native.Nat.{ℕ, zero, suc, ◌/◌, ◌%◌, ◌^◌, ◌≤◌, ◌<◌, min}
use native.Mathlib.Omega.{arith}
use Rattle.std.proofs.Math.Dec.{ltb, eqb, leb}
use Rattle.std.proofs.lemmas.Option.{none-some}
use Rattle.std.proofs.Math.Nat.{div-div-eq-div-mul, div-eq_of_lt, lt_of_lt_of_le, pow-le-pow_right}
use Rattle.std.proofs.lemmas.Bool.{leb-false}
use Rattle.std.specs.Bool.{then_some}
use Rattle.std.specs.List.{list_all}
use Rattle.std.specs.Int.{w64, to_le_bytes}
use borrow.Author.Tests.{eqb-true, leb-true}
use Rattle.laws.specs.Bools.{first_true, second_true, ◌and◌}
use Rattle.laws.proofs.BoolLaws.{code_and}
use Rattle.faults.specs.declared.Fault.{Fault}
use Rattle.faults.specs.declared.Fault.TheVariants.{Crash, CrashDuringNextInput, Restart, CrashLeader, Partition, Block, Unblock, HealLinks, SetLoss, SetDuplication, SetDelayFactor, HealAll}
use Rattle.faults.specs.Fault.{fault_kind, fault_first, fault_second, faults_of, fault_of, groups_in, within_limits}

-- The fault of a fault's numbers is the fault, where its numbers are within limits.
pub fault_of_numbers : (f : Fault) → within_limits f ≡ true → fault_of (fault_kind f) (fault_first f) (fault_second f) ≡ Some f
unfolding fault_of
fault_of_numbers (Crash server) h = refl
fault_of_numbers (CrashDuringNextInput server) h = refl
fault_of_numbers (Restart server) h = refl
fault_of_numbers (CrashLeader downtime) h = refl
fault_of_numbers (Partition groups) h = refl
fault_of_numbers (Block from to) h = refl
fault_of_numbers (Unblock from to) h = refl
fault_of_numbers HealLinks h = refl
fault_of_numbers (SetLoss rate) h = simp h
fault_of_numbers (SetDuplication rate) h = simp h
fault_of_numbers (SetDelayFactor factor) h = refl
fault_of_numbers HealAll h = refl

-- Three numbers that are those of a fault.
pub record Numbers (k a b : ℕ) (f : Fault) : Type 0 where
  pub kind : fault_kind f ≡ k
  pub first : fault_first f ≡ a
  pub second : fault_second f ≡ b

-- What holds of each entry of a list and its place, and of the default at every place, holds at every place.
Entries : (ℕ → Option Fault → Type 0) → List (Option Fault) → Type 0
Entries P [] = Unit {0}
Entries P (x ∷ xs) = P 0 x × Entries (λ i. P (suc i)) xs

entries_at : (P : ℕ → Option Fault → Type 0) (d : Option Fault) → ((i : ℕ) → P i d) → (xs : List (Option Fault)) → Entries P xs
    → (k : ℕ) → P k (get_or xs k d)
unfolding Entries
entries_at P d other [] e k = other k
entries_at P d other (x ∷ xs) e zero = e.0
entries_at P d other (x ∷ xs) e (suc k) = entries_at (λ i. P (suc i)) d (λ i. other (suc i)) xs e.1 k

module _ (a b : ℕ) where
  numbered : (k : ℕ) (t : Bool) (g : Fault) → (t ≡ true → Numbers k a b g) → (f : Fault) → then_some t g ≡ Some f → Numbers k a b f
  numbered k true g n f e = let same : g ≡ f = cc in rw (← same) (n refl)
  numbered k false g n f e = absurd (none-some f e)

  -- one number; none; a rate; two numbers
  one : (k : ℕ) (g : Fault) → fault_kind g ≡ k → fault_first g ≡ a → fault_second g ≡ 0 → (f : Fault) → then_some (eqb b 0) g ≡ Some f
      → Numbers k a b f
  one k g e₀ e₁ e₂ = numbered k (eqb b 0) g (λ t. record { kind = e₀; first = e₁; second = e₂ ∙ sym (eqb-true b 0 t) })

  bare : (k : ℕ) (g : Fault) → fault_kind g ≡ k → fault_first g ≡ 0 → fault_second g ≡ 0 → (f : Fault)
      → then_some (eqb a 0 && eqb b 0) g ≡ Some f → Numbers k a b f
  bare k g e₀ e₁ e₂ =
      numbered k (eqb a 0 && eqb b 0) g
      (λ t. record { kind = e₀; first = e₁ ∙ sym (eqb-true a 0 (first_true (eqb a 0) (eqb b 0) t)); second = e₂ ∙ sym (eqb-true b 0 (second_true (eqb a 0) (eqb b 0) t)) })

  rate : (k : ℕ) (g : Fault) → fault_kind g ≡ k → fault_first g ≡ a → fault_second g ≡ 0 → (f : Fault)
      → then_some (ltb a (2 ^ 32) && eqb b 0) g ≡ Some f → Numbers k a b f
  rate k g e₀ e₁ e₂ = numbered k (ltb a (2 ^ 32) && eqb b 0) g (λ t. record { kind = e₀; first = e₁; second = e₂ ∙ sym (eqb-true b 0 (second_true (ltb a (2 ^ 32)) (eqb b 0) t)) })

  two : (k : ℕ) (g : Fault) → fault_kind g ≡ k → fault_first g ≡ a → fault_second g ≡ b → (f : Fault) → Some g ≡ Some f → Numbers k a b f
  two k g e₀ e₁ e₂ = numbered k true g (λ t. record { kind = e₀; first = e₁; second = e₂ })

  entries : Entries (λ k x. (f : Fault) → x ≡ Some f → Numbers k a b f) (faults_of a b)
  unfolding Entries
  entries = (
    one 0 _ refl refl refl,
    (
      one 1 _ refl refl refl,
      (
        one 2 _ refl refl refl,
        (
          one 3 _ refl refl refl,
          (
            one 4 _ refl refl refl,
            (
              two 5 _ refl refl refl,
              (
                two 6 _ refl refl refl,
                (
                  bare 7 _ refl refl refl,
                  (
                    rate 8 _ refl refl refl,
                    (
                      rate 9 _ refl refl refl,
                      (one 10 _ refl refl refl, (bare 11 _ refl refl refl, tt)),
                    ),
                  ),
                ),
              ),
            ),
          ),
        ),
      ),
    ),
  )

-- The numbers of the fault of three numbers are those numbers.
pub numbers_of_fault : (k a b : ℕ) (f : Fault) → fault_of k a b ≡ Some f → Numbers k a b f
unfolding fault_of
numbers_of_fault k a b f e = entries_at (λ i x. (f : Fault) → x ≡ Some f → Numbers i a b f) None (λ i f e. absurd (none-some f e))
    (faults_of a b) (entries a b) k f e

-- An arm of the code.
pub arm : (kind a b i : ℕ) (r : Option Fault) → kind ≡ i → r ≡ get_or (faults_of a b) i None → r ≡ fault_of kind a b
unfolding fault_of
arm kind a b i r e h = rw e h

-- A byte has no bit past the eighth.
byte_past : (n servers : ℕ) → n % 256 / 2 ^ min servers 8 ≡ n % 256 / 2 ^ servers
byte_past n servers = by (leb servers 8) refl
  where
    by : (t : Bool) → leb servers 8 ≡ t → n % 256 / 2 ^ min servers 8 ≡ n % 256 / 2 ^ servers
    by true e = let m : min servers 8 ≡ servers = omega (arith, leb-true servers 8 e) in ap (λ (k : ℕ). n % 256 / 2 ^ k) m
    by false e =
        let past : 8 < servers = omega (arith, leb-false servers 8 e) in
        let m : min servers 8 ≡ 8 = omega arith in
        let low : n % 256 / 2 ^ 8 ≡ 0 = omega arith in
        let most : 2 ^ 8 ≤ 2 ^ servers = pow-le-pow_right {n = 2} (omega arith) {i = 8} {j = servers} (omega arith) in
        let high : n % 256 / 2 ^ servers ≡ 0 = div-eq_of_lt (lt_of_lt_of_le {m = 2 ^ 8} (omega arith) most) in
        ap (λ (k : ℕ). n % 256 / 2 ^ k) m ∙ low ∙ sym high

-- The groups of a word are its bytes, the first lowest.
pub group_bytes : (groups servers : ℕ)
    → list_all (λ group. eqb (group / 2 ^ min servers 8) 0) (to_le_bytes w64 groups) ≡ groups_in 8 groups servers
unfolding groups_in
group_bytes groups servers = simp (byte_past, code_and, div-div-eq-div-mul)

-- A conjunction of two answers.
pub both_is : (t u x y : Bool) → t ≡ x → u ≡ y → (t && u) ≡ (x and y)
both_is t u x y e e' = rw (e, e') (code_and x y)
