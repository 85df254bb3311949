-- Laws of the generator. Assumes nothing.
use Rattle.std.specs.Prelude.{◌≡◌, ℕ, zero, suc, ◌+◌, ◌*◌, ◌/◌, ◌%◌, ◌^◌, ◌<◌, Bool, true, false, ◌==◌, ◌≢◌, refl, None, Some}
use Rattle.std.proofs.Common.{ap, ◌∙◌, lt_of_le_of_lt, mod-lt, div-lt_iff_lt-mul, mul-lt-mul_of_pos_right, zero-add, suc-add, arith, lit<, pow_pos, ne_eqb}
use Rattle.std.proofs.Math.Nat.{mod-add-mod}
use Rattle.std.proofs.Math.Arith.{lt-one}
use Rattle.std.proofs.lemmas.Nat.{xor_lt, shr_le}
use Rattle.laws.specs.Bools.{pick}
use Rattle.rng.specs.declared.Rng.{Rng}
use Rattle.rng.specs.declared.Drawn.{Drawn}
use Rattle.rng.specs.Rng.{DrawnBelow, golden, wrapping_mul, xor_shift, mix, moved, next_u64, under, below, bounded_number, below_number, after}

-- A draw's value and the state after it fit 64 bits.
xor_shift_lt : (k z : ℕ) → z < 2 ^ 64 → xor_shift k z < 2 ^ 64
xor_shift_lt k z h = xor_lt 64 z (z / 2 ^ k) h (lt_of_le_of_lt (shr_le z k) h)

pub value_lt : (g : Rng) → (next_u64 g).value < 2 ^ 64
unfolding next_u64 mix
value_lt g =
    let z₁ = wrapping_mul (xor_shift 30 (moved g).state) 0xBF58_476D_1CE4_E5B9 in
    let z₂ = wrapping_mul (xor_shift 27 z₁) 0x94D0_49BB_1331_11EB in
    xor_shift_lt 31 z₂ (mod-lt _ (pow_pos 64))

pub state_lt : (g : Rng) → (next_u64 g).next.state < 2 ^ 64
unfolding next_u64
state_lt g = omega arith

-- A draw below a positive bound is below it, and is one draw.
pub under_lt : (g : Rng) (bound : ℕ) → 0 < bound → (under g bound).value < bound
unfolding under
under_lt g bound h = (div-lt_iff_lt-mul (pow_pos 64)).1 (omega (arith, mul-lt-mul_of_pos_right (value_lt g) h))

pub under_after : (g : Rng) (bound : ℕ) → (under g bound).next ≡ after 1 g
unfolding under
under_after g bound = refl

-- A draw below a bound that is not zero is one below a positive bound.
pub below_positive : (g : Rng) (bound : ℕ) (d : Drawn) → (bound ≢ 0) → d ≡ under g bound
    → record { value = Some d.value; next = d.next } ≡ below g bound
unfolding below
below_positive g bound d n e = simp (ne_eqb bound 0 n, e)

-- The number of what a draw below a bound answers.
pub below_number_lem : (g : Rng) (bound : ℕ) → bounded_number (below g bound).value ≡ below_number bound
unfolding below below_number
below_number_lem g bound = by (bound == 0)
  where
    none : DrawnBelow
    none = record { value = None; next = g }

    some : DrawnBelow
    some = record { value = Some (under g bound).value; next = (under g bound).next }

    by : (t : Bool) → bounded_number (pick t none some).value ≡ pick t 9 0
    by true = refl
    by false = refl

-- A positive bound is given a number below it.
pub below_lt : (g : Rng) (bound : ℕ) → 0 < bound → (v : ℕ) → (below g bound).value ≡ Some v → v < bound
below_lt g bound h v e =
    let positive : bound ≡ 0 → ⊥ = λ z. omega arith in
    let drawn : Some (under g bound).value ≡ Some v = ap (λ (d : DrawnBelow). d.value) (below_positive g bound (under g bound) positive refl) ∙ e in
    let same : (under g bound).value ≡ v = cc in
    omega (arith, under_lt g bound h)

-- Below 1 there is only 0.
pub below_one : (g : Rng) → (below g 1).value ≡ Some 0
unfolding below
below_one g = ap Some (lt-one (under_lt g 1 (lit< tt)))

-- One draw moves the state by `golden`.
pub moves : (g : Rng) → (next_u64 g).next.state ≡ (g.state + golden) % 2 ^ 64
unfolding next_u64
moves g = refl

-- So many draws move it by so many times `golden`.
pub after_state : (n : ℕ) (g : Rng) → g.state < 2 ^ 64 → (after n g).state ≡ (g.state + n * golden) % 2 ^ 64
after_state zero g h = omega arith
after_state (suc n) g h =
    let sum : g.state + golden + n * golden ≡ g.state + suc n * golden = omega arith in
    rw (after_state n (next_u64 g).next (state_lt g), moves, mod-add-mod, sum)

-- Draws one after the other.
pub after_add : (m n : ℕ) (g : Rng) → after (m + n) g ≡ after n (after m g)
after_add zero n g = rw zero-add
after_add (suc m) n g = rw suc-add (after_add m n (next_u64 g).next)
