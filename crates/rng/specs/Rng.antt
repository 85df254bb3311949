-- The generator SplitMix64 (crates/consensus/src/rng.rs), with the constants of the Rust. Assumes nothing.
use Rattle.std.specs.Prelude.{ℕ, zero, suc, ◌+◌, ◌*◌, ◌/◌, ◌%◌, ◌^◌, ◌==◌, bit_xor, Option, None, Some}
use Rattle.laws.specs.Bools.{pick}
use Rattle.rng.specs.declared.Rng.{Rng}
use Rattle.rng.specs.declared.Drawn.{Drawn}

-- The number by which each draw moves the state.
abbrev pub golden : ℕ
golden = 0x9E37_79B9_7F4A_7C15

-- Multiplication modulo two to the 64 (wrapping_mul).
abbrev pub wrapping_mul : ℕ → ℕ → ℕ
wrapping_mul a b = (a * b) % 2 ^ 64

-- z ^ (z >> k).
abbrev pub xor_shift : ℕ → ℕ → ℕ
xor_shift k z = bit_xor z (z / 2 ^ k)

-- The value of a draw, from the state that the draw moved to: the last three lines of next_u64.
unfoldable pub mix : ℕ → ℕ
mix z₀ =
    let z₁ = wrapping_mul (xor_shift 30 z₀) 0xBF58_476D_1CE4_E5B9 in
    let z₂ = wrapping_mul (xor_shift 27 z₁) 0x94D0_49BB_1331_11EB in
    xor_shift 31 z₂

-- The generator of a seed (Rng::new).
abbrev pub new : ℕ → Rng
new seed = record { state = seed }

-- The generator after one draw: its state moved by `golden`, modulo two to the 64.
abbrev pub moved : Rng → Rng
moved g = record { state = (g.state + golden) % 2 ^ 64 }

-- The next 64 random bits, and the generator after the draw (next_u64).
unfoldable pub next_u64 : Rng → Drawn
next_u64 g = record { value = mix (moved g).state; next = moved g }

-- A number below a positive bound, the high half of the draw times the bound, and the generator after the draw.
unfoldable pub under : Rng → ℕ → Drawn
under g bound = record { value = ((next_u64 g).value * bound) / 2 ^ 64; next = (next_u64 g).next }

-- What a draw below a bound gives: its value, and the generator after it.
pub record DrawnBelow : Type 0 where
  pub value : Option ℕ
  pub next : Rng

-- A number below a bound, and the generator after one draw; for the bound zero no number, and the generator as it was (below).
unfoldable pub below : Rng → ℕ → DrawnBelow
below g bound =
    pick (bound == 0)
    (record { value = None; next = g })
    (record { value = Some (under g bound).value; next = (under g bound).next })

-- Document 01's number for what a draw below a bound answers.
abbrev pub bounded_number : Option ℕ → ℕ
bounded_number (Some v) = 0
bounded_number None = 9

-- Question 9 of a draw below a bound: the bound is not zero.
unfoldable pub below_number : ℕ → ℕ
below_number bound = pick (bound == 0) 9 0

-- The generator after so many draws.
abbrev pub after : ℕ → Rng → Rng
after zero g = g
after (suc n) g = after n (next_u64 g).next
