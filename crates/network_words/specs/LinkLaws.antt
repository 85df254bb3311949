-- What the proofs of the two loops over the links cite: how each starts, one turn, and how it ends. Assumes nothing.
use Rattle.std.specs.Prelude.{◌≡◌, refl, length}
use Rattle.std.proofs.Math.Path.{sym, ap}
use Rattle.std.proofs.Common.{◌∙◌, length-drop, drop_of_length-le, pow_mono, Fits}
use Rattle.std.proofs.Math.Bool.{Bool, true, false}
use Rattle.std.proofs.Math.Nat.{div-div-eq-div-mul, pow-suc}
use mathlib.Core.List.{List, ◌∷◌}
use Prim.Native.Nat.{ℕ, zero, suc, ◌+◌, ◌-◌, ◌*◌, ◌/◌, ◌%◌, ◌^◌, ◌≤◌, ◌<◌}
use native.Mathlib.Omega.{arith}
use Rattle.std.proofs.Math.Dec.{eqb}
use Rattle.std.proofs.Math.ListN.{get_or, drop}
use Rattle.std.proofs.Math.Seq.{drop-cons}
use Rattle.std.specs.Int.{w64, from_bool}
use Rattle.laws.specs.Bools.{pick}
use Rattle.laws.specs.Lists.{list_from}
use Rattle.network_words.specs.Links.{from_bits, bits, from_bits_lt, bit_small}

-- a link as a number
bool_bit : (b : Bool) → from_bool b ≡ pick b 1 0
bool_bit true = refl
bool_bit false = refl

-- ---- word_of, from the last link down: the word is the number of the links from k on

pub record Gathered (links : List Bool) (k word : ℕ) : Type 0 where
  pub is : word ≡ from_bits (drop k links)
  pub long : length links ≡ 64
  pub upto : k ≤ 64

pub gathered_start : (links : List Bool) → length links ≡ 64 → Gathered links 64 0
unfolding from_bits
gathered_start links l = record { is = sym (ap from_bits (drop_of_length-le links {i = 64} (omega arith))); long = l; upto = omega arith }

module _ (links : List Bool) (k word : ℕ) (g : Gathered links k word) where
  pub gathered_done : k ≤ 0 → word ≡ from_bits links
  gathered_done h = let e : k ≡ 0 = omega arith in g.is ∙ ap (λ (j : ℕ). from_bits (drop j links)) e

  module _ (h : 0 < k) where
    half : word < 2 ^ 63
    half =
        let p : 2 ^ length (drop k links) ≤ 2 ^ 63 = pow_mono {j = 63} (omega (arith, length-drop k links, g.long)) in
        omega (arith, g.is, from_bits_lt (drop k links))

    pub twice_fits : Fits w64 (2 * word)
    twice_fits = record { fits = omega (arith, half) }

    module _ (r : ℕ) (e : r ≡ from_bool (get_or links (k - 1) false)) where
      bit : r ≡ pick (get_or links (k - 1) false) 1 0
      bit = e ∙ bool_bit (get_or links (k - 1) false)

      pub sum_fits : Fits w64 (r + 2 * word)
      sum_fits = record { fits = omega (arith, half, bit, bit_small (get_or links (k - 1) false)) }

      pub gathered_turn : Gathered links (k - 1) (r + 2 * word)
      unfolding from_bits
      gathered_turn =
          let s : suc (k - 1) ≡ k = omega arith in
          let c : drop (k - 1) links ≡ get_or links (k - 1) false ∷ drop k links =
          drop-cons links (k - 1) false (omega (arith, g.long, g.upto)) ∙ ap (λ (j : ℕ). get_or links (k - 1) false ∷ drop j links) s in
          record { is = rw (bit, g.is, c) refl; long = g.long; upto = omega (arith, g.upto) }

pub ruleset gathered = (gathered_start, gathered_done, twice_fits, sum_fits, gathered_turn)

-- ---- links_of: each link is the bit at its place

bits_from_place : (n a v : ℕ) → bits n (v / 2 ^ a) ≡ list_from a n (λ k. eqb (v / 2 ^ k % 2) 1)
unfolding bits list_from
bits_from_place zero a v = refl
bits_from_place (suc n) a v =
    let e : v / 2 ^ a / 2 ≡ v / 2 ^ suc a = div-div-eq-div-mul v (2 ^ a) 2 ∙ ap (λ (m : ℕ). v / m) (sym (pow-suc 2 a)) in
    ap (λ (bs : List Bool). eqb (v / 2 ^ a % 2) 1 ∷ bs) (ap (bits n) e ∙ bits_from_place n (suc a) v)

pub bits_by_place : (v : ℕ) → list_from 0 64 (λ k. eqb (v / 2 ^ k % 2) 1) ≡ bits 64 v
bits_by_place v = let e : v / 2 ^ 0 ≡ v = omega arith in sym (bits_from_place 64 0 v) ∙ ap (bits 64) e
