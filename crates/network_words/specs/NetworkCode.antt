-- The network in five words: loss, duplication, delay factor, blocked links, the generator's state. The base delay is the settings'
-- one-way delay and is not
-- stored: it is the code's argument, beside the number of servers. Assumes nothing.
use Rattle.std.specs.Prelude.{◌≡◌, refl, Bool, true, List, ℕ, ◌^◌, ltb, eqb}
use Rattle.std.proofs.Common.{sym, ap, ◌∙◌, arith, lt-ltb, eqb-true, eq-eqb}
use Rattle.laws.specs.Bools.{◌and◌, and_left}
use Rattle.laws.proofs.BoolLaws.{and_right, and_both}
use Rattle.network.specs.declared.Network.{Network}
use Rattle.network.specs.Network.{network_in_range}
use Rattle.network.specs.Ranges.{in_range_lem}
use Rattle.layout.specs.Code.{Code, word, pair}
use Rattle.layout.specs.Coded.{Telling, coded}
use Rattle.network_words.specs.Links.{links}

-- The five numbers, the links as bits.
abbrev pub Numbers : Type 0
Numbers = ℕ × (ℕ × (ℕ × (List Bool × ℕ)))

-- How they lie in five words.
abbrev pub numbers : Code Numbers
numbers = pair word (pair word (pair word (pair links word)))

-- A network as its numbers.
abbrev pub to_numbers : Network → Numbers
to_numbers n = (n.loss_ppm, (n.duplicate_ppm, (n.delay_factor, (n.blocked, n.rng.state))))

-- The network of five numbers, with base delay d.
abbrev pub to_network : ℕ → Numbers → Network
to_network d x =
    record {
      base_delay = record { 0 = d };
      loss_ppm = x.0;
      duplicate_ppm = x.1.0;
      delay_factor = x.1.1.0;
      blocked = x.1.1.1.0;
      rng = record { state = x.1.1.1.1 };
    }

-- The networks that have a content in a cluster of S servers: the base delay is d, every field is in its range, the generator's state is
-- of 64 bits.
abbrev pub network_good : ℕ → ℕ → Network → Bool
network_good S d n = eqb n.base_delay.0 d and (network_in_range S n and ltb n.rng.state (2 ^ 64))

module _ (S d : ℕ) where
  pub network_back : (n : Network) → network_good S d n ≡ true → to_network d (to_numbers n) ≡ n
  network_back n h = ap (λ (e : ℕ). to_network e (to_numbers n)) (sym (eqb-true _ d (and_left _ _ h)))

  good_numbers : (n : Network) → network_good S d n ≡ true → numbers.good (to_numbers n) ≡ true
  good_numbers n h =
      let i = in_range_lem S n (and_left _ _ (and_right _ _ h)) in
      and_both _ _ (lt-ltb n.loss_ppm (2 ^ 64) (omega (arith, i.loss)))
      (and_both _ _ (lt-ltb n.duplicate_ppm (2 ^ 64) (omega (arith, i.duplicate)))
      (and_both _ _ (lt-ltb n.delay_factor (2 ^ 64) (omega (arith, i.factor))) (and_both _ _ (eq-eqb _ 64 i.links) (and_right _ _ (and_right _ _ h)))))

  pub telling : Telling numbers to_numbers (to_network d) (network_good S d) (λ x. network_in_range S (to_network d x))
  telling = record {
    fits_good = good_numbers;
    fits_test = λ n h. ap (network_in_range S) (network_back n h) ∙ and_left _ _ (and_right _ _ h);
    to_from = network_back;
    test_fits = λ x g t. and_both _ _ (eq-eqb d d refl) (and_both _ _ t (and_right _ _ (and_right _ _ (and_right _ _ (and_right _ _ g)))));
    from_to = λ x t. refl;
  }

  -- How the network of a cluster of S servers with base delay d lies in five words.
  abbrev pub network_code : Code Network
  network_code = coded numbers to_numbers (to_network d) (network_good S d) (λ x. network_in_range S (to_network d x)) telling
