-- What the proofs cite. Assumes nothing.
use Rattle.std.specs.Prelude.{◌≡◌, refl, Bool, false, ◌&&◌, List, [], ◌∷◌, ℕ, ◌*◌, ◌%◌, ◌^◌, ◌<◌, ltb, leb, length, get_or}
use Rattle.std.proofs.Common.{ap, ◌∙◌, arith, Fits, lt-ltb, eq-eqb}
use Rattle.std.proofs.lemmas.List.Edits.{sets}
use Rattle.std.proofs.Math.Seq.{get_or-drop, drop-drop}
use Rattle.std.specs.Int.{w64}
use Rattle.laws.specs.Bools.{and_left, and_true, and_assoc}
use Rattle.laws.proofs.BoolLaws.{and_right, and_both, true_and, code_and}
use Rattle.laws.specs.Decides.{Decides, fails}
use Rattle.units.specs.declared.Duration.{Duration}
use Rattle.words.specs.Words.{bytes, W, Bytes}
use Rattle.layout.specs.Tables.{Content}
use Rattle.layout.specs.Regions.{Loads, Stores, store_whole}
use Rattle.layout.specs.Contents.{holds_length, holds_w, decides_ok}
use Rattle.network.specs.declared.Network.{Network}
use Rattle.network.specs.Network.{links_within, network_in_range}
use Rattle.network.specs.Ranges.{in_range_lem}
use Rattle.network_words.specs.Links.{from_bits, bits, bits_back, length_bits}
use Rattle.network_words.specs.NetworkCode.{network_code, network_back}

-- ---- load

-- a rate that is there has no more than 32 bits
rate_is : (r v : ℕ) → v < 2 ^ 32 → r ≡ v % 2 ^ 32 → r ≡ v
rate_is r v h e = omega arith

module _ (d : Duration) (b : List ℕ) where
  pub loads_network : (loss duplication factor word state : ℕ) (blocked : List Bool)
      → loss ≡ get_or (W b) 0 0 % 2 ^ 32 → duplication ≡ get_or (W b) 1 0 % 2 ^ 32 → factor ≡ get_or (W b) 2 0 → word ≡ get_or (W b) 3 0 → blocked ≡ bits 64 word → state ≡ get_or (W b) 4 0
      → Loads (λ S. network_code S d.0) b
      (record { base_delay = d; loss_ppm = loss; duplicate_ppm = duplication; delay_factor = factor; blocked = blocked; rng = record { state = state } })
  loads_network loss duplication factor word state blocked e₀ e₁ e₂ e₃ e e₄ = record {
    to = λ S x h.
        let i = in_range_lem S x (and_left _ _ (and_right _ _ h.good)) in
        let at : (k : ℕ) → get_or (W b) k 0 ≡ get_or ((network_code S d.0).enc x) k 0 = λ k. ap (λ (ws : List ℕ). get_or ws k 0) (holds_w h) in
        let l : loss ≡ x.loss_ppm = rate_is loss _ i.loss (e₀ ∙ ap (λ (v : ℕ). v % 2 ^ 32) (at 0)) in
        let u : duplication ≡ x.duplicate_ppm = rate_is duplication _ i.duplicate (e₁ ∙ ap (λ (v : ℕ). v % 2 ^ 32) (at 1)) in
        let f : factor ≡ x.delay_factor = e₂ ∙ at 2 in
        let w : blocked ≡ x.blocked = e ∙ ap (bits 64) (e₃ ∙ at 3) ∙ bits_back x.blocked (eq-eqb _ 64 i.links) in
        let g : state ≡ x.rng.state = e₄ ∙ at 4 in
        rw (l, u, f, w, g) (network_back S d.0 x h.good);
  }

-- ---- store

module _ (n : Network) where
  pub stores_network : (b b' : List ℕ) (word : ℕ) → length b ≡ 40 → Fits w64 n.rng.state → word ≡ from_bits n.blocked
      → b' ≡ sets b (8 * 0) (bytes (n.loss_ppm ∷ n.duplicate_ppm ∷ n.delay_factor ∷ word ∷ n.rng.state ∷ []))
      → Stores (λ S. network_code S n.base_delay.0) network_in_range n b'
  stores_network b b' word l f e s =
      let ws : List ℕ = n.loss_ppm ∷ n.duplicate_ppm ∷ n.delay_factor ∷ word ∷ n.rng.state ∷ [] in
      record {
        to = λ S h. record {
          good = and_both _ _ (eq-eqb n.base_delay.0 n.base_delay.0 refl) (and_both _ _ h (lt-ltb _ _ f.fits));
          is = s ∙ store_whole b ws l
              ∙ ap (λ (w : ℕ). bytes (n.loss_ppm ∷ n.duplicate_ppm ∷ n.delay_factor ∷ w ∷ n.rng.state ∷ [])) e;
        };
      }

-- ---- check

module _ (S d : ℕ) (b : List ℕ) where
  pub not_five : (length b ≡ 40 → ⊥) → Decides false (Content (network_code S d) b)
  not_five f = fails (λ k. f (holds_length k.held))

  pub ranges_decide : (loss duplication factor word : ℕ) (links : List Bool) (w : Bool) → length b ≡ 40 → Bytes b
      → loss ≡ get_or (W b) 0 0 → duplication ≡ get_or (W b) 1 0 → factor ≡ get_or (W b) 2 0 → word ≡ get_or (W b) 3 0 → links ≡ bits 64 word
      → w ≡ links_within S 0 links
      → Decides (((((leb d 1099511627776 && ltb loss 4294967296) && ltb duplication 4294967296) && leb 1 factor) && leb factor 65536) && w) (Content (network_code S d) b)
  unfolding network_in_range
  ranges_decide loss duplication factor word links w l B e₀ e₁ e₂ e₃ e₄ e =
      decides_ok (network_code S d) b B l _
      (rw (e, e₄, e₀, e₁, e₂, e₃) (simp (code_and, and_assoc, true_and, and_true, get_or-drop, drop-drop, length_bits)))
