-- What the proofs of lib.rt cite. Assumes nothing.
use Rattle.std.specs.Prelude.{◌≡◌, Bool, true, ◌&&◌, drop}
use Rattle.std.proofs.Math.Path.{refl, sym, ap, ap₂}
use Rattle.std.proofs.Common.{◌∙◌, arith}
use mathlib.Core.List.{List, []}
use Prim.Native.Nat.{ℕ, ◌-◌, ◌*◌}
use Rattle.std.proofs.Math.Dec.{eqb}
use Rattle.std.proofs.Math.ListN.{get_or, take}
use Rattle.laws.specs.Bools.{◌and◌, and_assoc, and_true}
use Rattle.laws.proofs.BoolLaws.{true_and, code_and}
use Rattle.laws.specs.Decides.{Decides}
use Rattle.laws.specs.Lists.{same_list}
use Rattle.words.specs.Words.{W, Bytes, Fit, allz}
use Rattle.words.specs.Lift.{W-part, W-fit, length_w}
use Rattle.words.specs.Numbers.{each_take, each_drop}
use Rattle.layout.specs.Cuts.{cut}
use Rattle.layout.specs.Tables.{Content, Tabled, content}
use Rattle.layout.specs.Contents.{ok_prefix}
use Rattle.config.specs.declared.SimConfig.{SimConfig}
use Rattle.config.specs.declared.Limits.{Limits}
use Rattle.std.specs.Prelude.{Result}
use Rattle.std.specs.Result.{is_ok}
use Rattle.units.specs.declared.refusal.Refusal.{Refusal}
use Rattle.units.specs.Refusals.{answer_number}
use Rattle.units.specs.RefusalLaws.{answered_zero}
use Rattle.config.specs.Limits.{judge}
use Rattle.config.specs.Laws.{limits_counts}
use Rattle.network_words.specs.NetworkCode.{network_code}
use Rattle.metrics_words.specs.MetricsCode.{metrics_code}
use Rattle.checks.specs.Violations.{violations}
use Rattle.model.specs.Fits.{phase_fits}
use Rattle.state.specs.declared.Capacity.{Capacity}
use Rattle.state.specs.declared.OpenInput.{OpenInput}
use Rattle.state.specs.Sizes.{block_words, queue_at, seen_at, leaders_at, replies_at, confirmations_at, applied_at, clients_at, whole_words, bytes_of, sizes, Counted}
use Rattle.state.specs.Parts.{capacity_in, capacity_tells, capacity_code, counts_within, settings_in, settings_accepted, open_in, phase_tells}
use Rattle.state.specs.Area.{regions}
use Rattle.state.specs.Decode.{settings_said}
use Rattle.state.specs.Changes.{Inside}
use Rattle.state_gate_blocks.specs.Tests.{eqb_sym, same}
use Rattle.state_gate_header.specs.Regions.{region_ok, regions_ok}
use Rattle.state_gate_header.specs.Header.{offsets_ok, accepted_ok, open_ok}
use Rattle.state_gate_header.specs.PhaseLaws.{phase_told}
use Rattle.state_gate_header.specs.RegionLaws.{region_lent, region_content, region_table}

-- ---- counts and offsets

-- a word that is eight times a number of words
eight : (a w m n : ℕ) → a ≡ w → Counted m n → eqb a (8 * m) ≡ eqb (8 * n) w
eight a w m n e p = ap₂ (λ (x y : ℕ). eqb x (8 * y)) e p.is ∙ eqb_sym w (8 * n)

module _ (F : Capacity) (b : List ℕ) where
  pub first_offsets_lem : (a₀ a₁ a₂ a₃ a₄ m₁ m₂ m₃ m₄ : ℕ) → a₀ ≡ get_or (W b) 8 0 → a₁ ≡ get_or (W b) 9 0 → a₂ ≡ get_or (W b) 10 0 → a₃ ≡ get_or (W b) 11 0 → a₄ ≡ get_or (W b) 12 0
      → Counted m₁ (block_words F) → Counted m₂ (queue_at F) → Counted m₃ (seen_at F) → Counted m₄ (leaders_at F)
      → ((((eqb a₀ 4096 && eqb a₁ (8 * m₁)) && eqb a₂ (8 * m₂)) && eqb a₃ (8 * m₃)) && eqb a₄ (8 * m₄)) ≡ offsets_ok F (W b) 8 5
  unfolding offsets_ok same_list
  first_offsets_lem a₀ a₁ a₂ a₃ a₄ m₁ m₂ m₃ m₄ e₀ e₁ e₂ e₃ e₄ p₁ p₂ p₃ p₄ =
      five (eqb a₀ 4096) (eqb a₁ (8 * m₁)) (eqb a₂ (8 * m₂)) (eqb a₃ (8 * m₃)) (eqb a₄ (8 * m₄))
      ∙ ap₂ (λ (s t : Bool). s and t) (ap (λ (x : ℕ). eqb x 4096) e₀ ∙ eqb_sym (get_or (W b) 8 0) 4096) (ap₂ (λ (s t : Bool). s and t) (eight a₁ (get_or (W b) 9 0) m₁ (block_words F) e₁ p₁) (ap₂ (λ (s t : Bool). s and t) (eight a₂ (get_or (W b) 10 0) m₂ (queue_at F) e₂ p₂)
      (ap₂ (λ (s t : Bool). s and t) (eight a₃ (get_or (W b) 11 0) m₃ (seen_at F) e₃ p₃) (ap (λ (s : Bool). s and true) (eight a₄ (get_or (W b) 12 0) m₄ (leaders_at F) e₄ p₄)))))
    where
      five : (a c d e f : Bool) → ((((a && c) && d) && e) && f) ≡ (a and (c and (d and (e and (f and true)))))
      five a c d e f = simp (code_and, and_assoc, and_true)

  pub last_offsets_lem : (a₁ a₂ a₃ a₄ a₅ a₆ m₁ m₂ m₃ m₄ m₅ n : ℕ) → a₁ ≡ get_or (W b) 13 0 → a₂ ≡ get_or (W b) 14 0 → a₃ ≡ get_or (W b) 15 0 → a₄ ≡ get_or (W b) 16 0 → a₅ ≡ get_or (W b) 17 0 → a₆ ≡ get_or (W b) 18 0
      → Counted m₁ (replies_at F) → Counted m₂ (confirmations_at F) → Counted m₃ (applied_at F) → Counted m₄ (clients_at F) → Counted m₅ (whole_words F) → n ≡ bytes_of F
      → (((((eqb a₁ (8 * m₁) && eqb a₂ (8 * m₂)) && eqb a₃ (8 * m₃)) && eqb a₄ (8 * m₄)) && eqb a₅ (8 * m₅)) && eqb a₆ n) ≡ offsets_ok F (W b) 13 6
  unfolding offsets_ok same_list
  last_offsets_lem a₁ a₂ a₃ a₄ a₅ a₆ m₁ m₂ m₃ m₄ m₅ n e₁ e₂ e₃ e₄ e₅ e₆ p₁ p₂ p₃ p₄ p₅ p₆ =
      six (eqb a₁ (8 * m₁)) (eqb a₂ (8 * m₂)) (eqb a₃ (8 * m₃)) (eqb a₄ (8 * m₄)) (eqb a₅ (8 * m₅)) (eqb a₆ n)
      ∙ ap₂ (λ (s t : Bool). s and t) (eight a₁ (get_or (W b) 13 0) m₁ (replies_at F) e₁ p₁) (ap₂ (λ (s t : Bool). s and t) (eight a₂ (get_or (W b) 14 0) m₂ (confirmations_at F) e₂ p₂) (ap₂ (λ (s t : Bool). s and t) (eight a₃ (get_or (W b) 15 0) m₃ (applied_at F) e₃ p₃)
      (ap₂ (λ (s t : Bool). s and t) (eight a₄ (get_or (W b) 16 0) m₄ (clients_at F) e₄ p₄) (ap₂ (λ (s t : Bool). s and t) (eight a₅ (get_or (W b) 17 0) m₅ (whole_words F) e₅ p₅) (ap (λ (s : Bool). s and true) (ap₂ eqb e₆ p₆ ∙ eqb_sym (get_or (W b) 18 0) (bytes_of F)))))))
    where
      six : (a c d e f g : Bool) → (((((a && c) && d) && e) && f) && g) ≡ (a and (c and (d and (e and (f and (g and true))))))
      six a c d e f g = simp (code_and, and_assoc, and_true)

-- the counts' own words say themselves
counts_said_lem : (a₀ a₁ a₂ a₃ a₄ a₅ a₆ a₇ : ℕ) (t c : Bool) → c ≡ true → ((eqb a₀ a₀ and (eqb a₁ a₁ and (eqb a₂ a₂ and (eqb a₃ a₃ and (eqb a₄ a₄ and (eqb a₅ a₅ and (eqb a₆ a₆ and (eqb a₇ a₇ and t)))))))) and c) ≡ t
counts_said_lem a₀ a₁ a₂ a₃ a₄ a₅ a₆ a₇ t c e = rw e (simp (same, true_and, and_true))

eleven : (a b c d e f g h i j k : Bool) → ((a and (b and (c and (d and (e and true))))) and (f and (g and (h and (i and (j and (k and true))))))) ≡ (a and (b and (c and (d and (e and (f and (g and (h and (i and (j and (k and true)))))))))))
eleven a b c d e f g h i j k = simp (true_and, and_assoc)

-- counts that are those of the area's first words, with their offsets
said_capacity : (ws : List ℕ) → counts_within (capacity_in ws) ≡ true → (offsets_ok (capacity_in ws) ws 8 5 and offsets_ok (capacity_in ws) ws 13 6) ≡ capacity_tells ws
unfolding offsets_ok capacity_tells same_list
said_capacity ws t =
    eleven _ _ _ _ _ _ _ _ _ _ _
    ∙ sym (counts_said_lem (get_or ws 0 0) (get_or ws 1 0) (get_or ws 2 0) (get_or ws 3 0) (get_or ws 4 0) (get_or ws 5 0) (get_or ws 6 0) (get_or ws 7 0) _ (counts_within (capacity_in ws)) t)

module _ (F : Capacity) (b : List ℕ) (h : Inside b F) (B : Bytes b) where
  within : counts_within F ≡ true
  within = limits_counts F.servers F.clients F.limits h.within.limits

  pub capacity_ok : (r q : Bool) → F ≡ capacity_in (W b) → r ≡ offsets_ok F (W b) 8 5 → q ≡ offsets_ok F (W b) 13 6 → (r && q) ≡ region_ok F b 0
  unfolding region_ok
  capacity_ok r q e er eq =
      let ws : List ℕ = W b in
      let w : W (take 152 b) ≡ take 19 ws = W-part b 0 19 B (omega arith) (omega (arith, h.head)) in
      let p : capacity_code.ok (take 19 ws) ≡ capacity_code.ok ws = ok_prefix capacity_code ws (W-fit b B) (omega (arith, length_w b, h.head)) in
      code_and r q ∙ ap₂ (λ (s t : Bool). s and t) er eq
      ∙ ap (λ (G : Capacity). offsets_ok G ws 8 5 and offsets_ok G ws 13 6) e ∙ said_capacity ws (ap counts_within (sym e) ∙ within) ∙ sym (ap capacity_tells w ∙ p)

  pub settings_ok : (c : SimConfig) (r : Bool) → c ≡ settings_in F (W (take (248 - 152) (drop 152 b))) → r ≡ accepted_ok c F.limits → r ≡ region_ok F b 1
  unfolding region_ok accepted_ok
  settings_ok c r e t =
      t ∙ ap (λ (x : SimConfig). settings_accepted x F.limits) (e ∙ ap (λ (l : List ℕ). settings_in F (W l)) (region_lent F b 1 152 248 (omega arith) refl refl))

  pub network_ok : (d : ℕ) (r : Bool) → d ≡ get_or (W (take (248 - 152) (drop 152 b))) 5 0 → Decides r (Content (network_code F.servers d) (take (336 - 296) (drop 296 b))) → r ≡ region_ok F b 3
  unfolding region_ok
  network_ok d r e t =
      region_content F b 3 296 336 (omega arith) refl refl B (omega (arith, h.head)) (network_code F.servers d) r refl t
      ∙ ap (λ (x : ℕ). (network_code F.servers x).ok (W (get_or (cut (sizes F) b) 3 []))) (e ∙ ap (λ (l : List ℕ). get_or (W l) 5 0) (region_lent F b 1 152 248 (omega arith) refl refl))

  pub metrics_ok : (r : Bool) → Decides r (Content (metrics_code F.servers) (take (584 - 336) (drop 336 b))) → r ≡ region_ok F b 4
  unfolding region_ok
  metrics_ok r t = region_content F b 4 336 584 (omega arith) refl refl B (omega (arith, h.head)) (metrics_code F.servers) r refl t

  pub phase_ok : (o : OpenInput) (r : Bool) → o ≡ open_in (W (take (664 - 584) (drop 584 b))) → r ≡ open_ok F.servers F.clients o → r ≡ region_ok F b 5
  unfolding region_ok
  phase_ok o r e t =
      let l : take (664 - 584) (drop 584 b) ≡ get_or (cut (sizes F) b) 5 [] = region_lent F b 5 584 664 (omega arith) refl refl in
      let f : Fit (W (take (664 - 584) (drop 584 b))) = W-fit (take (664 - 584) (drop 584 b)) (each_take (664 - 584) (drop 584 b) (each_drop 584 b B)) in
      t ∙ ap (open_ok F.servers F.clients) e ∙ sym (phase_told (settings_said F (regions F b)) F.limits (W (take (664 - 584) (drop 584 b))) f)
      ∙ ap (λ (x : List ℕ). phase_tells (phase_fits (settings_said F (regions F b)) F.limits) (W x)) l

  pub unused_ok : (r : Bool) → r ≡ allz (take (2048 - 728) (drop 728 b)) → r ≡ region_ok F b 7
  unfolding region_ok
  unused_ok r t = t ∙ ap allz (region_lent F b 7 728 2048 (omega arith) refl refl)

  pub violations_ok : (n : ℕ) (r : Bool) → n ≡ get_or (W (take (728 - 664) (drop 664 b))) 6 0 → Decides r (Tabled violations n (take (4096 - 2048) (drop 2048 b))) → r ≡ region_ok F b 8
  unfolding region_ok
  violations_ok n r e t =
      region_table F b 8 2048 4096 (omega arith) refl refl B (omega (arith, h.head)) violations 256 n r refl t
      ∙ ap (λ (m : ℕ). (content violations 256 m).ok (W (get_or (cut (sizes F) b) 8 []))) (e ∙ ap (λ (l : List ℕ). get_or (W l) 6 0) (region_lent F b 6 664 728 (omega arith) refl refl))

-- questions 1 to 3
pub accepted_ok_lem : (c : SimConfig) (l : Limits) (j : Result (Unit {0}) Refusal) (r : Bool) → j ≡ judge c l → r ≡ is_ok j → r ≡ accepted_ok c l
unfolding accepted_ok
accepted_ok_lem c l j r e m = m ∙ ap is_ok e ∙ sym (answered_zero (judge c l))

pub accepted_number : (c : SimConfig) (l : Limits) (j : Result (Unit {0}) Refusal) (n : ℕ) → j ≡ judge c l → n ≡ answer_number j → eqb n 0 ≡ accepted_ok c l
unfolding accepted_ok
accepted_number c l j n e m = ap (λ (k : ℕ). eqb k 0) (m ∙ ap answer_number e)

-- the header's nine regions: the numbers of the run and the counts of rows may be any
pub header_ok : (F : Capacity) (b : List ℕ) (r₀ r₁ r₃ r₄ r₅ r₇ r₈ : Bool) → r₀ ≡ region_ok F b 0 → r₁ ≡ region_ok F b 1 → r₃ ≡ region_ok F b 3 → r₄ ≡ region_ok F b 4 → r₅ ≡ region_ok F b 5 → r₇ ≡ region_ok F b 7 → r₈ ≡ region_ok F b 8
    → ((((((r₀ && r₁) && r₃) && r₄) && r₅) && r₇) && r₈) ≡ regions_ok F b 0 9
unfolding region_ok regions_ok
header_ok F b r₀ r₁ r₃ r₄ r₅ r₇ r₈ e₀ e₁ e₃ e₄ e₅ e₇ e₈ =
    nine r₀ r₁ r₃ r₄ r₅ r₇ r₈
    ∙ ap₂ (λ (s t : Bool). s and t) e₀ (ap₂ (λ (s t : Bool). s and t) e₁ (ap (λ (t : Bool). true and t) (ap₂ (λ (s t : Bool). s and t) e₃ (ap₂ (λ (s t : Bool). s and t) e₄ (ap₂ (λ (s t : Bool). s and t) e₅ (ap (λ (t : Bool). true and t) (ap₂ (λ (s t : Bool). s and t) e₇ (ap (λ (s : Bool). s and true) e₈))))))))
  where
    nine : (a c d e f g h : Bool) → ((((((a && c) && d) && e) && f) && g) && h) ≡ (a and (c and (true and (d and (e and (f and (true and (g and (h and true)))))))))
    nine a c d e f g h = simp (code_and, and_assoc, true_and, and_true)
