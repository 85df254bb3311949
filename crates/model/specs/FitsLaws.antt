-- The state's ranges and the modules' own: a table that fits has a content, ids and groups in the cluster, payloads. Assumes nothing.
use Rattle.std.specs.Prelude.{◌≡◌, refl, Bool, true, false, List, [], ◌∷◌, ℕ, zero, suc, ◌+◌, ◌-◌, ◌*◌, ◌/◌, ◌%◌, ◌^◌, ◌≤◌, ◌<◌, leb, ltb, eqb, length}
use Rattle.std.proofs.Common.{sym, ap, ◌∙◌, subst, mul-le-mul_right, div-lt_iff_lt-mul, arith, pow_pos, pow_mono, shr-shr, lt-ltb, le-leb, eq-eqb, ne_eqb, ltb-true, leb-true, eqb-true}
use Rattle.std.proofs.Math.Nat.{pow-zero}
use Rattle.laws.specs.Bools.{pick, ◌and◌, every, and_left}
use Rattle.laws.proofs.BoolLaws.{and_right, and_both}
use Rattle.units.specs.Types.{Payload, noop, command}
use Rattle.layout.specs.Tables.{Table, content}
use Rattle.layout.specs.Marked.{is_byte}
use Rattle.layout.specs.Payload.{payload}
use Rattle.faults.specs.Fault.{in_cluster, groups_in}
use Rattle.network.specs.Network.{in_group}
use Rattle.network.specs.Ranges.{Grouped}
use Rattle.checks.specs.Leaders.{leaders, leader_row}
use Rattle.checks.specs.declared.TermLeader.{TermLeader}
use Rattle.model.specs.Fits.{table_fits}

-- ---- tables

module _ {A : Type 0} (t : Table A) (room N : ℕ) (xs : List A) where
  -- a table that fits has a content in words for its room
  pub fits_content : room * t.row.size ≤ N → table_fits t room xs ≡ true → (content t N (length xs)).good xs ≡ true
  fits_content l h =
      let few = leb-true (length xs) room (and_left _ _ h) in
      let r = and_right _ _ h in
      let short : length xs * t.row.size ≤ N = omega (arith, mul-le-mul_right t.row.size few) in
      and_both _ _ (and_both _ _ (le-leb _ _ short) (and_both _ _ (eq-eqb (length xs) (length xs) refl) (and_left _ _ r))) (and_right _ _ r)

  -- and a content of no more rows fits
  pub content_fits : (n : ℕ) → n ≤ room → (content t N n).good xs ≡ true → table_fits t room xs ≡ true
  content_fits n l h =
      let r = and_right _ _ (and_left _ _ h) in
      let count = eqb-true (length xs) n (and_left _ _ r) in
      and_both _ _ (le-leb (length xs) room (omega arith)) (and_both _ _ (and_right _ _ r) (and_right _ _ h))

-- ---- in the cluster

pub leader_known : (S : ℕ) (l : TermLeader) → (leaders S).row.good l ≡ (leader_row.good l and in_cluster S l.server)
unfolding in_cluster
leader_known S l = refl

-- a byte without bits from S on has none at a place from S on
bit_none : (k g : ℕ) → k < 8 → g % 256 < 2 ^ k → g / 2 ^ k % 2 ≡ 0
bit_none zero g l h = omega (arith, pow-zero 2)
bit_none (suc zero) g l h = omega arith
bit_none (suc (suc zero)) g l h = omega arith
bit_none (suc (suc (suc zero))) g l h = omega arith
bit_none (suc (suc (suc (suc zero)))) g l h = omega arith
bit_none (suc (suc (suc (suc (suc zero))))) g l h = omega arith
bit_none (suc (suc (suc (suc (suc (suc zero)))))) g l h = omega arith
bit_none (suc (suc (suc (suc (suc (suc (suc zero))))))) g l h = omega arith
bit_none (suc (suc (suc (suc (suc (suc (suc (suc k)))))))) g l h = absurd (omega arith)

group_bits : (S n groups : ℕ) → groups_in n groups S ≡ true → (i s : ℕ) → i < n → S < s → s ≤ 8 → in_group groups i s ≡ false
unfolding groups_in
group_bits S zero groups h i s l k m = absurd (omega arith)
group_bits S (suc n) groups h zero s l k m =
    let z : groups % 256 / 2 ^ S ≡ 0 = eqb-true (groups % 256 / 2 ^ S) 0 (and_left _ _ h) in
    let low : groups % 256 < 1 * 2 ^ S = (div-lt_iff_lt-mul (pow_pos S)).0 (omega (arith, z)) in
    let above : 2 ^ S ≤ 2 ^ (s - 1) = pow_mono {j = s - 1} (omega arith) in
    let e : 8 * 0 + (s - 1) ≡ s - 1 = omega arith in
    ne_eqb (groups / 2 ^ (8 * 0 + (s - 1)) % 2) 1
    (λ o. let b = bit_none (s - 1) groups (omega arith) (omega arith) in omega (arith, b, o, ap (λ (k : ℕ). groups / 2 ^ k % 2) e))
group_bits S (suc n) groups h (suc i) s l k m =
    let e : 8 + (8 * i + (s - 1)) ≡ 8 * suc i + (s - 1) = omega arith in
    ap (λ (v : ℕ). eqb (v % 2) 1) (sym (shr-shr groups 8 (8 * i + (s - 1)) ∙ ap (λ (k : ℕ). groups / 2 ^ k) e))
    ∙ group_bits S n (groups / 256) (and_right _ _ h) i s (omega arith) k m

-- the groups that question 7 accepts have no member beyond S
pub groups_known : (S groups : ℕ) → groups_in 8 groups S ≡ true → Grouped S groups
groups_known S groups h = record { outside = group_bits S 8 groups h }

-- ---- payloads

-- what the calls take for a payload has a content
pub payload_fits : (p : ℕ) (bytes : List ℕ) → p ≤ 256 → length bytes ≤ p → every is_byte bytes ≡ true
    → (payload p).good (command bytes) ≡ true
payload_fits p bytes h l b = and_both _ _ (lt-ltb (2 + length bytes) (2 ^ 64) (omega arith)) (and_both _ _ (le-leb (length bytes) p l) b)
