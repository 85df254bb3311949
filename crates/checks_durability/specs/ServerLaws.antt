-- What the proof of servers.rt cites, and the laws by which a caller's loop over the servers checks them all. Assumes nothing.
use Rattle.std.specs.Prelude.{◌≡◌, ℕ, ◌+◌, ◌≤◌, ◌<◌, ltb, length, drop}
use Rattle.std.proofs.Common.{sym, ◌∙◌, add-one, arith, drop_of_length-le}
use Rattle.std.proofs.Math.Path.{ap}
use mathlib.Core.List.{List, [], ◌∷◌}
use Rattle.std.proofs.Math.ListN.{get_or}
use Rattle.std.specs.Prelude.{Bool, true, false, cond, count_by, refl}
use Rattle.std.proofs.lemmas.List.Recursion.{is_count_by}
use Rattle.laws.specs.Bools.{pick}
use Rattle.std.proofs.lemmas.List.Sums.{count_by-le-length}
use Rattle.laws.specs.ListLaws.{drop_next}
use Rattle.units.specs.declared.SimTime.{SimTime}
use Rattle.checks.specs.declared.Check.TheVariants.{Durability}
use Rattle.checks.specs.Checks.{Checker, report_if, check_applied_up_to}
use Rattle.checks_durability.specs.Servers.{servers_from, below, CountsBelow}

-- ---- the servers below, counted

below_is : (highest : ℕ) (up_to : List ℕ) → below highest up_to ≡ count_by (λ k. ltb k highest) up_to
unfolding below
below_is highest = is_count_by (below highest) (λ k. ltb k highest) refl (λ k ks. one (ltb k highest) (below highest ks))
  where
    one : (t : Bool) (n : ℕ) → pick t 1 0 + n ≡ cond t (1 + n) n
    one true n = refl
    one false n = omega arith

pub counts_below : (highest : ℕ) (up_to : List ℕ) (r : ℕ) → length up_to ≤ 8 → r ≡ count_by (λ k. ltb k highest) up_to
    → CountsBelow highest up_to r
counts_below highest up_to r h e = record {
  is = e ∙ sym (below_is highest up_to);
  most = omega (arith, e, count_by-le-length (λ k. ltb k highest) up_to);
}

-- ---- a loop over the servers: what checks the rest checks the whole

module _ (time : SimTime) (highest : ℕ) (up_to : List ℕ) (i : ℕ) (c : Checker) where
  pub servers_turn : i < length up_to
      → check_applied_up_to c time highest (servers_from (i + 1) (drop i up_to))
      ≡ check_applied_up_to (report_if (ltb (get_or up_to i 0) highest) c time Durability ((i + 1) ∷ get_or up_to i 0 ∷ highest ∷ [])) time highest
      (servers_from (i + 1 + 1) (drop (i + 1) up_to))
  unfolding check_applied_up_to servers_from
  servers_turn h =
      let d : Checker = report_if (ltb (get_or up_to i 0) highest) c time Durability ((i + 1) ∷ get_or up_to i 0 ∷ highest ∷ []) in
      ap (λ (z : List ℕ). check_applied_up_to c time highest (servers_from (i + 1) z)) (drop_next up_to i 0 h)
      ∙ ap (λ (j : ℕ). check_applied_up_to d time highest (servers_from j (drop (i + 1) up_to))) (sym (add-one (i + 1)))

  pub servers_done : length up_to ≤ i → check_applied_up_to c time highest (servers_from (i + 1) (drop i up_to)) ≡ c
  unfolding check_applied_up_to servers_from
  servers_done l = ap (λ (z : List ℕ). check_applied_up_to c time highest (servers_from (i + 1) z)) (drop_of_length-le up_to {i = i} l)
