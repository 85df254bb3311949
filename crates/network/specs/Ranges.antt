-- The ranges of a network's fields in a cluster of S servers: the code's test of them, and that every step keeps them. Assumes nothing.
use Rattle.std.specs.Prelude.{◌≡◌, Bool, not, ◌&&◌, ◌||◌, leb, ltb, eqb, length, set}
use Rattle.std.proofs.Math.Path.{refl, sym, subst}
use Rattle.std.proofs.Common.{◌∙◌, add-one, length-set}
use Rattle.std.proofs.Math.Bool.{true, false}
use mathlib.Core.List.{List, [], ◌∷◌}
use Prim.Native.Nat.{ℕ, zero, suc, ◌+◌, ◌-◌, ◌*◌, ◌/◌, ◌%◌, ◌^◌, ◌≤◌, ◌<◌, max}
use native.Mathlib.Omega.{arith}
use Rattle.std.proofs.Math.ListN.{get_or}
use Rattle.std.specs.List.{list_all, enumerate_from}
use borrow.Author.Tests.{lt-ltb, le-leb, eq-eqb, ltb-true, ltb-false, leb-true, eqb-true}
use Rattle.laws.specs.Bools.{pick, ◌and◌, cases, pick_both, and_left, and_true, and_assoc}
use Rattle.laws.proofs.BoolLaws.{and_right, and_both, true_and, code_and}
use Rattle.laws.specs.Decides.{false_true}
use Rattle.laws.specs.Lists.{list_from}
use Rattle.units.specs.declared.NodeId.{NodeId}
use Rattle.units.specs.declared.Duration.{Duration}
use Rattle.rng.specs.Rng.{under}
use Rattle.rng.specs.declared.Rng.{Rng}
use Rattle.network.specs.declared.Network.{Network}
use Rattle.network.specs.declared.Routed.{Routed}
use Rattle.network.specs.declared.Chance.{Chance}
use Rattle.network.specs.Network.{new, delay, chance, route, delivered, in_group, any_from, elsewhere, separated, partition, set_delay_factor, link_within, links_within, network_in_range, with_rng, with_blocked, DelaysFit, block, unblock, heal_links, set_loss, set_duplication, heal_all, with_rates, link, no_links, ppm}
use Rattle.network.specs.Laws.{length_list_from}

-- ---- the links

pub within_test : (S k : ℕ) → (ltb (k / 8) S && ltb (k % 8) S) ≡ link_within S k
unfolding link_within
within_test S k = code_and _ _

-- each blocked link is within, over the links with their places
pub list_all_within : (S k : ℕ) (links : List Bool)
    → list_all (λ (p : ℕ × Bool). not p.1 || link_within S p.0) (enumerate_from k links) ≡ links_within S k links
unfolding links_within ◌and◌
list_all_within S k [] = refl
list_all_within S k (true ∷ links) = rw add-one (by (link_within S k) (list_all_within S (suc k) links))
  where
    by : (w : Bool) {r t : Bool} → r ≡ t → (w && r) ≡ (w and t)
    by true e = e
    by false e = refl
list_all_within S k (false ∷ links) = rw add-one (list_all_within S (suc k) links)

module _ (S : ℕ) where
  -- a link set or cleared
  pub within_set : (k : ℕ) (bs : List Bool) (i : ℕ) (b : Bool) → links_within S k bs ≡ true → (b ≡ true → link_within S (k + i) ≡ true)
      → links_within S k (set bs i b) ≡ true
  unfolding links_within
  within_set k [] i b h f = refl
  within_set k (c ∷ bs) zero b h f =
      let e : k + 0 ≡ k = omega arith in
      and_both _ _ (by b (subst (λ (j : ℕ). b ≡ true → link_within S j ≡ true) e f)) (and_right _ _ h)
    where
      by : (b : Bool) → (b ≡ true → link_within S k ≡ true) → pick b (link_within S k) true ≡ true
      by true f = f refl
      by false f = refl
  within_set k (c ∷ bs) (suc i) b h f =
      let e : k + suc i ≡ suc k + i = omega arith in
      and_both _ _ (and_left _ _ h) (within_set (suc k) bs i b (and_right _ _ h) (subst (λ (j : ℕ). b ≡ true → link_within S j ≡ true) e f))

  -- a link that is blocked is within
  pub within_get : (k : ℕ) (bs : List Bool) (i : ℕ) → links_within S k bs ≡ true → get_or bs i false ≡ true → link_within S (k + i) ≡ true
  unfolding links_within
  within_get k [] i h e = absurd (false_true e)
  within_get k (c ∷ bs) zero h e =
      let z : k ≡ k + 0 = omega arith in
      subst (λ (j : ℕ). link_within S j ≡ true) z (rw e at (and_left _ _ h))
  within_get k (c ∷ bs) (suc i) h e =
      let z : suc k + i ≡ k + suc i = omega arith in
      subst (λ (j : ℕ). link_within S j ≡ true) z (within_get (suc k) bs i (and_right _ _ h) e)

  -- links by place
  pub within_from : (f : ℕ → Bool) (k n : ℕ) → ((j : ℕ) → j < k + n → f j ≡ true → link_within S j ≡ true)
      → links_within S k (list_from k n f) ≡ true
  unfolding links_within list_from
  within_from f k zero g = refl
  within_from f k (suc n) g = and_both _ _ (by (f k) (g k (omega arith))) (within_from f (suc k) n (λ j h e. g j (omega arith) e))
    where
      by : (b : Bool) → (b ≡ true → link_within S k ≡ true) → pick b (link_within S k) true ≡ true
      by true f = f refl
      by false f = refl

  pub none_within : links_within S 0 no_links ≡ true
  unfolding links_within ◌and◌
  none_within = refl

  pub link_within_lem : (from to : NodeId) → S ≤ 8 → 1 ≤ from.0 → from.0 ≤ S → 1 ≤ to.0 → to.0 ≤ S → link_within S (link from to) ≡ true
  unfolding link_within link
  link_within_lem from to s f₁ f t₁ t =
      let k : ℕ = 8 * (from.0 - 1) + (to.0 - 1) in
      let row : k / 8 < S = omega arith in
      let column : k % 8 < S = omega arith in
      and_both _ _ (lt-ltb _ _ row) (lt-ltb _ _ column)

-- ---- the groups of a partition

-- No group has a member beyond S.
pub record Grouped (S groups : ℕ) : Type 0 where
  pub outside : (i s : ℕ) → i < 8 → S < s → s ≤ 8 → in_group groups i s ≡ false

any_none : (f : ℕ → Bool) (i n : ℕ) → ((j : ℕ) → j < i + n → f j ≡ false) → any_from i n f ≡ false
unfolding any_from
any_none f i zero h = refl
any_none f i (suc n) h = rw (h i (omega arith)) (any_none f (suc i) n (λ j l. h j (omega arith)))

and_false : (a b : Bool) → b ≡ false → (a && b) ≡ false
and_false true b h = h
and_false false b h = refl

module _ (S groups : ℕ) (g : Grouped S groups) where
  pub from_outside : (a b : ℕ) → S < a → a ≤ 8 → separated groups a b ≡ false
  unfolding separated
  from_outside a b h l = any_none _ 0 8 (λ j k. rw (g.outside j a k h l) refl)

  pub to_outside : (a b : ℕ) → S < b → b ≤ 8 → separated groups a b ≡ false
  unfolding separated elsewhere
  to_outside a b h l =
      any_none _ 0 8
      (λ j k. and_false (in_group groups j a) (elsewhere groups j b) (any_none _ 0 8 (λ i m. and_false (not (eqb j i))
      (in_group groups i b) (g.outside i b m h l))))

  pub separated_within : (k : ℕ) → k < 64 → separated groups (k / 8 + 1) (k % 8 + 1) ≡ true → link_within S k ≡ true
  unfolding link_within
  separated_within k h e =
      let a : ℕ = k / 8 + 1 in
      let b : ℕ = k % 8 + 1 in
      and_both _ _
      (cases (ltb (k / 8) S) (λ t. t) (λ t. absurd (false_true (sym (from_outside a b (omega (arith, ltb-false (k / 8) S t))
      (omega arith)) ∙ e))))
      (cases (ltb (k % 8) S) (λ t. t) (λ t. absurd (false_true (sym (to_outside a b (omega (arith, ltb-false (k % 8) S t))
      (omega arith)) ∙ e))))

-- ---- every field

-- The ranges one by one.
pub record InRange (S : ℕ) (n : Network) : Type 0 where
  pub base : n.base_delay.0 ≤ 2 ^ 40
  pub loss : n.loss_ppm < 2 ^ 32
  pub duplicate : n.duplicate_ppm < 2 ^ 32
  pub positive : 1 ≤ n.delay_factor
  pub factor : n.delay_factor ≤ 65_536
  pub links : length n.blocked ≡ 64
  pub within : links_within S 0 n.blocked ≡ true

pub in_range_lem : (S : ℕ) (n : Network) → network_in_range S n ≡ true → InRange S n
unfolding network_in_range
in_range_lem S n h =
    let h₁ = and_right _ _ h in
    let h₂ = and_right _ _ h₁ in
    let h₃ = and_right _ _ h₂ in
    let h₄ = and_right _ _ h₃ in
    let h₅ = and_right _ _ h₄ in
    record {
      base = leb-true _ _ (and_left _ _ h);
      loss = ltb-true _ _ (and_left _ _ h₁);
      duplicate = ltb-true _ _ (and_left _ _ h₂);
      positive = leb-true _ _ (and_left _ _ h₃);
      factor = leb-true _ _ (and_left _ _ h₄);
      links = eqb-true _ _ (and_left _ _ h₅);
      within = and_right _ _ h₅;
    }

pub ranged : (S : ℕ) (n : Network) → InRange S n → network_in_range S n ≡ true
unfolding network_in_range
ranged S n i =
    and_both _ _ (le-leb _ _ i.base) (and_both _ _ (lt-ltb _ _ i.loss) (and_both _ _ (lt-ltb _ _ i.duplicate)
    (and_both _ _ (le-leb _ _ i.positive) (and_both _ _ (le-leb _ _ i.factor) (and_both _ _ (eq-eqb _ _ i.links) i.within)))))

pub delays_fit : (S : ℕ) (n : Network) → InRange S n → DelaysFit n
delays_fit S n i = record { base = i.base; factor = i.factor }

-- The code's test: the types see to the rates and to the number of links.
pub in_range_is : (S : ℕ) (n : Network) (w : Bool) → n.loss_ppm < 2 ^ 32 → n.duplicate_ppm < 2 ^ 32 → length n.blocked ≡ 64
    → w ≡ links_within S 0 n.blocked
    → (((leb n.base_delay.0 1_099_511_627_776 && leb 1 n.delay_factor) && leb n.delay_factor 65_536) && w)
    ≡ network_in_range S n
unfolding network_in_range
in_range_is S n w h k e t = rw t (simp (code_and, and_assoc, lt-ltb _ _ h, lt-ltb _ _ k, eq-eqb _ _ e, true_and, and_true))

-- Every step keeps the ranges.
module _ (S : ℕ) (n : Network) (i : InRange S n) where
  pub rng_kept : (g : Rng) → InRange S (with_rng n g)
  rng_kept g = record { base = i.base; loss = i.loss; duplicate = i.duplicate; positive = i.positive; factor = i.factor; links = i.links; within = i.within }

  pub links_kept : (links : List Bool) → length links ≡ 64 → links_within S 0 links ≡ true → InRange S (with_blocked n links)
  links_kept links e w = record { base = i.base; loss = i.loss; duplicate = i.duplicate; positive = i.positive; factor = i.factor; links = e; within = w }

  pub rates_kept : (loss duplication factor : ℕ) → loss < 2 ^ 32 → duplication < 2 ^ 32 → 1 ≤ factor → factor ≤ 65_536
      → InRange S (with_rates n loss duplication factor)
  rates_kept loss duplication factor h k p m = record { base = i.base; loss = h; duplicate = k; positive = p; factor = m; links = i.links; within = i.within }

  pub delay_kept : InRange S (delay n).network
  unfolding delay
  delay_kept = rng_kept (delay n).network.rng

  pub chance_kept : (rate : ℕ) → InRange S (chance n rate).network
  unfolding chance
  chance_kept rate = pick_both (λ (c : Chance). InRange S c.network) (eqb rate 0) i (rng_kept (under n.rng ppm).next)

pub delivered_kept : (S : ℕ) (n : Network) (draws : ℕ) → InRange S n → InRange S (delivered n draws).network
unfolding delivered
delivered_kept S n draws i =
    let first = delay n in
    let twice = chance first.network n.duplicate_ppm in
    let i₂ = chance_kept S first.network (delay_kept S n i) n.duplicate_ppm in
    pick_both (λ (r : Routed). InRange S r.network) twice.happens (delay_kept S twice.network i₂) i₂

module _ (S : ℕ) (n : Network) (from to : NodeId) (i : InRange S n) where
  pub route_kept : InRange S (route n from to).network
  unfolding route
  route_kept =
      let lost = chance n n.loss_ppm in
      let i₁ = chance_kept S n i n.loss_ppm in
      let P : Routed → Type 0 = λ r. InRange S r.network in
      pick_both P (get_or n.blocked (link from to) false) i (pick_both P lost.happens i₁ (delivered_kept S lost.network
      lost.draws i₁))

  pub block_kept : S ≤ 8 → 1 ≤ from.0 → from.0 ≤ S → 1 ≤ to.0 → to.0 ≤ S → InRange S (block n from to)
  block_kept s f₁ f t₁ t =
      links_kept S n i _ (length-set n.blocked (link from to) true ∙ i.links)
      (within_set S 0 n.blocked (link from to) true i.within (λ e. subst (λ (j : ℕ). link_within S j ≡ true) (omega arith)
      (link_within_lem S from to s f₁ f t₁ t)))

  pub unblock_kept : InRange S (unblock n from to)
  unblock_kept =
      links_kept S n i _ (length-set n.blocked (link from to) false ∙ i.links)
      (within_set S 0 n.blocked (link from to) false i.within (λ e. absurd (false_true e)))

pub partition_kept : (S : ℕ) (n : Network) (groups : ℕ) → InRange S n → Grouped S groups → InRange S (partition n groups)
unfolding partition
partition_kept S n groups i g =
    links_kept S n i _ (length_list_from _ 0 64)
    (within_from S _ 0 64 (λ j h. by j h (get_or n.blocked j false) refl))
  where
    by : (j : ℕ) → j < 64 → (b : Bool) → get_or n.blocked j false ≡ b → (b || separated groups (j / 8 + 1) (j % 8 + 1)) ≡ true
        → link_within S j ≡ true
    by j h true b e = subst (λ (k : ℕ). link_within S k ≡ true) (omega arith) (within_get S 0 n.blocked j i.within b)
    by j h false b e = separated_within S groups g j h e

pub heal_links_kept : (S : ℕ) (n : Network) → InRange S n → InRange S (heal_links n)
heal_links_kept S n i = links_kept S n i _ refl (none_within S)

pub heal_all_kept : (S : ℕ) (n : Network) → InRange S n → InRange S (heal_all n)
heal_all_kept S n i = rates_kept S (heal_links n) (heal_links_kept S n i) 0 0 1 (omega arith) (omega arith) (omega arith) (omega arith)

pub set_loss_kept : (S : ℕ) (n : Network) (rate : ℕ) → InRange S n → rate < 2 ^ 32 → InRange S (set_loss n rate)
set_loss_kept S n rate i h = rates_kept S n i rate _ _ h i.duplicate i.positive i.factor

pub set_duplication_kept : (S : ℕ) (n : Network) (rate : ℕ) → InRange S n → rate < 2 ^ 32 → InRange S (set_duplication n rate)
set_duplication_kept S n rate i h = rates_kept S n i _ rate _ i.loss h i.positive i.factor

pub set_delay_factor_kept : (S : ℕ) (n : Network) (factor : ℕ) → InRange S n → factor ≤ 65_536 → InRange S (set_delay_factor n factor)
set_delay_factor_kept S n factor i h = rates_kept S n i _ _ (max factor 1) i.loss i.duplicate (omega arith) (omega arith)

pub new_in_range : (S : ℕ) (d : Duration) (g : Rng) → d.0 ≤ 2 ^ 40 → InRange S (new d g)
new_in_range S d g h =
    record { base = h; loss = omega arith; duplicate = omega arith; positive = omega arith; factor = omega arith; links = refl; within = none_within S }
