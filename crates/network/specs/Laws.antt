-- Laws of the network. Assumes nothing.
use Rattle.std.specs.Prelude.{◌≡◌, Bool, false, ◌||◌, List, [], ◌∷◌, ◌++◌, eqb, length, get_or, set, drop}
use Rattle.std.proofs.Math.Path.{refl, sym, ap}
use Rattle.std.proofs.Common.{◌∙◌, append_assoc, append-nil, mul-le-mul, zero-add, add-one, drop_of_length-le, drop-cons}
use Prim.Native.Nat.{ℕ, zero, suc, ◌+◌, ◌*◌, ◌/◌, ◌%◌, ◌^◌, ◌≤◌, ◌<◌}
use native.Mathlib.Omega.{arith}
use Rattle.std.proofs.lemmas.List.{set_at, get_or_at}
use Rattle.std.specs.List.{list_any, range_with_len}
use borrow.Author.Tests.{lt-ltb}
use Rattle.laws.specs.Bools.{pick_both}
use Rattle.laws.proofs.BoolLaws.{and_both}
use Rattle.laws.specs.Lists.{list_from}
use Rattle.units.specs.declared.NodeId.{NodeId}
use Rattle.rng.specs.Rng.{after}
use Rattle.rng.specs.Laws.{under_lt, under_after, after_add}
use Rattle.rng.specs.declared.Rng.{Rng}
use Rattle.network.specs.declared.Network.{Network}
use Rattle.network.specs.declared.Routed.{Routed}
use Rattle.network.specs.declared.Chance.{Chance}
use Rattle.network.specs.Network.{delay, chance, route, delivered, any_from, separated, partition, with_blocked, DelaysFit, Bounds, link, ppm}

-- A delay's product fits.
pub scaled_below : (sample factor : ℕ) → sample ≤ 3 * 2 ^ 39 → factor ≤ 65_536 → sample * factor < 2 ^ 57
scaled_below sample factor h k = omega (arith, mul-le-mul h k)

-- A search for a number that passes a test, over the numbers as a list.
pub list_any_from : (f : ℕ → Bool) (i n : ℕ) → list_any f (range_with_len i n) ≡ any_from i n f
unfolding any_from
list_any_from f i zero = refl
list_any_from f i (suc n) = rw add-one (ap (λ (b : Bool). f i || b) (list_any_from f (suc i) n))

-- A list by place, one place more.
module _ {A : Type 0} (f : ℕ → A) where
  pub length_list_from : (i n : ℕ) → length (list_from i n f) ≡ n
  unfolding list_from
  length_list_from i zero = refl
  length_list_from i (suc n) = ap suc (length_list_from (suc i) n)

  pub list_from_snoc : (i n : ℕ) → list_from i (suc n) f ≡ list_from i n f ++ f (i + n) ∷ []
  unfolding list_from
  list_from_snoc i zero = let e : i + 0 ≡ i = omega arith in rw e
  list_from_snoc i (suc n) = let e : i + suc n ≡ suc i + n = omega arith in rw (e, list_from_snoc (suc i) n)

-- Links blocked so far: the first k are those of before or of g, the others those of before.
pub record Links (g : ℕ → Bool) (old : List Bool) (k : ℕ) (now : List Bool) : Type 0 where
  pub upto : k ≤ 64
  pub long : length old ≡ 64
  pub are : now ≡ list_from 0 k (λ i. get_or old i false || g i) ++ drop k old

pub links_start : (g : ℕ → Bool) (old : List Bool) → length old ≡ 64 → Links g old 0 old
unfolding list_from
links_start g old h = record { upto = omega arith; long = h; are = refl }

module _ (g : ℕ → Bool) (old now : List Bool) (k : ℕ) (l : Links g old k now) where
  links_cut : k < 64 → now ≡ list_from 0 k (λ i. get_or old i false || g i) ++ get_or old k false ∷ drop (suc k) old
  links_cut h = let b : k < length old = omega (arith, l.long) in l.are ∙ rw (drop-cons old k false b)

  pub links_next : (r : Bool) → k < 64 → r ≡ g k → Links g old (k + 1) (set now k (get_or now k false || r))
  links_next r h e = record { upto = omega arith; long = l.long; are = stored }
    where
      f : ℕ → Bool
      f i = get_or old i false || g i

      stored : set now k (get_or now k false || r) ≡ list_from 0 (k + 1) f ++ drop (k + 1) old
      stored =
          let p = list_from 0 k f in
          let n : length p ≡ k = length_list_from f 0 k in
          let x = get_or old k false in
          let q = drop (suc k) old in
          let here : get_or now k false ≡ x = rw (links_cut h) (get_or_at p x q false k n) in
          rw (here, e, links_cut h, add-one k, list_from_snoc f 0 k, zero-add k, append_assoc) (set_at p x q (x || g k) k n)

  pub links_done : 64 ≤ k → now ≡ list_from 0 64 (λ i. get_or old i false || g i)
  links_done h =
      let e : k ≡ 64 = omega (arith, l.upto) in
      let none : drop 64 old ≡ [] = drop_of_length-le old {i = 64} (omega (arith, l.long)) in
      l.are ∙ rw (e, none, append-nil)

pub partition_is : (n : Network) (groups : ℕ) (links : List Bool) (k : ℕ) → Links (λ i. separated groups (i / 8 + 1) (i % 8 + 1)) n.blocked k links → 64 ≤ k
    → with_blocked n links ≡ partition n groups
unfolding partition
partition_is n groups links k l h = ap (with_blocked n) (links_done _ _ _ _ l h)

-- A delay: its bounds; the generator moves by one draw.
module _ (n : Network) where
  pub delay_fits : DelaysFit n → DelaysFit (delay n).network
  unfolding delay
  delay_fits l = record { base = l.base; factor = l.factor }

  pub delay_below : DelaysFit n → (delay n).delay.0 < 2 ^ 57
  unfolding delay
  delay_below l = let d = n.base_delay.0 in scaled_below _ _ (omega (arith, under_lt n.rng (d + 1) (omega arith), l.base)) l.factor

  pub delay_after : (delay n).network.rng ≡ after 1 n.rng
  unfolding delay
  delay_after = under_after n.rng _

-- A chance: its bounds; the generator moves by as many draws as it tells.
module _ (n : Network) (rate : ℕ) where
  pub chance_few : (chance n rate).draws ≤ 1
  unfolding chance
  chance_few = pick_both (λ (c : Chance). c.draws ≤ 1) (eqb rate 0) (omega arith) (omega arith)

  pub chance_fits : DelaysFit n → DelaysFit (chance n rate).network
  unfolding chance
  chance_fits l = pick_both (λ (c : Chance). DelaysFit c.network) (eqb rate 0) l (record { base = l.base; factor = l.factor })

  pub chance_after : (chance n rate).network.rng ≡ after (chance n rate).draws n.rng
  unfolding chance
  chance_after = pick_both (λ (c : Chance). c.network.rng ≡ after c.draws n.rng) (eqb rate 0) refl (under_after n.rng ppm)

-- A delivered message: its bounds; the generator moves by as many draws as it tells.
module _ (n : Network) (draws : ℕ) where
  pub delivered_bounds : DelaysFit n → draws ≤ 1 → Bounds (delivered n draws)
  unfolding delivered
  delivered_bounds l h =
      let first = delay n in
      let twice = chance first.network n.duplicate_ppm in
      let l₁ = delay_fits n l in
      let l₂ = chance_fits first.network n.duplicate_ppm l₁ in
      let few = chance_few first.network n.duplicate_ppm in
      let b₁ = lt-ltb _ _ (delay_below n l) in
      let b₂ = lt-ltb _ _ (delay_below twice.network l₂) in
      pick_both
      Bounds
      twice.happens
      (record { few = omega arith; below = and_both _ _ b₁ b₂; delays = delay_fits twice.network l₂ })
      (record { few = omega arith; below = b₁; delays = l₂ })

  pub delivered_after : (g : Rng) → n.rng ≡ after draws g → (delivered n draws).network.rng ≡ after (delivered n draws).draws g
  unfolding delivered
  delivered_after g e =
      let first = delay n in
      let twice = chance first.network n.duplicate_ppm in
      let once : twice.network.rng ≡ after (draws + 1 + twice.draws) g =
      chance_after first.network n.duplicate_ppm
      ∙ ap (after twice.draws) (delay_after n ∙ ap (after 1) e ∙ sym (after_add draws 1 g))
      ∙ sym (after_add (draws + 1) twice.draws g) in
      pick_both
      (λ (r : Routed). r.network.rng ≡ after r.draws g)
      twice.happens
      (delay_after twice.network ∙ ap (after 1) once ∙ sym (after_add (draws + 1 + twice.draws) 1 g))
      once

-- A route: its bounds; the generator moves by as many draws as it tells.
module _ (n : Network) (from to : NodeId) where
  pub route_bounds : DelaysFit n → Bounds (route n from to)
  unfolding route
  route_bounds l =
      let lost = chance n n.loss_ppm in
      let few = chance_few n n.loss_ppm in
      let l₁ = chance_fits n n.loss_ppm l in
      pick_both
      Bounds
      (get_or n.blocked (link from to) false)
      (record { few = omega arith; below = refl; delays = l })
      (pick_both
      Bounds
      lost.happens
      (record { few = omega arith; below = refl; delays = l₁ })
      (delivered_bounds lost.network lost.draws l₁ few))

  pub route_after : (route n from to).network.rng ≡ after (route n from to).draws n.rng
  unfolding route
  route_after =
      let lost = chance n n.loss_ppm in
      let e = chance_after n n.loss_ppm in
      let P : Routed → Type 0 = λ r. r.network.rng ≡ after r.draws n.rng in
      pick_both
      P
      (get_or n.blocked (link from to) false)
      refl
      (pick_both P lost.happens e (delivered_after lost.network lost.draws n.rng e))
