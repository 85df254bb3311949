-- Laws of the split of servers in two groups: groups as bits, servers drawn into them, and neither left empty. Assumes nothing.
use Rattle.std.specs.Prelude.{◌≡◌, refl, Bool, true, false, List, [], ◌∷◌, ◌++◌, ℕ, suc, ◌+◌, ◌-◌, ◌*◌, ◌^◌, ◌≤◌, ◌<◌, eqb, length, get_or, drop}
use Rattle.std.proofs.Common.{sym, ap, ◌∙◌, add-one, arith, drop_of_length-le, pow_pos, drop-cons}
use Rattle.std.specs.Int.Bits.{bit_or, or_zero_l}
use Rattle.std.proofs.Math.Dec.{leb}
use borrow.Author.Tests.{ne_eqb, leb-true}
use Rattle.laws.specs.Bools.{pick, pick_both, ◌and◌, and_left}
use Rattle.laws.proofs.BoolLaws.{and_right, every_get}
use Rattle.units.specs.declared.NodeId.{NodeId}
use Rattle.rng.specs.Rng.{under}
use Rattle.rng.specs.declared.Rng.{Rng}
use Rattle.faults_chaos.specs.declared.members.Dealt.{Dealt}
use Rattle.faults_chaos.specs.Schedule.{Groups, no_groups, groups_word, mask_from, mask_of, but_last, last_only, push, deal, both_held, split, known_ids}
use Rattle.faults_chaos.specs.Draws.{length_ids, id_at}
use Rattle.faults_chaos.specs.Answers.{ids_of, over, group_of, with_bit, deal_one, dealt_of, held_word}

-- The bits of a group with one server more.
mask_snoc : (mask : ℕ) (servers : List NodeId) (s : NodeId) → mask_from mask (servers ++ s ∷ []) ≡ bit_or (mask_from mask servers) (2 ^ (s.0 - 1))
unfolding mask_from
mask_snoc mask [] s = refl
mask_snoc mask (x ∷ xs) s = mask_snoc (bit_or mask (2 ^ (x.0 - 1))) xs s

but_last_snoc : (servers : List NodeId) (s : NodeId) → but_last (servers ++ s ∷ []) ≡ servers
unfolding but_last
but_last_snoc [] s = refl
but_last_snoc (x ∷ []) s = refl
but_last_snoc (x ∷ y ∷ ys) s = ap (λ (l : List NodeId). x ∷ l) (but_last_snoc (y ∷ ys) s)

last_snoc : (servers : List NodeId) (s : NodeId) → last_only (servers ++ s ∷ []) ≡ s ∷ []
unfolding last_only
last_snoc [] s = refl
last_snoc (x ∷ []) s = refl
last_snoc (x ∷ y ∷ ys) s = last_snoc (y ∷ ys) s

group_snoc : (servers : List NodeId) (s : NodeId) → with_bit (group_of servers) (2 ^ (s.0 - 1)) ≡ group_of (servers ++ s ∷ [])
unfolding group_of with_bit mask_from
group_snoc servers s = rw (mask_snoc 0 servers s, but_last_snoc, last_snoc, or_zero_l)

-- The groups that the code has, for groups of servers.
pub record Holds (dealt : Dealt) (groups : Groups) : Type 0 where
  pub first : dealt.first ≡ group_of groups.first
  pub second : dealt.second ≡ group_of groups.second

holds_one : (dealt : Dealt) (groups : Groups) (s : NodeId) → Holds dealt groups → Holds (deal_one dealt s) (push (under dealt.next 2).value s groups)
unfolding deal_one push
holds_one dealt groups s h = by (eqb (under dealt.next 2).value 0)
  where
    next : Rng
    next = (under dealt.next 2).next

    bit : ℕ
    bit = 2 ^ (s.0 - 1)

    by : (t : Bool) → Holds
        (pick t (record { first = with_bit dealt.first bit; second = dealt.second; next = next }) (record { first = dealt.first; second = with_bit dealt.second bit; next = next }))
        (pick t (record { first = groups.first ++ s ∷ []; second = groups.second }) (record { first = groups.first; second = groups.second ++ s ∷ [] }))
    by true = record { first = rw h.first (group_snoc groups.first s); second = h.second }
    by false = record { first = h.first; second = rw h.second (group_snoc groups.second s) }

one_next : (dealt : Dealt) (s : NodeId) → (deal_one dealt s).next ≡ (under dealt.next 2).next
unfolding deal_one
one_next dealt s = pick_both (λ (x : Dealt). x.next ≡ (under dealt.next 2).next) (eqb (under dealt.next 2).value 0) refl refl

deal_cons : (groups : Groups) (ids : List ℕ) (i : ℕ) (g : Rng) → i < length ids
    → dealt_of (deal groups (ids_of (drop i ids)) g) ≡ dealt_of (deal (push (under g 2).value (record { 0 = get_or ids i 0 }) groups) (ids_of (drop (i + 1) ids)) (under g 2).next)
unfolding deal dealt_of ids_of
deal_cons groups ids i g h = rw (drop-cons ids i 0 h, add-one i)

deal_nil : (groups : Groups) (ids : List ℕ) (i : ℕ) (g : Rng) → length ids ≤ i
    → dealt_of (deal groups (ids_of (drop i ids)) g) ≡ record { first = group_of groups.first; second = group_of groups.second; next = g }
unfolding deal dealt_of ids_of
deal_nil groups ids i g h = rw (drop_of_length-le ids {i = i} h)

-- The deal after i servers: what is left of it decides the groups and the generator.
pub record Dealing (ids : List ℕ) (g : Rng) (dealt : Dealt) (i : ℕ) : Type 0 where
  pub groups : Groups
  pub holds : Holds dealt groups
  pub rest : dealt_of (deal no_groups (ids_of ids) g) ≡ dealt_of (deal groups (ids_of (drop i ids)) dealt.next)

pub dealing_start : (ids : List ℕ) (g : Rng)
    → Dealing ids g (record { first = record { all = 0; before = 0; last = 0 }; second = record { all = 0; before = 0; last = 0 }; next = g }) 0
unfolding group_of mask_from but_last last_only
dealing_start ids g = record {
  groups = no_groups;
  holds = record { first = refl; second = refl };
  rest = refl;
}

module _ (ids : List ℕ) (g : Rng) (dealt : Dealt) (i : ℕ) (d : Dealing ids g dealt i) where
  pub dealing_next : (next : Dealt) → i < length ids → next ≡ deal_one dealt (record { 0 = get_or ids i 0 }) → Dealing ids g next (i + 1)
  dealing_next next h e =
      let s : NodeId = record { 0 = get_or ids i 0 } in
      let groups = push (under dealt.next 2).value s d.groups in
      let moved : next.next ≡ (under dealt.next 2).next = ap (λ (x : Dealt). x.next) e ∙ one_next dealt s in
      record {
        groups = groups;
        holds = rw e (holds_one dealt d.groups s d.holds);
        rest = d.rest ∙ deal_cons d.groups ids i dealt.next h ∙ ap (λ (r : Rng). dealt_of (deal groups (ids_of (drop (i + 1) ids)) r)) (sym moved);
      }

  pub dealing_done : length ids ≤ i → dealt ≡ dealt_of (deal no_groups (ids_of ids) g)
  dealing_done h = sym (d.rest ∙ deal_nil d.groups ids i dealt.next h ∙ rw (← d.holds.first, ← d.holds.second))

-- A listed id is a server's.
module _ (ids : List ℕ) (k : known_ids (ids_of ids) ≡ true) (i : ℕ) (h : i < length ids) where
  known : (leb 1 (get_or ids i 0) and leb (get_or ids i 0) 8) ≡ true
  unfolding known_ids
  known = rw (id_at ids i) at (every_get (λ (s : NodeId). leb 1 s.0 and leb s.0 8) (ids_of ids) i (record { 0 = 0 }) (rw (length_ids ids) h) k)

  pub known_low : 1 ≤ get_or ids i 0
  known_low = leb-true 1 (get_or ids i 0) (and_left _ _ known)

  pub known_high : get_or ids i 0 ≤ 8
  known_high = leb-true (get_or ids i 0) 8 (and_right _ _ known)

-- A group is empty just where its last server has no bit.
last_zero : (servers : List NodeId) → eqb (mask_of (last_only servers)) 0 ≡ eqb (length servers) 0
unfolding mask_from last_only
last_zero [] = refl
last_zero (x ∷ []) = let p : 2 ^ (x.0 - 1) ≡ 0 → ⊥ = λ e. omega (arith, pow_pos (x.0 - 1)) in rw (or_zero_l (2 ^ (x.0 - 1))) (ne_eqb _ _ p)
last_zero (x ∷ y ∷ ys) = last_zero (y ∷ ys) ∙ ne_eqb _ _ (some (length ys)) ∙ sym (ne_eqb _ _ (some (suc (length ys))))
  where
    some : (n : ℕ) → suc n ≡ 0 → ⊥
    some n e = omega arith

held_is : (groups : Groups) → held_word (group_of groups.first) (group_of groups.second) ≡ groups_word (both_held groups)
unfolding held_word group_of both_held groups_word
held_is groups = rw (last_zero groups.first, last_zero groups.second) (by (eqb (length groups.first) 0) (eqb (length groups.second) 0))
  where
    by : (t u : Bool) → pick t
        (mask_of (last_only groups.second) + 256 * mask_of (but_last groups.second))
        (pick u (mask_of (but_last groups.first) + 256 * mask_of (last_only groups.first)) (mask_of groups.first + 256 * mask_of groups.second))
        ≡ groups_word (pick t (record { first = last_only groups.second; second = but_last groups.second })
        (pick u (record { first = but_last groups.first; second = last_only groups.first }) groups))
    by true u = refl
    by false true = refl
    by false false = refl

deal_draws : (groups : Groups) (servers : List NodeId) (g : Rng) → (deal groups servers g).draws ≡ length servers
unfolding deal
deal_draws groups [] g = refl
deal_draws groups (s ∷ ss) g = omega (arith, deal_draws (push (under g 2).value s groups) ss (under g 2).next)

pub split_is : (ids : List ℕ) (g : Rng) (dealt : Dealt) (word : ℕ) → dealt ≡ dealt_of (deal no_groups (ids_of ids) g) → word ≡ held_word dealt.first dealt.second
    → record { result = word; draws = length ids; next = dealt.next } ≡ over groups_word (split (ids_of ids) g)
unfolding split dealt_of
split_is ids g dealt word e h =
    let d = deal no_groups (ids_of ids) g in
    let n : d.draws + 0 ≡ length ids = omega (arith, deal_draws no_groups (ids_of ids) g, length_ids ids) in
    rw (h, e, n, held_is d.result)

pub ruleset dealing = (dealing_start, dealing_next, dealing_done, known_low, known_high)
