-- Laws of a schedule that is drawn and counted, from the code's steps. Assumes nothing.
use Rattle.std.proofs.Math.Path.{◌≡◌, refl, sym, ap}
use Rattle.std.proofs.Common.{◌∙◌}
use Rattle.std.specs.Prelude.{Bool, ◌&&◌, Option, None, Some, Result, Ok, Err}
use Rattle.std.specs.Option.{option_map, ok_or}
use Rattle.std.specs.Ordering.{is_le, nat_cmp}
use Rattle.std.proofs.lemmas.Bool.Decides.{nat_tests}
use Rattle.std.proofs.Math.Bool.{true, false}
use mathlib.Core.List.{List, [], ◌∷◌, ◌++◌}
use Prim.Native.Nat.{ℕ, suc, ◌+◌, ◌-◌, ◌*◌, ◌^◌, ◌≤◌, ◌<◌}
use Rattle.std.proofs.Math.Numerals.{add-one}
use native.Mathlib.Omega.{arith}
use Rattle.std.proofs.Math.Dec.{leb}
use Rattle.std.proofs.Math.ListN.{length, length-append}
use borrow.Author.Tests.{lt-ltb, le-ltb, le-leb, lt-leb, leb-true}
use Rattle.laws.specs.Bools.{pick, ◌and◌, and_left, and_assoc}
use Rattle.laws.proofs.BoolLaws.{and_right, code_and}
use Rattle.laws.specs.OrderLaws.{length_push}
use Rattle.laws.specs.Order.{Order, numbers, push_by, push_all, sort_by}
use Rattle.units.specs.declared.NodeId.{NodeId}
use Rattle.units.specs.declared.SimTime.{SimTime}
use Rattle.units.specs.declared.Duration.{Duration}
use Rattle.units.specs.declared.refusal.Refusal.{Refusal}
use Rattle.units.specs.declared.refusal.Refusal.TheVariants as question
use Rattle.rng.specs.declared.Rng.{Rng}
use Rattle.faults.specs.declared.Fault.TheVariants.{HealAll}
use Rattle.faults_chaos.specs.declared.Timed.{Timed}
use Rattle.faults_chaos.specs.declared.ChaosConfig.{ChaosConfig}
use Rattle.faults_chaos.specs.declared.Draws.{Draws}
use Rattle.faults_chaos.specs.declared.Entries.{Entries}
use Rattle.faults_chaos.specs.declared.Entries.TheVariants.{One, Two}
use Rattle.faults_chaos.specs.Schedule.{uniform, one_fault, Chaos, ended, placed, generate, known_ids, times_in_range, chaos_schedule}
use Rattle.faults_chaos.specs.Draws.{length_ids, duration_draws}
use Rattle.faults_chaos.specs.Answers.{Times, ids_of, duration_drawn, list_of, fault_drawn, count_of, most_draws, summary}

-- Sorting keeps the number of elements.
module _ {K A : Type 0} (O : Order K) (key : A → K) where
  length_push_all : (xs ys : List A) → length (push_all O key xs ys) ≡ length xs + length ys
  unfolding push_all
  length_push_all [] ys = omega arith
  length_push_all (x ∷ xs) ys = omega (arith, length_push_all xs (push_by O key x ys), length_push O key x ys)

  length_sort : (xs : List A) → length (sort_by O key xs) ≡ length xs
  unfolding sort_by
  length_sort xs = omega (arith, length_push_all xs [])

-- The limits of the times, from their test.
pub times_of : (config : ChaosConfig) → times_in_range config ≡ true → Times config
unfolding times_in_range
times_of config h =
    let h₁ = and_right _ _ h in
    let h₂ = and_right _ _ h₁ in
    record {
      start = leb-true _ _ (and_left _ _ h);
      end = leb-true _ _ (and_left _ _ h₁);
      gap = leb-true _ _ (and_left _ _ h₂);
      longest = leb-true _ _ (and_right _ _ h₂);
    }

pub times_are : (config : ChaosConfig)
    → (((leb config.start.0 (2 ^ 62) && leb config.end.0 (2 ^ 62)) && leb config.mean_gap.0 (2 ^ 40)) && leb config.max_duration.0 (2 ^ 40))
    ≡ times_in_range config
unfolding times_in_range
times_are config = simp (code_and, and_assoc)

length_list : (e : Entries) → length (list_of e) ≡ count_of e
unfolding list_of
length_list (One a) = refl
length_list (Two a b) = refl

-- A schedule that is drawn so far: what is left of it decides the outcome, whatever its entries are.
pub record Planning (ids : List ℕ) (config : ChaosConfig) (room : ℕ) (g : Rng) (gaps : Duration) (time : SimTime) (count draws : ℕ)
    (next : Rng) : Type 0 where
  pub times : Times config
  pub is_gaps : gaps.0 ≡ config.mean_gap.0 * 2
  pub small : gaps.0 ≤ 2 ^ 41
  pub early : time.0 ≤ 2 ^ 62
  pub room_small : room < 2 ^ 58
  pub within : count ≤ room
  pub few : draws ≤ 36 * count
  pub turns : ℕ
  pub enough : room < turns + count
  pub schedule : List Timed
  pub long : length schedule ≡ count
  pub rest : generate (ids_of ids) config room (room + 1) config.start [] 0 g ≡ generate (ids_of ids) config room turns time schedule draws next

unfoldable pub planning_start : (ids : List ℕ) (config : ChaosConfig) (room : ℕ) (g : Rng) → Times config → room < 2 ^ 58
    → Planning ids config room g (record { 0 = config.mean_gap.0 * 2 }) config.start 0 0 g
planning_start ids config room g t r =
    record {
      times = t;
      is_gaps = refl;
      small = omega (arith, t.gap);
      early = t.start;
      room_small = r;
      within = omega arith;
      few = omega arith;
      turns = room + 1;
      enough = omega arith;
      schedule = [];
      long = refl;
      rest = refl;
    }

-- One turn: the gap, then the end or one fault.
module _ (servers : List NodeId) (config : ChaosConfig) (room t : ℕ) (time : SimTime) (schedule : List Timed) (draws : ℕ) (next : Rng)
    (d : Draws Duration)
    (e : duration_drawn d ≡ uniform 0 (config.mean_gap.0 * 2) next) where
  one : d.draws ≡ 1
  one = ap (λ (x : Draws ℕ). x.draws) e ∙ duration_draws 0 (config.mean_gap.0 * 2) next

  turn_ended : config.end.0 ≤ time.0 + d.result.0
      → generate servers config room (suc t) time schedule draws next ≡ ended servers config room schedule (draws + 1) d.next
  unfolding generate
  turn_ended h = rw (← one, ← e) (simp (le-leb config.end.0 (time.0 + d.result.0) h))

  turn_fault : (f : Draws (Option Entries)) → time.0 + d.result.0 < config.end.0
      → fault_drawn f ≡ one_fault servers config (record { 0 = time.0 + d.result.0 }) d.next
      → generate servers config room (suc t) time schedule draws next
      ≡ placed servers config room schedule (fault_drawn f).result
      (λ entries. generate servers config room t (record { 0 = time.0 + d.result.0 }) entries (draws + 1 + f.draws) f.next)
  unfolding generate
  turn_fault f h k = rw (← one, ← e, ← k) (simp (lt-leb config.end.0 (time.0 + d.result.0) h))

ended_made : (servers : List NodeId) (config : ChaosConfig) (room draws : ℕ) (schedule : List Timed) (g : Rng) → length schedule < room
    → Ok (record { result = length schedule + 1; draws = draws; next = g }) ≡ summary (ended servers config room schedule draws g)
unfolding summary
ended_made servers config room draws schedule g h =
    let last : List Timed = record { time = config.end; fault = HealAll } ∷ [] in
    let n : length (sort_by numbers (λ (t : Timed). t.time.0) (schedule ++ last)) ≡ length schedule + 1 =
    length_sort numbers (λ (t : Timed). t.time.0) (schedule ++ last) ∙ length-append schedule last in
    simp (lt-ltb (length schedule) room h, n)

ended_full : (servers : List NodeId) (config : ChaosConfig) (room draws : ℕ) (schedule : List Timed) (g : Rng) → room ≤ length schedule
    → Err question.Room ≡ summary (ended servers config room schedule draws g)
unfolding summary
ended_full servers config room draws schedule g h = simp (le-ltb (length schedule) room h)

-- The turns of the code.
module _ (ids : List ℕ) (config : ChaosConfig) (room : ℕ) (g : Rng) (gaps : Duration) (time : SimTime) (count draws : ℕ) (next : Rng)
    (p : Planning ids config room g gaps time count draws next) (d : Draws Duration) (e : duration_drawn d ≡ uniform 0 gaps.0 next) where
  gap : duration_drawn d ≡ uniform 0 (config.mean_gap.0 * 2) next
  gap = e ∙ ap (λ (n : ℕ). uniform 0 n next) p.is_gaps

  left : generate (ids_of ids) config room (room + 1) config.start [] 0 g ≡ generate (ids_of ids) config room (suc (p.turns - 1)) time p.schedule draws next
  left = let n : p.turns ≡ suc (p.turns - 1) = omega (arith, p.enough, p.within) in p.rest ∙ ap (λ (t : ℕ). generate (ids_of ids) config room t time p.schedule draws next) n

  pub at_end : config.end.0 ≤ time.0 + d.result.0
      → generate (ids_of ids) config room (room + 1) config.start [] 0 g ≡ ended (ids_of ids) config room p.schedule (draws + 1) d.next
  at_end h = left ∙ turn_ended (ids_of ids) config room (p.turns - 1) time p.schedule draws next d gap h

  pub plan_made : config.end.0 ≤ time.0 + d.result.0 → count < room
      → Ok (record { result = count + 1; draws = draws + 1; next = d.next })
      ≡ summary (generate (ids_of ids) config room (room + 1) config.start [] 0 g)
  plan_made h k =
      ap (λ (n : ℕ). Ok (record { result = n + 1; draws = draws + 1; next = d.next })) (sym p.long)
      ∙ ended_made (ids_of ids) config room (draws + 1) p.schedule d.next (omega (arith, p.long))
      ∙ ap summary (sym (at_end h))

  pub plan_full : config.end.0 ≤ time.0 + d.result.0 → room ≤ count
      → Err question.Room ≡ summary (generate (ids_of ids) config room (room + 1) config.start [] 0 g)
  plan_full h k = ended_full (ids_of ids) config room (draws + 1) p.schedule d.next (omega (arith, p.long)) ∙ ap summary (sym (at_end h))

  module _ (f : Draws (Option Entries)) (h : time.0 + d.result.0 < config.end.0)
      (k : fault_drawn f ≡ one_fault (ids_of ids) config (record { 0 = time.0 + d.result.0 }) d.next) where
    more : List Timed → Chaos
    more entries = generate (ids_of ids) config room (p.turns - 1) (record { 0 = time.0 + d.result.0 }) entries (draws + 1 + f.draws) f.next

    at_fault : generate (ids_of ids) config room (room + 1) config.start [] 0 g
        ≡ placed (ids_of ids) config room p.schedule (fault_drawn f).result more
    unfolding more
    at_fault = left ∙ turn_fault (ids_of ids) config room (p.turns - 1) time p.schedule draws next d gap f h k

    pub plan_no_second : f.result ≡ None
        → Err question.SecondServer ≡ summary (generate (ids_of ids) config room (room + 1) config.start [] 0 g)
    unfolding summary
    plan_no_second z =
        ap summary (sym (at_fault ∙ ap (λ (o : Option Entries). placed (ids_of ids) config room p.schedule (option_map list_of o) more) z))

    module _ (entries : Entries) (s : f.result ≡ Some entries) where
      at_some : generate (ids_of ids) config room (room + 1) config.start [] 0 g
          ≡ pick (leb (length p.schedule + count_of entries) room) (more (p.schedule ++ list_of entries)) (Err question.Room)
      at_some =
          at_fault ∙ ap (λ (o : Option Entries). placed (ids_of ids) config room p.schedule (option_map list_of o) more) s
          ∙ ap (λ (n : ℕ). pick (leb (length p.schedule + n) room) (more (p.schedule ++ list_of entries)) (Err question.Room))
          (length_list entries)

      pub plan_no_room : room - count < count_of entries
          → Err question.Room ≡ summary (generate (ids_of ids) config room (room + 1) config.start [] 0 g)
      unfolding summary
      plan_no_room r =
          let full : leb (length p.schedule + count_of entries) room ≡ false =
          lt-leb (length p.schedule + count_of entries) room (omega (arith, p.long, p.within)) in
          let refused : pick (leb (length p.schedule + count_of entries) room) (more (p.schedule ++ list_of entries))
          (Err question.Room) ≡ Err question.Room = simp full in
          ap summary (sym (at_some ∙ refused))

      pub planning_next : (n : ℕ) → n ≡ count_of entries → 1 ≤ n → n ≤ room - count → f.draws ≤ 3 + most_draws f.result
          → Planning ids config room g gaps (record { 0 = time.0 + d.result.0 }) (count + n) (draws + (1 + f.draws)) f.next
      unfolding more
      planning_next n c o r b =
          let fits : leb (length p.schedule + count_of entries) room ≡ true =
          le-leb (length p.schedule + count_of entries) room (omega (arith, p.long, p.within, c)) in
          let most : f.draws ≤ 3 + most_draws (Some entries) = rw s at b in
          let same : draws + 1 + f.draws ≡ draws + (1 + f.draws) = omega arith in
          record {
            times = p.times;
            is_gaps = p.is_gaps;
            small = p.small;
            early = omega (arith, p.times.end);
            room_small = p.room_small;
            within = omega (arith, p.within);
            few = omega (arith, p.few, c, o, most);
            turns = p.turns - 1;
            enough = omega (arith, p.enough);
            schedule = p.schedule ++ list_of entries;
            long = length-append p.schedule (list_of entries) ∙ omega (arith, p.long, length_list entries, c);
            rest = at_some ∙ simp fits (rw (← same) refl);
          }

      pub planning_schedule : (n : ℕ) (c : n ≡ count_of entries) (o : 1 ≤ n) (r : n ≤ room - count) (b : f.draws ≤ 3 + most_draws f.result)
          → (planning_next n c o r b).schedule ≡ p.schedule ++ list_of entries
      unfolding planning_next
      planning_schedule n c o r b = refl

-- The code's comparison of two times.
pub reached : {t : Bool} {a b : ℕ} → t ≡ is_le (nat_cmp a b) → t ≡ true → a ≤ b
reached e h = grind (arith, nat_tests)

pub not_reached : {t : Bool} {a b : ℕ} → t ≡ is_le (nat_cmp a b) → t ≡ false → b < a
not_reached e h = grind (arith, nat_tests)

-- The entries of a fault, from the code's `ok_or` and `?`.
pub entries_there : (o : Option Entries) (q : Result Entries Refusal) (r : Refusal) (x : Entries) → q ≡ ok_or o r → q ≡ Ok x → o ≡ Some x
entries_there (Some y) q r x e h = let k : y ≡ x = cc in ap Some k
entries_there None q r x e h = cc

pub entries_absent : (o : Option Entries) (q : Result Entries Refusal) (r p : Refusal) → q ≡ ok_or o r → q ≡ Err p → (o ≡ None) × (p ≡ r)
entries_absent (Some y) q r p e h = cc
entries_absent None q r p e h = (refl, cc)

-- The questions before the draws: refused by each; accepted.
module _ (ids : List ℕ) (config : ChaosConfig) (room : ℕ) (g : Rng) (few : Bool)
    (ef : few ≡ (leb 1 (length ids) && leb (length ids) 8)) where
  counted : (leb 1 (length (ids_of ids)) and leb (length (ids_of ids)) 8) ≡ few
  counted = rw length_ids (sym (ef ∙ code_and _ _))

  pub wrong_count : few ≡ false → Err question.Servers ≡ summary (chaos_schedule (ids_of ids) config room g)
  unfolding chaos_schedule summary
  wrong_count n = let e = counted ∙ n in simp e

  module _ (y : few ≡ true) (known : Bool) (ek : known ≡ known_ids (ids_of ids)) where
    pub unknown_server : known ≡ false → Err question.UnknownServer ≡ summary (chaos_schedule (ids_of ids) config room g)
    unfolding chaos_schedule summary
    unknown_server n = let e = counted ∙ y in let u = rw ek at n in simp (e, u)

    module _ (all : known ≡ true) (times : Bool) (et : times ≡ times_in_range config) where
      pub time_limit : times ≡ false → Err question.Argument ≡ summary (chaos_schedule (ids_of ids) config room g)
      unfolding chaos_schedule summary
      time_limit n = let e = counted ∙ y in let u = rw ek at all in let v = rw et at n in simp (e, u, v)

      pub planned : (r : Result (Draws ℕ) Refusal) → times ≡ true
          → r ≡ summary (generate (ids_of ids) config room (room + 1) config.start [] 0 g)
          → r ≡ summary (chaos_schedule (ids_of ids) config room g)
      unfolding chaos_schedule
      planned r m q = let e = counted ∙ y in let u = rw ek at all in let v = rw et at m in q ∙ simp (e, u, v, add-one room)

pub times_told : (config : ChaosConfig) (t : Bool) → t ≡ times_in_range config → t ≡ true → Times config
times_told config t e h = times_of config (sym e ∙ h)

pub ruleset planning = (reached, not_reached, planning_start, planning_next, plan_made, plan_full, plan_no_second, plan_no_room)
