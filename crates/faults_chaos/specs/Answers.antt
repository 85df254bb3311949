-- What the functions of a schedule answer, in the terms of its definitions. Assumes nothing.
use Rattle.std.specs.Prelude.{List, [], ◌∷◌, map, ℕ, ◌+◌, ◌-◌, ◌*◌, ◌^◌, ◌≤◌, eqb, length, slice_get, Option, None, Some, Result, Ok, Err}
use Rattle.std.specs.Int.Bits.{bit_or}
use Rattle.std.specs.Option.{option_map}
use Rattle.laws.specs.Bools.{pick}
use Rattle.rng.specs.Rng.{under}
use Rattle.rng.specs.declared.Rng.{Rng}
use Rattle.units.specs.declared.NodeId.{NodeId}
use Rattle.units.specs.declared.Duration.{Duration}
use Rattle.units.specs.declared.refusal.Refusal.{Refusal}
use Rattle.faults_chaos.specs.declared.members.Group.{Group}
use Rattle.faults_chaos.specs.declared.members.Dealt.{Dealt}
use Rattle.faults_chaos.specs.declared.Timed.{Timed}
use Rattle.faults_chaos.specs.declared.ChaosConfig.{ChaosConfig}
use Rattle.faults_chaos.specs.declared.Draws.{Draws}
use Rattle.faults_chaos.specs.declared.Entries.{Entries}
use Rattle.faults_chaos.specs.declared.Entries.TheVariants.{One, Two}
use Rattle.faults_chaos.specs.Schedule.{draw, give, then, Chaos, Groups, mask_of, but_last, last_only}

-- The servers of a lent list of ids.
unfoldable pub ids_of : List ℕ → List NodeId
ids_of ids = map (λ id. record { 0 = id }) ids

-- What is made of a result of drawing.
abbrev pub over : {A B : Type 0} → (A → B) → Draws A → Draws B
over f d = record { result = f d.result; draws = d.draws; next = d.next }

-- A duration as its number, in the draws that it took.
abbrev pub duration_drawn : Draws Duration → Draws ℕ
duration_drawn d = over (λ x. x.0) d

-- One of a list, in one draw; none of a list that is empty.
unfoldable pub drawn_from : {A : Type 0} → List A → Rng → Draws (Option A)
drawn_from list g = then (draw g (length list)) (λ n. give (slice_get list n))

-- A group as the code has it.
unfoldable pub group_of : List NodeId → Group
group_of servers = record { all = mask_of servers; before = mask_of (but_last servers); last = mask_of (last_only servers) }

-- The group with one server more, by its bit.
unfoldable pub with_bit : Group → ℕ → Group
with_bit group bit = record { all = bit_or group.all bit; before = group.all; last = bit }

-- One server drawn into one of two groups.
unfoldable pub deal_one : Dealt → NodeId → Dealt
deal_one dealt server =
    let side = under dealt.next 2 in
    let bit = 2 ^ (server.0 - 1) in
    pick (eqb side.value 0)
    (record { first = with_bit dealt.first bit; second = dealt.second; next = side.next })
    (record { first = dealt.first; second = with_bit dealt.second bit; next = side.next })

-- Two groups and the generator, as the code has them.
unfoldable pub dealt_of : Draws Groups → Dealt
dealt_of d = record { first = group_of d.result.first; second = group_of d.result.second; next = d.next }

-- The word of two groups of which neither stays empty.
unfoldable pub held_word : Group → Group → ℕ
held_word first second =
    pick (eqb first.last 0)
    (second.last + 256 * second.before)
    (pick (eqb second.last 0) (first.before + 256 * first.last) (first.all + 256 * second.all))

-- The entries of one fault as a list.
unfoldable pub list_of : Entries → List Timed
list_of (One entry) = entry ∷ []
list_of (Two entry undone) = entry ∷ undone ∷ []

-- The entries of one fault, in the draws that it took; none where no second server came.
abbrev pub fault_drawn : Draws (Option Entries) → Draws (Option (List Timed))
fault_drawn d = over (option_map list_of) d

-- The limits of a schedule's times.
pub record Times (config : ChaosConfig) : Type 0 where
  pub start : config.start.0 ≤ 2 ^ 62
  pub end : config.end.0 ≤ 2 ^ 62
  pub gap : config.mean_gap.0 ≤ 2 ^ 40
  pub longest : config.max_duration.0 ≤ 2 ^ 40

-- The number of a fault's entries.
abbrev pub count_of : Entries → ℕ
count_of (One entry) = 1
count_of (Two entry undone) = 2

-- The number of a fault's entries, 0 where no second server came.
abbrev pub count_in : Option Entries → ℕ
count_in None = 0
count_in (Some entries) = count_of entries

-- The most draws of a fault's own kind: 64 where no second server came, else 32 for each entry.
abbrev pub most_draws : Option Entries → ℕ
most_draws entries = 32 * count_in entries + 64 * (1 - count_in entries)

-- A schedule without its entries: a refusal, or the number of the entries, in the draws that they took.
unfoldable pub summary : Chaos → Result (Draws ℕ) Refusal
summary (Err refusal) = Err refusal
summary (Ok entries) = Ok (over length entries)
