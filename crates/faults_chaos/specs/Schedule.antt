-- A random fault schedule (faults.rs), with document 01's bound on redraws, its refusals and the room of the lent list. Assumes nothing.
use Rattle.std.specs.Prelude.{Bool, List, [], ◌∷◌, ◌++◌, ℕ, zero, suc, ◌+◌, ◌-◌, ◌*◌, ◌^◌, min, leb, ltb, eqb, length, get_or, Option, None, Some, Result, Ok, Err}
use Rattle.std.specs.Int.Bits.{bit_or}
use Rattle.laws.specs.Bools.{pick, every, ◌and◌}
use Rattle.laws.specs.Order.{numbers, sort_by}
use Rattle.units.specs.Time.{minus}
use Rattle.units.specs.declared.NodeId.{NodeId}
use Rattle.units.specs.declared.SimTime.{SimTime}
use Rattle.units.specs.declared.refusal.Refusal.{Refusal}
use Rattle.units.specs.declared.refusal.Refusal.TheVariants as question
use Rattle.rng.specs.Rng.{under}
use Rattle.rng.specs.declared.Rng.{Rng}
use Rattle.faults.specs.declared.Fault.{Fault}
use Rattle.faults.specs.declared.Fault.TheVariants.{Crash, CrashDuringNextInput, Restart, CrashLeader, Partition, Block, Unblock, HealLinks, SetLoss, SetDuplication, SetDelayFactor, HealAll}
use Rattle.faults_chaos.specs.declared.Timed.{Timed}
use Rattle.faults_chaos.specs.declared.ChaosConfig.{ChaosConfig}
use Rattle.faults_chaos.specs.declared.Draws.{Draws}

-- One draw below a bound.
abbrev pub draw : Rng → ℕ → Draws ℕ
draw g bound = record { result = (under g bound).value; draws = 1; next = (under g bound).next }

-- Draws after others: what is made of both, and the draws of both.
abbrev pub then : {A B : Type 0} → Draws A → (A → Rng → Draws B) → Draws B
then d f =
    let e = f d.result d.next in
    record { result = e.result; draws = d.draws + e.draws; next = e.next }

-- A result without a draw.
abbrev pub give : {A : Type 0} → A → Rng → Draws A
give a g = record { result = a; draws = 0; next = g }

-- A duration from low to high, or low where high is below it (uniform): one draw in either case.
unfoldable pub uniform : ℕ → ℕ → Rng → Draws ℕ
uniform low high g = then (draw g (high - low + 1)) (λ n. give (low + n))

-- One of the servers (pick).
unfoldable pub pick_server : List NodeId → Rng → Draws NodeId
pick_server servers g = then (draw g (length servers)) (λ n. give (get_or servers n (record { 0 = 0 })))

-- The other end of a blocked link, drawn again while it is the first server, in at most so many draws; none where they do not suffice.
unfoldable pub pick_other : ℕ → NodeId → List NodeId → Rng → Draws (Option NodeId)
pick_other zero server servers g = give None g
pick_other (suc left) server servers g =
    then (pick_server servers g) (λ other. pick (eqb other.0 server.0) (pick_other left server servers) (give (Some other)))

-- The bits of servers put into a group one after the other: bit k is server k + 1.
unfoldable pub mask_from : ℕ → List NodeId → ℕ
mask_from mask [] = mask
mask_from mask (server ∷ servers) = mask_from (bit_or mask (2 ^ (server.0 - 1))) servers

-- A group of servers as bits.
abbrev pub mask_of : List NodeId → ℕ
mask_of servers = mask_from 0 servers

-- Two groups of servers.
pub record Groups : Type 0 where
  pub first : List NodeId
  pub second : List NodeId

-- Two groups without servers.
abbrev pub no_groups : Groups
no_groups = record { first = []; second = [] }

-- The word of a partition between two groups: a byte for each, the first lowest.
unfoldable pub groups_word : Groups → ℕ
groups_word groups = mask_of groups.first + 256 * mask_of groups.second

-- A server put at the end of one of two groups.
unfoldable pub push : ℕ → NodeId → Groups → Groups
push side server groups =
    pick (eqb side 0)
    (record { first = groups.first ++ server ∷ []; second = groups.second })
    (record { first = groups.first; second = groups.second ++ server ∷ [] })

-- Each server drawn into one of two groups, in list order.
unfoldable pub deal : Groups → List NodeId → Rng → Draws Groups
deal groups [] g = give groups g
deal groups (server ∷ servers) g = then (draw g 2) (λ side. deal (push side server groups) servers)

-- All but the last element.
unfoldable pub but_last : List NodeId → List NodeId
but_last [] = []
but_last (x ∷ []) = []
but_last (x ∷ y ∷ ys) = x ∷ but_last (y ∷ ys)

-- The last element alone.
unfoldable pub last_only : List NodeId → List NodeId
last_only [] = []
last_only (x ∷ []) = x ∷ []
last_only (x ∷ y ∷ ys) = last_only (y ∷ ys)

-- Where one group is empty, the last server of the other moves into it.
unfoldable pub both_held : Groups → Groups
both_held groups =
    pick (eqb (length groups.first) 0)
    (record { first = last_only groups.second; second = but_last groups.second })
    (pick (eqb (length groups.second) 0)
    (record { first = but_last groups.first; second = last_only groups.first })
    groups)

-- Two groups that are not empty, at random (split).
unfoldable pub split : List NodeId → Rng → Draws Groups
split servers g = then (deal no_groups servers g) (λ groups. give (both_held groups))

-- The loss levels to choose from, in parts per million: 5, 20 and 50 percent (LOSS_LEVELS).
abbrev pub loss_levels : List ℕ
loss_levels = 50_000 ∷ 200_000 ∷ 500_000 ∷ []

-- The delay factors to choose from (DELAY_FACTORS).
abbrev pub delay_factors : List ℕ
delay_factors = 3 ∷ 10 ∷ []

-- The entries of one fault: at its time, and at the time it is undone.
unfoldable pub start_and_end : SimTime → SimTime → Fault → Fault → Option (List Timed)
start_and_end time until fault undone = Some (record { time = time; fault = fault } ∷ record { time = until; fault = undone } ∷ [])

-- A blocked link and its end; none where no second server came.
unfoldable pub blocked_link : SimTime → SimTime → NodeId → Option NodeId → Option (List Timed)
blocked_link time until server None = None
blocked_link time until server (Some other) = start_and_end time until (Block server other) (Unblock server other)

-- The entries of one fault, with the draws that it makes; none where no second server came.
abbrev pub Faulting : Type 0
Faulting = Rng → Draws (Option (List Timed))

-- The kinds of fault in the Rust's order, each with its own draws.
module _ (time until : SimTime) where
  -- a fault that lasts until it is undone, with no draw
  abbrev pub lasting : Fault → Fault → Faulting
  lasting fault undone = give (start_and_end time until fault undone)

  -- a partition in two groups
  unfoldable pub partition : List NodeId → Faulting
  partition servers g = then (split servers g) (λ groups. give (start_and_end time until (Partition (groups_word groups)) HealLinks))

  -- a link that fails in one direction
  unfoldable pub block_link : NodeId → List NodeId → Faulting
  block_link server servers g = then (pick_other 64 server servers g) (λ other. give (blocked_link time until server other))

  -- message loss
  unfoldable pub loss : Faulting
  loss g = then (draw g 3) (λ n. give (start_and_end time until (SetLoss (get_or loss_levels n 0)) (SetLoss 0)))

  -- a crash of the leader, with no draw; its restart is no entry of its own
  unfoldable pub crash_leader : Faulting
  crash_leader = give (Some (record { time = time; fault = CrashLeader (minus until time) } ∷ []))

  -- slower delivery
  unfoldable pub slower : Faulting
  slower g = then (draw g 2) (λ n. give (start_and_end time until (SetDelayFactor (get_or delay_factors n 0)) (SetDelayFactor 1)))

  -- The kinds but the last, which is slower delivery: crashes between inputs and during an input, a partition, a blocked link, loss,
  -- duplication, a crash of the leader. With one server, a partition and a blocked link become a delay factor.
  abbrev pub kinds : NodeId → List NodeId → List Faulting
  kinds server servers =
      let multi = ltb 1 (length servers) in
      lasting (Crash server) (Restart server)
      ∷ lasting (CrashDuringNextInput server) (Restart server)
      ∷ pick multi (partition servers) slower
      ∷ pick multi (block_link server servers) slower
      ∷ loss
      ∷ lasting (SetDuplication 100_000) (SetDuplication 0)
      ∷ crash_leader
      ∷ []

  -- The fault of a kind.
  unfoldable pub fault_of_kind : NodeId → List NodeId → ℕ → Faulting
  fault_of_kind server servers kind = get_or (kinds server servers) kind slower

-- One fault that starts at a time before the end: its draws in the Rust's order.
unfoldable pub one_fault : List NodeId → ChaosConfig → SimTime → Faulting
one_fault servers config time g =
    then (uniform 100_000_000 config.max_duration.0 g)
    (λ duration g₁. then (pick_server servers g₁)
    (λ server g₂. then (draw g₂ 8)
    (λ kind. fault_of_kind time (record { 0 = min (time.0 + duration) config.end.0 }) server servers kind)))

-- What a schedule answers: a refusal, or the faults in order of time, equal times as generated, in the draws that they took.
abbrev pub Chaos : Type 0
Chaos = Result (Draws (List Timed)) Refusal

module _ (servers : List NodeId) (config : ChaosConfig) (room : ℕ) where
  -- The end of the schedule: HealAll's place is asked for last.
  abbrev pub ended : List Timed → ℕ → Rng → Chaos
  ended schedule draws g =
      pick (ltb (length schedule) room)
      (Ok (record {
        result = sort_by numbers (λ (t : Timed). t.time.0) (schedule ++ record { time = config.end; fault = HealAll } ∷ []);
        draws = draws;
        next = g;
      }))
      (Err question.Room)

  -- The entries of a fault are placed behind those before it, and the schedule goes on; refused where no second server came, and where
  -- an entry finds no place.
  abbrev pub placed : List Timed → Option (List Timed) → (List Timed → Chaos) → Chaos
  placed schedule None more = Err question.SecondServer
  placed schedule (Some entries) more = pick (leb (length schedule + length entries) room) (more (schedule ++ entries)) (Err question.Room)

  -- Faults until a gap ends at or past the end. Each turn but the last fills a place, so one turn more than the room is enough.
  unfoldable pub generate : ℕ → SimTime → List Timed → ℕ → Rng → Chaos
  generate zero time schedule draws g = Err question.Room
  generate (suc turns) time schedule draws g =
      let gap = uniform 0 (config.mean_gap.0 * 2) g in
      let start : SimTime = record { 0 = time.0 + gap.result } in
      let fault = one_fault servers config start gap.next in
      pick (leb config.end.0 start.0)
      (ended schedule (draws + gap.draws) gap.next)
      (placed schedule fault.result (λ entries. generate turns start entries (draws + gap.draws + fault.draws) fault.next))

-- Whether each listed id is a server's: 1 to 8.
unfoldable pub known_ids : List NodeId → Bool
known_ids servers = every (λ (s : NodeId). leb 1 s.0 and leb s.0 8) servers

-- Whether starts and ends are at most 2^62 ns, the mean gap and the longest duration at most 2^40 ns.
unfoldable pub times_in_range : ChaosConfig → Bool
times_in_range config =
    leb config.start.0 (2 ^ 62) and leb config.end.0 (2 ^ 62) and leb config.mean_gap.0 (2 ^ 40) and leb config.max_duration.0 (2 ^ 40)

-- A random fault schedule for a list of servers, into a list with room for so many entries (chaos_schedule): the questions of the
-- servers, of their ids and of the times, then those of room and of a second server in draw order.
unfoldable pub chaos_schedule : List NodeId → ChaosConfig → ℕ → Rng → Chaos
chaos_schedule servers config room g =
    pick (leb 1 (length servers) and leb (length servers) 8)
    (pick (known_ids servers)
    (pick (times_in_range config) (generate servers config room (suc room) config.start [] 0 g) (Err question.Argument))
    (Err question.UnknownServer))
    (Err question.Servers)
