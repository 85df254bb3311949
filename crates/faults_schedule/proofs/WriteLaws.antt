-- What the proof of `write` cites. Assumes nothing.
use Rattle.std.specs.Prelude.{◌≡◌, Bool, true, false, ℕ, suc, ◌+◌, ◌-◌, ◌*◌, ◌/◌, ◌^◌, ◌≤◌, ◌<◌, leb, ltb, take, drop, is_some, Option, None, Some, Ok, Err}
use Rattle.std.proofs.Math.Path.{refl}
use Rattle.std.proofs.Common.{sym, ap, ap₂, ◌∙◌, subst, add-one, arith, Fits, take-append-drop, lt-ltb, leb-true}
use mathlib.Core.List.{List, [], ◌∷◌, ◌++◌, map, append-nil}
use Rattle.std.specs.Int.{w64}
use Rattle.std.proofs.Math.ListN.{length}
use Rattle.std.proofs.lemmas.List.{length-map}
use Rattle.laws.specs.Bools.{pick, cases, ◌and◌, and_left}
use Rattle.laws.proofs.BoolLaws.{and_right}
use Rattle.laws.specs.Order.{Order, numbers, chain, push_by, push_all, sort_by}
use Rattle.units.specs.declared.SimTime.{SimTime}
use Rattle.units.specs.declared.Duration.{Duration}
use Rattle.units.specs.declared.refusal.Refusal.{Refusal}
use Rattle.units.specs.declared.refusal.Refusal.TheVariants as question
use Rattle.rng.specs.declared.Rng.{Rng}
use Rattle.faults.specs.declared.Fault.TheVariants.{HealAll}
use Rattle.faults_chaos.specs.declared.Timed.{Timed}
use Rattle.faults_chaos.specs.declared.ChaosConfig.{ChaosConfig}
use Rattle.faults_chaos.specs.declared.Draws.{Draws}
use Rattle.faults_chaos.specs.declared.Entries.{Entries}
use Rattle.faults_chaos.specs.declared.Entries.TheVariants.{One, Two}
use Rattle.faults_chaos.specs.Schedule.{Chaos, uniform, one_fault, generate, ended, known_ids, times_in_range, chaos_schedule}
use Rattle.faults_chaos.specs.Answers.{Times, ids_of, duration_drawn, list_of, fault_drawn, count_of, most_draws, summary}
use Rattle.faults_chaos.specs.Draws.{length_ids}
use Rattle.faults_chaos.specs.Plans.{reached, not_reached, times_of, Planning, planning_start, at_end, plan_full, plan_no_second, plan_no_room, planning_next, planning_schedule}
use Rattle.words.specs.Words.{bytes}
use Rattle.words.specs.Zero.{allz_zeros}
use Rattle.layout.specs.Code.{zeros, flat}
use Rattle.layout.specs.Tables.{Held}
use Rattle.layout.specs.TableLaws.{empty_held, held_rows}
use Rattle.faults_schedule.specs.declared.Listed.{Listed}
use Rattle.faults_schedule.specs.Listed.{listed_row, schedule, row_of, push, push_each, Extends, Places}
use Rattle.faults_schedule.specs.ListLaws.{drop_more}
use Rattle.faults_schedule.specs.Schedules.{entry_words, entry_bytes, list_after, Accepted}

-- ---- pushes one after another are the stable sort

-- The rows of scheduled faults.
unfoldable pub rows_of : List Timed → List Listed
rows_of x = map row_of x

-- The time of a scheduled fault.
abbrev timed_at : Timed → ℕ
timed_at t = t.time.0

module _ {K T : Type 0} (O : Order K) (key : T → K) where
  push_append : (xs ys z : List T) → push_all O key (xs ++ ys) z ≡ push_all O key ys (push_all O key xs z)
  unfolding push_all
  push_append [] ys z = refl
  push_append (a ∷ xs) ys z = push_append xs ys (push_by O key a z)

push_row : (t : Timed) (x : List Timed) → push t (rows_of x) ≡ rows_of (push_by numbers timed_at t x)
unfolding push push_by rows_of
push_row t [] = refl
push_row t (u ∷ x) =
    cases (ltb t.time.0 u.time.0) (λ e. rw e) (λ e. rw e (ap (λ (l : List Listed). row_of u ∷ l) (push_row t x)))

push_rows : (ts x : List Timed) → push_each ts (rows_of x) ≡ rows_of (push_all numbers timed_at ts x)
unfolding push_each push_all
push_rows [] x = refl
push_rows (t ∷ ts) x = ap (push_each ts) (push_row t x) ∙ push_rows ts (push_by numbers timed_at t x)

sort_rows : (x ts : List Timed) → push_each ts (rows_of (sort_by numbers timed_at x)) ≡ rows_of (sort_by numbers timed_at (x ++ ts))
unfolding sort_by
sort_rows x ts = push_rows ts (push_all numbers timed_at x []) ∙ ap rows_of (sym (push_append numbers timed_at x ts []))

-- ---- a schedule that is made

one_or_two : (x : Entries) → 1 ≤ count_of x
one_or_two (One a) = omega arith
one_or_two (Two a b) = omega arith

-- no refusal is made
not_made : (r : Refusal) (c : Chaos) → Accepted c → Err r ≡ summary c → ⊥
unfolding summary
not_made r c a h = let e : Err r ≡ summary (Ok a.schedule) = h ∙ ap summary a.is in cc

-- what the questions before the draws said
pub record Asked (ids : List ℕ) (config : ChaosConfig) (room : ℕ) (g : Rng) : Type 0 where
  pub some : 0 < length ids
  pub most : length ids ≤ 8
  pub known : known_ids (ids_of ids) ≡ true
  pub times : Times config
  pub is : chaos_schedule (ids_of ids) config room g ≡ generate (ids_of ids) config room (room + 1) config.start [] 0 g

pub asked : (ids : List ℕ) (config : ChaosConfig) (room : ℕ) (g : Rng) → Accepted (chaos_schedule (ids_of ids) config room g)
    → Asked ids config room g
unfolding chaos_schedule
asked ids config room g a =
    by (leb 1 (length (ids_of ids)) and leb (length (ids_of ids)) 8) refl (known_ids (ids_of ids)) refl (times_in_range config) refl a.is
  where
    all : Chaos
    all = generate (ids_of ids) config room (suc room) config.start [] 0 g

    by : (t : Bool) → (leb 1 (length (ids_of ids)) and leb (length (ids_of ids)) 8) ≡ t → (u : Bool) → known_ids (ids_of ids) ≡ u
        → (v : Bool) → times_in_range config ≡ v
        → pick t (pick u (pick v all (Err question.Argument)) (Err question.UnknownServer)) (Err question.Servers) ≡ Ok a.schedule
        → Asked ids config room g
    by true p true q true r h = record {
      some = omega (arith, leb-true 1 (length (ids_of ids)) (and_left _ _ p), length_ids ids);
      most = omega (arith, leb-true (length (ids_of ids)) 8 (and_right _ _ p), length_ids ids);
      known = q;
      times = times_of config r;
      is = simp (p, q, r, add-one room);
    }
    by true p true q false r h = cc
    by true p false q v r h = cc
    by false p u q v r h = cc

-- ---- the loop: the faults that were drawn so far are in the list

pub record Writing (ids : List ℕ) (config : ChaosConfig) (b₀ : List ℕ) (g : Rng) (gaps : Duration) (time : SimTime) (count : ℕ)
    (next : Rng) (b : List ℕ) : Type 0 where
  pub accepted : Accepted (generate (ids_of ids) config (length b₀ / 32) (length b₀ / 32 + 1) config.start [] 0 g)
  pub long : length b ≡ length b₀
  pub behind : drop (32 * count) b ≡ drop (32 * count) b₀
  pub draws : ℕ
  pub plan : Planning ids config (length b₀ / 32) g gaps time count draws next
  pub held : Held schedule (4 * count) count (take (32 * count) b) (rows_of (sort_by numbers timed_at plan.schedule))

pub gaps_fit : (ids : List ℕ) (config : ChaosConfig) (room : ℕ) (g : Rng) → Accepted (chaos_schedule (ids_of ids) config room g)
    → Fits w64 (config.mean_gap.0 * 2)
gaps_fit ids config room g a = record { fits = omega (arith, (asked ids config room g a).times.gap) }

pub writing_start : (ids : List ℕ) (config : ChaosConfig) (g : Rng) (b : List ℕ) → length b * 1 < 2 ^ 63
    → Accepted (chaos_schedule (ids_of ids) config (length b / 32) g)
    → Writing ids config b g (record { 0 = config.mean_gap.0 * 2 }) config.start 0 g b
unfolding planning_start rows_of sort_by push_all chain
writing_start ids config g b l a =
    let q = asked ids config (length b / 32) g a in
    record {
      accepted = subst Accepted q.is a;
      long = refl;
      behind = refl;
      draws = 0;
      plan = planning_start ids config (length b / 32) g q.times (omega arith);
      held = empty_held schedule (4 * 0) [] refl refl (allz_zeros 0);
    }

module _ (ids : List ℕ) (config : ChaosConfig) (b₀ : List ℕ) (g : Rng) (gaps : Duration) (time : SimTime) (count : ℕ) (next : Rng)
    (b : List ℕ)
    (w : Writing ids config b₀ g gaps time count next b) (d : Draws Duration) (e : duration_drawn d ≡ uniform 0 gaps.0 next) where
  -- HealAll's place
  module _ (h : config.end.0 ≤ time.0 + d.result.0) where
    last_free : count < length b₀ / 32
    last_free =
        let full : length b₀ / 32 ≤ count → ⊥ =
        λ k. not_made question.Room _ w.accepted (plan_full ids config (length b₀ / 32) g gaps time count w.draws next w.plan d e h k) in
        omega (arith, full)

    pub last_room : 32 * (count + 1) ≤ length b
    last_room = omega (arith, w.long, last_free)

  -- one fault more
  module _ (f : Draws (Option Entries)) (h : time.0 + d.result.0 < config.end.0)
      (k : fault_drawn f ≡ one_fault (ids_of ids) config (record { 0 = time.0 + d.result.0 }) d.next) where
    pub some_entry : is_some f.result ≡ true
    some_entry = by f.result refl
      where
        by : (o : Option Entries) → f.result ≡ o → is_some o ≡ true
        by (Some x) z = refl
        by None z =
            absurd (not_made question.SecondServer _ w.accepted
            (plan_no_second ids config (length b₀ / 32) g gaps time count w.draws next w.plan d e f h k z))

    module _ (x : Entries) (s : f.result ≡ Some x) where
      entries_fit : count_of x ≤ length b₀ / 32 - count
      entries_fit =
          let full : length b₀ / 32 - count < count_of x → ⊥ =
          λ r. not_made question.Room _ w.accepted
          (plan_no_room ids config (length b₀ / 32) g gaps time count w.draws next w.plan d e f h k x s r) in
          omega (arith, full)

      pub entries_room : 32 * (count + count_of x) ≤ length b
      entries_room = omega (arith, w.long, entries_fit, w.plan.within)

      module _ (r : ℕ) (b' : List ℕ) (p : Places x count r b b') where
        pub writing_less : length b₀ / 32 - r < length b₀ / 32 - count
        writing_less = omega (arith, p.count, entries_fit, one_or_two x)

        pub writing_next : f.draws ≤ 3 + most_draws f.result
            → Writing ids config b₀ g gaps (record { 0 = time.0 + d.result.0 }) r f.next b'
        writing_next u =
            let before : List Timed = w.plan.schedule in
            let at : SimTime = record { 0 = time.0 + d.result.0 } in
            let plan : Planning ids config (length b₀ / 32) g gaps at (count + count_of x) (w.draws + (1 + f.draws)) f.next =
            planning_next ids config (length b₀ / 32) g gaps time count w.draws next w.plan d e f h k x s
            (count_of x) refl (one_or_two x) entries_fit u in
            let same : plan.schedule ≡ before ++ list_of x =
            planning_schedule ids config (length b₀ / 32) g gaps time count w.draws next w.plan d e f h k x s
            (count_of x) refl (one_or_two x) entries_fit u in
            let q : Extends count (count + count_of x) b b' (push_each (list_of x)) = subst (λ
            (n : ℕ). Extends count n b b' (push_each (list_of x))) p.count p.to in
            let m : ℕ = count + count_of x in
            subst (λ (n : ℕ). Writing ids config b₀ g gaps (record { 0 = time.0 + d.result.0 }) n f.next b') (sym p.count)
            (record {
              accepted = w.accepted;
              long = q.long ∙ w.long;
              behind = q.behind ∙ drop_more count m (omega arith) b b₀ w.behind;
              draws = w.draws + (1 + f.draws);
              plan = plan;
              held = subst (Held schedule (4 * m) m (take (32 * m) b')) (sort_rows before (list_of x)
                  ∙ ap (λ (y : List Timed). rows_of (sort_by numbers timed_at y)) (sym same)) (q.to _ w.held);
            })

-- ---- the list that is written

-- the words of the rows of entries are the entries'
row_words : (x : List Timed) → flat listed_row.enc (rows_of x) ≡ flat entry_words x
unfolding rows_of entry_words
row_words [] = refl
row_words (t ∷ x) = ap (λ (l : List ℕ). entry_words t ++ l) (row_words x)

-- a list whose first n rows are all the entries
entries_held : (n : ℕ) (b : List ℕ) (x : List Timed) → Held schedule (4 * n) n b (rows_of x) → (b ≡ entry_bytes x) × (length x ≡ n)
unfolding entry_bytes rows_of
entries_held n b x h =
    let f = held_rows h in
    let long : length x ≡ n = sym (length-map x row_of) ∙ f.count in
    let none : 4 * n - length (rows_of x) * 4 ≡ 0 = omega (arith, f.count) in
    (h.holds.is ∙ ap (λ (k : ℕ). bytes (flat listed_row.enc (rows_of x) ++ zeros k)) none ∙ ap bytes (append-nil _ ∙ row_words x), long)

-- HealAll pushed: the list is written
pub written : (ids : List ℕ) (config : ChaosConfig) (g : Rng) (gaps : Duration) (time : SimTime) (count : ℕ) (next : Rng) (b₀ b b' : List ℕ)
    → Accepted (chaos_schedule (ids_of ids) config (length b₀ / 32) g) → Writing ids config b₀ g gaps time count next b
    → (d : Draws Duration) → duration_drawn d ≡ uniform 0 gaps.0 next → config.end.0 ≤ time.0 + d.result.0
    → Extends count (count + 1) b b' (push (record { time = config.end; fault = HealAll }))
    → b' ≡ list_after (chaos_schedule (ids_of ids) config (length b₀ / 32) g) b₀
unfolding list_after push_each
written ids config g gaps time count next b₀ b b' a w d e h p =
    let room : ℕ = length b₀ / 32 in
    let before : List Timed = w.plan.schedule in
    let last : List Timed = record { time = config.end; fault = HealAll } ∷ [] in
    let x : List Timed = sort_by numbers timed_at (before ++ last) in
    let free : length before < room = omega (arith, w.plan.long, last_free ids config b₀ g gaps time count next b w d e h) in
    let ends : ended (ids_of ids) config room before (w.draws + 1) d.next ≡ Ok (record { result = x; draws = w.draws + 1; next = d.next }) =
    simp (lt-ltb (length before) room free) in
    let is : chaos_schedule (ids_of ids) config room g ≡ Ok (record { result = x; draws = w.draws + 1; next = d.next }) =
    (asked ids config room g a).is ∙ at_end ids config room g gaps time count w.draws next w.plan d e h ∙ ends in
    let k : Held schedule (4 * (count + 1)) (count + 1) (take (32 * (count + 1)) b') (rows_of x) =
    subst (Held schedule (4 * (count + 1)) (count + 1) (take (32 * (count + 1)) b')) (sort_rows before last) (p.to _ w.held) in
    let all = entries_held (count + 1) (take (32 * (count + 1)) b') x k in
    let rest : drop (32 * (count + 1)) b' ≡ drop (32 * length x) b₀ =
    p.behind ∙ drop_more count (count + 1) (omega arith) b b₀ w.behind ∙ ap (λ (n : ℕ). drop (32 * n) b₀) (sym all.1) in
    sym (take-append-drop (32 * (count + 1)) b') ∙ ap₂ (λ (u v : List ℕ). u ++ v) all.0 rest
    ∙ sym (ap (λ (c : Chaos). list_after c b₀) is)

pub ruleset writing =
    (reached, not_reached, gaps_fit, writing_start, last_room, some_entry, entries_room, writing_less, writing_next, written)
