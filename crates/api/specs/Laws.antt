-- What the proofs of the calls without an area cite. Assumes nothing.
use Rattle.std.specs.Prelude.{◌≡◌, Bool, true, false, not, List, [], ◌∷◌, ℕ, zero, suc, ◌/◌, ◌^◌, ◌≤◌, ◌<◌, leb, ltb, eqb, Result, Ok, Err}
use Rattle.std.proofs.Math.Path.{refl, ap}
use Rattle.std.proofs.Common.{sym, ap₂, ◌∙◌, arith}
use Rattle.std.proofs.Math.ListN.{length}
use borrow.Author.Tests.{le-leb, lt-leb, lt-ltb, le-ltb}
use Rattle.laws.specs.Bools.{pick, ◌and◌}
use Rattle.laws.proofs.BoolLaws.{and_both}
use Rattle.laws.specs.Decides.{false_true}
use Rattle.units.specs.Refusals.{refusal_number}
use Rattle.units.specs.declared.refusal.Refusal.{Refusal}
use Rattle.seeds.specs.Seeds.{stream_seed}
use Rattle.seeds.specs.declared.Stream.{Stream}
use Rattle.seeds.specs.declared.Stream.TheVariants as stream
use Rattle.config.specs.declared.SimConfig.{SimConfig}
use Rattle.config.specs.declared.Limits.{Limits}
use Rattle.config.specs.Limits.{within, servers_fit, counts_fit, area_length, InLimits}
use Rattle.config.specs.Laws.{counts_limits}
use Rattle.rng.specs.declared.Rng.{Rng}
use Rattle.faults_chaos.specs.declared.ChaosConfig.{ChaosConfig}
use Rattle.faults_chaos.specs.Schedule.{Chaos, chaos_schedule}
use Rattle.faults_chaos.specs.Answers.{ids_of}
use Rattle.faults_schedule.specs.declared.Made.{Made}
use Rattle.faults_schedule.specs.Schedules.{Schedules, answer_of, list_after, generator_after}
use Rattle.model.specs.Calls.{start}
use Rattle.state.specs.Call.{starting}
use Rattle.answers.specs.declared.OpenedAnswer.{OpenedAnswer}
use Rattle.answers.specs.Answers.{opened_no, opened_yes}
use Rattle.api.specs.declared.settings.SettingsNumbers.{SettingsNumbers}
use Rattle.api.specs.declared.settings.LimitsNumbers.{LimitsNumbers}
use Rattle.api.specs.declared.schedules.LengthAnswer.{LengthAnswer}
use Rattle.api.specs.declared.schedules.SeedAnswer.{SeedAnswer}
use Rattle.api.specs.declared.schedules.ChaosNumbers.{ChaosNumbers}
use Rattle.api.specs.declared.schedules.ScheduleAnswer.{ScheduleAnswer}
use Rattle.api.specs.Given.{settings_given, limits_given, length_of, stream_of, seed_of, chaos_given, schedule_told, schedule_given, ScheduleDrawn}

not_yes : (t u : Bool) → t ≡ u → not t ≡ true → u ≡ false
not_yes true u e h = absurd (false_true h)
not_yes false u e h = sym e

not_no : (t u : Bool) → t ≡ u → not t ≡ false → u ≡ true
not_no true u e h = sym e
not_no false u e h = absurd (false_true (sym h))

-- ---- the area's length

module _ (S C : ℕ) (n : LimitsNumbers) where
  pub length_none : S < 1 → record { refusal = 1; length = 0 } ≡ length_of S C n
  unfolding length_of servers_fit within ◌and◌
  length_none l = rw (lt-leb 1 S l) refl

  pub length_many : 8 < S → record { refusal = 1; length = 0 } ≡ length_of S C n
  unfolding length_of servers_fit within ◌and◌
  length_many l = rw (le-leb 1 S (omega arith), lt-leb S 8 l) refl

  module _ (l : Limits) (el : l ≡ limits_given n) (lo : 1 ≤ S) (hi : S ≤ 8) (u : Bool) (eu : u ≡ counts_fit S C l) where
    few : servers_fit S ≡ true
    unfolding servers_fit within
    few = and_both _ _ (le-leb 1 S lo) (le-leb S 8 hi)

    pub length_counts : not u ≡ true → record { refusal = 3; length = 0 } ≡ length_of S C n
    unfolding length_of
    length_counts k = rw (few, ap (counts_fit S C) (sym el) ∙ not_yes u _ eu k) refl

    pub length_given : (k : ℕ) → not u ≡ false → (k ≡ area_length S C l) × (k ≤ 480931840) → record { refusal = 0; length = k } ≡ length_of S C n
    unfolding length_of
    length_given k h e =
        rw (few, ap (counts_fit S C) (sym el) ∙ not_no u _ eu h) (ap (λ (j : ℕ). record { refusal = 0; length = j }) (e.0 ∙ ap (area_length S C) el))

pub length_within : (S C : ℕ) (l : Limits) (u : Bool) → u ≡ counts_fit S C l → not u ≡ false → InLimits S C l
length_within S C l u e k = counts_limits S C l (not_no u _ e k)

-- ---- the seed of a stream

pub stream_0 : (n server incarnation : ℕ) → n ≡ 0 → stream.Faults ≡ stream_of n server incarnation
unfolding stream_of
stream_0 n server incarnation e = rw e refl

pub stream_1 : (n server incarnation : ℕ) → n ≡ 1 → stream.Network ≡ stream_of n server incarnation
unfolding stream_of
stream_1 n server incarnation e = rw e refl

pub stream_2 : (n server incarnation : ℕ) → n ≡ 2 → stream.Workload ≡ stream_of n server incarnation
unfolding stream_of
stream_2 n server incarnation e = rw e refl

pub stream_3 : (n server incarnation : ℕ) → n ≡ 3 → stream.Scenario ≡ stream_of n server incarnation
unfolding stream_of
stream_3 n server incarnation e = rw e refl

pub stream_4 : (n server incarnation : ℕ) → n ≡ 4 → stream.Startup ≡ stream_of n server incarnation
unfolding stream_of
stream_4 n server incarnation e = rw e refl

pub stream_5 : (n server incarnation : ℕ) → (n ≡ 0 → ⊥) → (n ≡ 1 → ⊥) → (n ≡ 2 → ⊥) → (n ≡ 3 → ⊥) → (n ≡ 4 → ⊥)
    → stream.Server (record { 0 = server }) incarnation ≡ stream_of n server incarnation
unfolding stream_of
stream_5 zero server incarnation a b c d e = absurd (a refl)
stream_5 (suc zero) server incarnation a b c d e = absurd (b refl)
stream_5 (suc (suc zero)) server incarnation a b c d e = absurd (c refl)
stream_5 (suc (suc (suc zero))) server incarnation a b c d e = absurd (d refl)
stream_5 (suc (suc (suc (suc zero)))) server incarnation a b c d e = absurd (e refl)
stream_5 (suc (suc (suc (suc (suc n))))) server incarnation a b c d e = refl

pub seed_stream : (seed n server incarnation : ℕ) → 5 < n → record { refusal = 9; seed = 0 } ≡ seed_of seed n server incarnation
unfolding seed_of
seed_stream seed n server incarnation l = rw (lt-leb n 5 l) refl

pub seed_long : (seed n server incarnation : ℕ) → n ≤ 5 → 4294967296 ≤ incarnation → record { refusal = 9; seed = 0 } ≡ seed_of seed n server incarnation
unfolding seed_of
seed_long seed n server incarnation l k = rw (le-leb n 5 l, le-ltb incarnation 4294967296 k) refl

pub seed_given : (seed n server incarnation : ℕ) (x : Stream) (r : ℕ) → n ≤ 5 → incarnation < 4294967296 → x ≡ stream_of n server incarnation → r ≡ stream_seed seed x
    → record { refusal = 0; seed = r } ≡ seed_of seed n server incarnation
unfolding seed_of
seed_given seed n server incarnation x r l k ex er =
    rw (le-leb n 5 l, lt-ltb incarnation 4294967296 k) (ap (λ (j : ℕ). record { refusal = 0; seed = j }) (er ∙ ap (stream_seed seed) ex))

-- ---- a schedule

pub told_refused : (r : Result Made Refusal) (next : Rng) (refusal : Refusal) (n : ℕ) → r ≡ Err refusal → n ≡ refusal_number refusal
    → record { refusal = n; count = 0; generator = 0 } ≡ schedule_told r next
unfolding schedule_told
told_refused r next refusal n e k = rw (e, k) refl

pub told_made : (r : Result Made Refusal) (next : Rng) (made : Made) → r ≡ Ok made
    → record { refusal = 0; count = made.count; generator = next.state } ≡ schedule_told r next
unfolding schedule_told
told_made r next made e = rw e refl

pub schedule_drawn : (servers : List ℕ) (n : ChaosNumbers) (generator : ℕ) (c : ChaosConfig) (g g' : Rng) (b b' : List ℕ) (m : Result Made Refusal) (r : ScheduleAnswer)
    → c ≡ chaos_given n → g ≡ record { state = generator } → Schedules (chaos_schedule (ids_of servers) c (length b / 32) g) m b b' g g' → r ≡ schedule_told m g'
    → ScheduleDrawn servers n generator r b b'
unfolding schedule_given
schedule_drawn servers n generator c g g' b b' m r ec eg k er =
    let made : chaos_schedule (ids_of servers) c (length b / 32) g ≡ chaos_schedule (ids_of servers) (chaos_given n) (length b / 32) (record { state = generator }) =
    ap₂ (λ (x : ChaosConfig) (y : Rng). chaos_schedule (ids_of servers) x (length b / 32) y) ec eg in
    record {
      answer = er ∙ ap₂ schedule_told (k.answer ∙ ap answer_of made) (k.generator ∙ ap₂ generator_after made eg);
      list = k.list ∙ ap (λ (x : Chaos). list_after x b) made;
    }

-- ---- a start

pub start_given : (b b' : List ℕ) (n : SettingsNumbers) (m : LimitsNumbers) (seed : ℕ) (c : SimConfig) (l : Limits) (r : OpenedAnswer) → c ≡ settings_given n → l ≡ limits_given m
    → (r, b') ≡ starting opened_no opened_yes b (start c l seed) → (r, b') ≡ starting opened_no opened_yes b (start (settings_given n) (limits_given m) seed)
start_given b b' n m seed c l r ec el e = e ∙ ap₂ (λ (x : SimConfig) (y : Limits). starting opened_no opened_yes b (start x y seed)) ec el
