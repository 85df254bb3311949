-- Question 10 of a new state: accepted settings have one that fits. Assumes nothing.
use Rattle.std.specs.Prelude.{◌≡◌, true, false, [], eqb, leb, length, replicate, drop, Option, None}
use Rattle.std.proofs.Math.Path.{refl}
use Prim.Native.Nat.{ℕ, zero, suc, ◌+◌, ◌^◌, ◌≤◌, ◌<◌}
use Rattle.std.proofs.Common.{arith}
use Rattle.std.proofs.lemmas.List.{length-replicate}
use borrow.Author.Tests.{eq-eqb, le-leb, lt-ltb, leb-true}
use Rattle.laws.specs.Bools.{◌and◌, and_left, every}
use Rattle.laws.proofs.BoolLaws.{and_both, and_right}
use Rattle.laws.specs.Order.{chain}
use Rattle.layout.specs.Tables.{Table}
use Rattle.rng.specs.Rng.{under}
use Rattle.rng.specs.Laws.{under_lt}
use Rattle.rng.specs.declared.Rng.{Rng}
use Rattle.seeds.specs.Seeds.{stream_rng}
use Rattle.seeds.specs.Laws.{stream_seed_lt}
use Rattle.seeds.specs.declared.Stream.{Stream}
use Rattle.seeds.specs.declared.Stream.TheVariants as stream
use Rattle.config.specs.declared.SimConfig.{SimConfig}
use Rattle.config.specs.declared.Limits.{Limits}
use Rattle.config.specs.Limits.{judge, judged_number, InLimits, settings_fit, durations_fit, duration_fits}
use Rattle.config.specs.Laws.{AllYes, all_yes, in_limits}
use Rattle.network.specs.Network.{links_within, network_in_range}
use Rattle.metrics.specs.Metrics.{metrics_fit, counters_fit, totals_fit, none_counted, no_metrics}
use Rattle.raft_log.specs.Places.{place}
use Rattle.layout.specs.Keys.{keys}
use Rattle.layout.specs.Applied.{applied}
use Rattle.storage.specs.Waiting.{waiting_in}
use Rattle.queue.specs.Table.{events}
use Rattle.queue.specs.Range.{word, in_order}
use Rattle.checks.specs.Leaders.{leaders}
use Rattle.checks.specs.Entries.{seen_in}
use Rattle.checks.specs.Violations.{violations}
use Rattle.checks_durability.specs.Replies.{replies}
use Rattle.model.specs.State.{new_server}
use Rattle.model.specs.Simulation.{draw_targets, new_servers, unstarted}
use Rattle.model.specs.Fits.{state_fits, table_fits, server_fits, client_state_fits}
use Rattle.state.specs.Fitting.{accepted_is}
use Rattle.sim_start.specs.Words.{length_new_servers, length_targets}
use Rattle.state_header.specs.Laws.{under_word}

-- ---- parts

-- a table without rows
no_rows_fit : {A : Type 0} (t : Table A) (room : ℕ) → t.rule [] ≡ true → table_fits t room [] ≡ true
no_rows_fit t room h = and_both _ _ (le-leb 0 room (omega arith)) (and_both _ _ refl h)

-- no link blocked, from any place on
no_links_within : (S n k : ℕ) → links_within S k (replicate n false) ≡ true
unfolding links_within ◌and◌
no_links_within S zero k = refl
no_links_within S (suc n) k = no_links_within S n (suc k)

-- servers that have counted nothing
none_beyond : (S n : ℕ) → every none_counted (drop S (replicate n (record { messages = 0; bytes = 0; entries = 0 }))) ≡ true
unfolding none_counted ◌and◌
none_beyond S zero = by S
  where
    by : (S : ℕ) → every none_counted (drop S []) ≡ true
    by zero = refl
    by (suc S) = refl
none_beyond zero (suc n) = and_both _ _ refl (none_beyond zero n)
none_beyond (suc S) (suc n) = none_beyond S n

-- no counter has counted
no_metrics_fit : (S : ℕ) → metrics_fit S no_metrics ≡ true
unfolding metrics_fit counters_fit totals_fit ◌and◌
no_metrics_fit S = and_both _ _ refl (and_both _ _ (none_beyond S 8) refl)

-- a log without entries
empty_places_fit : (p n : ℕ) → every (place p).good (replicate n None) ≡ true
unfolding ◌and◌
empty_places_fit p zero = refl
empty_places_fit p (suc n) = empty_places_fit p n

pub stream_word : (seed : ℕ) (s : Stream) → word (stream_rng seed s).state ≡ true
unfolding stream_rng
stream_word seed s = lt-ltb (stream_rng seed s).state (2 ^ 64) (stream_seed_lt seed s)

targets_word : (S n : ℕ) (g : Rng) → word g.state ≡ true → word (draw_targets S n g).next.state ≡ true
unfolding draw_targets
targets_word S zero g h = h
targets_word S (suc n) g h = targets_word S n (under g S).next (under_word g S)

module _ (config : SimConfig) (limits : Limits) where
  targets_fit : 0 < config.servers → (n : ℕ) (g : Rng)
      → every (client_state_fits config limits) (draw_targets config.servers n g).clients ≡ true
  unfolding draw_targets
  targets_fit h zero g = refl
  targets_fit h (suc n) g =
      and_both _ _ (and_both _ _ (lt-ltb (under g config.servers).value config.servers (under_lt g config.servers h)) (and_both _ _ refl (and_both _ _ refl refl)))
      (targets_fit h n (under g config.servers).next)

  -- a server that has never started
  new_server_fits : server_fits config limits (new_server limits.log_indexes) ≡ true
  unfolding chain
  new_server_fits =
      let n : ℕ = limits.log_indexes in
      let disk = and_both _ _ (and_both _ _ refl refl) (and_both _ _ (eq-eqb (length (replicate {A = Option Rattle.units.specs.Types.Entry} n None)) n (length-replicate n None)) (empty_places_fit limits.payload n)) in
      and_both _ _ refl
      (and_both _ _ (and_both _ _ disk (and_both _ _ disk (and_both _ _ (no_rows_fit (waiting_in n limits.payload) limits.writes refl) refl)))
      (and_both _ _ refl (and_both _ _ refl (and_both _ _ refl (and_both _ _ refl
      (and_both _ _ (le-leb 1 (n + 1) (omega arith)) (and_both _ _ (no_rows_fit (keys config.clients) limits.history refl) (and_both _ _ refl refl))))))))

  new_servers_fit : (n : ℕ) → every (server_fits config limits) (new_servers n limits.log_indexes) ≡ true
  unfolding new_servers
  new_servers_fit zero = refl
  new_servers_fit (suc n) = and_both _ _ new_server_fits (new_servers_fit n)

  module _ (h : judged_number (judge config limits) ≡ 0) where
    yes : eqb (judged_number (judge config limits)) 0 ≡ true
    yes = eq-eqb (judged_number (judge config limits)) 0 h

    pub accepted_limits : InLimits config.servers config.clients limits
    accepted_limits = in_limits config limits (judge config limits) refl (accepted_is (judge config limits) yes)

    delay_fits : leb config.one_way_delay.0 (2 ^ 40) ≡ true
    unfolding settings_fit durations_fit duration_fits
    delay_fits =
        let all : AllYes config limits = all_yes config limits (judge config limits) refl (accepted_is (judge config limits) yes) in
        let d = and_left _ _ (and_right _ _ (and_right _ _ (and_right _ _ all.settings))) in
        and_left _ _ (and_right _ _ (and_right _ _ (and_right _ _ d)))

    pub spread_fits : config.start_spread.0 ≤ 2 ^ 40
    unfolding settings_fit durations_fit duration_fits
    spread_fits =
        let all : AllYes config limits = all_yes config limits (judge config limits) refl (accepted_is (judge config limits) yes) in
        let d = and_left _ _ (and_right _ _ (and_right _ _ (and_right _ _ all.settings))) in
        leb-true _ _ (and_left _ _ (and_right _ _ (and_right _ _ (and_right _ _ (and_right _ _ (and_right _ _ (and_right _ _ d)))))))

    -- the new state of accepted settings
    pub fits_unstarted : (seed : ℕ) → word seed ≡ true → word config.consensus.max_entries_per_message ≡ true
        → word config.consensus.max_entries_in_flight ≡ true → state_fits (unstarted config limits seed) ≡ true
    unfolding state_fits unstarted network_in_range chain in_order
    fits_unstarted seed w m₁ m₂ =
        let i = accepted_limits in
        let g : Rng = stream_rng seed stream.Workload in
        let low : 0 < config.servers = omega (arith, i.servers_low) in
        and_both _ _ yes (and_both _ _ w (and_both _ _ refl
        (and_both _ _ (no_rows_fit (events config.servers config.clients limits.log_indexes limits.message) limits.events refl)
        (and_both _ _ (eq-eqb _ _ (length_new_servers config.servers limits.log_indexes))
        (and_both _ _ (new_servers_fit config.servers)
        (and_both _ _ (and_both _ _ delay_fits (and_both _ _ refl (and_both _ _ refl (and_both _ _ refl (and_both _ _ refl (and_both _ _ refl (no_links_within config.servers 64 0)))))))
        (and_both _ _ (eq-eqb config.one_way_delay.0 config.one_way_delay.0 refl) (and_both _ _ (stream_word seed stream.Network)
        (and_both _ _ (eq-eqb _ _ (length_targets config.servers config.clients g))
        (and_both _ _ (targets_fit low config.clients g)
        (and_both _ _ (targets_word config.servers config.clients g (stream_word seed stream.Workload))
        (and_both _ _ (no_metrics_fit config.servers)
        (and_both _ _ (and_both _ _ (no_rows_fit (leaders config.servers) limits.history refl) (and_both _ _ (no_rows_fit (applied limits.payload) limits.log_indexes refl)
        (and_both _ _ (no_rows_fit (seen_in limits.log_indexes limits.payload) limits.history refl) (and_both _ _ (no_rows_fit violations 32 refl) (and_both _ _ refl refl)))))
        (and_both _ _ (no_rows_fit (replies limits.log_indexes config.clients) limits.history refl)
        (and_both _ _ (and_both _ _ (le-leb 0 limits.history (omega arith)) refl)
        (and_both _ _ refl (and_both _ _ refl (and_both _ _ refl (and_both _ _ refl (and_both _ _ m₁ (and_both _ _ m₂ refl)))))))))))))))))))))
