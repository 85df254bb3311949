-- The counters of a run in 31 words: the totals of all messages, those of each of the eight servers, and four counters. Assumes nothing.
use Rattle.std.specs.Prelude.{◌≡◌, refl, Bool, true, List, ℕ, ◌+◌, get_or, drop}
use Rattle.laws.specs.Bools.{every, and_left}
use Rattle.laws.proofs.BoolLaws.{and_right, and_both}
use Rattle.metrics.specs.declared.Counts.{Counts}
use Rattle.metrics.specs.declared.Metrics.{Metrics}
use Rattle.metrics.specs.Metrics.{totals_fit, counters_fit, none_counted, metrics_fit}
use Rattle.layout.specs.Code.{Code, word, pair, iso, rep}
use Rattle.layout.specs.Coded.{Telling, coded}

-- How totals lie in three words: messages, bytes, entries.
abbrev pub counts_code : Code Counts
counts_code = iso (pair word (pair word word)) (λ x. record { messages = x.0; bytes = x.1.0; entries = x.1.1 }) (λ c. (
  c.messages,
  (c.bytes, c.entries),
)) (λ c. refl) (λ x h. refl)

-- The totals in three words from word i on.
unfoldable pub counts_at : List ℕ → ℕ → Counts
counts_at ws i = record { messages = get_or ws i 0; bytes = get_or ws (i + 1) 0; entries = get_or ws (i + 2) 0 }

-- The parts of the counters, in the order of their words.
abbrev pub Parts : Type 0
Parts = Counts × (List Counts × (ℕ × (ℕ × (ℕ × ℕ))))

-- How they lie in 31 words.
abbrev pub parts : Code Parts
parts = pair counts_code (pair (rep counts_code 8) (pair word (pair word (pair word word))))

-- The metrics as their parts.
abbrev pub to_parts : Metrics → Parts
to_parts m = (m.sent, (m.by_sender, (m.entries_to_leaders, (m.fsyncs, (m.storage_bytes, m.client_replies)))))

-- The metrics of their parts.
abbrev pub to_metrics : Parts → Metrics
to_metrics x =
    record {
      sent = x.0;
      by_sender = x.1.0;
      entries_to_leaders = x.1.1.0;
      fsyncs = x.1.1.1.0;
      storage_bytes = x.1.1.1.1.0;
      client_replies = x.1.1.1.1.1;
    }

-- Nothing is counted for servers beyond S.
abbrev pub unused_zero : ℕ → Parts → Bool
unused_zero S x = every none_counted (drop S x.1.0)

module _ (S : ℕ) where
  good_parts : (m : Metrics) → metrics_fit S m ≡ true → parts.good (to_parts m) ≡ true
  unfolding metrics_fit counters_fit totals_fit
  good_parts m h =
      let f = and_right _ _ (and_right _ _ h) in
      and_both _ _ (and_left _ _ f) (and_both _ _ (and_both _ _ (and_left _ _ h) (and_left _ _ (and_right _ _ f))) (and_right _ _
      (and_right _ _ f)))

  parts_good : (x : Parts) → parts.good x ≡ true → unused_zero S x ≡ true → metrics_fit S (to_metrics x) ≡ true
  unfolding metrics_fit counters_fit totals_fit
  parts_good x h t =
      let r = and_right _ _ h in
      and_both _ _ (and_left _ _ (and_left _ _ r))
      (and_both _ _ t (and_both _ _ (and_left _ _ h) (and_both _ _ (and_right _ _ (and_left _ _ r)) (and_right _ _ r))))

  unused_zero_lem : (m : Metrics) → metrics_fit S m ≡ true → unused_zero S (to_parts m) ≡ true
  unfolding metrics_fit
  unused_zero_lem m h = and_left _ _ (and_right _ _ h)

  pub telling : Telling parts to_parts to_metrics (metrics_fit S) (unused_zero S)
  telling = record { fits_good = good_parts; fits_test = unused_zero_lem; to_from = λ m h. refl; test_fits = parts_good; from_to = λ x t. refl }

  -- How the metrics of a cluster of S servers lie in 31 words.
  abbrev pub metrics_code : Code Metrics
  metrics_code = coded parts to_parts to_metrics (metrics_fit S) (unused_zero S) telling
