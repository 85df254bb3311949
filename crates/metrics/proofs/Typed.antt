-- What the types Counts and Metrics tell of a value: every counter fits 64 bits. Assumes nothing.
use mathlib.Core.Path.{◌≡◌}
use mathlib.Core.Bool.{true}
use mathlib.Core.List.{List}
use Prim.Native.Nat.{◌^◌}
use mir.Val.{Val}
use denote.Array.{each}
use denote.Shadow.{shadow}
use Rattle.std.proofs.lemmas.List.{map-id}
use denote.Laws.{Is}
use borrow.Author.Tests.{lt-ltb}
use Rattle.laws.specs.Bools.{every}
use Rattle.laws.proofs.BoolLaws.{true_and}
use Rattle.metrics.specs.declared.Counts.{Counts}
use Rattle.metrics.specs.declared.Metrics.{Metrics}
use Rattle.metrics.specs.Metrics.{totals_fit, counters_fit}
use Rattle.metrics.specs.Laws.{every_owned}
use Rattle.metrics.specs.contracts.Counts as Counts'
use Rattle.metrics.specs.contracts.Metrics as Metrics'

counts_typed : (c : Counts) (vs : List Val) → Is Counts'.the_row c vs → totals_fit c ≡ true
unfolding totals_fit
counts_typed c vs p =
    simp (lt-ltb c.messages (2 ^ 64) p.1.1.0.1, lt-ltb c.bytes (2 ^ 64) p.1.1.1.0.1, lt-ltb c.entries (2 ^ 64) p.1.1.1.1.0.1, true_and)

-- an array tells it of every element
senders_typed : (xs : List Counts) (us : List Val) → shadow (each (Counts'.the_row).Denot (Counts'.the_row).own_val xs us) → every totals_fit xs ≡ true
senders_typed xs us s = every_owned Counts'.the_row (λ x. x) totals_fit counts_typed xs us (rw map-id s)

pub metrics_typed : (m : Metrics) (vs : List Val) → Is Metrics'.the_row m vs → counters_fit m ≡ true
unfolding counters_fit
metrics_typed m vs p =
    let q = p.1.1.1.1 in
    simp (
      counts_typed m.sent p.0.0 p.1.1.0,
      senders_typed m.by_sender p.1.1.1.0.0 p.1.1.1.0.1.1,
      lt-ltb m.entries_to_leaders (2 ^ 64) q.0.1,
      lt-ltb m.fsyncs (2 ^ 64) q.1.0.1,
      lt-ltb m.storage_bytes (2 ^ 64) q.1.1.0.1,
      lt-ltb m.client_replies (2 ^ 64) q.1.1.1.0.1,
      true_and,
    )
