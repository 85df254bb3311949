-- What each step of counting answers, from the sums that fit or do not. Assumes nothing.
use Rattle.std.specs.Prelude.{◌≡◌, refl, false, true, ℕ, ◌+◌, ◌-◌, ◌^◌, ◌<◌, set, Option, None, Some}
use Rattle.std.proofs.Common.{sym, ◌∙◌, lt-ltb, Fits}
use Rattle.std.specs.Int.{w64}
use Rattle.laws.specs.Bools.{no_and}
use Rattle.laws.proofs.BoolLaws.{and_both, and_no}
use Rattle.units.specs.declared.NodeId.{NodeId}
use Rattle.metrics.specs.declared.Counts.{Counts}
use Rattle.metrics.specs.declared.Metrics.{Metrics}
use Rattle.metrics.specs.Metrics.{add, totals_fit, counters_fit, checked, counted_number, Counting, record_send, sent_by, deliver_to_leader, record_sync, record_reply}
use Rattle.metrics.specs.Laws.{too_much, checked_true, checked_false, given_passes, given_is, withheld, sent_is, sent_fits, delivered_fits, synced_fits, replied_fits}

-- an answer, by the test of what is counted
accepts : (next new : Metrics) → counters_fit next ≡ true → new ≡ next → Counting next (Some new)
unfolding counted_number
accepts next new h e = record { value = checked_true _ _ new h e; number = rw h }

refuses : (next : Metrics) (r : Option Metrics) → counters_fit next ≡ false → r ≡ None → Counting next r
unfolding counted_number
refuses next r h e = record { value = checked_false _ _ r h e; number = rw (h, e) }

-- where every counter fits before a step
module _ (m : Metrics) (h : counters_fit m ≡ true) where
  pub sent_full : (from : NodeId) (bytes entries : ℕ) (r : Option Metrics) → Fits w64 bytes → Fits w64 entries
      → None ≡ checked totals_fit (add bytes entries m.sent) → r ≡ None → Counting (record_send m from bytes entries) r
  sent_full from bytes entries r fb fe e = refuses _ r (sent_fits m h from bytes entries _ _ fb fe (sym (withheld _ _ e)) refl)

  pub sender_full : (from : NodeId) (bytes entries : ℕ) (sent : Counts) (r : Option Metrics) → Fits w64 bytes → Fits w64 entries
      → Some sent ≡ checked totals_fit (add bytes entries m.sent) → None ≡ checked totals_fit (add bytes entries (sent_by m from)) → r ≡ None
      → Counting (record_send m from bytes entries) r
  sender_full from bytes entries sent r fb fe e e' =
      refuses _ r (sent_fits m h from bytes entries _ _ fb fe (sym (given_passes _ _ sent e)) (sym (withheld _ _ e')))

  pub send_counted : (from : NodeId) (bytes entries : ℕ) (sent sender : Counts) → Fits w64 bytes → Fits w64 entries
      → Some sent ≡ checked totals_fit (add bytes entries m.sent) → Some sender ≡ checked totals_fit (add bytes entries (sent_by m from))
      → Counting (record_send m from bytes entries) (Some (record {
        sent = sent;
        by_sender = set m.by_sender (from.0 - 1) sender;
        entries_to_leaders = m.entries_to_leaders;
        fsyncs = m.fsyncs;
        storage_bytes = m.storage_bytes;
        client_replies = m.client_replies;
      }))
  send_counted from bytes entries sent sender fb fe e e' =
      accepts _ _ (sent_fits m h from bytes entries _ _ fb fe (sym (given_passes _ _ sent e)) (sym (given_passes _ _ sender e')))
      (sent_is m from bytes entries sent sender (given_is _ _ sent e) (given_is _ _ sender e'))

  pub delivery_full : (entries : ℕ) (r : Option Metrics) → (m.entries_to_leaders + entries < 2 ^ 64 → ⊥) → r ≡ None → Counting (deliver_to_leader m entries) r
  delivery_full entries r f = refuses _ r (delivered_fits m h entries ∙ too_much f)

  pub delivery_counted : (entries n : ℕ) → (m.entries_to_leaders + entries < 2 ^ 64) × (n ≡ m.entries_to_leaders + entries)
      → Counting (deliver_to_leader m entries) (Some (record m { entries_to_leaders = n }))
  unfolding deliver_to_leader
  delivery_counted entries n p = accepts _ _ (delivered_fits m h entries ∙ lt-ltb _ _ p.0) (rw p.1)

  pub syncs_full : (bytes : ℕ) (r : Option Metrics) → (m.fsyncs + 1 < 2 ^ 64 → ⊥) → r ≡ None → Counting (record_sync m bytes) r
  syncs_full bytes r f = refuses _ r (synced_fits m h bytes ∙ no_and _ _ (too_much f))

  pub storage_full : (bytes : ℕ) (r : Option Metrics) → (m.storage_bytes + bytes < 2 ^ 64 → ⊥) → r ≡ None → Counting (record_sync m bytes) r
  storage_full bytes r f = refuses _ r (synced_fits m h bytes ∙ and_no _ _ (too_much f))

  pub sync_counted : (bytes n k : ℕ) → (m.fsyncs + 1 < 2 ^ 64) × (n ≡ m.fsyncs + 1) → (m.storage_bytes + bytes < 2 ^ 64) × (k ≡ m.storage_bytes + bytes)
      → Counting (record_sync m bytes) (Some (record m { fsyncs = n; storage_bytes = k }))
  unfolding record_sync
  sync_counted bytes n k p q = accepts _ _ (synced_fits m h bytes ∙ and_both _ _ (lt-ltb _ _ p.0) (lt-ltb _ _ q.0)) (rw (p.1, q.1))

  pub replies_full : (r : Option Metrics) → (m.client_replies + 1 < 2 ^ 64 → ⊥) → r ≡ None → Counting (record_reply m) r
  replies_full r f = refuses _ r (replied_fits m h ∙ too_much f)

  pub reply_counted : (n : ℕ) → (m.client_replies + 1 < 2 ^ 64) × (n ≡ m.client_replies + 1) → Counting (record_reply m) (Some (record m { client_replies = n }))
  unfolding record_reply
  reply_counted n p = accepts _ _ (replied_fits m h ∙ lt-ltb _ _ p.0) (rw p.1)
