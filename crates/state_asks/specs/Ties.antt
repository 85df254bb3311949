-- The checks that are asked about are those that the calls and inputs of `model` leave. Assumes nothing.
use Rattle.std.specs.Prelude.{◌≡◌, ℕ, ◌+◌, max, Some}
use Rattle.std.proofs.Math.Path.{refl}
use Rattle.laws.specs.Bools.{pick}
use Rattle.units.specs.Types.{Payload}
use Rattle.units.specs.declared.LogIndex.{LogIndex}
use Rattle.protocol.specs.declared.Status.{Status}
use Rattle.metrics.specs.Metrics.{record_sync}
use Rattle.raft_log.specs.Log.{gaps}
use Rattle.storage.specs.Storage.{sync, unsynced, unsynced_bytes}
use Rattle.model.specs.State.{State, Input, Verdict, Owed, sending, server_at}
use Rattle.model.specs.Fields.{with_checker, with_metrics, with_max_log_gaps, with_phase, with_status, with_storage, with_next_apply, with_leading}
use Rattle.model.specs.Simulation.{on_server, reply_for, redirect, close_input, apply, sync_input, end_input}
use Rattle.model.specs.Calls.{ask, is_closed, done, check_log_matching_call, check_durability_call}
use Rattle.state_asks.specs.Asks.{raft_checks_of, log_of, waiting_of, acknowledged_of, after_apply, after_status, after_writes, after_matching}
use Rattle.state_asks.specs.Asks.{after_durability}

module _ (s : State) (k : ℕ) where
  pub apply_asks : (index : LogIndex) (x : Payload)
      → apply s k index x ≡ reply_for (on_server (with_checker s (after_apply k index x s)) k (λ v. with_next_apply v (index.0 + 1))) k index x
  unfolding apply after_apply
  apply_asks index x = refl

  pub sync_asks : (input : Input) (verdict : Verdict) (owed : Owed) → (let v = server_at s k in
      let synced = on_server s k (λ v. with_storage v (sync v.storage)) in
      sync_input s k input verdict owed
      ≡ with_phase
      (with_checker
      (pick (unsynced v.storage) (with_metrics synced (record_sync s.metrics (unsynced_bytes v.storage.waiting))) synced)
      (after_writes k s)) (sending k input verdict owed))
  unfolding sync_input after_writes log_of waiting_of
  sync_asks input verdict owed = refl

  pub end_asks : (input : Input) (verdict : Verdict) (owed : Owed) (status : Status) → (let led = after_status k status s in
      let ended = on_server (with_checker s led.checker) k (λ v. with_leading (with_status v (Some status)) led.leading) in
      end_input s k input verdict owed status
      ≡ close_input (redirect (with_max_log_gaps ended (max s.max_log_gaps (gaps (log_of k s)))) k input verdict) owed)
  unfolding end_input after_status raft_checks_of log_of
  end_asks input verdict owed status = refl

module _ (s : State) where
  pub matching_asks : check_log_matching_call s ≡ ask (is_closed s.phase) 6 (done tt (with_checker s (after_matching s)))
  unfolding check_log_matching_call after_matching
  matching_asks = refl

  pub durability_asks : check_durability_call s ≡ ask (is_closed s.phase) 6 (done tt (with_checker s (after_durability s)))
  unfolding check_durability_call after_durability acknowledged_of
  durability_asks = refl
