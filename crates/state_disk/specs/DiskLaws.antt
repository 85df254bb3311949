-- What callers cite: question 10 of a sync and of a crash. Assumes nothing.
use Rattle.std.specs.Prelude.{◌≡◌, Bool, true, length, take, Option, None, Some}
use Rattle.std.proofs.Math.Path.{refl}
use Rattle.std.proofs.Common.{ap, ◌∙◌, arith, length-append, length-take, length-set, lt-ltb, ltb-true, le-leb}
use mathlib.Core.List.{List, [], ◌∷◌}
use Prim.Native.Nat.{ℕ, zero, suc, ◌+◌, ◌-◌, ◌^◌, ◌<◌}
use Rattle.std.proofs.Math.Dec.{eqb}
use Rattle.std.proofs.lemmas.List.{length-replicate}
use Rattle.laws.specs.Bools.{◌and◌, every, and_left}
use Rattle.laws.proofs.BoolLaws.{every_set, every_first, allb_in, and_right, and_both, true_and}
use Rattle.units.specs.Types.{Payload, noop, command, Entry}
use Rattle.config.specs.declared.SimConfig.{SimConfig}
use Rattle.config.specs.declared.Limits.{Limits}
use Rattle.layout.specs.Tables.{fill_from}
use Rattle.layout.specs.Rows.{every_fill_from}
use Rattle.layout.specs.Marked.{good_m}
use Rattle.layout.specs.Payload.{payload}
use Rattle.raft_log.specs.Log.{Log, empty_log, put_at, truncate_at}
use Rattle.raft_log.specs.Places.{place}
use Rattle.storage.specs.Storage.{Disk, Write, write_hard_state, write_put, write_truncate, Storage, apply_write, apply_writes, sync, crash}
use Rattle.storage.specs.Waiting.{write_code, put_within, kind_marking, payload_kind}
use Rattle.model.specs.State.{State, server_at}
use Rattle.model.specs.Fields.{with_storage}
use Rattle.model.specs.Simulation.{on_server}
use Rattle.model.specs.Fits.{state_fits, server_fits, server_tests, storage_fits, disk_fits}
use Rattle.state.specs.Lens.{ServersFit, server_fine, fits_on_server, servers_kept}
use Rattle.state_disk.specs.Disks.{synced_at, crashed_at}
use Rattle.state_disk.specs.Laws.{current_fits, in_storage}

-- ---- a write made on a disk

-- the payload of a write that has a content has one as an entry's
payload_good : (p : ℕ) (y : Payload) → good_m kind_marking p (payload_kind y) ≡ true → (payload p).good y ≡ true
payload_good p noop h = and_both _ _ (lt-ltb 1 (2 ^ 64) (omega arith)) (and_right _ _ h)
payload_good p (command bs) h = and_both _ _ (lt-ltb (2 + length bs) (2 ^ 64) (omega (arith, ltb-true (4 + length bs) (2 ^ 64) (and_left _ _ h)))) (and_right _ _ h)

length_truncate : (x : Log) (from : ℕ) → length (truncate_at x from) ≡ length x
unfolding truncate_at
length_truncate x from =
    omega (arith, length-append (take (from - 1) x) (empty_log (length x - (from - 1))), length-take (from - 1) x, length-replicate {A = Option Entry} (length x - (from - 1)) None)

module _ (config : SimConfig) (limits : Limits) where
  abbrev P : ℕ
  P = limits.payload

  -- a log in range
  abbrev LogFits : Log → Type 0
  LogFits x = (eqb (length x) limits.log_indexes and every (place P).good x) ≡ true

  put_fits : (x : Log) (i : ℕ) (e : Entry) → LogFits x → (place P).good (Some e) ≡ true → LogFits (put_at x i e)
  unfolding put_at
  put_fits x zero e h g = h
  put_fits x (suc i) e h g = and_both _ _ (ap (λ (n : ℕ). eqb n limits.log_indexes) (length-set x i (Some e)) ∙ and_left _ _ h) (every_set (place P).good x i (Some e) (and_right _ _ h) g)

  truncate_fits : (x : Log) (from : ℕ) → LogFits x → LogFits (truncate_at x from)
  unfolding truncate_at fill_from
  truncate_fits x from h = and_both _ _ (ap (λ (n : ℕ). eqb n limits.log_indexes) (length_truncate x from) ∙ and_left _ _ h) (every_fill_from (place P).good (from - 1) x (and_right _ _ h) None refl)

  apply_fits_lem : (d : Disk) (w : Write) → disk_fits config limits d ≡ true → (write_code P).good w ≡ true → disk_fits config limits (apply_write d w) ≡ true
  apply_fits_lem d w h g = and_both _ _ (current_fits config limits d w (and_left _ _ h) g) (log w g)
    where
      log : (w : Write) → (write_code P).good w ≡ true → LogFits (apply_write d w).log
      log (write_hard_state s) g = and_right _ _ h
      log (write_put index e) g = put_fits d.log index.0 e (and_right _ _ h) (and_both _ _ (payload_good P e.payload (and_left _ _ (and_left _ _ g))) (and_right _ _ (and_right _ _ (and_left _ _ g))))
      log (write_truncate from) g = truncate_fits d.log from.0 (and_right _ _ h)

  applies_fits : (ws : List Write) (d : Disk) → disk_fits config limits d ≡ true → every (write_code P).good ws ≡ true → disk_fits config limits (apply_writes d ws) ≡ true
  unfolding apply_writes
  applies_fits [] d h g = h
  applies_fits (w ∷ ws) d h g = applies_fits ws (apply_write d w) (apply_fits_lem d w h (and_left _ _ g)) (and_right _ _ g)

  -- a storage in range is in range after a sync
  pub sync_fits : (x : Storage) → storage_fits config limits x ≡ true → storage_fits config limits (sync x) ≡ true
  unfolding sync
  sync_fits x h =
      let r = and_right _ _ h in
      let ws = and_left _ _ (and_right _ _ (and_left _ _ (and_right _ _ r))) in
      and_both _ _ (and_left _ _ h)
      (and_both _ _ (applies_fits x.waiting x.durable (and_left _ _ r) (every_first (write_code P).good (put_within limits.log_indexes) x.waiting ws))
      (and_both _ _ (and_both _ _ (le-leb 0 limits.writes (omega arith)) (and_both _ _ refl refl)) (and_right _ _ (and_right _ _ r))))

  -- and after a crash
  pub crash_fits : (x : Storage) → storage_fits config limits x ≡ true → storage_fits config limits (crash x) ≡ true
  unfolding crash
  crash_fits x h =
      let r = and_right _ _ h in
      and_both _ _ (and_left _ _ r) (and_both _ _ (and_left _ _ r) (and_both _ _ (and_both _ _ (le-leb 0 limits.writes (omega arith)) (and_both _ _ refl refl)) (and_right _ _ (and_right _ _ r))))

-- ---- question 10 of each change, and that the servers fit after it

module _ (s : State) (k : ℕ) (h : ServersFit s) (i : k < s.config.servers) where
  old : storage_fits s.config s.limits (server_at s k).storage ≡ true
  old = allb_in (server_tests s.config s.limits (server_at s k)) (server_fine s k h i) 1

  -- a storage that stays in range
  module _ (op : Storage → Storage) (t : storage_fits s.config s.limits (op (server_at s k).storage) ≡ true) where
    in_op : server_fits s.config s.limits (with_storage (server_at s k) (op (server_at s k).storage)) ≡ true
    in_op = in_storage s k h i (op (server_at s k).storage) ∙ t

    fits_op : state_fits (on_server s k (λ v. with_storage v (op v.storage))) ≡ state_fits s
    fits_op = fits_on_server s k h i (λ v. with_storage v (op v.storage)) ∙ ap (λ (u : Bool). u and state_fits s) in_op ∙ true_and (state_fits s)

    kept_op : ServersFit (on_server s k (λ v. with_storage v (op v.storage)))
    kept_op = servers_kept s k h i (λ v. with_storage v (op v.storage)) in_op

  -- a sync
  pub fits_synced : state_fits (synced_at k s) ≡ state_fits s
  unfolding synced_at
  fits_synced = fits_op sync (sync_fits s.config s.limits (server_at s k).storage old)

  pub kept_synced : ServersFit (synced_at k s)
  unfolding synced_at
  kept_synced = kept_op sync (sync_fits s.config s.limits (server_at s k).storage old)

  -- a crash
  pub fits_crashed : state_fits (crashed_at k s) ≡ state_fits s
  unfolding crashed_at
  fits_crashed = fits_op crash (crash_fits s.config s.limits (server_at s k).storage old)

  pub kept_crashed : ServersFit (crashed_at k s)
  unfolding crashed_at
  kept_crashed = kept_op crash (crash_fits s.config s.limits (server_at s k).storage old)
