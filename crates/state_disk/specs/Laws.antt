-- What the proofs of lib.rt cite. Assumes nothing.
use Rattle.std.specs.Prelude.{◌≡◌, Bool, ltb, eqb, length, get_or, set, drop, Option, None, Some, Ok, Err}
use Rattle.std.specs.Option.{unwrap_or}
use Rattle.std.proofs.Math.Path.{refl, sym, ap, ap₂, subst}
use Rattle.std.proofs.Common.{◌∙◌, length-append}
use Rattle.std.proofs.Math.Bool.{true, false}
use mathlib.Core.List.{List, [], ◌∷◌, ◌++◌}
use Prim.Native.Nat.{ℕ, ◌+◌, ◌-◌, ◌*◌, ◌^◌, ◌≤◌, ◌<◌}
use native.Mathlib.Omega.{arith}
use Rattle.std.proofs.Math.ListN.{take}
use borrow.Author.Tests.{le-leb, leb-true, eq-eqb}
use Rattle.laws.specs.Bools.{◌and◌, pick, cases, every, and_left, and_true}
use Rattle.laws.specs.Lists.{is_some}
use Rattle.laws.proofs.BoolLaws.{every_append, every_both, allb_in, and_right, and_both}
use Rattle.laws.specs.Decides.{false_true}
use Rattle.units.specs.Types.{Payload}
use Rattle.units.specs.declared.LogIndex.{LogIndex}
use Rattle.units.specs.declared.Term.{Term}
use Rattle.config.specs.declared.SimConfig.{SimConfig}
use Rattle.config.specs.declared.Limits.{Limits}
use Rattle.words.specs.Words.{W, bytes}
use Rattle.words.specs.Lift.{length_bytes}
use Rattle.words.specs.Sets.{part_part, length_part}
use Rattle.layout.specs.Tables.{Holds, Held, rows_in}
use Rattle.layout.specs.TableLaws.{held_rows, held_length, rows_are}
use Rattle.layout.specs.Contents.{holds_parse}
use Rattle.layout.specs.Marked.{words_for}
use Rattle.layout.specs.Rows.{row_start}
use Rattle.raft_log.specs.Log.{Log, count, last_index, gaps}
use Rattle.raft_log.specs.Places.{place, places, ReadsEntry}
use Rattle.raft_log.specs.declared.EntryShape.{EntryShape}
use Rattle.storage.specs.declared.HardState.{HardState}
use Rattle.storage.specs.declared.StorageState.{StorageState}
use Rattle.storage.specs.declared.Synced.{Synced}
use Rattle.std.specs.declared.result.Result.{Result}
use Rattle.units.specs.declared.refusal.Refusal.{Refusal}
use Rattle.units.specs.declared.refusal.Refusal.TheVariants.{Room}
use Rattle.units.specs.Refusals.{refusal_number}
use Rattle.storage.specs.StoresLaws.{synced_told, synced_nothing}
use Rattle.storage.specs.declared.write.WriteError.{WriteError}
use Rattle.storage.specs.Storage.{Disk, Write, write_hard_state, write_put, write_truncate, Storage, apply_write, write, sync, crash, unsynced, unsynced_bytes, synced_bytes}
use Rattle.storage.specs.Waiting.{waiting, write_code, put_within, voteNumber}
use Rattle.storage.specs.Stores.{disk_bytes, Parts, Stores, Syncs, Crashes}
use Rattle.storage.specs.Replay.{Sums}
use Rattle.storage.specs.Writes.{written_number, storage_room, Writes}
use Rattle.storage.specs.PartLaws.{lent, back, current_lent, waiting_lent}
use Rattle.model.specs.State.{State, Server, server_at}
use Rattle.model.specs.Fields.{with_storage}
use Rattle.model.specs.Simulation.{on_server, write_at}
use Rattle.model.specs.Fits.{state_fits, server_fits, server_tests, storage_fits, hard_state_fits, node_fits}
use Rattle.state.specs.declared.Capacity.{Capacity}
use Rattle.state.specs.Sizes.{log_words, waiting_words, block_words, bytes_of, BlockAt, Counted}
use Rattle.state.specs.SizeLaws.{room}
use Rattle.state.specs.Parts.{storage_state_in, storage_state_words, storage_state_code}
use Rattle.state.specs.Server.{storage_of_server}
use Rattle.state.specs.Area.{Area, capacity_of}
use Rattle.state.specs.Fitting.{area_fits}
use Rattle.state.specs.FitsBy.{server_fits_at, fits_server_one}
use Rattle.state.specs.Changes.{Inside, AreaOf, Changes, Reads}
use Rattle.state.specs.Lens.{disk_content, area_of, put_same, ServerCut, server_contents, server_cut, server_at_held, part_lent, part_put, cut_server, ServersFit, servers_fit_lem, server_fine, fits_on_server}
use Rattle.state_disk.specs.declared.DiskPlace.{DiskPlace}
use Rattle.state_disk.specs.declared.LogPlace.{LogPlace}
use Rattle.state_disk.specs.declared.SyncTold.{SyncTold}
use Rattle.state_disk.specs.Disks.{LogIn, DiskIn, storage_at, StorageIn, StoresAt, written, write_answer, Finishes, WritesAt, unsynced_at, synced_at, SyncsAt, crashed_at, log_at, ReadsEntryAt, log_numbers_at}
use Rattle.units.specs.declared.NodeId.{NodeId}

-- ---- by the counts of an area

abbrev StoresIn : Capacity → StorageState → List ℕ → Storage → Type 0
StoresIn F = Stores F.limits.payload F.limits.log_indexes F.limits.writes

abbrev WritesIn : Capacity → StorageState → Write → Result StorageState WriteError → List ℕ → List ℕ → Type 0
WritesIn F = Writes F.limits.payload F.limits.log_indexes F.limits.writes

abbrev SyncsIn : Capacity → StorageState → Synced → List ℕ → List ℕ → Type 0
SyncsIn F = Syncs F.limits.payload F.limits.log_indexes F.limits.writes

abbrev CrashesIn : Capacity → StorageState → StorageState → List ℕ → List ℕ → Type 0
CrashesIn F = Crashes F.limits.payload F.limits.log_indexes F.limits.writes

-- ---- where it lies

pub disk_in : (b : List ℕ) (F : Capacity) (k at logs waiting : ℕ) → Inside b F → BlockAt F k at → Counted logs (log_words F) → Counted waiting (waiting_words F)
    → DiskIn b F k (record { block = 8 * at; from = 8 * at + 512; to = 8 * at + 512 + 8 * (logs + (logs + waiting)) })
disk_in b F k at logs waiting i h el ew = record {
  block = omega (arith, h.is);
  from = refl;
  to = omega (arith, el.is, ew.is);
  ends = omega (arith, el.is, ew.is, h.ends, i.long, room F);
}

-- ---- the fixed part

module _ (b : List ℕ) (F : Capacity) (k : ℕ) (d : DiskPlace) (i : k < F.servers) (p : DiskIn b F k d) where
  pub storage_read : (r : StorageState) → r ≡ storage_state_in (W (lent d.block (d.block + 64) b)) → Reads b F r (storage_at k)
  unfolding storage_at
  storage_read r q = record {
    to = λ s h e.
        let c = server_cut (area_of h e) k i in
        let x = (server_at_held (area_of h e) k i).storage in
        let y : Holds storage_state_code (lent d.block (d.block + 64) b) (storage_of_server (server_at s k)) =
        record { good = x.good; is = part_lent c 0 (omega arith) d.block (d.block + 64) (omega (arith, p.block)) refl } in
        q ∙ holds_parse y;
  }

  pub storage_stored : (ys : List ℕ) (v : StorageState) → ys ≡ bytes (storage_state_words v)
      → StoresAt b (back d.block (d.block + 64) b ys) F k v
  storage_stored ys v q = record {
    to = λ r s xs c.
        subst (λ (z : List ℕ). ServerCut (back d.block (d.block + 64) b ys) r F s k (set xs 0 z)) q
        (part_put c 0 (omega arith) d.block (d.block + 64) (omega (arith, p.block)) refl ys (ap length q ∙ length_bytes (storage_state_words v)));
  }

module _ (b : List ℕ) (F : Capacity) (k : ℕ) (v : StorageState) (i : k < F.servers) (q : Reads b F v (storage_at k)) where
  pub storage_in : v.waiting ≤ F.limits.writes → StorageIn b F k v
  storage_in l = record { state = q; most = l }

  -- a count past W is no area's
  pub storage_past : F.limits.writes < v.waiting → StorageIn b F k (record { current = v.current; durable = v.durable; waiting = 0; discarded = v.discarded })
  unfolding storage_at
  storage_past l = record { state = record { to = λ s h e. absurd (past s h e) }; most = omega arith }
    where
      past : (s : State) → Area b s → F ≡ capacity_of s → ⊥
      past s h e =
          let t = server_fits_at s (area_fits h) k (subst (λ (G : Capacity). k < G.servers) e i) in
          let w = leb-true (length (server_at s k).storage.waiting) s.limits.writes (and_left _ _ (and_left _ _ (and_right _ _ (and_right _ _ (allb_in (server_tests s.config s.limits (server_at s k)) t 1))))) in
          omega (arith, w, ap (λ (x : StorageState). x.waiting) (q.to s h e), ap (λ (G : Capacity). G.limits.writes) e)

-- ---- the disk as it is lent

module _ (b r : List ℕ) (F : Capacity) (s : State) (k : ℕ) (d : DiskPlace) (i : k < F.servers) (p : DiskIn b F k d) (h : AreaOf b r F s) where
  abbrev x : Storage
  x = (server_at s k).storage

  disk_is : lent d.from d.to b ≡ disk_content F x
  disk_is = part_lent (server_cut h k i) 3 (omega arith) d.from d.to (omega (arith, p.from, p.block)) p.to

  pub disk_stores : (v : StorageState) → v ≡ storage_of_server (server_at s k) → StoresIn F v (lent d.from d.to b) x
  disk_stores v e =
      subst (λ (u : StorageState). StoresIn F u (lent d.from d.to b) x) (sym e)
      (subst (λ (l : List ℕ). StoresIn F (storage_of_server (server_at s k)) l x) (sym disk_is) (server_at_held h k i).disk)

-- what a disk's bytes are that store x, and its fixed part
stores_content : (F : Capacity) (v : StorageState) (l : List ℕ) (x : Storage) → StoresIn F v l x → l ≡ disk_content F x
stores_content F v l x y =
    let q = y.parts in
    q.side ∙ ap₂ (λ (u w : List ℕ). u ++ w) q.current.holds.is (ap₂ (λ (u w : List ℕ). u ++ w) q.durable.holds.is q.writes.holds.is)

same_state : {a a' b b' : HardState} {c c' d d' : ℕ} → a ≡ a' → b ≡ b' → c ≡ c' → d ≡ d'
    → ◌≡◌ {A = StorageState} (record { current = a; durable = b; waiting = c; discarded = d }) (record { current = a'; durable = b'; waiting = c'; discarded = d' })
same_state e₁ e₂ e₃ e₄ = cc

stores_state : (P L N : ℕ) (v : StorageState) (l : List ℕ) (u : Server) → Stores P L N v l u.storage → v ≡ storage_of_server u
stores_state P L N v l u y = same_state y.current y.durable (sym (held_rows y.parts.writes).count) y.discarded

-- the disk and its fixed part put back: the bytes hold the state with that storage
module _ (b b₂ ys : List ℕ) (F : Capacity) (k : ℕ) (d : DiskPlace) (i : k < F.servers) (p : DiskIn b F k d) (v : StorageState) (w : StoresAt (back d.from d.to b ys) b₂ F k v) where
  disk_back : (op : Storage → Storage) (s : State) (r : List ℕ) → AreaOf b r F s
      → StoresIn F v ys (op (server_at s k).storage)
      → state_fits (on_server s k (λ v. with_storage v (op v.storage))) ≡ true → AreaOf b₂ r F (on_server s k (λ v. with_storage v (op v.storage)))
  disk_back op s r h y t =
      let u : Server = server_at s k in
      let n : Server = with_storage u (op u.storage) in
      let l : length ys ≡ disk_bytes F.limits.payload F.limits.log_indexes F.limits.writes =
      omega (arith, ap length y.parts.side, parts_long y.parts) in
      cut_server (w.to r s (set (server_contents F u) 3 ys) (part_put (server_cut h k i) 3 (omega arith) d.from d.to (omega (arith, p.from, p.block)) p.to ys l)) (λ v. with_storage v (op v.storage))
      (ap₂ (λ (g : List ℕ) (e : StorageState). set (set (server_contents F u) 3 g) 0 (bytes (storage_state_words e))) (stores_content F v ys (op u.storage) y) (stores_state F.limits.payload F.limits.log_indexes F.limits.writes v ys n y)) t
    where
      parts_long : {P L N m : ℕ} {l : List ℕ} {a c : Log} {ws : List Write} (q : Parts P L N m l a c ws) → length (q.first ++ (q.second ++ q.third)) ≡ disk_bytes P L N
      parts_long q = omega (arith, length-append q.first (q.second ++ q.third), length-append q.second q.third, held_length q.current, held_length q.durable, held_length q.writes)

-- ---- question 10 of a storage

module _ (config : SimConfig) (limits : Limits) where
  abbrev P : ℕ
  P = limits.payload

  abbrev L : ℕ
  L = limits.log_indexes

  log_fits : {N : ℕ} {l : List ℕ} {x : Log} → Held (places P) N L l x → (eqb (length x) L and every (place P).good x) ≡ true
  log_fits {N} {l} {x} h = and_both _ _ (eq-eqb (length x) L (held_rows h).count) (held_rows h).each

  -- a storage that is stored, with its hard states and its puts in range, fits where it has room
  pub stored_fits : (v : StorageState) (l : List ℕ) (x : Storage) → Stores P L limits.writes v l x → hard_state_fits config limits x.current.hard_state ≡ true → hard_state_fits config limits x.durable.hard_state ≡ true
      → every (put_within L) x.waiting ≡ true → storage_room limits.writes x ≡ true → storage_fits config limits x ≡ true
  unfolding storage_room
  stored_fits v l x y hc hd w t =
      let q = y.parts in
      and_both _ _ (and_both _ _ hc (log_fits q.current))
      (and_both _ _ (and_both _ _ hd (log_fits q.durable))
      (and_both _ _ (and_both _ _ (and_left _ _ t) (and_both _ _ (every_both (write_code P).good (put_within L) x.waiting (held_rows q.writes).each w) refl)) (and_right _ _ t)))

  -- and one that fits has room
  pub fits_room : (x : Storage) → storage_fits config limits x ≡ true → storage_room limits.writes x ≡ true
  unfolding storage_room
  fits_room x t = let r = and_right _ _ (and_right _ _ t) in and_both _ _ (and_left _ _ (and_left _ _ r)) (and_right _ _ r)

  -- the hard state of a write that has a content
  pub hard_state_fits_lem : (h : HardState) → (write_code P).good (write_hard_state h) ≡ true → hard_state_fits config limits h ≡ true
  hard_state_fits_lem h g =
      let n = and_right _ _ (and_left _ _ g) in
      and_both _ _ (and_left _ _ n) (by h.voted_for (and_right _ _ n))
    where
      by : (o : Option NodeId) → ltb (voteNumber o) (2 ^ 64) ≡ true → node_fits o ≡ true
      by None e = refl
      by (Some id) e = e

  -- the current hard state after a write
  pub current_fits : (d : Disk) (w : Write) → hard_state_fits config limits d.hard_state ≡ true → (write_code P).good w ≡ true → hard_state_fits config limits (apply_write d w).hard_state ≡ true
  current_fits d (write_hard_state h) t g = hard_state_fits_lem h g
  current_fits d (write_put index e) t g = t
  current_fits d (write_truncate from) t g = t

-- a server with another storage is in range where that is
pub in_storage : (s : State) (k : ℕ) → ServersFit s → k < s.config.servers → (x : Storage) → server_fits s.config s.limits (with_storage (server_at s k) x) ≡ storage_fits s.config s.limits x
in_storage s k h i x = fits_server_one s.config s.limits (server_at s k) (with_storage (server_at s k) x) 1 (storage_fits s.config s.limits x) (omega arith) (server_fine s k h i) refl

-- ---- writes

-- by what a disk answers of a write
by_written : {A : Type 0} (o : Result StorageState WriteError) → written_number o ≡ 0 → ((v : StorageState) → o ≡ Ok v → A) → A
by_written {A} o z f = by o refl z
  where
    by : (u : Result StorageState WriteError) → o ≡ u → written_number u ≡ 0 → A
    by (Ok v) e z = f v e
    by (Err error) e z = absurd (omega arith)

module _ (b b₂ ys : List ℕ) (F : Capacity) (k : ℕ) (d : DiskPlace) (v : StorageState) (w : Write) (o : Result StorageState WriteError) (c : ℕ) (i : k < F.servers) (g : put_within F.limits.log_indexes w ≡ true) (p : DiskIn b F k d)
    (q : Reads b F v (storage_at k)) (e : WritesIn F v w o (lent d.from d.to b) ys)
    (f : Finishes (back d.from d.to b ys) b₂ F k o c) where
  module _ (s : State) (r : List ℕ) (h : AreaOf b r F s) where
    abbrev y : Storage
    y = (server_at s k).storage

    stores : StoresIn F v (lent d.from d.to b) y
    unfolding storage_at
    stores = disk_stores b r F s k d i p h v (q.to s h.area h.capacity)

    below : k < s.config.servers
    below = subst (λ (G : Capacity). k < G.servers) h.capacity i

    -- the server at k fits
    fitted : (j : ℕ) → get_or (server_tests s.config s.limits (server_at s k)) j true ≡ true
    fitted = allb_in (server_tests s.config s.limits (server_at s k)) (server_fits_at s (area_fits h.area) k below)

    fits_is : state_fits (write_at s k w) ≡ storage_fits s.config s.limits (write y w)
    unfolding write_at
    fits_is =
        fits_on_server s k (servers_fit_lem s (area_fits h.area)) below (λ v. with_storage v (write v.storage w))
        ∙ ap₂ (λ (t u : Bool). t and u) (in_storage s k (servers_fit_lem s (area_fits h.area)) below (write y w)) (area_fits h.area) ∙ and_true (storage_fits s.config s.limits (write y w))

    -- it was made: the storage with it fits
    made_fits : (v' : StorageState) → StoresIn F v' ys (write y w) → storage_room F.limits.writes (write y w) ≡ true → storage_fits s.config s.limits (write y w) ≡ true
    unfolding write
    made_fits v' z t =
        let old = fitted 1 in
        let each = every_append (write_code F.limits.payload).good y.waiting (w ∷ []) in
        let gw : (write_code F.limits.payload).good w ≡ true = and_left _ _ (and_right _ _ (sym each ∙ (held_rows z.parts.writes).each)) in
        let hc : hard_state_fits s.config F.limits y.current.hard_state ≡ true = and_left _ _ (and_left _ _ old) in
        let hd : hard_state_fits s.config F.limits y.durable.hard_state ≡ true = and_left _ _ (and_left _ _ (and_right _ _ old)) in
        let within : every (put_within F.limits.log_indexes) (y.waiting ++ (w ∷ [])) ≡ true =
        every_append (put_within F.limits.log_indexes) y.waiting (w ∷ []) ∙ and_both _ _ (server_at_held h k i).within (and_both _ _ g refl) in
        subst (λ (G : Capacity). storage_fits s.config G.limits (write y w) ≡ true) h.capacity
        (stored_fits s.config F.limits v' ys (write y w) z (current_fits s.config F.limits y.current w hc gw) hd within t)

    room_is : state_fits (write_at s k w) ≡ storage_room F.limits.writes (write y w)
    room_is =
        fits_is
        ∙ cases (storage_room F.limits.writes (write y w))
        (λ t. by_written o (e.number y stores ∙ ap (λ (n : Bool). pick n 0 10) t) (λ v' m. made_fits v' (e.done v' m y stores) t) ∙ sym t)
        (λ t. cases (storage_fits s.config s.limits (write y w))
        (λ u. absurd (false_true (sym t ∙ subst (λ (G : Capacity). storage_room G.limits.writes (write y w) ≡ true) (sym h.capacity) (fits_room s.config s.limits (write y w) u))))
        (λ u. u ∙ sym t))

  disk_written : WritesAt b b₂ F k w c
  unfolding write_answer written write_at
  disk_written = record {
    code = record {
      to = λ s h ef.
          let a = area_of h ef in
          f.code ∙ e.number (server_at s k).storage (stores s (drop (bytes_of F) b) a) ∙ ap (λ (n : Bool). pick n 0 10) (sym (room_is s (drop (bytes_of F) b) a));
    };
    changes = record {
      to = λ s r h t.
          by_written o (e.number (server_at s k).storage (stores s r h) ∙ ap (λ (n : Bool). pick n 0 10) (sym (room_is s r h) ∙ t))
          (λ v' m. disk_back b b₂ ys F k d i p v' (f.done v' m) (λ x. write x w) s r h (e.done v' m (server_at s k).storage (stores s r h)) t);
    };
    kept = λ t.
        let n : written_number o ≡ 10 = sym f.code ∙ t in
        f.kept n ∙ ap (back d.from d.to b) (e.kept n) ∙ put_same d.from (d.to - d.from) b;
  }

-- the end of a write
module _ (b : List ℕ) (F : Capacity) (k : ℕ) (r : Result StorageState WriteError) where
  pub finish_done : (b₂ : List ℕ) (v : StorageState) → r ≡ Ok v → StoresAt b b₂ F k v → Finishes b b₂ F k r 0
  finish_done b₂ v e w = record {
    code = sym (ap written_number e);
    done = λ u f. subst (λ (x : StorageState). StoresAt b b₂ F k x) (same u f) w;
    kept = λ n. let z : ◌≡◌ {A = ℕ} 0 10 = sym (ap written_number e) ∙ n in absurd (omega arith);
  }
    where
      same : (u : StorageState) → r ≡ Ok u → v ≡ u
      same u f = cc

  no_done : written_number r ≡ 10 → (v : StorageState) → r ≡ Ok v → ⊥
  no_done n v e = let z : ◌≡◌ {A = ℕ} 10 0 = sym n ∙ ap written_number e in omega arith

  finish_not : written_number r ≡ 10 → Finishes b b F k r 10
  finish_not n = record { code = sym n; done = λ v e. absurd (no_done n v e); kept = λ _. refl }

  pub finish_refused : (error : WriteError) (refusal : Refusal) (n : ℕ) → r ≡ Err error → refusal ≡ Room → n ≡ refusal_number refusal → Finishes b b F k r n
  finish_refused error refusal n e f g =
      let z : n ≡ 10 = g ∙ ap refusal_number f in
      subst (λ (m : ℕ). Finishes b b F k r m) (sym z) (finish_not (ap written_number e))

module _ (b b₂ ys : List ℕ) (F : Capacity) (k : ℕ) (d : DiskPlace) (v : StorageState) (o : Result StorageState WriteError) (c : ℕ) (i : k < F.servers) where
  abbrev region : List ℕ
  region = lent d.from d.to b

  abbrev after : List ℕ
  after = back d.from d.to b ys

  pub hard_state_written : (h : HardState) → DiskIn b F k d → Reads b F v (storage_at k) → WritesIn F v (write_hard_state h) o region ys → Finishes after b₂ F k o c
      → WritesAt b b₂ F k (write_hard_state h) c
  hard_state_written h p q e f = disk_written b b₂ ys F k d v (write_hard_state h) o c i refl p q e f

  pub put_written : (index : LogIndex) (t : Term) (y : Payload) → 1 ≤ index.0 → index.0 ≤ F.limits.log_indexes → DiskIn b F k d → Reads b F v (storage_at k)
      → WritesIn F v (write_put index (record { term = t; payload = y })) o region ys → Finishes after b₂ F k o c
      → WritesAt b b₂ F k (write_put index (record { term = t; payload = y })) c
  put_written index t y low high p q e f =
      disk_written b b₂ ys F k d v (write_put index (record { term = t; payload = y })) o c i (and_both _ _ (le-leb 1 index.0 low) (le-leb index.0 F.limits.log_indexes high)) p q e f

  pub truncate_written : (index : LogIndex) → DiskIn b F k d → Reads b F v (storage_at k) → WritesIn F v (write_truncate index) o region ys → Finishes after b₂ F k o c
      → WritesAt b b₂ F k (write_truncate index) c
  truncate_written index p q e f = disk_written b b₂ ys F k d v (write_truncate index) o c i refl p q e f

-- ---- sync and crash

module _ (b ys b₂ : List ℕ) (F : Capacity) (k : ℕ) (d : DiskPlace) (v : StorageState) (i : k < F.servers) (p : DiskIn b F k d) (q : StorageIn b F k v) where
  held : (s : State) (r : List ℕ) (h : AreaOf b r F s) → StoresIn F v (lent d.from d.to b) (server_at s k).storage
  unfolding storage_at
  held s r h = disk_stores b r F s k d i p h v (q.state.to s h.area h.capacity)

  module _ (t : Synced) (e : SyncsIn F v t (lent d.from d.to b) ys) (w : StoresAt (back d.from d.to b ys) b₂ F k t.state) where
    synced_by : (r : SyncTold) → ((x : Storage) → t.written ≡ synced_bytes x → (r.wrote ≡ unsynced x) × (r.bytes ≡ unsynced_bytes x.waiting)) → SyncsAt b b₂ F k r
    unfolding synced_at unsynced_at
    synced_by r f = record {
      changes = record { to = λ s l h u. disk_back b b₂ ys F k d i p t.state w sync s l h (e.to (server_at s k).storage (held s l h)) u };
      told = record {
        to = λ s h ef.
            let x : Storage = (server_at s k).storage in
            let z = f x (e.written x (held s (drop (bytes_of F) b) (area_of h ef))) in
            ap₂ (λ (n : Bool) (m : ℕ). record { wrote = n; bytes = m }) z.0 z.1;
      };
    }

    pub synced_some : (n : ℕ) → t.written ≡ Some n → SyncsAt b b₂ F k (record { wrote = true; bytes = n })
    synced_some n q = synced_by (record { wrote = true; bytes = n }) (λ x g. synced_told x n (sym q ∙ g))

    pub synced_none : t.written ≡ None → SyncsAt b b₂ F k (record { wrote = false; bytes = 0 })
    synced_none q = synced_by (record { wrote = false; bytes = 0 }) (λ x g. synced_nothing x (sym q ∙ g))

    pub synced_at_lem : SyncsAt b b₂ F k (record { wrote = is_some t.written; bytes = unwrap_or t.written 0 })
    synced_at_lem = by t.written refl
      where
        by : (o : Option ℕ) → t.written ≡ o → SyncsAt b b₂ F k (record { wrote = is_some o; bytes = unwrap_or o 0 })
        by None q = synced_none q
        by (Some n) q = synced_some n q

  pub crashed_at_lem : (v' : StorageState) → CrashesIn F v v' (lent d.from d.to b) ys
      → StoresAt (back d.from d.to b ys) b₂ F k v'
      → Changes b b₂ F (crashed_at k)
  unfolding crashed_at
  crashed_at_lem v' e w = record { to = λ s r h u. disk_back b b₂ ys F k d i p v' w crash s r h (e.to (server_at s k).storage (held s r h)) u }

-- ---- parts of the disk, read

-- the rows of m waiting writes lie in the region that is lent
pub waiting_room : (b : List ℕ) (F : Capacity) (k logs : ℕ) (d : DiskPlace) (v : StorageState) → DiskIn b F k d → StorageIn b F k v → Counted logs (log_words F)
    → 8 * (v.waiting * (3 + words_for F.limits.payload)) ≤ length (lent (d.from + 16 * logs) d.to b)
waiting_room b F k logs d v p q e =
    let n : ℕ = d.to - (d.from + 16 * logs) in
    let l : length (take n (drop (d.from + 16 * logs) b)) ≡ n = length_part b (d.from + 16 * logs) n (omega (arith, p.to, p.ends, e.is)) in
    omega (arith, l, p.to, e.is, row_start v.waiting F.limits.writes (3 + words_for F.limits.payload) q.most)

pub unsynced_read : (b : List ℕ) (F : Capacity) (k logs : ℕ) (d : DiskPlace) (v : StorageState) (r : ℕ) → k < F.servers → DiskIn b F k d → Counted logs (log_words F) → StorageIn b F k v
    → Sums F.limits.payload v.waiting r (lent (d.from + 16 * logs) d.to b) → Reads b F (record { wrote = ltb 0 v.waiting; bytes = r }) (unsynced_at k)
unfolding unsynced_at storage_at
unsynced_read b F k logs d v r i p el q g = record {
  to = λ s h e.
      let x : Storage = (server_at s k).storage in
      let m : v.waiting ≡ length x.waiting = ap (λ (u : StorageState). u.waiting) (q.state.to s h e) in
      let z = (disk_stores b (drop (bytes_of F) b) F s k d i p (area_of h e) (storage_of_server (server_at s k)) refl).parts in
      let n : ℕ = length (lent d.from d.to b) in
      let ln : n ≡ d.to - d.from = length_part b d.from (d.to - d.from) (omega (arith, p.to, p.ends)) in
      let en : d.to - (d.from + 16 * logs) ≡ n - 16 * logs = omega (arith, ln) in
      let at : lent (d.from + 16 * logs) d.to b ≡ lent (16 * logs) n (lent d.from d.to b) =
      ap (λ (j : ℕ). take j (drop (d.from + 16 * logs) b)) en ∙ sym (part_part b d.from (d.to - d.from) (16 * logs) (n - 16 * logs) (omega (arith, ln, p.to, el.is))) in
      let y : Held (waiting F.limits.payload) (waiting_words F) v.waiting (lent (d.from + 16 * logs) d.to b) x.waiting =
      subst (λ (j : ℕ). Held (waiting F.limits.payload) (waiting_words F) j (lent (d.from + 16 * logs) d.to b) x.waiting) (sym m)
      (subst (λ (l : List ℕ). Held (waiting F.limits.payload) (waiting_words F) (length x.waiting) l x.waiting) (sym at) (waiting_lent z logs el.is n refl)) in
      ap₂ (λ (a c : ℕ). record { wrote = ltb 0 a; bytes = c }) m (g.is.to (waiting_words F) x.waiting y);
}

pub log_in : (b : List ℕ) (F : Capacity) (k at logs : ℕ) → Inside b F → BlockAt F k at → Counted logs (log_words F) → LogIn b F k (record { from = 8 * (at + 64); to = 8 * (at + 64 + logs) })
log_in b F k at logs i h e = record { from = omega (arith, h.is); to = omega (arith, e.is); ends = omega (arith, e.is, h.ends, i.long, room F) }

module _ (b : List ℕ) (F : Capacity) (k : ℕ) (d : LogPlace) (i : k < F.servers) (p : LogIn b F k d) where
  -- the current log as it is lent
  log_there : (s : State) → Area b s → F ≡ capacity_of s → Held (places F.limits.payload) (log_words F) F.limits.log_indexes (lent d.from d.to b) (log_at k s)
  unfolding log_at
  log_there s h e =
      let a : ℕ = 8 * (512 + k * block_words F) + 512 in
      let n : ℕ = disk_bytes F.limits.payload F.limits.log_indexes F.limits.writes in
      let ln : d.to - d.from ≡ 8 * log_words F - 0 = omega (arith, p.to) in
      let la : d.from ≡ a + 0 = omega (arith, p.from) in
      let en : a + n - a ≡ n = omega arith in
      let at : lent d.from d.to b ≡ lent 0 (8 * log_words F) (disk_content F (server_at s k).storage) =
      ap₂ (λ (j c : ℕ). take j (drop c b)) ln la ∙ sym (part_part b a n 0 (8 * log_words F - 0) (omega arith))
      ∙ ap (lent 0 (8 * log_words F)) (ap (λ (j : ℕ). take j (drop a b)) (sym en) ∙ part_lent (server_cut (area_of h e) k i) 3 (omega arith) a (a + n) (omega arith) refl) in
      subst (λ (l : List ℕ). Held (places F.limits.payload) (log_words F) F.limits.log_indexes l (server_at s k).storage.current.log) (sym at)
      (current_lent (server_at_held (area_of h e) k i).disk.parts (log_words F) refl)

  pub entry_read : (index : LogIndex) (r : Option EntryShape) (z z' : List ℕ) → ReadsEntry F.limits.payload F.limits.log_indexes index.0 r (lent d.from d.to b) z z' → ReadsEntryAt b F k index r z z'
  entry_read index r z z' q = record {
    place = record { to = λ s h e. q.place (log_words F) (log_at k s) (log_there s h e) };
    copied = λ s h e. q.copied (log_words F) (log_at k s) (log_there s h e);
  }

  pub numbers_read : (last : LogIndex) (n : ℕ) → last.0 ≡ last_index (rows_in (place F.limits.payload) F.limits.log_indexes (lent d.from d.to b))
      → n ≡ count (rows_in (place F.limits.payload) F.limits.log_indexes (lent d.from d.to b))
      → Reads b F (record { count = n; last = last; gaps = last.0 - n }) (log_numbers_at k)
  unfolding log_numbers_at gaps
  numbers_read last n el en = record {
    to = λ s h e.
        let x = rows_are (log_there s h e) in
        ap₂ (λ (a c : ℕ). record { count = c; last = record { 0 = a }; gaps = a - c }) (el ∙ ap last_index x) (en ∙ ap count x);
  }
