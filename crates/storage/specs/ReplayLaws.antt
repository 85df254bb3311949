-- What the proofs of replay.rt cite. Assumes nothing.
use Rattle.std.specs.Prelude.{◌≡◌, true, get_or, take, drop, Option, None, Some}
use Rattle.std.proofs.Math.Path.{refl, sym, ap, subst}
use Rattle.std.proofs.Common.{ap₂, ◌∙◌, add-one, arith, drop_of_length-le, drop-cons, take-suc, take_all, take-take, take_at}
use mathlib.Core.List.{List, [], ◌∷◌, ◌++◌}
use Prim.Native.Nat.{ℕ, zero, suc, ◌+◌, ◌-◌, ◌*◌, ◌^◌, ◌≤◌, ◌<◌}
use Rattle.std.proofs.Math.ListN.{length}
use Rattle.std.proofs.lemmas.List.Edits.{sets}
use Rattle.std.proofs.Math.Seq.{set_out}
use Rattle.units.specs.Types.{Payload, noop, command, Entry, command_length, shape_of as shape_of_payload}
use Rattle.units.specs.declared.LogIndex.{LogIndex}
use Rattle.words.specs.Words.{bytes}
use Rattle.words.specs.Sets.{part_part, part_sets, length_part}
use Rattle.words.specs.Lift.{bytes_append, length_bytes}
use Rattle.layout.specs.Tables.{Holds, Held, Becomes}
use Rattle.layout.specs.Rows.{row_end}
use Rattle.layout.specs.TableLaws.{held_rows, held_length, row_held}
use Rattle.layout.specs.Marked.{words_for, marked}
use Rattle.layout.specs.MarkedLaws.{body_read}
use Rattle.layout.specs.Parts.{lent_row}
use Rattle.laws.specs.Bools.{and_left}
use Rattle.raft_log.specs.Log.{Log, put_at}
use Rattle.raft_log.specs.Places.{places, entry_shape, put_entry, Truncates}
use Rattle.record.specs.Postcard.{record_bytes, hard_state_record, truncate_record, put_bytes}
use Rattle.record.specs.Lengths.{put_bytes_is}
use Rattle.units.specs.declared.PayloadShape.{PayloadShape}
use Rattle.units.specs.declared.PayloadShape.TheVariants.{Noop, Command}
use Rattle.units.specs.declared.NodeId.{NodeId}
use Rattle.raft_log.specs.declared.EntryShape.{EntryShape}
use Rattle.storage.specs.declared.HardState.{HardState}
use Rattle.storage.specs.declared.waiting.Shape.{Shape}
use Rattle.storage.specs.Storage.{Disk, Write, write_hard_state, write_put, write_truncate, apply_write, apply_writes, write_bytes, unsynced_bytes}
use Rattle.storage.specs.Waiting.{kind_marking, vote_kind, payload_kind, kind_of, body_of, first_of, second_of, write_code, waiting, shape_of, length_of, nothing, shape_at, Shows}
use Rattle.storage.specs.Stores.{Parts, disk_bytes}
use Rattle.storage.specs.PartLaws.{lent, back, whole_long, durable_lent, waiting_lent, durable_back}
use Rattle.storage.specs.Replay.{shape_bytes, Sizes, Sums, body_at, payload_at, entry_at, ReadsCommand, truncate_from, Changes, Tells, Applies, Replays}

-- ---- the bytes of a write

module _ (s : Shape) (r : ℕ) where
  pub sizes_state : (h : HardState) → s ≡ Shape.HardState h → r ≡ record_bytes (hard_state_record h.term h.voted_for) → r ≤ 26 → Sizes s r
  sizes_state h e f l = record { is = f ∙ ap shape_bytes (sym e); most = omega arith }

  pub sizes_put : (i : LogIndex) (d : EntryShape) → s ≡ Shape.Put i d → r ≡ put_bytes i d.term d.payload → r ≤ 36 + command_length d.payload → Sizes s r
  sizes_put i d e f l = record { is = f ∙ ap shape_bytes (sym e); most = omega (arith, ap length_of e) }

  pub sizes_truncate : (from : LogIndex) → s ≡ Shape.Truncate from → r ≡ record_bytes (truncate_record from) → r ≤ 15 → Sizes s r
  sizes_truncate from e f l = record { is = f ∙ ap shape_bytes (sym e); most = omega arith }

pub put_fits : (s : Shape) (i : LogIndex) (d : EntryShape) → length_of s ≤ 256 → s ≡ Shape.Put i d → command_length d.payload ≤ 2 ^ 32
put_fits s i d l e = omega (arith, ap length_of e)

pub ruleset sizes = (sizes_state, sizes_put, sizes_truncate, put_fits)

shape_bytes_lem : (w : Write) → shape_bytes (shape_of w) ≡ write_bytes w
shape_bytes_lem (write_hard_state h) = refl
shape_bytes_lem (write_put index e) = put_bytes_is index e
shape_bytes_lem (write_truncate from) = refl

-- total is the bytes of the writes before write i
pub record Summing (p m : ℕ) (s : List ℕ) (total i : ℕ) : Type 0 where
  pub is : (N : ℕ) (ws : List Write) → Held (waiting p) N m s ws → unsynced_bytes ws ≡ total + unsynced_bytes (drop i ws)
  pub upto : i ≤ m
  pub most : total ≤ 292 * i

pub summing_start : (p m : ℕ) (s : List ℕ) → Summing p m s 0 0
summing_start p m s = record { is = λ N ws h. omega arith; upto = omega arith; most = omega arith }

pub summing_turn : (p m : ℕ) (s : List ℕ) (total i b : ℕ) (r : Shape) → Summing p m s total i → i < m → p ≤ 256 → Shows p m i r s → Sizes r b → Summing p m s (total + b) (i + 1)
unfolding unsynced_bytes shape_at
summing_turn p m s total i b r c k q g z = record {
  is = λ N ws h.
      let w : Write = get_or ws i nothing in
      let e : b ≡ write_bytes w = z.is ∙ ap shape_bytes (g.is.to N ws h) ∙ shape_bytes_lem w in
      let d : drop i ws ≡ w ∷ drop (suc i) ws = drop-cons ws i nothing (omega (arith, (held_rows h).count)) in
      let a : unsynced_bytes (drop i ws) ≡ write_bytes w + unsynced_bytes (drop (i + 1) ws) = ap unsynced_bytes d ∙ ap (λ (j : ℕ). write_bytes w + unsynced_bytes (drop j ws)) (sym (add-one i)) in
      omega (arith, c.is N ws h);
  upto = omega arith;
  most = omega (arith, c.most, z.most, g.most);
}

pub summing_done : (p m : ℕ) (s : List ℕ) (total i : ℕ) → Summing p m s total i → m ≤ i → Sums p m total s
unfolding unsynced_bytes
summing_done p m s total i c k = record {
  is = record {
    to = λ N ws h.
        let z : unsynced_bytes (drop i ws) ≡ 0 = ap unsynced_bytes (drop_of_length-le ws {i = i} (omega (arith, (held_rows h).count))) in
        omega (arith, c.is N ws h);
  };
  most = omega (arith, c.most, c.upto);
}

pub short_fits : (p m i : ℕ) (s : List ℕ) (r : Shape) → p ≤ 256 → Shows p m i r s → length_of r ≤ 256
short_fits p m i s r q g = omega (arith, g.most)

pub ruleset sums = (summing_start, summing_turn, summing_done, short_fits)

-- ---- a change of the durable log

module _ (p L W : ℕ) (b : List ℕ) where
  -- a put outside the log changes nothing
  module _ (i : ℕ) (e : Entry) where
    pub put_zero : i < 1 → Changes p L W b b (put_entry i e)
    unfolding put_entry put_at
    put_zero h = record { to = λ m x y ws g. subst (λ (l : Log). Parts p L W m b x l ws) (by y i h) g }
      where
        by : (x : Log) (i : ℕ) → i < 1 → x ≡ put_at x i e
        by x zero h = refl
        by x (suc i) h = absurd (omega arith)

    pub put_past : L < i → Changes p L W b b (put_entry i e)
    unfolding put_entry put_at
    put_past h = record { to = λ m x y ws g. subst (λ (l : Log). Parts p L W m b x l ws) (by y i (held_rows g.durable).count h) g }
      where
        by : (x : Log) (i : ℕ) → length x ≡ L → L < i → x ≡ put_at x i e
        by x zero l h = absurd (omega arith)
        by x (suc i) l h = sym (set_out x i (Some e) (omega arith))

  module _ (logs : ℕ) (o : logs ≡ L * (2 + words_for p)) (ys : List ℕ) where
    pub changed : (op : Log → Log) → Becomes (places p) L L (lent (8 * logs) (16 * logs) b) ys op → Changes p L W b (back (8 * logs) (16 * logs) b ys) op
    changed op c = record { to = λ m x y ws g. durable_back g logs o ys (op y) (c.to (L * (2 + words_for p)) y (durable_lent g logs o)) }

    pub cut_off : (from r : ℕ) → Truncates p L from r (lent (8 * logs) (16 * logs) b) ys → Changes p L W b (back (8 * logs) (16 * logs) b ys) (truncate_from from)
    unfolding truncate_from
    cut_off from r t = changed (truncate_from from) t.kept

pub ruleset puts = (put_zero, put_past, changed)

-- the bytes of a command go to a buffer, and from there to the log
pub read_front : (p L W k logs at d : ℕ) (b z z' : List ℕ) → p ≤ 256 → length b ≡ disk_bytes p L W → k < W → d ≤ p → 256 ≤ length z → logs ≡ L * (2 + words_for p) → at ≡ k * (3 + words_for p)
    → z' ≡ sets z 0 (take (16 * logs + 8 * (at + 1) + d - (16 * logs + 8 * (at + 1))) (drop (16 * logs + 8 * (at + 1)) b))
    → ReadsCommand p L k d b z'
unfolding body_at
read_front p L W k logs at d b z z' q lb h l lz eo ea ez =
    let u : List ℕ = take d (drop (16 * (L * (2 + words_for p)) + 8 * (k * (3 + words_for p) + 1)) b) in
    let a : 16 * logs + 8 * (at + 1) ≡ 16 * (L * (2 + words_for p)) + 8 * (k * (3 + words_for p) + 1) = omega arith in
    let n : 16 * logs + 8 * (at + 1) + d - (16 * logs + 8 * (at + 1)) ≡ d = omega arith in
    let r : k * (3 + words_for p) + (3 + words_for p) ≤ W * (3 + words_for p) = row_end k W (3 + words_for p) h in
    let lu : length u ≡ d = length_part b (16 * (L * (2 + words_for p)) + 8 * (k * (3 + words_for p) + 1)) d (omega arith) in
    let f : z' ≡ sets z 0 u = ez ∙ ap₂ (λ (j v : ℕ). sets z 0 (take j (drop v b))) n a in
    record { is = ap₂ (λ (j : ℕ) (v : List ℕ). take j v) (sym lu) f ∙ part_sets z u 0 (omega arith) }

module _ (p L W k i : ℕ) (d : EntryShape) (b b' : List ℕ) where
  pub put_noop : d.payload ≡ Noop → Changes p L W b b' (put_entry i (record { term = d.term; payload = noop })) → Changes p L W b b' (put_entry i (entry_at p L k d b))
  put_noop e c = subst (λ (q : PayloadShape). Changes p L W b b' (put_entry i (record { term = d.term; payload = payload_at p L k q b }))) (sym e) c

  pub put_command : (n : ℕ) (z : List ℕ) → d.payload ≡ Command n → ReadsCommand p L k n b z → Changes p L W b b' (put_entry i (record { term = d.term; payload = command (take (n - 0) (drop 0 z)) }))
      → Changes p L W b b' (put_entry i (entry_at p L k d b))
  put_command n z e r c =
      let m : n - 0 ≡ n = omega arith in
      subst (λ (q : PayloadShape). Changes p L W b b' (put_entry i (record { term = d.term; payload = payload_at p L k q b }))) (sym e)
      (subst (λ (v : List ℕ). Changes p L W b b' (put_entry i (record { term = d.term; payload = command v }))) (ap (λ (j : ℕ). take j z) m ∙ r.is) c)

pub ruleset put_reads = (put_noop, put_command)

-- ---- write k

pub told : (p L W m k logs : ℕ) (r : Shape) (b : List ℕ) → logs ≡ L * (2 + words_for p) → Shows p m k r (lent (16 * logs) (length b) b) → Tells p L W m k r b
told p L W m k logs r b o g = record { is = λ x y ws h. g.is.to (W * (3 + words_for p)) ws (waiting_lent h logs o (length b) refl); most = g.most }

-- the bytes of the command of write k
module _ (p m : ℕ) {N : ℕ} {s : List ℕ} {ws : List Write} (h : Held (waiting p) N m s ws) (k at : ℕ) (l : k < m) (e : at ≡ k * (3 + words_for p)) where
  abbrev here : Write
  here = get_or ws k nothing

  row_here : Holds (marked kind_marking p) (lent_row at (1 + words_for p) s) (kind_of here)
  row_here =
      let g : (write_code p).good here ≡ true = (row_held h k nothing l).good in
      let c : 8 * (at + (1 + words_for p)) - 8 * at ≡ 8 * (1 + words_for p) = omega arith in
      let u : List ℕ = (marked kind_marking p).enc (kind_of here) in
      let v : List ℕ = first_of here ∷ second_of here ∷ [] in
      let r : take (8 * (3 + words_for p)) (drop (8 * at) s) ≡ bytes (u ++ v) = ap (λ (j : ℕ). take (8 * (3 + words_for p)) (drop (8 * j) s)) e ∙ (row_held h k nothing l).is in
      record {
        good = and_left _ _ (and_left _ _ g);
        is = ap (λ (j : ℕ). take j (drop (8 * at) s)) c ∙ sym (take-take (8 * (1 + words_for p)) (8 * (3 + words_for p)) (drop (8 * at) s) (omega arith)) ∙ ap (take (8 * (1 + words_for p))) (r ∙ bytes_append u v)
            ∙ take_at (bytes u) (bytes v) (8 * (1 + words_for p)) (length_bytes u ∙ ap (λ (j : ℕ). 8 * j) ((marked kind_marking p).size_enc (kind_of here) (and_left _ _ (and_left _ _ g))));
      }

  body_here : (d : ℕ) → d ≡ length (body_of (kind_of here)) → d ≤ p → take d (drop (8 * (at + 1)) s) ≡ body_of (kind_of here)
  body_here d q b =
      let c : d ≡ 8 + d - 8 = omega arith in
      let a : 8 * (at + 1) ≡ 8 * at + 8 = omega arith in
      ap₂ (λ (u v : ℕ). take u (drop v s)) c a ∙ sym (part_part s (8 * at) (8 * (at + (1 + words_for p)) - 8 * at) 8 (8 + d - 8) (omega arith)) ∙ body_read kind_marking p row_here d q

-- the same on the disk
body_there : {p L W m : ℕ} {b : List ℕ} {x y : Log} {ws : List Write} (g : Parts p L W m b x y ws) (k d : ℕ) → k < m → d ≡ length (body_of (kind_of (get_or ws k nothing))) → d ≤ p
    → body_at p L k d b ≡ body_of (kind_of (get_or ws k nothing))
unfolding body_at
body_there {p} {L} {W} {m} {b} {x} {y} {ws} g k d l q h =
    let logs : ℕ = L * (2 + words_for p) in
    let at : ℕ = k * (3 + words_for p) in
    let r : k * (3 + words_for p) + (3 + words_for p) ≤ m * (3 + words_for p) = row_end k m (3 + words_for p) l in
    let o : 8 * (at + 1) + d ≤ length b - 16 * logs = omega (arith, whole_long g (L * (2 + words_for p)) refl, held_length g.writes, (held_rows g.writes).room) in
    sym (part_part b (16 * logs) (length b - 16 * logs) (8 * (at + 1)) d o) ∙ body_here p m (waiting_lent g logs refl (length b) refl) k at l refl d q h

-- the write of a shape
state_write : (w : Write) (h : HardState) → shape_of w ≡ Shape.HardState h → w ≡ write_hard_state h
state_write (write_hard_state g) h e = cc
state_write (write_put i d) h e = cc
state_write (write_truncate f) h e = cc

-- the payload is that of its shape and its bytes
content : (p L k : ℕ) (b : List ℕ) (y : Payload) → ((n : ℕ) → n ≡ length (body_of (payload_kind y)) → body_at p L k n b ≡ body_of (payload_kind y)) → y ≡ payload_at p L k (shape_of_payload y) b
content p L k b noop f = refl
content p L k b (command bs) f = ap command (sym (f (length bs) refl))

put_write : (p L k : ℕ) (b : List ℕ) (w : Write) (i : LogIndex) (d : EntryShape) → shape_of w ≡ Shape.Put i d
    → ((n : ℕ) → n ≡ length (body_of (kind_of w)) → body_at p L k n b ≡ body_of (kind_of w)) → w ≡ write_put i (entry_at p L k d b)
put_write p L k b (write_hard_state g) i d e f = cc
put_write p L k b (write_put j c) i d e f =
    let a : j ≡ i = cc in
    let s : entry_shape c ≡ d = cc in
    ap₂ write_put a (ap (λ (v : Payload). record { term = c.term; payload = v }) (content p L k b c.payload f) ∙ ap (λ (o : EntryShape). entry_at p L k o b) s)
put_write p L k b (write_truncate g) i d e f = cc

-- the length that a shape tells
shape_length : (w : Write) → length_of (shape_of w) ≡ length (body_of (kind_of w))
shape_length (write_hard_state h) = by h.voted_for
  where
    by : (v : Option NodeId) → ◌≡◌ {A = ℕ} 0 (length (body_of (vote_kind v)))
    by None = refl
    by (Some id) = refl
shape_length (write_put i e) = by e.payload
  where
    by : (y : Payload) → command_length (shape_of_payload y) ≡ length (body_of (payload_kind y))
    by noop = refl
    by (command bs) = refl
shape_length (write_truncate from) = refl

truncate_write : (w : Write) (f : LogIndex) → shape_of w ≡ Shape.Truncate f → w ≡ write_truncate f
truncate_write (write_hard_state g) f e = cc
truncate_write (write_put i d) f e = cc
truncate_write (write_truncate g) f e = cc

module _ (p L W m k : ℕ) (state : HardState) (b : List ℕ) (r : Shape) (g : Tells p L W m k r b) where
  -- u is write k
  applied : (u : Write) (b' : List ℕ) (state' : HardState) → ((x y : Log) (ws : List Write) → Parts p L W m b x y ws → shape_of (get_or ws k nothing) ≡ r → get_or ws k nothing ≡ u)
      → ((x y : Log) (ws : List Write) → Parts p L W m b x y ws → Parts p L W m b' x (apply_write (record { hard_state = state; log = y }) u).log ws)
      → ((y : Log) → state' ≡ (apply_write (record { hard_state = state; log = y }) u).hard_state)
      → Applies p L W m k state state' b b'
  unfolding shape_at
  applied u b' state' is log hard = record {
    to = λ x y ws h.
        subst (λ (w : Write). Parts p L W m b' x (apply_write (record { hard_state = state; log = y }) w).log ws) (sym (is x y ws h (sym (g.is x y ws h)))) (log x y ws h);
    hard = λ x y ws h. hard y ∙ ap (λ (w : Write). (apply_write (record { hard_state = state; log = y }) w).hard_state) (sym (is x y ws h (sym (g.is x y ws h))));
  }

  pub applied_state : (h : HardState) → r ≡ Shape.HardState h → Applies p L W m k state h b b
  applied_state h e = applied (write_hard_state h) b h (λ x y ws j q. state_write (get_or ws k nothing) h (q ∙ e)) (λ x y ws j. j) (λ y. refl)

  module _ (i : LogIndex) (d : EntryShape) (e : r ≡ Shape.Put i d) where
    pub put_short : command_length d.payload ≤ p
    put_short = omega (arith, g.most, ap length_of e)

    pub applied_put : (b' : List ℕ) → k < m → Changes p L W b b' (put_entry i.0 (entry_at p L k d b)) → Applies p L W m k state state b b'
    unfolding put_entry
    applied_put b' l c =
        applied (write_put i (entry_at p L k d b)) b' state
        (λ x y ws j q. put_write p L k b (get_or ws k nothing) i d (q ∙ e) (λ n f. body_there j k n l f (short (get_or ws k nothing) n q f)))
        (c.to m) (λ y. refl)
      where
        short : (w : Write) (n : ℕ) → shape_of w ≡ r → n ≡ length (body_of (kind_of w)) → n ≤ p
        short w n q f = omega (arith, shape_length w, ap length_of q, g.most)

  pub applied_truncate : (from : LogIndex) (b' : List ℕ) → r ≡ Shape.Truncate from → Changes p L W b b' (truncate_from from.0) → Applies p L W m k state state b b'
  unfolding truncate_from
  applied_truncate from b' e c =
      applied (write_truncate from) b' state (λ x y ws j q. truncate_write (get_or ws k nothing) from (q ∙ e)) (c.to m) (λ y. refl)

pub ruleset applies = (applied_state, applied_put, applied_truncate, put_short)

-- ---- the loop: the first k writes are made

apply_snoc : (d : Disk) (ws : List Write) (w : Write) → apply_writes d (ws ++ (w ∷ [])) ≡ apply_write (apply_writes d ws) w
unfolding apply_writes
apply_snoc d [] w = refl
apply_snoc d (v ∷ ws) w = apply_snoc (apply_write d v) ws w

pub record Replaying (p L W m : ℕ) (state₀ : HardState) (b₀ : List ℕ) (state : HardState) (b : List ℕ) (k : ℕ) : Type 0 where
  pub to : (x y : Log) (ws : List Write) → Parts p L W m b₀ x y ws → Parts p L W m b x (apply_writes (record { hard_state = state₀; log = y }) (take k ws)).log ws
  pub hard : (x y : Log) (ws : List Write) → Parts p L W m b₀ x y ws → state ≡ (apply_writes (record { hard_state = state₀; log = y }) (take k ws)).hard_state
  pub upto : k ≤ m
  pub len : length b ≡ disk_bytes p L W

module _ (p L W m : ℕ) (state₀ : HardState) (b₀ : List ℕ) where
  pub replaying_start : length b₀ ≡ disk_bytes p L W → Replaying p L W m state₀ b₀ state₀ b₀ 0
  unfolding apply_writes
  replaying_start l = record { to = λ x y ws h. h; hard = λ x y ws h. refl; upto = omega arith; len = l }

  pub replaying_turn : (state state' : HardState) (b b' : List ℕ) (k : ℕ) → Replaying p L W m state₀ b₀ state b k → k < m → Applies p L W m k state state' b b' → length b' ≡ length b
      → Replaying p L W m state₀ b₀ state' b' (k + 1)
  replaying_turn state state' b b' k c l a q = record {
    to = λ x y ws h. subst (λ (d : Disk). Parts p L W m b' x d.log ws) (after x y ws h) (a.to x (disk y ws).log ws (c.to x y ws h));
    hard = λ x y ws h. a.hard x (disk y ws).log ws (c.to x y ws h) ∙ ap (λ (d : Disk). d.hard_state) (after x y ws h);
    upto = omega arith;
    len = q ∙ c.len;
  }
    where
      disk : Log → List Write → Disk
      disk y ws = apply_writes (record { hard_state = state₀; log = y }) (take k ws)

      after : (x y : Log) (ws : List Write) → Parts p L W m b₀ x y ws
          → apply_write (record { hard_state = state; log = (disk y ws).log }) (get_or ws k nothing) ≡ apply_writes (record { hard_state = state₀; log = y }) (take (k + 1) ws)
      after x y ws h =
          ap (λ (v : HardState). apply_write (record { hard_state = v; log = (disk y ws).log }) (get_or ws k nothing)) (c.hard x y ws h)
          ∙ sym (apply_snoc (record { hard_state = state₀; log = y }) (take k ws) (get_or ws k nothing))
          ∙ ap (apply_writes (record { hard_state = state₀; log = y })) (sym (ap (λ (i : ℕ). take i ws) (add-one k) ∙ take-suc ws k nothing (omega (arith, (held_rows h.writes).count))))

  pub replaying_done : (state : HardState) (b : List ℕ) (k : ℕ) → Replaying p L W m state₀ b₀ state b k → m ≤ k → Replays p L W m state₀ state b₀ b
  replaying_done state b k c l = record {
    to = λ x y ws h.
        subst (λ (v : List Write). Parts p L W m b x (apply_writes (record { hard_state = state₀; log = y }) v).log ws) (take_all k ws (omega (arith, (held_rows h.writes).count))) (c.to x y ws h);
    hard = λ x y ws h.
        c.hard x y ws h ∙ ap (λ (v : List Write). (apply_writes (record { hard_state = state₀; log = y }) v).hard_state) (take_all k ws (omega (arith, (held_rows h.writes).count)));
  }

pub ruleset replays = (replaying_start, replaying_turn, replaying_done)
