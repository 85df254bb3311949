-- What the proofs of write.rt cite. Assumes nothing.
use Rattle.std.proofs.Math.Path.{◌≡◌, ap, ap₂, subst}
use Rattle.std.specs.Prelude.{refl, Bool, true, false, not, ◌&&◌, List, [], ◌∷◌, ◌++◌, ℕ, ◌+◌, ◌*◌, ◌^◌, ◌≤◌, ◌<◌, length, Option, None, Some, SomeIff, Ok, Err}
use Rattle.std.proofs.Common.{sym, ◌∙◌, arith, length-append, Fits, lt-ltb, le-ltb, le-leb}
use Rattle.std.specs.Int.{w64, from_bool}
use Rattle.std.specs.declared.result.Result.{Result}
use Rattle.std.proofs.lemmas.Bool.{lt-leb}
use Rattle.laws.specs.Bools.{pick, no_and}
use Rattle.laws.specs.Lists.{is_some}
use Rattle.laws.proofs.BoolLaws.{and_both, and_no}
use Rattle.units.specs.Types.{Payload, Entry}
use Rattle.units.specs.declared.Term.{Term}
use Rattle.units.specs.declared.LogIndex.{LogIndex}
use Rattle.layout.specs.Tables.{Held, Becomes, Gives, rows_in, append}
use Rattle.layout.specs.TableLaws.{held_rows, rows_are}
use Rattle.layout.specs.Marked.{words_for}
use Rattle.raft_log.specs.Log.{Log, entry_at, removed_by}
use Rattle.raft_log.specs.Places.{place, places, place_of, place_at, is_payload, holds_at, put_entry, Truncates}
use Rattle.raft_log.specs.declared.EntryShape.{EntryShape}
use Rattle.storage.specs.declared.HardState.{HardState}
use Rattle.storage.specs.declared.StorageState.{StorageState}
use Rattle.storage.specs.declared.write.WriteError.{WriteError}
use Rattle.storage.specs.declared.write.WriteError.TheVariants.{Full, Past64Bits}
use Rattle.storage.specs.Storage.{Write, write_hard_state, write_put, write_truncate, apply_write, differs, discards, Storage, write}
use Rattle.storage.specs.Waiting.{waiting}
use Rattle.storage.specs.Stores.{Parts, Stores}
use Rattle.storage.specs.PartLaws.{lent, back, rooms, current_lent, current_back, waiting_move}
use Rattle.storage.specs.Writes.{storage_room, Writes, Makes, discards_from, Replaces}

-- ---- how many entries a write discards

-- one where an entry is there and its payload is another
replaced_place : (o : Option Entry) (e : Entry) (d : ℕ) → d ≡ from_bool (is_some (place_of o) && not (is_payload o e.payload)) → d ≡ pick (differs o e) 1 0
replaced_place None e d f = f
replaced_place (Some c) e d f = f ∙ by (not (is_payload (Some c) e.payload))
  where
    by : (b : Bool) → ◌≡◌ {A = ℕ} (from_bool b) (pick b 1 0)
    by true = refl
    by false = refl

pub replaced_is : (p n d : ℕ) (index : LogIndex) (t : Term) (s : List ℕ) (y : Payload) (q : Option EntryShape) (there same : Bool) → Gives (places p) n s q (place_at index.0) → Gives (places p) n s same (holds_at index.0 y)
    → there ≡ is_some q → d ≡ from_bool (there && not same)
    → Replaces p n (write_put index (record { term = t; payload = y })) d s
unfolding place_at holds_at discards_from
replaced_is p n d index t s y q there same g h u c =
    let e : Entry = record { term = t; payload = y } in
    record {
      is = record { to = λ N z k. replaced_place (entry_at z index.0) e d (c ∙ ap₂ (λ (a b : Bool). from_bool (a && not b)) (u ∙ ap is_some (g.to N z k)) (h.to N z k)) };
      most = by (there && not same) c;
    }
  where
    by : (b : Bool) → d ≡ from_bool b → d ≤ 1
    by true c = omega arith
    by false c = omega arith

-- ---- whether there is room

module _ (p L W : ℕ) (v : StorageState) (w : Write) (b : List ℕ) (x : Storage) (s : Stores p L W v b x) where
  one_more : length (x.waiting ++ (w ∷ [])) ≡ v.waiting + 1
  one_more = omega (arith, length-append x.waiting (w ∷ []), (held_rows s.parts.writes).count)

  room_full : W ≤ v.waiting → storage_room W (write x w) ≡ false
  unfolding storage_room write
  room_full h = no_and _ _ (lt-leb (length (x.waiting ++ (w ∷ []))) W (omega (arith, one_more)))

  room_past : 2 ^ 64 ≤ v.discarded + discards x.current.log w → storage_room W (write x w) ≡ false
  unfolding storage_room write
  room_past h = and_no _ _ (le-ltb (x.discarded + discards x.current.log w) (2 ^ 64) (omega (arith, s.discarded)))

  room_there : v.waiting < W → v.discarded + discards x.current.log w < 2 ^ 64 → storage_room W (write x w) ≡ true
  unfolding storage_room write
  room_there h k = and_both _ _ (le-leb (length (x.waiting ++ (w ∷ []))) W (omega (arith, one_more))) (lt-ltb (x.discarded + discards x.current.log w) (2 ^ 64) (omega (arith, s.discarded)))

-- ---- the answers

module _ (p L W : ℕ) (v : StorageState) (w : Write) (b : List ℕ) where
  pub is_full : W ≤ v.waiting → Writes p L W v w (Err Full) b b
  is_full h = record {
    number = λ x s. ap (λ (t : Bool). pick t 0 10) (sym (room_full p L W v w b x s h));
    done = λ v' e. let o : ◌≡◌ {A = ℕ} 0 1 = cc in absurd (omega arith);
    kept = λ e. refl;
  }

  module _ (d : ℕ) (f : (x : Storage) → Stores p L W v b x → d ≡ discards x.current.log w) where
    is_past : 2 ^ 64 ≤ v.discarded + d → Writes p L W v w (Err Past64Bits) b b
    is_past h = record {
      number = λ x s. ap (λ (t : Bool). pick t 0 10) (sym (room_past p L W v w b x s (omega (arith, f x s))));
      done = λ v' e. let o : ◌≡◌ {A = ℕ} 0 1 = cc in absurd (omega arith);
      kept = λ e. refl;
    }

    is_done : (h : HardState) (b' : List ℕ) → v.waiting < W → v.discarded + d < 2 ^ 64 → ((x : Storage) → h ≡ (apply_write (record { hard_state = v.current; log = x.current.log }) w).hard_state)
        → ((x : Storage) → Stores p L W v b x → Parts p L W (v.waiting + 1) b' (apply_write x.current w).log x.durable.log (append w x.waiting))
        → Writes p L W v w (Ok (record { current = h; durable = v.durable; waiting = v.waiting + 1; discarded = v.discarded + d })) b b'
    unfolding write append
    is_done h b' room fits hard made = record {
      number = λ x s. ap (λ (t : Bool). pick t 0 10) (sym (room_there p L W v w b x s room (omega (arith, f x s))));
      done = λ v' e x s.
          subst (λ (u : StorageState). Stores p L W u b' (write x w)) (same v' e)
          (record {
            parts = made x s;
            current = hard x ∙ ap (λ (g : HardState). (apply_write (record { hard_state = g; log = x.current.log }) w).hard_state) s.current;
            durable = s.durable;
            discarded = ap₂ (λ (i j : ℕ). i + j) s.discarded (f x s);
          });
      kept = λ e. let o : ◌≡◌ {A = ℕ} 0 1 = cc in absurd (omega arith);
    }
      where
        same : (v' : StorageState) → ◌≡◌ {A = Result StorageState WriteError} (Ok (record { current = h; durable = v.durable; waiting = v.waiting + 1; discarded = v.discarded + d })) (Ok v')
            → record { current = h; durable = v.durable; waiting = v.waiting + 1; discarded = v.discarded + d } ≡ v'
        same v' e = cc

-- ---- the hard state

pub state_done : (p L W logs : ℕ) (v : StorageState) (h : HardState) (b ys : List ℕ) → Fits w64 v.discarded → v.waiting < W → logs ≡ L * (2 + words_for p)
    → Becomes (waiting p) v.waiting (v.waiting + 1) (lent (16 * logs) (length b) b) ys (append (write_hard_state h))
    → Writes p L W v (write_hard_state h) (Ok (record { current = h; durable = v.durable; waiting = v.waiting + 1; discarded = v.discarded })) b (back (16 * logs) (length b) b ys)
state_done p L W logs v h b ys k l o push =
    let z : v.discarded + 0 ≡ v.discarded = omega arith in
    subst (λ (n : ℕ). Writes p L W v (write_hard_state h) (Ok (record { current = h; durable = v.durable; waiting = v.waiting + 1; discarded = n })) b (back (16 * logs) (length b) b ys)) z
    (is_done p L W v (write_hard_state h) b 0 (λ x s. refl) h (back (16 * logs) (length b) b ys) l (omega (arith, k.fits)) (λ x. refl)
    (λ x s. waiting_move s.parts logs o (length b) refl (v.waiting + 1) ys (append (write_hard_state h)) push))

pub ruleset states = (is_full, state_done, rooms)

-- ---- a write that changes the log: first the current log, then the waiting writes

module _ (p L W m logs : ℕ) (w : Write) (b ys zs : List ℕ) (o : logs ≡ L * (2 + words_for p))
    (push : Becomes (waiting p) m (m + 1) (lent (16 * logs) (length (back 0 (8 * logs) b ys)) (back 0 (8 * logs) b ys)) zs (append w)) where
  makes : ((N : ℕ) (h : HardState) (x : Log) → Held (places p) N L (lent 0 (8 * logs) b) x → Held (places p) N L ys (apply_write (record { hard_state = h; log = x }) w).log)
      → Makes p L W m w b (back (16 * logs) (length (back 0 (8 * logs) b ys)) (back 0 (8 * logs) b ys) zs)
  makes f = record {
    to = λ h x y ws g.
        let k : Parts p L W m (back 0 (8 * logs) b ys) (apply_write (record { hard_state = h; log = x }) w).log y ws =
        current_back g logs o ys (apply_write (record { hard_state = h; log = x }) w).log (f (L * (2 + words_for p)) h x (current_lent g logs o)) in
        waiting_move k logs o (length (back 0 (8 * logs) b ys)) refl (m + 1) zs (append w) push;
  }

module _ (p L W logs d : ℕ) (v : StorageState) (w : Write) (b : List ℕ) (o : logs ≡ L * (2 + words_for p)) (g : Gives (places p) L (lent 0 (8 * logs) b) d (discards_from w)) where
  gone : (x : Storage) → Stores p L W v b x → d ≡ discards x.current.log w
  unfolding discards_from
  gone x s = g.to (L * (2 + words_for p)) x.current.log (current_lent s.parts logs o)

  module _ (r : Option ℕ) (q : SomeIff r (v.discarded + d < 2 ^ 64) (v.discarded + d)) where
    log_over : r ≡ None → Writes p L W v w (Err Past64Bits) b b
    log_over e =
        let z : v.discarded + d < 2 ^ 64 → ⊥ = subst (λ (o : Option ℕ). SomeIff o (v.discarded + d < 2 ^ 64) (v.discarded + d)) e q in
        is_past p L W v w b d gone (omega arith)

    log_done : (n : ℕ) (b' : List ℕ) → r ≡ Some n → v.waiting < W → ((x : Log) → v.current ≡ (apply_write (record { hard_state = v.current; log = x }) w).hard_state) → Makes p L W v.waiting w b b'
        → Writes p L W v w (Ok (record { current = v.current; durable = v.durable; waiting = v.waiting + 1; discarded = n })) b b'
    log_done n b' e room hard made =
        let z : (v.discarded + d < 2 ^ 64) × (n ≡ v.discarded + d) = subst (λ (o : Option ℕ). SomeIff o (v.discarded + d < 2 ^ 64) (v.discarded + d)) e q in
        subst (λ (k : ℕ). Writes p L W v w (Ok (record { current = v.current; durable = v.durable; waiting = v.waiting + 1; discarded = k })) b b') (sym z.1)
        (is_done p L W v w b d gone v.current b' room z.0 (λ x. hard x.current.log)
        (λ x s. made.to x.current.hard_state x.current.log x.durable.log x.waiting s.parts))

-- ---- a put

pub put_makes : (p L W m logs : ℕ) (index : LogIndex) (t : Term) (y : Payload) (b ys zs : List ℕ) → logs ≡ L * (2 + words_for p)
    → Becomes (places p) L L (lent 0 (8 * logs) b) ys (put_entry index.0 (record { term = t; payload = y }))
    → Becomes (waiting p) m (m + 1) (lent (16 * logs) (length (back 0 (8 * logs) b ys)) (back 0 (8 * logs) b ys)) zs (append (write_put index (record { term = t; payload = y })))
    → Makes p L W m (write_put index (record { term = t; payload = y })) b (back (16 * logs) (length (back 0 (8 * logs) b ys)) (back 0 (8 * logs) b ys) zs)
unfolding put_entry
put_makes p L W m logs index t y b ys zs o put push =
    makes p L W m logs (write_put index (record { term = t; payload = y })) b ys zs o push (λ N h x k. put.to N x k)

pub ruleset makings = (put_makes, rooms)

module _ (p L W logs d : ℕ) (v : StorageState) (index : LogIndex) (t : Term) (y : Payload) (b : List ℕ) (o : logs ≡ L * (2 + words_for p))
    (g : Replaces p L (write_put index (record { term = t; payload = y })) d (lent 0 (8 * logs) b)) where
  abbrev written : Write
  written = write_put index (record { term = t; payload = y })

  module _ (r : Option ℕ) (q : SomeIff r (v.discarded + d < 2 ^ 64) (v.discarded + d)) where
    pub put_over : r ≡ None → Writes p L W v written (Err Past64Bits) b b
    put_over = log_over p L W logs d v written b o g.is r q

    pub put_done : (n : ℕ) (b' : List ℕ) → r ≡ Some n → v.waiting < W → Makes p L W v.waiting written b b'
        → Writes p L W v written (Ok (record { current = v.current; durable = v.durable; waiting = v.waiting + 1; discarded = n })) b b'
    put_done n b' e room made = log_done p L W logs d v written b o g.is r q n b' e room (λ x. refl) made

pub ruleset puts = (is_full, put_over, put_done)

-- ---- a truncation

module _ (p L W logs d : ℕ) (v : StorageState) (from : LogIndex) (b : List ℕ) (o : logs ≡ L * (2 + words_for p)) (c : d ≡ removed_by (rows_in (place p) L (lent 0 (8 * logs) b)) from.0) where
  removes : Gives (places p) L (lent 0 (8 * logs) b) d (discards_from (write_truncate from))
  unfolding discards_from
  removes = record { to = λ N y h. c ∙ ap (λ (l : Log). removed_by l from.0) (rows_are h) }

  module _ (r : Option ℕ) (q : SomeIff r (v.discarded + d < 2 ^ 64) (v.discarded + d)) where
    pub truncate_over : r ≡ None → Writes p L W v (write_truncate from) (Err Past64Bits) b b
    truncate_over = log_over p L W logs d v (write_truncate from) b o removes r q

    pub truncate_done : (n removed : ℕ) (ys zs : List ℕ) → r ≡ Some n → v.waiting < W → Truncates p L from.0 removed (lent 0 (8 * logs) b) ys
        → Becomes (waiting p) v.waiting (v.waiting + 1) (lent (16 * logs) (length (back 0 (8 * logs) b ys)) (back 0 (8 * logs) b ys)) zs (append (write_truncate from))
        → Writes p L W v (write_truncate from) (Ok (record { current = v.current; durable = v.durable; waiting = v.waiting + 1; discarded = n })) b (back (16 * logs) (length (back 0 (8 * logs) b ys)) (back 0 (8 * logs) b ys) zs)
    truncate_done n removed ys zs e room t push =
        log_done p L W logs d v (write_truncate from) b o removes r q n (back (16 * logs) (length (back 0 (8 * logs) b ys)) (back 0 (8 * logs) b ys) zs) e room (λ x. refl)
        (makes p L W v.waiting logs (write_truncate from) b ys zs o push (λ N h x j. t.kept.to N x j))

pub ruleset truncates = (is_full, rooms, truncate_over, truncate_done)
