-- A disk and what the book says of it agree, and go on to agree as writes are done. Assumes nothing.
use Rattle.std.specs.Prelude.{◌≡◌, refl, Bool, true, false, List, [], ◌∷◌, ◌++◌, ℕ, zero, suc, ◌+◌, ◌-◌, ◌≤◌, ◌<◌, leb, eqb, length, get_or, set, take, Option, None, Some}
use Rattle.std.proofs.Common.{sym, ap, ◌∙◌, arith, length-append, length-set, length-take, get_or-set_same, get_or-set_other, take-suc, eqb-true, leb-true, leb-false}
use Rattle.std.proofs.Math.Path.{fun_ext}
use Rattle.std.proofs.Math.Dec.{eqb-zero-suc, eqb-suc-suc}
use Rattle.std.proofs.lemmas.List.{length-replicate}
use Rattle.std.proofs.Math.Seq.{take-length}
use Rattle.std.proofs.lemmas.Bool.{eqb-false}
use Rattle.laws.specs.Bools.{pick}
use Rattle.laws.specs.Lists.{is_some}
use Rattle.laws.specs.ListLaws.{Each}
use Rattle.units.specs.Types.{Entry}
use Rattle.raft_log.specs.Log.{Log, empty_log, entry_at, put_at, truncate_at, count}
use Rattle.storage.specs.Storage.{Disk, empty_disk, Write, write_hard_state, write_put, write_truncate, apply_write, apply_writes}
use Rattle.book.specs.Book.{Found, empty, do_write, do_writes, count_up_to}

-- A disk with a log of so many indexes holds what the book says.
pub record Agrees (last : ℕ) (d : Disk) (f : Found) : Type 0 where
  pub hard_state : d.hard_state ≡ f.hard_state
  pub size : length d.log ≡ last
  pub log : (index : ℕ) → entry_at d.log index ≡ f.log index

-- A write whose index the log has, if it is a put.
abbrev pub InLog : ℕ → Write → Type 0
InLog last (write_hard_state h) = Unit {0}
InLog last (write_put index e) = (1 ≤ index.0) × (index.0 ≤ last)
InLog last (write_truncate from) = Unit {0}

-- ---- an entry after a write

entry_put_lem : (log : Log) (index : ℕ) (e : Entry) (i : ℕ) → 1 ≤ index → index ≤ length log
    → entry_at (put_at log index e) i ≡ pick (eqb i index) (Some e) (entry_at log i)
unfolding entry_at put_at
entry_put_lem log zero e i h k = absurd (omega arith)
entry_put_lem log (suc index) e zero h k = sym (rw eqb-zero-suc)
entry_put_lem log (suc index) e (suc i) h k = rw eqb-suc-suc (by (eqb i index) refl)
  where
    by : (t : Bool) → eqb i index ≡ t → get_or (set log index (Some e)) i None ≡ pick t (Some e) (get_or log i None)
    by true t = rw (eqb-true i index t) (get_or-set_same log index (Some e) None (omega arith))
    by false t = get_or-set_other log index i (Some e) None (eqb-false i index t)

get_d_empty : (n i : ℕ) → get_or (empty_log n) i None ≡ None
get_d_empty zero i = refl
get_d_empty (suc n) zero = refl
get_d_empty (suc n) (suc i) = get_d_empty n i

kept : (n m : ℕ) (log : Log) (i : ℕ) → i < n → get_or (take n log ++ empty_log m) i None ≡ get_or log i None
kept zero m log i h = absurd (omega arith)
kept (suc n) m [] i h = get_d_empty m i
kept (suc n) m (x ∷ log) zero h = refl
kept (suc n) m (x ∷ log) (suc i) h = kept n m log i (omega arith)

removed : (n m : ℕ) (log : Log) (i : ℕ) → n ≤ i → get_or (take n log ++ empty_log m) i None ≡ None
removed zero m log i h = get_d_empty m i
removed (suc n) m [] i h = get_d_empty m i
removed (suc n) m (x ∷ log) zero h = absurd (omega arith)
removed (suc n) m (x ∷ log) (suc i) h = removed n m log i (omega arith)

entry_truncate : (log : Log) (from i : ℕ) → entry_at (truncate_at log from) i ≡ pick (leb from i) None (entry_at log i)
unfolding entry_at truncate_at
entry_truncate log from zero = by (leb from zero)
  where
    by : (t : Bool) → ◌≡◌ {A = Option Entry} None (pick t None None)
    by true = refl
    by false = refl
entry_truncate log from (suc i) = by (leb from (suc i)) refl
  where
    by : (t : Bool) → leb from (suc i) ≡ t → get_or (take (from - 1) log ++ empty_log (length log - (from - 1))) i None ≡ pick t None (get_or log i None)
    by true t = removed (from - 1) (length log - (from - 1)) log i (omega (arith, leb-true from (suc i) t))
    by false t = kept (from - 1) (length log - (from - 1)) log i (omega (arith, leb-false from (suc i) t))

length_put : (log : Log) (index : ℕ) (e : Entry) → length (put_at log index e) ≡ length log
unfolding put_at
length_put log zero e = refl
length_put log (suc index) e = length-set log index (Some e)

length_truncate : (log : Log) (from : ℕ) → length (truncate_at log from) ≡ length log
unfolding truncate_at
length_truncate log from =
    length-append (take (from - 1) log) (empty_log (length log - (from - 1)))
    ∙ omega (arith, length-take (from - 1) log, length-replicate {A = Option Entry} (length log - (from - 1)) None)

-- ---- a disk after writes

agrees_write : {last : ℕ} {d : Disk} {f : Found} (w : Write) → Agrees last d f → InLog last w → Agrees last (apply_write d w) (do_write f w)
agrees_write (write_hard_state h) a i = record { hard_state = refl; size = a.size; log = a.log }
agrees_write {last} {d} {f} (write_put index e) a i =
    record {
      hard_state = a.hard_state;
      size = length_put d.log index.0 e ∙ a.size;
      log = λ k. entry_put_lem d.log index.0 e k i.0 (rw a.size i.1) ∙ ap (pick (eqb k index.0) (Some e)) (a.log k);
    }
agrees_write {last} {d} {f} (write_truncate from) a i =
    record {
      hard_state = a.hard_state;
      size = length_truncate d.log from.0 ∙ a.size;
      log = λ k. entry_truncate d.log from.0 k ∙ ap (pick (leb from.0 k) None) (a.log k);
    }

pub agrees_writes : {last : ℕ} {d : Disk} {f : Found} (ws : List Write) → Agrees last d f → Each (λ _. InLog last) ws
    → Agrees last (apply_writes d ws) (do_writes f ws)
unfolding apply_writes do_writes
agrees_writes [] a i = a
agrees_writes {last = last} {d = d} {f = f} (w ∷ ws) a i = agrees_writes {d = apply_write d w} ws (agrees_write w a i.0) i.1

pub agrees_empty : (last : ℕ) → Agrees last (empty_disk last) empty
unfolding entry_at
agrees_empty last = record { hard_state = refl; size = length-replicate last None; log = entry_empty }
  where
    entry_empty : (i : ℕ) → entry_at (empty_log last) i ≡ None
    entry_empty zero = refl
    entry_empty (suc i) = get_d_empty last i

-- ---- the count

count_snoc : (log : Log) (x : Option Entry) → count (log ++ (x ∷ [])) ≡ pick (is_some x) 1 0 + count log
unfolding count
count_snoc [] x = refl
count_snoc (y ∷ log) x = rw (count_snoc log x) (omega arith)

count_take : (log : Log) (n : ℕ) → n ≤ length log → count (take n log) ≡ count_up_to n (entry_at log)
unfolding count count_up_to entry_at
count_take log zero h = refl
count_take log (suc n) h =
    ap count (take-suc log n None h) ∙ count_snoc (take n log) (get_or log n None) ∙ ap (λ (m : ℕ). pick (is_some (get_or log n None)) 1 0 + m) (count_take log n (omega arith))

pub agrees_count : {last : ℕ} {d : Disk} {f : Found} → Agrees last d f → count d.log ≡ count_up_to last f.log
agrees_count {last} {d} {f} a =
    ap count (sym (take-length d.log)) ∙ count_take d.log (length d.log) (omega arith) ∙ rw a.size (ap (count_up_to last) (fun_ext a.log))
