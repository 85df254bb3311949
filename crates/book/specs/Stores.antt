-- A server's storage against the book: what is durable agrees with it, and what is written besides waits. Assumes nothing.
use Rattle.std.specs.Prelude.{◌≡◌, refl, ℕ}
use Rattle.std.proofs.Math.Path.{sym, ap}
use Rattle.std.proofs.Common.{◌∙◌}
use mathlib.Core.List.{List, [], ◌∷◌, ◌++◌}
use Rattle.laws.specs.ListLaws.{Each, each_snoc}
use Rattle.storage.specs.Storage.{Disk, Write, apply_write, apply_writes, Storage, empty_storage, write, sync, crash}
use Rattle.book.specs.Book.{Found, empty, do_writes}
use Rattle.book.specs.Disks.{Agrees, InLog, agrees_writes, agrees_empty}

-- Storage whose durable disk holds what the book says, with so many waiting writes, which the current disk has besides.
pub record Stored (last : ℕ) (f : Found) (ws : List Write) (s : Storage) : Type 0 where
  pub durable : Agrees last s.durable f
  pub waiting : s.waiting ≡ ws
  pub current : s.current ≡ apply_writes s.durable ws
  pub in_log : Each (λ _. InLog last) ws

apply_writes_snoc : (d : Disk) (ws : List Write) (w : Write) → apply_writes d (ws ++ (w ∷ [])) ≡ apply_write (apply_writes d ws) w
unfolding apply_writes
apply_writes_snoc d [] w = refl
apply_writes_snoc d (x ∷ ws) w = apply_writes_snoc (apply_write d x) ws w

module _ {last : ℕ} {f : Found} {ws : List Write} {s : Storage} (h : Stored last f ws s) where
  pub stored_write : (w : Write) → InLog last w → Stored last f (ws ++ (w ∷ [])) (write s w)
  unfolding write
  stored_write w i =
      record {
        durable = h.durable;
        waiting = ap (λ (xs : List Write). xs ++ (w ∷ [])) h.waiting;
        current = ap (λ (d : Disk). apply_write d w) h.current ∙ sym (apply_writes_snoc s.durable ws w);
        in_log = each_snoc (λ _. InLog last) ws w h.in_log i;
      }

  pub stored_sync : Stored last (do_writes f ws) [] (sync s)
  unfolding sync apply_writes
  stored_sync =
      let done : apply_writes s.durable s.waiting ≡ apply_writes s.durable ws = ap (apply_writes s.durable) h.waiting in
      record { durable = rw done (agrees_writes ws h.durable h.in_log); waiting = refl; current = h.current ∙ sym done; in_log = tt }

  pub stored_crash : Stored last f [] (crash s)
  unfolding crash apply_writes
  stored_crash = record { durable = h.durable; waiting = refl; current = refl; in_log = tt }

pub stored_empty : (last : ℕ) → Stored last empty [] (empty_storage last)
unfolding apply_writes
stored_empty last = record { durable = agrees_empty last; waiting = refl; current = refl; in_log = tt }

-- What is read is what is durable, with the writes that wait.
pub stored_current : {last : ℕ} {f : Found} {ws : List Write} {s : Storage} → Stored last f ws s → Agrees last s.current (do_writes f ws)
stored_current {ws = ws} h = rw h.current (agrees_writes ws h.durable h.in_log)
