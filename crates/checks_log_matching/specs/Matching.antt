-- Log matching over two lent logs (lib.rt): what its functions answer. Assumes nothing.
use Rattle.std.specs.Prelude.{◌≡◌, Bool, List, ℕ, eqb, Option, None, Some}
use Rattle.laws.specs.Bools.{pick}
use Rattle.units.specs.declared.Term.{Term}
use Rattle.layout.specs.Tables.{Held}
use Rattle.raft_log.specs.Log.{Log, entry_at}
use Rattle.raft_log.specs.Places.{places}
use Rattle.checks.specs.Checks.{same_entry, shared_term, mismatch_at, difference_at}
use Rattle.units.specs.declared.LogIndex.{LogIndex}
use Rattle.checks.specs.declared.Mismatch.{Mismatch}

-- Whatever logs x and y of n places the bytes a and b hold, r is `f x y`.
pub record Compares (p n : ℕ) (a b : List ℕ) {R : Type 0} (r : R) (f : Log → Log → R) : Type 0 where
  pub to : (N M : ℕ) (x y : Log) → Held (places p) N n a x → Held (places p) M n b y → r ≡ f x y

-- ---- one index of two logs

-- The one term of two, if they are the same.
unfoldable pub same_term : Option Term → Option Term → Option Term
same_term None t = None
same_term (Some s) None = None
same_term (Some s) (Some t) = pick (eqb s.0 t.0) (Some s) None

-- The term that both logs hold at an index.
unfoldable pub shared_term_at : ℕ → Log → Log → Option Term
shared_term_at index x y = shared_term (entry_at x index) (entry_at y index)

-- Whether both logs hold the same entry at an index, or neither holds one.
unfoldable pub same_entry_at : ℕ → Log → Log → Bool
same_entry_at index x y = same_entry (entry_at x index) (entry_at y index)

-- The mismatch at an index, after a difference.
unfoldable pub mismatch_here : Option LogIndex → LogIndex → Log → Log → Option Mismatch
mismatch_here difference index x y = mismatch_at difference (shared_term_at index.0 x y) index None

-- The first difference up to an index, after those before it.
unfoldable pub difference_here : Option LogIndex → LogIndex → Log → Log → Option LogIndex
difference_here difference index x y = difference_at difference (same_entry_at index.0 x y) index
