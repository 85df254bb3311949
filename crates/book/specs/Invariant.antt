-- The invariant of a state and the book, by phase. Assumes nothing.
use Rattle.std.specs.Prelude.{◌≡◌, List, [], ℕ, ◌+◌, ◌-◌, ◌≤◌}
use Rattle.std.proofs.Common.{ap, arith}
use Rattle.units.specs.declared.NodeId.{NodeId}
use Rattle.storage.specs.Storage.{Write}
use Rattle.model.specs.State.{State, Phase, closed, writing, sending, id_of, slot_of}
use Rattle.model.specs.Simulation.{Moved}
use Rattle.book.specs.Book.{Book, not_open, unsealed, sealed_by_sync, tell_opened, whose, HandedOver}
use Rattle.book.specs.Holds.{Held, nowhere, only}

-- What a phase says of the book.
abbrev pub Phased : Book → Phase → Type 0
Phased b closed = (b.input ≡ not_open) × (b.waiting ≡ [])
Phased b (writing slot input owed) = (b.input ≡ unsealed) × (b.server ≡ id_of slot)
Phased b (sending slot input verdict owed) = (b.input ≡ sealed_by_sync) × (b.server ≡ id_of slot) × (b.waiting ≡ [])

-- The book's writes wait at the open input's server, before its seal.
abbrev pub waits_in : Book → Phase → ℕ → List Write
waits_in b closed = nowhere
waits_in b (writing slot input owed) = only slot b.waiting
waits_in b (sending slot input verdict owed) = nowhere

-- It holds in a phase; a state's own is `s.phase`.
pub record Inv (b : Book) (p : Phase) (s : State) : Type 0 where
  pub phased : Phased b p
  pub held : Held b (waits_in b p) s

-- A state that is left, with the input that was opened: what it hands back was handed over.
abbrev pub Moves : Book → Moved → Type 0
Moves b m = HandedOver b.given m.opening × Inv (tell_opened b (whose m.opening)) m.state.phase m.state

-- A server in the cluster stands at its place.
pub id_slot : (id : NodeId) → 1 ≤ id.0 → id ≡ id_of (slot_of id)
id_slot id h =
    let e : id.0 ≡ id.0 - 1 + 1 = omega arith in
    ap {B = NodeId} (λ (n : ℕ). record { 0 = n }) e
