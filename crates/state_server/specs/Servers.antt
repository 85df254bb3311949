-- One server of a state, without its storage: what is read of it, and the state with it another. Assumes nothing.
use Rattle.std.specs.Prelude.{◌≡◌, Bool, true, false, List, [], ◌∷◌, ℕ, ◌+◌, ◌*◌, ◌^◌, ◌≤◌, leb, ltb, length, get_or, set, take, Option, None, Some}
use Rattle.laws.specs.Bools.{allb}
use Rattle.laws.specs.Lists.{is_some}
use Rattle.laws.specs.Order.{pairs, lookup, insert_by, remove_by}
use Rattle.units.specs.declared.Term.{Term}
use Rattle.config.specs.declared.SimConfig.{SimConfig}
use Rattle.config.specs.declared.Limits.{Limits}
use Rattle.queue.specs.Range.{word}
use Rattle.client.specs.Key.{key_of}
use Rattle.client.specs.declared.ClientKey.{ClientKey}
use Rattle.words.specs.Words.{bytes}
use Rattle.layout.specs.Cuts.{total}
use Rattle.layout.specs.Keys.{keys}
use Rattle.leader.specs.Leader.{better}
use Rattle.model.specs.State.{State, Server, server_at, id_of}
use Rattle.model.specs.Fields.{with_pending}
use Rattle.model.specs.Simulation.{on_server}
use Rattle.model.specs.Fits.{if_some, status_fits}
use Rattle.state.specs.declared.Capacity.{Capacity}
use Rattle.state.specs.declared.ServerState.{ServerState}
use Rattle.state.specs.Sizes.{block_words, pending_words}
use Rattle.state.specs.Parts.{server_state_words}
use Rattle.state.specs.Server.{state_of_server}
use Rattle.state.specs.Changes.{Reads}
use Rattle.state.specs.Lens.{block_parts, ServerCut}
use Rattle.leader.specs.declared.Leading.{Leading}
use Rattle.protocol.specs.declared.Status.{Status}

-- ---- the fixed part

-- The word r at which the block of the server at k begins; the block lies in the area.
pub record BlockIn (b : List ℕ) (F : Capacity) (k r : ℕ) : Type 0 where
  pub is : r ≡ 512 + k * block_words F
  pub ends : 8 * (r + block_words F) ≤ length b

-- The server at k without its storage and its pending keys, of which it has the count.
unfoldable pub server_state_at : ℕ → State → ServerState
server_state_at k s = state_of_server (server_at s k)

-- Its status.
unfoldable pub status_at : ℕ → State → Option Status
status_at k s = (server_at s k).status

-- Whether a status is there: its server runs.
unfoldable pub status_runs : Option Status → Bool
status_runs None = false
status_runs (Some x) = true

-- The state of a server with another count of pending keys.
abbrev pub with_count : ServerState → ℕ → ServerState
with_count x n = record {
  status = x.status;
  incarnation = x.incarnation;
  election = x.election;
  heartbeat = x.heartbeat;
  crash_on_next_input = x.crash_on_next_input;
  next_apply = x.next_apply;
  pending = n;
  leading = x.leading;
}

-- A server in the state x: its storage and its pending keys are as they were, whatever count of keys x has.
abbrev pub with_state : ServerState → Server → Server
with_state x v = record {
  status = x.status;
  storage = v.storage;
  incarnation = x.incarnation;
  election = x.election;
  heartbeat = x.heartbeat;
  crash_on_next_input = x.crash_on_next_input;
  next_apply = x.next_apply;
  pending = v.pending;
  leading = x.leading;
}

-- The simulation's state with the server at k in the state x.
unfoldable pub server_state_set : ℕ → ServerState → State → State
server_state_set k x s = on_server s k (with_state x)

-- Whether the state x of a server is in range: its status, its incarnation of 32 bits, its generations, next-apply of 1 to L + 1, the term that it leads.
unfoldable pub state_in_range : SimConfig → Limits → ServerState → Bool
state_in_range config limits x =
    allb (
    if_some (status_fits config limits) x.status
    ∷ ltb x.incarnation (2 ^ 32)
    ∷ word x.election
    ∷ word x.heartbeat
    ∷ leb 1 x.next_apply
    ∷ leb x.next_apply (limits.log_indexes + 1)
    ∷ if_some (λ (term : Term). word term.0) x.leading
    ∷ [])

-- Whatever server's state the bytes b are, b' are x with the count of pending keys that was there.
pub record StoresState (b b' : List ℕ) (x : ServerState) : Type 0 where
  pub to : (y : ServerState) → b ≡ bytes (server_state_words y) → b' ≡ bytes (server_state_words (with_count x y.pending))

-- ---- the pending keys

-- The byte r at which the pending keys of the server at k begin; they lie in the area.
pub record PendingIn (b : List ℕ) (F : Capacity) (k r : ℕ) : Type 0 where
  pub is : r ≡ 8 * (512 + k * block_words F) + total (take 4 (block_parts F))
  pub ends : r + 8 * pending_words F ≤ length b

-- How many keys the server at k has registered.
unfoldable pub pending_at : ℕ → State → ℕ
pending_at k s = length (server_at s k).pending

-- r is that count, and at most H.
pub record PendingCount (b : List ℕ) (F : Capacity) (k r : ℕ) : Type 0 where
  pub count : Reads b F r (pending_at k)
  pub most : r ≤ F.limits.history

-- The count of pending keys in the block of the server at k is n, and nothing else has changed.
pub record Counts (b b' : List ℕ) (F : Capacity) (k n : ℕ) : Type 0 where
  pub to : (r : List ℕ) (s : State) (xs : List (List ℕ)) (x : ServerState) → ServerCut b r F s k xs → get_or xs 1 [] ≡ bytes (server_state_words x)
      → ServerCut b' r F s k (set xs 1 (bytes (server_state_words (with_count x n))))

-- Whether the server at k has registered a key.
unfoldable pub pending_has : ℕ → ClientKey → State → Bool
pending_has k key s = is_some (lookup pairs key_of (key_of key) (server_at s k).pending)

-- Whether its keys with this one are at most H.
unfoldable pub pending_room : ℕ → ClientKey → State → Bool
pending_room k key s = leb (length (insert_by pairs key_of key (server_at s k).pending)) s.limits.history

-- Whether a key is one of a client's: 64 bits each, and the client below C.
unfoldable pub key_in_range : ℕ → ClientKey → Bool
key_in_range C key = (keys C).row.good key

-- The state with a key registered at the server at k.
unfoldable pub registered : ℕ → ClientKey → State → State
registered k key s = on_server s k (λ v. with_pending v (insert_by pairs key_of key v.pending))

-- Without that key.
unfoldable pub forgotten : ℕ → ClientKey → State → State
forgotten k key s = on_server s k (λ v. with_pending v (remove_by pairs key_of (key_of key) v.pending))

-- Without any key.
unfoldable pub pending_cleared : ℕ → State → State
pending_cleared k s = on_server s k (λ v. with_pending v [])

-- ---- the leader

-- The leader so far after the server at k, which runs where it has a status.
unfoldable pub after_server : Option Leading → ℕ → Option Status → Option Leading
after_server best k None = best
after_server best k (Some x) = better best (record { id = id_of k; status = x })
