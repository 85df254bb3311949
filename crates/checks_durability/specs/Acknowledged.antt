-- Acknowledged commands against the payloads applied at their indexes (acknowledged.rt). Assumes nothing.
use Rattle.std.specs.Prelude.{◌≡◌, Bool, not, List, [], ◌∷◌, ◌++◌, ℕ, ◌+◌, ◌-◌, ◌≤◌, length, drop, Some}
use Rattle.laws.specs.Bools.{pick}
use Rattle.laws.specs.Lists.{at}
use Rattle.units.specs.Types.{Payload, command, same_payload}
use Rattle.units.specs.declared.LogIndex.{LogIndex}
use Rattle.client.specs.Key.{encode}
use Rattle.layout.specs.Tables.{Holds, Held}
use Rattle.layout.specs.Payload.{payload}
use Rattle.layout.specs.Applied.{applied}
use Rattle.checks.specs.Checks.{Acknowledged, is_payload, highest_of}
use Rattle.checks_durability.specs.declared.replies.Reply.{Reply}
use Rattle.checks_durability.specs.Replies.{Replied}

-- The command of a reply, rebuilt from its client and sequence number.
abbrev pub rebuilt : ℕ → Reply → Payload
rebuilt size r = command (encode r.client r.seq size)

-- The acknowledged commands, each rebuilt from its reply.
unfoldable pub acknowledged_from : ℕ → List Reply → List Acknowledged
acknowledged_from size [] = []
acknowledged_from size (r ∷ rs) = record { index = r.index; payload = rebuilt size r } ∷ acknowledged_from size rs

-- The place of an index among the applied payloads: index 0 has that of index 1.
unfoldable pub place_of : LogIndex → ℕ
place_of index = index.0 - 1

-- Whether the payload applied at a reply's index is its command.
unfoldable pub is_applied : ℕ → Reply → List Payload → Bool
is_applied size r payloads = is_payload (at payloads (place_of r.index)) (rebuilt size r)

-- How many acknowledged commands are not the payloads applied at their indexes.
unfoldable pub missing : List Payload → List Acknowledged → ℕ
missing payloads [] = 0
missing payloads (a ∷ more) = pick (not (is_payload (at payloads (place_of a.index)) a.payload)) 1 0 + missing payloads more

-- ---- what the code answers

-- A reply's command stands at the front of b', which was b, and n is its length.
pub record Encodes (size : ℕ) (reply : Reply) (n : ℕ) (b b' : List ℕ) : Type 0 where
  pub count : n ≡ length (encode reply.client reply.seq size)
  pub is : b' ≡ encode reply.client reply.seq size ++ drop n b
  pub within : n ≤ length b

-- Whatever payload the row b holds, r is whether it is a reply's command.
pub record IsCommand (p size : ℕ) (reply : Reply) (r : Bool) (b : List ℕ) : Type 0 where
  pub to : (x : Payload) → Holds (payload p) b x → r ≡ same_payload x (rebuilt size reply)

-- Whatever n replies s holds and m payloads a, r is whether the command of reply k is not the payload applied at its index.
pub record Misses (p size n m k : ℕ) (r : Bool) (s a : List ℕ) : Type 0 where
  pub to : (N : ℕ) (x : List Reply) (y : List Payload) → Replied n s x → Held (applied p) N m a y → (reply : Reply) → at x k ≡ Some reply
      → r ≡ not (is_applied size reply y)

-- Whatever n replies s holds and m payloads a, r is how many of their commands are missing.
pub record CountsMissing (p size n m r : ℕ) (s a : List ℕ) : Type 0 where
  pub to : (N : ℕ) (x : List Reply) (y : List Payload) → Replied n s x → Held (applied p) N m a y → r ≡ missing y (acknowledged_from size x)
  pub most : r ≤ n

-- Whatever n replies s holds, r is their highest index, whatever the size of a command.
pub record Highest (n r : ℕ) (s : List ℕ) : Type 0 where
  pub to : (size : ℕ) (x : List Reply) → Replied n s x → r ≡ highest_of (acknowledged_from size x)
