-- Log entries, and a server that may be absent as numbers (types.rs). Assumes nothing.
use Rattle.std.specs.Prelude.{Bool, true, false, List, ℕ, eqb, length, Option, None, Some}
use Rattle.laws.specs.Bools.{pick}
use Rattle.laws.specs.Lists.{same_list}
use Rattle.units.specs.declared.Term.{Term}
use Rattle.units.specs.declared.NodeId.{NodeId}
use Rattle.units.specs.declared.PayloadShape.{PayloadShape}
use Rattle.units.specs.declared.PayloadShape.TheVariants as shape
use Rattle.units.specs.declared.PayloadRef.{PayloadRef}
use Rattle.units.specs.declared.PayloadRef.TheVariants as reference

-- Whether a server is there, as a number.
abbrev pub node_flag : Option NodeId → ℕ
node_flag None = 0
node_flag (Some id) = 1

-- The server's id, 0 where none is there.
abbrev pub node_number : Option NodeId → ℕ
node_number None = 0
node_number (Some id) = id.0

-- The server that may be absent, from the two numbers.
unfoldable pub node_in : ℕ → ℕ → Option NodeId
node_in flag id = pick (eqb flag 0) None (Some (record { 0 = id }))

-- The contents of a log entry: nothing, or a client command's bytes.
pub data Payload : Type 0 where
  noop : Payload
  command : List ℕ → Payload

-- The payload of a kind and bytes: 0 is a noop, 1 a command.
unfoldable pub payload_of : ℕ → List ℕ → Payload
payload_of kind bytes = pick (eqb kind 0) noop (command bytes)

-- The shape of a payload.
abbrev pub shape_of : Payload → PayloadShape
shape_of noop = shape.Noop
shape_of (command bytes) = shape.Command (length bytes)

-- The bytes of a command of this shape.
abbrev pub command_length : PayloadShape → ℕ
command_length shape.Noop = 0
command_length (shape.Command n) = n

-- The payload behind a reference.
abbrev pub payload_behind : PayloadRef → Payload
payload_behind reference.Noop = noop
payload_behind (reference.Command bytes) = command bytes.now

-- One entry of the log.
pub record Entry : Type 0 where
  -- the term in which the entry was made
  pub term : Term
  pub payload : Payload

-- Whether two payloads are equal.
unfoldable pub same_payload : Payload → Payload → Bool
same_payload noop noop = true
same_payload noop (command b) = false
same_payload (command a) noop = false
same_payload (command a) (command b) = same_list a b
