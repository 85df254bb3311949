-- The records of a server's write-ahead log in postcard's wire format, as bytes, and the size of each (storage.rs). Assumes nothing.
use Rattle.std.specs.Prelude.{List, [], ◌∷◌, ◌++◌, ℕ, zero, suc, ◌+◌, ◌/◌, ◌%◌, ltb, length, replicate, Option, None, Some}
use Rattle.laws.specs.Bools.{pick}
use Rattle.units.specs.Types.{Payload, noop, command, Entry}
pub use Rattle.units.specs.Types.{shape_of, command_length}
use Rattle.units.specs.declared.Term.{Term}
use Rattle.units.specs.declared.LogIndex.{LogIndex}
use Rattle.units.specs.declared.PayloadShape.{PayloadShape}
use Rattle.units.specs.declared.PayloadShape.TheVariants.{Noop, Command}
use Rattle.units.specs.declared.NodeId.{NodeId}

-- A number in at most so many bytes: 7 bits a byte, lowest first, the top bit set on every byte but the last.
unfoldable pub varint_in : ℕ → ℕ → List ℕ
varint_in zero n = []
varint_in (suc bytes) n = pick (ltb n 128) (n ∷ []) ((128 + n % 128) ∷ varint_in bytes (n / 128))

-- A 64-bit number: ten bytes hold 70 bits.
unfoldable pub varint : ℕ → List ℕ
varint n = varint_in 10 n

-- An id that may be absent: 0, or 1 and then the id.
unfoldable pub option : Option NodeId → List ℕ
option None = varint 0
option (Some id) = varint 1 ++ varint id.0

-- A payload: the variant's number, and then a command's length and bytes.
unfoldable pub payload : Payload → List ℕ
payload noop = varint 0
payload (command bytes) = varint 1 ++ (varint (length bytes) ++ bytes)

-- The payload of a shape, its bytes zeros.
abbrev pub zeros : PayloadShape → Payload
zeros Noop = noop
zeros (Command n) = command (replicate n 0)

-- The three records: the variant's number, and then its fields.
unfoldable pub hard_state_record : Term → Option NodeId → List ℕ
hard_state_record term vote = varint 0 ++ (varint term.0 ++ option vote)

-- A put: 1, the index, the term and the payload.
unfoldable pub put_record : LogIndex → Entry → List ℕ
put_record index entry = varint 1 ++ (varint index.0 ++ (varint entry.term.0 ++ payload entry.payload))

-- A truncation: 2 and its first index.
unfoldable pub truncate_record : LogIndex → List ℕ
truncate_record from = varint 2 ++ varint from.0

-- The size in the write-ahead log of a record of so many bytes: a 4-byte length stands before it.
unfoldable pub framed : ℕ → ℕ
framed bytes = 4 + bytes

-- The size of a record in the write-ahead log (record_bytes).
unfoldable pub record_bytes : List ℕ → ℕ
record_bytes bytes = framed (length bytes)

-- The size of a put whose payload has this shape, whatever the bytes of its command: `Lengths.put_bytes_is`.
unfoldable pub put_bytes : LogIndex → Term → PayloadShape → ℕ
put_bytes index term shape = record_bytes (put_record index (record { term = term; payload = zeros shape }))
