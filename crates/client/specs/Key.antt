-- The key of a client command (client.rs). Assumes nothing.
use Rattle.std.specs.Prelude.{List, ◌++◌, ℕ, ◌-◌, ◌^◌, ltb, length, replicate, Option, None, Some}
use Rattle.laws.specs.Bools.{pick}
use Rattle.words.specs.Words.{bytes_of, le_at}
use Rattle.client.specs.declared.ClientKey.{ClientKey}

-- The client number of commands proposed directly by an experiment procedure.
abbrev pub direct : ℕ
direct = 2 ^ 32 - 1

-- The two numbers of a key, the client first: the order of keys in a set.
abbrev pub key_of : ClientKey → ℕ × ℕ
key_of k = (k.client, k.seq)

-- The client in 4 bytes, the sequence number in 8, and zeros up to the size (encode).
unfoldable pub encode : ℕ → ℕ → ℕ → List ℕ
encode client seq size = bytes_of 4 client ++ (bytes_of 8 seq ++ replicate (size - 12) 0)

-- The client and sequence number that a command of at least 12 bytes begins with (decode).
unfoldable pub decode : List ℕ → Option ClientKey
decode command = pick (ltb (length command) 12) None (Some (record { client = le_at 4 command 0; seq = le_at 8 command 4 }))
