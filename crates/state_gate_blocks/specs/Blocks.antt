-- The tests of a server's block as the code makes them: the words of its parts. Assumes nothing.
use Rattle.std.specs.Prelude.{Bool, List, ℕ, eqb, get_or}
use Rattle.laws.specs.Bools.{pick}
use Rattle.laws.specs.Lists.{same_list}
use Rattle.layout.specs.Structs.{firsts}
use Rattle.state.specs.declared.Capacity.{Capacity}
use Rattle.state.specs.Parts.{status_words, server_state_in, storage_state_code, server_state_code}
use Rattle.state.specs.Server.{fixed_code, server_code}
use Rattle.state.specs.Area.{servers_code}

-- A flag of 0 with the number 0, or a flag of 1 with any number.
unfoldable pub flagged : ℕ → ℕ → Bool
flagged flag n = pick (eqb flag 0) (eqb n 0) (eqb flag 1)

-- Six words are those of the status that they say.
unfoldable pub status_told : List ℕ → Bool
status_told ws = same_list (status_words (server_state_in ws).status) (firsts 6 (λ i. get_or ws i 0))

-- Words begin with the fixed part of a storage.
unfoldable pub storage_state_ok : List ℕ → Bool
storage_state_ok ws = storage_state_code.ok ws

-- Words begin with the rest of a server's fixed part, for a log of L places.
unfoldable pub server_state_ok : ℕ → List ℕ → Bool
server_state_ok L ws = (server_state_code L).ok ws

-- Words begin with the 64 of a server that are of fixed size.
unfoldable pub fixed_ok : Capacity → List ℕ → Bool
fixed_ok F ws = (fixed_code F).ok ws

-- Words begin with the content of a server.
unfoldable pub server_ok : Capacity → List ℕ → Bool
server_ok F ws = (server_code F).ok ws

-- Words begin with the contents of S servers.
unfoldable pub servers_ok : Capacity → List ℕ → Bool
servers_ok F ws = (servers_code F).ok ws
