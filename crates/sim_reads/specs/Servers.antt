-- What the reads of one server ask and answer (lib.rt): what their contracts cite. Assumes nothing.
use Rattle.std.specs.Prelude.{◌≡◌, List, ℕ, ◌+◌, ◌-◌, ◌<◌, leb, length, Option, None, Some}
use Rattle.laws.specs.Bools.{pick, ◌and◌}
use Rattle.metrics.specs.Metrics.{sent_by}
use Rattle.metrics.specs.declared.Counts.{Counts}
use Rattle.model.specs.State.{State}
use Rattle.raft_log.specs.declared.EntryShape.{EntryShape}
use Rattle.units.specs.declared.Term.{Term}
use Rattle.units.specs.declared.PayloadShape.{PayloadShape}
use Rattle.units.specs.declared.PayloadShape.TheVariants.{Noop, Command}
use Rattle.model.specs.Reads as reads
use Rattle.model.specs.Reads.{LogRead}
use Rattle.model.specs.Outcome.{read_entry, no, read_outcome}
use Rattle.state.specs.declared.Capacity.{Capacity}
use Rattle.state_disk.specs.declared.LogNumbers.{LogNumbers}
use Rattle.state.specs.Call.{reading}
use Rattle.claims.specs.OnArea.{same}
use Rattle.answers.specs.declared.EntryAnswer.{EntryAnswer}
use Rattle.answers.specs.declared.StatusAnswer.{StatusAnswer}
use Rattle.answers.specs.Answers.{entry_no, entry_yes, status_yes}
use Rattle.answers.specs.Numbers.{filled}
use Rattle.sim_reads.specs.declared.ServerAsked.{ServerAsked}
use Rattle.protocol.specs.declared.Status.{Status}

-- Question 7 of a read: 0 of a server in the cluster, else 7.
unfoldable pub server_code : Capacity → ℕ → ℕ
server_code F server = pick (leb 1 server and leb server F.servers) 0 7

-- What was asked of a server: the refusal; where it is 0, the server's place.
pub record AsksServer (F : Capacity) (server : ℕ) (r : ServerAsked) : Type 0 where
  pub code : r.code ≡ server_code F server
  pub slot : r.code ≡ 0 → r.slot ≡ server - 1
  pub below : r.code ≡ 0 → r.slot < F.servers

-- A log's numbers as the definition of its read has them.
abbrev pub log_read : LogNumbers → LogRead
log_read n = record { entries = n.count; last = n.last.0; missing = n.gaps }

-- The numbers of a status that may be absent.
unfoldable pub status_given : Option Status → StatusAnswer
status_given o = status_yes o

-- What the server at a place has sent.
unfoldable pub sent_at : ℕ → State → Counts
sent_at k s = sent_by s.metrics (record { 0 = k + 1 })

-- The numbers of an entry of a term and of a payload's shape.
abbrev pub shape_given : Term → PayloadShape → EntryAnswer
shape_given term Noop = record { refusal = 0; present = 1; term = term.0; kind = 0; length = 0 }
shape_given term (Command n) = record { refusal = 0; present = 1; term = term.0; kind = 1; length = n }

-- The numbers of what stands at an index.
unfoldable pub entry_given : Option EntryShape → EntryAnswer
entry_given None = entry_no 0
entry_given (Some e) = shape_given e.term e.payload

-- An entry was read of the area b into the buffer z, which has become z': the answer, and the buffer as the definition of the call fills it.
pub record EntryRead (b : List ℕ) (server index : ℕ) (z z' : List ℕ) (r : EntryAnswer) : Type 0 where
  pub answer : r ≡ reading entry_no entry_yes b (reads.read_entry server index (length z))
  pub buffer : z' ≡ filled z (reading no same b (read_outcome (read_entry server index (length z))))
