-- What a client's command, retry and timeout ask and do (lib.rt): what their contracts cite. Assumes nothing.
use Rattle.std.specs.Prelude.{◌≡◌, Bool, true, ◌&&◌, ℕ, ◌+◌, eqb, length, Some}
use Rattle.laws.specs.Bools.{pick, ◌and◌}
use Rattle.laws.specs.Lists.{is_some}
use Rattle.units.specs.declared.SimTime.{SimTime}
use Rattle.rng.specs.Rng.{under}
use Rattle.clients.specs.declared.Client.{Client}
use Rattle.queue.specs.Range.{word}
use Rattle.model.specs.State.{State, client_at}
use Rattle.model.specs.Fields.{with_target}
use Rattle.model.specs.Simulation.{latest, client_attempt, client_send, client_timeout}
use Rattle.state_header.specs.Header.{workload_set}
use Rattle.state_records.specs.Records.{client_set}
use Rattle.sim_attempt.specs.Attempts.{waiting, attempt_test}

-- ---- a client

-- A client with another target.
abbrev pub target_put : Client → ℕ → Client
target_put k target = record { target = target; next_seq = k.next_seq; attempt = k.attempt; outstanding = k.outstanding }

-- Whether an attempt is the latest of a client of the code, and its command is outstanding.
unfoldable pub awaits_in : Client → ℕ → Bool
awaits_in k attempt = eqb k.attempt attempt && waiting k.outstanding

-- Whether an attempt is the latest of client c, and its command is outstanding.
unfoldable pub awaits : ℕ → ℕ → State → Bool
awaits c attempt s = latest s c attempt && is_some (client_at s c).outstanding

-- A client with its next command outstanding, first sent at a time.
unfoldable pub begun : SimTime → Client → Client
begun time k = record { target = k.target; next_seq = k.next_seq + 1; attempt = k.attempt; outstanding = Some (record { seq = k.next_seq; first_sent = time }) }

-- Where the next sequence number has 64 bits, r is k with its next command outstanding.
pub record Begins (k : Client) (time : SimTime) (r : Client) : Type 0 where
  pub is : word (k.next_seq + 1) ≡ true → r ≡ begun time k

-- ---- a command begins

-- Question 10 of client c's next command, at a time, where the queue takes so many events more.
unfoldable pub send_test : ℕ → ℕ → ℕ → State → Bool
send_test time room c s =
    pick (is_some (client_at s c).outstanding) true (word ((client_at s c).next_seq + 1) and attempt_test time room (client_at s c).attempt s)

-- The state after client c began its next command, if it could.
unfoldable pub client_sent : ℕ → State → State
client_sent c s = client_send s c

-- ---- another attempt

-- Question 10 of a retry or a timeout of an attempt of client c.
unfoldable pub again_test : ℕ → ℕ → ℕ → ℕ → State → Bool
again_test time room c attempt s = pick (awaits c attempt s) (attempt_test time room (client_at s c).attempt s) true

-- The state after client c sent again, if the attempt was its latest.
unfoldable pub client_retried : ℕ → ℕ → State → State
client_retried c attempt s = pick (latest s c attempt) (client_attempt s c) s

-- The state after an attempt of client c timed out.
unfoldable pub client_timed_out : ℕ → ℕ → State → State
client_timed_out c attempt s = client_timeout s c attempt

-- The state with client c, which is now k, with a target drawn at random.
unfoldable pub target_drawn : ℕ → Client → State → State
target_drawn c k s =
    let d = under s.workload (length s.servers) in
    workload_set d.next (client_set c (with_target k d.value) s)
