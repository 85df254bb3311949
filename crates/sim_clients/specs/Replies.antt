-- What a reply asks and does (replies.rt): what its contracts cite. Assumes nothing.
use Rattle.std.specs.Prelude.{◌≡◌, Bool, true, false, ℕ, ◌+◌, eqb, leb, length, Option, None, Some}
use Rattle.laws.specs.Bools.{pick, ◌and◌}
use Rattle.units.specs.declared.LogIndex.{LogIndex}
use Rattle.units.specs.declared.SimTime.{SimTime}
use Rattle.metrics.specs.Metrics.{counters_fit, record_reply}
use Rattle.clients.specs.declared.Client.{Client}
use Rattle.clients.specs.declared.Outstanding.{Outstanding}
use Rattle.queue.specs.Range.{word}
use Rattle.queue.specs.declared.Event.TheVariants as event
use Rattle.model.specs.State.{State, client_at}
use Rattle.model.specs.Fields.{with_metrics, with_attempt, with_outstanding}
use Rattle.model.specs.Simulation.{client_reply}
use Rattle.state_records.specs.Records.{client_set, replied}
use Rattle.state_queue.specs.Events.{plain, pushed}

-- ---- what is asked

-- Whether a reply is to the outstanding command.
unfoldable pub answers_to : Option Outstanding → ℕ → Bool
answers_to None seq = false
answers_to (Some o) seq = eqb o.seq seq

-- Whether the counters with one reply more have 64 bits.
unfoldable pub replies_room : State → Bool
replies_room s = counters_fit (record_reply s.metrics)

-- Question 10 of a reply to client c, where the queue takes so many events more: room for the next command, an attempt of 64 bits, room for the
-- reply, and counters of 64 bits.
unfoldable pub reply_test : ℕ → ℕ → ℕ → State → Bool
reply_test room c seq s =
    pick (answers_to (client_at s c).outstanding seq)
    (leb 1 room and (word ((client_at s c).attempt + 1) and (leb (length s.replies + 1) s.limits.history and replies_room s)))
    true

-- ---- what is done

-- The state with one reply more in the metrics.
unfoldable pub reply_counted : State → State
reply_counted s = with_metrics s (record_reply s.metrics)

-- A client with nothing outstanding, in its next attempt.
unfoldable pub rested : Client → Client
rested k = with_attempt (with_outstanding k None) (k.attempt + 1)

-- Where the next attempt has 64 bits, r is k with nothing outstanding.
pub record RestsAs (k r : Client) : Type 0 where
  pub is : word (k.attempt + 1) ≡ true → r ≡ rested k

-- The state with client c, which was k, going on at a time.
unfoldable pub went_on : ℕ → Client → SimTime → State → State
went_on c k time s = pushed (plain time (event.ClientSend c)) (client_set c (rested k) s)

-- The state with a reply to client c, which was k, recorded: its command was first sent at a time, and is at an index.
unfoldable pub reply_taken : ℕ → Client → SimTime → ℕ → LogIndex → State → State
reply_taken c k sent seq index s =
    went_on c k s.now (reply_counted (replied (record { sent = sent; received = s.now; index = index; client = c; seq = seq }) s))

-- The state after a reply reached client c.
unfoldable pub client_replied : ℕ → ℕ → LogIndex → State → State
client_replied c seq index s = client_reply s c seq index
