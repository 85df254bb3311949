-- What the reads of the run answer, by the values that the code has (lib.rt): what their contracts cite. Assumes nothing.
use Rattle.std.specs.Prelude.{ℕ, ◌+◌, eqb, leb, ltb, length, Option, Some}
use Rattle.laws.specs.Bools.{pick}
use Rattle.model.specs.State.{State}
use Rattle.model.specs.Reads.{SettingsRead}
use Rattle.state.specs.declared.Capacity.{Capacity}
use Rattle.state_records.specs.Records.{reply_of}
use Rattle.answers.specs.declared.LeaderAnswer.{LeaderAnswer}
use Rattle.answers.specs.declared.RunAnswer.{RunAnswer}
use Rattle.answers.specs.declared.ReplyAnswer.{ReplyAnswer}
use Rattle.answers.specs.declared.ConfirmationAnswer.{ConfirmationAnswer}
use Rattle.answers.specs.Answers.{leader_yes, run_yes, reply_yes, read_index_flag, read_index_number, confirmation_yes}
use Rattle.checks_durability.specs.declared.replies.Reply.{Reply}
use Rattle.leader.specs.declared.Leading.{Leading}
use Rattle.units.specs.declared.LogIndex.{LogIndex}
use Rattle.clients.specs.declared.confirmations.Confirmation.{Confirmation}

-- The numbers of a leader that may be absent.
unfoldable pub leader_given : Option Leading → LeaderAnswer
leader_given o = leader_yes o

-- The server whose input is open, by the numbers of the phase: none while it is closed, and no place is above 7.
unfoldable pub server_number : ℕ → ℕ → ℕ
server_number phase slot = pick (eqb phase 0) 0 (pick (leb slot 7) (slot + 1) 0)

-- The kind of the open input: the answers count from 1, and both kinds of proposal are 4.
unfoldable pub kind_number : ℕ → ℕ → ℕ
kind_number phase input = pick (eqb phase 0) 0 (pick (ltb input 4) (input + 1) input)

-- The numbers of a state's run.
unfoldable pub run_numbers : State → RunAnswer
run_numbers s =
    run_yes
    (record {
      now = s.now;
      events = s.events;
      seed = s.seed;
      phase = s.phase;
      queued = length s.queue;
      replies = length s.replies;
      confirmations = length s.confirmations;
      violations = s.checker.total;
    })

-- The counts of an area as the definition of their read has them.
abbrev pub settings_read : Capacity → SettingsRead
settings_read f = record { servers = f.servers; clients = f.clients; limits = f.limits }

-- The numbers of a reply that may be absent.
unfoldable pub reply_given : Option Reply → ReplyAnswer
reply_given o = reply_yes (reply_of o)

-- Whether there is a read index, and which.
unfoldable pub flag_given : Option LogIndex → ℕ
flag_given o = read_index_flag o

-- The read index, or 0.
unfoldable pub index_given : Option LogIndex → ℕ
index_given o = read_index_number o

-- The numbers of a confirmation.
unfoldable pub confirmation_told : Confirmation → ConfirmationAnswer
confirmation_told c = confirmation_yes (Some c)

-- The numbers of a confirmation that may be absent.
unfoldable pub confirmation_given : Option Confirmation → ConfirmationAnswer
confirmation_given o = confirmation_yes o
