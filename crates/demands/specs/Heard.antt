-- An answer read back from the struct that C gets and the lent buffer: what a host hears. Assumes nothing.
use Rattle.std.specs.Prelude.{List, [], ◌∷◌, ℕ, eqb, get_or, take, Option, None, Some}
use Rattle.laws.specs.Bools.{pick}
use Rattle.units.specs.Types.{Payload, noop, command}
use Rattle.units.specs.declared.LogIndex.{LogIndex}
use Rattle.model.specs.Simulation.{Opening, no_input, open_start, open_message, open_timer, open_proposal, open_confirmation}
use Rattle.model.specs.Calls.{timer_of, Sealing, synced, nothing_to_sync, cut}
use Rattle.model.specs.Calls as model
use Rattle.model.specs.Outcome.{Answer, no, acted, opened, stepped, asked, sealed, got, Reading, got_hard_state, got_log, got_entry, got_applied, got_applied_entry, got_reply, got_confirmation}
use Rattle.answers.specs.declared.DoneAnswer.{DoneAnswer}
use Rattle.answers.specs.declared.InputNumbers.{InputNumbers}
use Rattle.answers.specs.declared.OpenedAnswer.{OpenedAnswer}
use Rattle.answers.specs.declared.SteppedAnswer.{SteppedAnswer}
use Rattle.answers.specs.declared.SealedAnswer.{SealedAnswer}
use Rattle.answers.specs.declared.HardStateAnswer.{HardStateAnswer}
use Rattle.answers.specs.declared.LogAnswer.{LogAnswer}
use Rattle.answers.specs.declared.EntryAnswer.{EntryAnswer}
use Rattle.answers.specs.declared.AppliedAnswer.{AppliedAnswer}
use Rattle.answers.specs.declared.AppliedEntryAnswer.{AppliedEntryAnswer}
use Rattle.answers.specs.declared.ReplyAnswer.{ReplyAnswer}
use Rattle.answers.specs.declared.ConfirmationAnswer.{ConfirmationAnswer}
use Rattle.units.specs.declared.NodeId.{NodeId}

-- ---- small values

-- A refusal, where its number is not 0; else an answer.
abbrev pub unless : ℕ → Answer → Answer
unless refusal a = pick (eqb refusal 0) a (no refusal)

-- Something behind a flag.
abbrev pub behind : {A : Type 0} → ℕ → A → Option A
behind flag x = pick (eqb flag 0) None (Some x)

-- A server that may be absent, from its flag and its id.
abbrev pub node_heard : ℕ → ℕ → Option NodeId
node_heard flag id = pick (eqb flag 0) None (Some (record { 0 = id }))

-- A payload: a noop, or the command at the front of the buffer.
abbrev pub payload_heard : ℕ → ℕ → List ℕ → Payload
payload_heard kind length buffer = pick (eqb kind 0) noop (command (take length buffer))

-- An input by its kind; a message lies at the front of the buffer.
unfoldable pub opening_heard : InputNumbers → List ℕ → Opening
opening_heard i buffer =
    get_or (
    no_input
    ∷ open_start (record { 0 = i.server }) i.first i.second
    ∷ open_message (record { 0 = i.server }) (record { 0 = i.first }) i.third (take i.second buffer)
    ∷ open_timer (record { 0 = i.server }) (timer_of i.first)
    ∷ open_proposal (record { 0 = i.server }) i.first i.second
    ∷ open_confirmation (record { 0 = i.server }) (record { 0 = i.first })
    ∷ []) i.kind no_input

-- ---- calls that act

-- A call with nothing to tell.
abbrev pub heard_done : DoneAnswer → Answer
heard_done r = unless r.refusal acted

-- A start, a fired timer, an end.
abbrev pub heard_opened : OpenedAnswer → Answer
heard_opened r = unless r.refusal (opened (opening_heard r.input []))

-- A direct proposal or confirmation: without an input the server is stopped.
abbrev pub heard_asked : OpenedAnswer → Answer
heard_asked r = unless r.refusal (asked (pick (eqb r.input.kind 0) model.stopped (model.asked (opening_heard r.input []))))

-- A step, with the buffer after it.
abbrev pub heard_stepped : SteppedAnswer → List ℕ → Answer
heard_stepped r buffer = unless r.refusal (stepped (record { due = eqb r.taken 1; opening = opening_heard r.input buffer }))

-- How a seal ended, by its number.
abbrev pub sealing_heard : ℕ → Sealing
sealing_heard n = get_or (synced ∷ synced ∷ nothing_to_sync ∷ cut ∷ []) n synced

-- A seal.
abbrev pub heard_sealed : SealedAnswer → Answer
heard_sealed r = unless r.refusal (sealed (record { sealing = sealing_heard r.outcome; opening = opening_heard r.input [] }))

-- ---- the reads of which the book speaks

-- Term and vote.
abbrev pub heard_hard_state : HardStateAnswer → Answer
heard_hard_state r = unless r.refusal (got (got_hard_state (record { term = record { 0 = r.term }; voted_for = node_heard r.voted r.vote })))

-- The size of a log.
abbrev pub heard_log : LogAnswer → Answer
heard_log r = unless r.refusal (got (got_log (record { entries = r.count; last = r.last; missing = r.gaps })))

-- An entry of a log, with the buffer after the read.
abbrev pub heard_entry : EntryAnswer → List ℕ → Answer
heard_entry r buffer =
    unless r.refusal (got (got_entry (behind r.present (record { term = record { 0 = r.term }; payload = payload_heard r.kind r.length buffer }))))

-- The highest index that a server has applied.
abbrev pub heard_applied : AppliedAnswer → Answer
heard_applied r = unless r.refusal (got (got_applied r.index))

-- The first payload applied at an index, with the buffer after the read.
abbrev pub heard_applied_entry : AppliedEntryAnswer → List ℕ → Answer
heard_applied_entry r buffer = unless r.refusal (got (got_applied_entry (behind r.present (payload_heard r.kind r.length buffer))))

-- A client's reply.
abbrev pub heard_reply : ReplyAnswer → Answer
heard_reply r =
    unless r.refusal (got (got_reply (behind r.present
    (record { sent = record { 0 = r.sent }; received = record { 0 = r.received }; index = record { 0 = r.index }; client = r.client; seq = r.sequence }))))

-- A confirmation: leadership that was lost has no read index.
abbrev pub heard_confirmation : ConfirmationAnswer → Answer
heard_confirmation r =
    unless r.refusal (got (got_confirmation (behind r.present
    (record { request = record { 0 = r.request }; read_index = behind r.confirmed (record { 0 = r.read_index }) }))))
