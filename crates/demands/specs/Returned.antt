-- What is heard of a struct is the answer whose numbers it has: of a refusal, and of every answer whose bytes the buffer holds; of a seal in proofs/Returned.antt. Assumes nothing.
use Rattle.std.specs.Prelude.{◌≡◌, refl, Bool, true, false, List, [], ℕ, ◌+◌, ◌≤◌, ◌<◌, eqb, length, take, drop, Option, None, Some}
use Rattle.std.proofs.Common.{sym, ap, ap₂, ◌∙◌, arith, ne_eqb}
use Rattle.std.proofs.lemmas.List.Edits.{sets, sets-eq}
use Rattle.std.proofs.Math.Seq.{take-append_seam}
use Rattle.units.specs.Types.{Payload, noop, command, Entry}
use Rattle.units.specs.declared.LogIndex.{LogIndex}
use Rattle.protocol.specs.declared.Timer.{Timer}
use Rattle.protocol.specs.declared.Timer.TheVariants.{Election, Heartbeat}
use Rattle.protocol.specs.Numbers.{timer_number}
use Rattle.storage.specs.declared.HardState.{HardState}
use Rattle.checks_durability.specs.declared.replies.Reply.{Reply}
use Rattle.model.specs.State.{Confirmation}
use Rattle.model.specs.Simulation.{Opening, no_input, open_start, open_message, open_timer, open_proposal, open_confirmation}
use Rattle.model.specs.Calls.{timer_of, Asked, Stepped}
use Rattle.model.specs.Calls as model
use Rattle.model.specs.Outcome.{Answer, no, acted, opened, stepped, asked, got, got_hard_state, got_log, got_entry, got_applied, got_applied_entry, got_reply, got_confirmation}
use Rattle.model.specs.Reads.{LogRead}
use Rattle.answers.specs.Answers.{nodePresent, nodeId, payload_kind, commandBytes, done_yes, input_of, opened_yes, asked_yes, stepped_yes, hard_state_yes, log_yes, entry_yes, applied_yes, applied_entry_yes, reply_yes, confirmation_yes}
use Rattle.answers.specs.Numbers.{input_bytes, entry_bytes, applied_bytes}
use Rattle.demands.specs.Heard.{unless, behind, node_heard, payload_heard, opening_heard, heard_done, heard_opened, heard_asked, heard_stepped, heard_hard_state, heard_log, heard_entry, heard_applied, heard_applied_entry, heard_reply, heard_confirmation}
use Rattle.units.specs.declared.NodeId.{NodeId}

-- a refusal's number
pub unless_no : (n : ℕ) (a : Answer) → 0 < n → unless n a ≡ no n
unless_no n a l = rw (ne_eqb n 0 (λ e. let z : 0 < 0 = rw e at l in absurd (omega arith))) refl

-- ---- small values

node_heard_lem : (v : Option NodeId) → node_heard (nodePresent v) (nodeId v) ≡ v
node_heard_lem None = refl
node_heard_lem (Some id) = refl

timer_heard : (t : Timer) → timer_of (timer_number t) ≡ t
timer_heard Election = refl
timer_heard Heartbeat = refl

-- bytes at the front of a buffer
pub front : (z xs : List ℕ) → length xs ≤ length z → take (length xs) (sets z 0 xs) ≡ xs
front z xs l = ap (λ (v : List ℕ). take (length xs) v) (sets-eq xs z 0 (omega arith)) ∙ take-append_seam xs (drop (0 + length xs) z)

payload_heard_lem : (p : Payload) (u : List ℕ) → take (length (commandBytes p)) u ≡ commandBytes p → payload_heard (payload_kind p) (length (commandBytes p)) u ≡ p
payload_heard_lem noop u e = refl
payload_heard_lem (command bytes) u e = ap command e

opening_heard_lem : (o : Opening) (u : List ℕ) → take (length (input_bytes o)) u ≡ input_bytes o → opening_heard (input_of o) u ≡ o
unfolding opening_heard
opening_heard_lem no_input u e = refl
opening_heard_lem (open_start server incarnation seed) u e = refl
opening_heard_lem (open_message server sender entries bytes) u e = ap (open_message server sender entries) e
opening_heard_lem (open_timer server timer) u e = ap (open_timer server) (timer_heard timer)
opening_heard_lem (open_proposal server client seq) u e = refl
opening_heard_lem (open_confirmation server request) u e = refl

-- an input without bytes needs no buffer
pub quiet_heard : (o : Opening) → input_bytes o ≡ [] → opening_heard (input_of o) [] ≡ o
quiet_heard o e = opening_heard_lem o [] (ap (λ (xs : List ℕ). take (length xs) []) e ∙ sym e)

-- ---- calls that act

pub done_heard : heard_done (done_yes tt) ≡ acted
done_heard = refl

pub opened_heard : (o : Opening) → input_bytes o ≡ [] → heard_opened (opened_yes o) ≡ opened o
opened_heard o e = ap opened (quiet_heard o e)

-- A direct call opens an input without bytes, or meets a stopped server.
pub data Directly : Asked → Type 0 where
  opens : {o : Opening} → input_bytes o ≡ [] → (eqb (input_of o).kind 0 ≡ false) → Directly (model.asked o)
  stops : Directly model.stopped

pub asked_heard : (a : Asked) → Directly a → heard_asked (asked_yes a) ≡ asked a
asked_heard (model.asked o) (opens e k) = rw k (ap (λ (x : Opening). asked (model.asked x)) (quiet_heard o e))
asked_heard model.stopped stops = refl

pub stepped_heard : (s : Stepped) (z : List ℕ) → length (input_bytes s.opening) ≤ length z → heard_stepped (stepped_yes s) (sets z 0 (input_bytes s.opening)) ≡ stepped s
stepped_heard s z l = ap₂ (λ (d : Bool) (o : Opening). stepped (record { due = d; opening = o })) (due_heard s.due) (opening_heard_lem s.opening _ (front z _ l))
  where
    due_heard : (d : Bool) → eqb (Rattle.answers.specs.Answers.flag d) 1 ≡ d
    due_heard true = refl
    due_heard false = refl

-- ---- reads

pub hard_state_heard : (h : HardState) → heard_hard_state (hard_state_yes h) ≡ got (got_hard_state h)
hard_state_heard h = ap (λ (v : Option NodeId). got (got_hard_state (record { term = h.term; voted_for = v }))) (node_heard_lem h.voted_for)

pub log_heard : (l : LogRead) → heard_log (log_yes l) ≡ got (got_log l)
log_heard l = refl

pub entry_heard : (e : Option Entry) (z : List ℕ) → length (entry_bytes e) ≤ length z → heard_entry (entry_yes e) (sets z 0 (entry_bytes e)) ≡ got (got_entry e)
entry_heard None z l = refl
entry_heard (Some e) z l = ap (λ (p : Payload). got (got_entry (Some (record { term = e.term; payload = p })))) (payload_heard_lem e.payload _ (front z _ l))

pub applied_heard : (n : ℕ) → heard_applied (applied_yes n) ≡ got (got_applied n)
applied_heard n = refl

pub applied_entry_heard : (p : Option Payload) (z : List ℕ) → length (applied_bytes p) ≤ length z → heard_applied_entry (applied_entry_yes p) (sets z 0 (applied_bytes p)) ≡ got (got_applied_entry p)
applied_entry_heard None z l = refl
applied_entry_heard (Some p) z l = ap (λ (x : Payload). got (got_applied_entry (Some x))) (payload_heard_lem p _ (front z _ l))

pub reply_heard : (r : Option Reply) → heard_reply (reply_yes r) ≡ got (got_reply r)
reply_heard None = refl
reply_heard (Some r) = refl

pub confirmation_heard : (c : Option Confirmation) → heard_confirmation (confirmation_yes c) ≡ got (got_confirmation c)
confirmation_heard None = refl
confirmation_heard (Some c) = ap (λ (i : Option LogIndex). got (got_confirmation (Some (record { request = c.request; read_index = i })))) (by c.read_index)
  where
    by : (i : Option LogIndex) → behind (Rattle.answers.specs.Answers.read_index_flag i) (record { 0 = Rattle.answers.specs.Answers.read_index_number i }) ≡ i
    by None = refl
    by (Some index) = refl
