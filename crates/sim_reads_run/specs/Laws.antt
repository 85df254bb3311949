-- What the proofs of the reads of the run cite. Assumes nothing.
use Rattle.std.specs.Prelude.{◌≡◌, Bool, true, List, ℕ, ◌+◌, ◌≤◌, ◌<◌, ltb, Option, None, Some}
use Rattle.std.proofs.Math.Path.{refl, ap}
use Rattle.std.proofs.Common.{sym, ap₂, subst, ◌∙◌, arith, eq-eqb, ne_eqb, le-leb, lt-ltb, le-ltb, ltb-true}
use Rattle.std.proofs.lemmas.Bool.{lt-leb}
use Rattle.laws.specs.Bools.{pick, ◌and◌, and_left}
use Rattle.units.specs.declared.NodeId.{NodeId}
use Rattle.units.specs.declared.Term.{Term}
use Rattle.units.specs.declared.LogIndex.{LogIndex}
use Rattle.config.specs.declared.SimConfig.{SimConfig}
use Rattle.config.specs.declared.Limits.{Limits}
use Rattle.checks_durability.specs.declared.replies.Reply.{Reply}
use Rattle.model.specs.State.{State, Input, start_input, message_input, timer_input, propose_input, direct, from_client, confirm_input, Phase, closed, writing, sending}
use Rattle.model.specs.Simulation.{leader_of}
use Rattle.model.specs.Fits.{phase_fits}
use Rattle.model.specs.Reads.{read_leader, read_run, read_settings, read_reply, read_confirmation}
use Rattle.state.specs.declared.Capacity.{Capacity}
use Rattle.state.specs.declared.Gate.{Gate}
use Rattle.state.specs.declared.OpenInput.{OpenInput}
use Rattle.state.specs.declared.Run.{Run}
use Rattle.state.specs.declared.TableCounts.{TableCounts}
use Rattle.state.specs.Parts.{open_of, phase_kind, phase_slot, phase_input, input_kind}
use Rattle.state.specs.Area.{run_of, counts_of}
use Rattle.state.specs.Decode.{decode}
use Rattle.state.specs.Fitting.{area_fits}
use Rattle.state.specs.FitsBy.{fits_test}
use Rattle.state.specs.Call.{reading}
use Rattle.state.specs.Changes.{Inside, Gated, Reads}
use Rattle.state.specs.Exits.{read_answered}
use Rattle.state_header.specs.Header.{phase_of}
use Rattle.state_records.specs.Records.{reply_of, reply_at, confirmation_at}
use Rattle.answers.specs.declared.LeaderAnswer.{LeaderAnswer}
use Rattle.answers.specs.declared.RunAnswer.{RunAnswer}
use Rattle.answers.specs.declared.SettingsAnswer.{SettingsAnswer}
use Rattle.answers.specs.declared.ReplyAnswer.{ReplyAnswer}
use Rattle.answers.specs.declared.ConfirmationAnswer.{ConfirmationAnswer}
use Rattle.answers.specs.Answers as answer
use Rattle.answers.specs.Answers.{leader_no, leader_yes, run_no, run_yes, settings_no, settings_yes, reply_no, reply_yes, confirmation_no, confirmation_yes, phaseNumber, open_server, open_kind}
use Rattle.sim_reads_run.specs.Run.{leader_given, server_number, kind_number, run_numbers, settings_read, reply_given, flag_given, index_given, confirmation_told, confirmation_given}
use Rattle.leader.specs.declared.Leading.{Leading}
use Rattle.clients.specs.declared.confirmations.Confirmation.{Confirmation}

-- ---- answers in numbers

pub leader_absent : (o : Option Leading) (r : LeaderAnswer) → o ≡ None → r ≡ leader_no 0 → r ≡ leader_given o
unfolding leader_given
leader_absent o r e q = q ∙ ap leader_given (sym e)

pub leader_present : (o : Option Leading) (id : NodeId) (term : Term) → o ≡ Some (record { id = id; term = term }) → record { refusal = 0; present = 1; server = id.0; term = term.0 } ≡ leader_given o
unfolding leader_given
leader_present o id term e = ap leader_given (sym e)

pub reply_absent : (o : Option Reply) (r : ReplyAnswer) → o ≡ None → r ≡ reply_no 0 → r ≡ reply_given o
unfolding reply_given reply_of
reply_absent o r e q = q ∙ ap reply_given (sym e)

pub reply_present : (o : Option Reply) (x : Reply) → o ≡ Some x
    → record { refusal = 0; present = 1; sent = x.sent.0; received = x.received.0; index = x.index.0; client = x.client; sequence = x.seq } ≡ reply_given o
unfolding reply_given reply_of
reply_present o x e = ap reply_given (sym e)

pub flag_none : (o : Option LogIndex) → o ≡ None → 0 ≡ flag_given o
unfolding flag_given
flag_none o e = ap flag_given (sym e)

pub flag_some : (o : Option LogIndex) (x : LogIndex) → o ≡ Some x → 1 ≡ flag_given o
unfolding flag_given
flag_some o x e = ap flag_given (sym e)

pub index_none : (o : Option LogIndex) → o ≡ None → 0 ≡ index_given o
unfolding index_given
index_none o e = ap index_given (sym e)

pub index_some : (o : Option LogIndex) (x : LogIndex) → o ≡ Some x → x.0 ≡ index_given o
unfolding index_given
index_some o x e = ap index_given (sym e)

pub confirmation_told_lem : (c : Confirmation) (n m : ℕ) → n ≡ flag_given c.read_index → m ≡ index_given c.read_index
    → record { refusal = 0; present = 1; request = c.request.0; confirmed = n; read_index = m } ≡ confirmation_told c
unfolding confirmation_told flag_given index_given
confirmation_told_lem c n m en em = ap₂ (λ (i j : ℕ). record { refusal = 0; present = 1; request = c.request.0; confirmed = i; read_index = j }) en em

pub confirmation_absent : (o : Option Confirmation) (r : ConfirmationAnswer) → o ≡ None → r ≡ confirmation_no 0 → r ≡ confirmation_given o
unfolding confirmation_given
confirmation_absent o r e q = q ∙ ap confirmation_given (sym e)

pub confirmation_present : (o : Option Confirmation) (x : Confirmation) (r : ConfirmationAnswer) → o ≡ Some x → r ≡ confirmation_told x → r ≡ confirmation_given o
unfolding confirmation_given confirmation_told
confirmation_present o x r e q = q ∙ ap confirmation_given (sym e)

-- ---- the run

pub server_closed : (phase slot : ℕ) → phase ≡ 0 → 0 ≡ server_number phase slot
unfolding server_number
server_closed phase slot e = sym (rw (eq-eqb phase 0 e))

pub server_past : (phase slot : ℕ) → (phase ≡ 0 → ⊥) → 7 < slot → 0 ≡ server_number phase slot
unfolding server_number
server_past phase slot n l = sym (rw (ne_eqb phase 0 n, lt-leb slot 7 l))

pub server_open : (phase slot : ℕ) → (phase ≡ 0 → ⊥) → slot ≤ 7 → slot + 1 ≡ server_number phase slot
unfolding server_number
server_open phase slot n l = sym (rw (ne_eqb phase 0 n, le-leb slot 7 l))

pub kind_closed : (phase input : ℕ) → phase ≡ 0 → 0 ≡ kind_number phase input
unfolding kind_number
kind_closed phase input e = sym (rw (eq-eqb phase 0 e))

pub kind_low : (phase input : ℕ) → (phase ≡ 0 → ⊥) → input < 4 → input + 1 ≡ kind_number phase input
unfolding kind_number
kind_low phase input n l = sym (rw (ne_eqb phase 0 n, lt-ltb input 4 l))

pub kind_high : (phase input : ℕ) → (phase ≡ 0 → ⊥) → 4 ≤ input → input ≡ kind_number phase input
unfolding kind_number
kind_high phase input n l = sym (rw (ne_eqb phase 0 n, le-ltb input 4 l))

phase_same : (p : Phase) → phase_kind p ≡ phaseNumber p
phase_same closed = refl
phase_same (writing slot input owed) = refl
phase_same (sending slot input verdict owed) = refl

input_same : (i : Input) → pick (ltb (input_kind i) 4) (input_kind i + 1) (input_kind i) ≡ answer.input_kind i
input_same start_input = refl
input_same message_input = refl
input_same timer_input = refl
input_same (propose_input direct) = refl
input_same (propose_input (from_client c seq attempt)) = refl
input_same confirm_input = refl

kind_same : (p : Phase) → kind_number (phase_kind p) (input_kind (phase_input p)) ≡ open_kind p
unfolding kind_number
kind_same closed = refl
kind_same (writing slot input owed) = input_same input
kind_same (sending slot input verdict owed) = input_same input

server_same : (config : SimConfig) (limits : Limits) (p : Phase) → config.servers ≤ 8 → phase_fits config limits p ≡ true → server_number (phase_kind p) (phase_slot p) ≡ open_server p
unfolding server_number ◌and◌
server_same config limits closed m h = refl
server_same config limits (writing slot input owed) m h =
    let l : slot < config.servers = ltb-true _ _ (and_left _ _ h) in
    ap (λ (t : Bool). pick t (slot + 1) 0) (le-leb slot 7 (omega (arith, l, m)))
server_same config limits (sending slot input verdict owed) m h =
    let l : slot < config.servers = ltb-true _ _ (and_left _ _ h) in
    ap (λ (t : Bool). pick t (slot + 1) 0) (le-leb slot 7 (omega (arith, l, m)))

-- the answer of what was read
abbrev run_answer : Run → TableCounts → ℕ → ℕ → ℕ → RunAnswer
run_answer run c phase server input = record {
  refusal = 0;
  now = run.now.0;
  events = run.events;
  seed = run.seed;
  phase = phase;
  server = server;
  input = input;
  queued = c.queue;
  replies = c.replies;
  confirmations = c.confirmations;
  violations = c.total;
}

pub run_told : (b : List ℕ) (F : Capacity) (run : Run) (c : TableCounts) (o : OpenInput) (n m : ℕ) → Inside b F → Reads b F run run_of → Reads b F c counts_of → Reads b F o (λ s. open_of (phase_of s))
    → n ≡ server_number o.phase o.slot → m ≡ kind_number o.phase o.input
    → Reads b F (record { refusal = 0; now = run.now.0; events = run.events; seed = run.seed; phase = o.phase; server = n; input = m; queued = c.queue; replies = c.replies; confirmations = c.confirmations; violations = c.total }) run_numbers
unfolding run_numbers
run_told b F run c o n m i qr qc qo en em = record {
  to = λ s h ef.
      let eo : o ≡ open_of s.phase = qo.to s h ef in
      let few : s.config.servers ≤ 8 = subst (λ (G : Capacity). G.servers ≤ 8) ef i.within.limits.servers in
      ap (λ (x : Run). run_answer x c o.phase n m) (qr.to s h ef)
      ∙ ap (λ (x : TableCounts). run_answer (run_of s) x o.phase n m) (qc.to s h ef)
      ∙ ap (λ (k : ℕ). run_answer (run_of s) (counts_of s) k n m) (ap (λ (x : OpenInput). x.phase) eo ∙ phase_same s.phase)
      ∙ ap (λ (k : ℕ). run_answer (run_of s) (counts_of s) (phaseNumber s.phase) k m)
      (en ∙ ap (λ (x : OpenInput). server_number x.phase x.slot) eo ∙ server_same s.config s.limits s.phase few (fits_test s (area_fits h) 19))
      ∙ ap (λ (k : ℕ). run_answer (run_of s) (counts_of s) (phaseNumber s.phase) (open_server s.phase) k)
      (em ∙ ap (λ (x : OpenInput). kind_number x.phase x.input) eo ∙ kind_same s.phase);
}

-- ---- each read

module _ (b : List ℕ) (g : Gate) (q : Gated b g) (y : g.refusal ≤ 0) where
  z : g.refusal ≡ 0
  z = omega arith

  -- what was read of the state that the bytes hold
  here : {X : Type 0} {x : X} {get : State → X} → Reads b g.capacity x get → x ≡ get (decode b)
  here p = p.to (decode b) (q.area z) (q.capacity z)

  pub leader_read : (x : Option Leading) (r : LeaderAnswer) → Reads b g.capacity x leader_of → r ≡ leader_given x → r ≡ reading leader_no leader_yes b read_leader
  unfolding leader_given read_leader
  leader_read x r p e = read_answered leader_no leader_yes b read_leader g q y r (leader_of (decode b)) (decode b) refl (e ∙ ap leader_yes (here p))

  pub run_read : (r : RunAnswer) → Reads b g.capacity r run_numbers → r ≡ reading run_no run_yes b read_run
  unfolding run_numbers read_run
  run_read r p = read_answered run_no run_yes b read_run g q y r _ (decode b) refl (here p)

  pub settings_read_lem : (r : SettingsAnswer) → r ≡ settings_yes (settings_read g.capacity) → r ≡ reading settings_no settings_yes b read_settings
  unfolding read_settings
  settings_read_lem r e = read_answered settings_no settings_yes b read_settings g q y r _ (decode b) refl (e ∙ ap (λ (G : Capacity). settings_yes (settings_read G)) (q.capacity z))

  pub reply_read : (place : ℕ) (x : Option Reply) (r : ReplyAnswer) → Reads b g.capacity (reply_of x) (reply_at place) → r ≡ reply_given x → r ≡ reading reply_no reply_yes b (read_reply place)
  unfolding reply_given reply_at read_reply
  reply_read place x r p e = read_answered reply_no reply_yes b (read_reply place) g q y r _ (decode b) refl (e ∙ ap reply_yes (here p))

  pub confirmation_read_lem : (place : ℕ) (x : Option Confirmation) (r : ConfirmationAnswer) → Reads b g.capacity x (confirmation_at place) → r ≡ confirmation_given x
      → r ≡ reading confirmation_no confirmation_yes b (read_confirmation place)
  unfolding confirmation_given confirmation_at read_confirmation
  confirmation_read_lem place x r p e = read_answered confirmation_no confirmation_yes b (read_confirmation place) g q y r _ (decode b) refl (e ∙ ap confirmation_yes (here p))
