-- The machine whose calls are made on a state, with any test for question 10. Assumes nothing.
use Rattle.std.specs.Prelude.{◌≡◌, Bool, ◌||◌, ℕ, ◌^◌, leb, ltb}
use Rattle.std.proofs.Math.Path.{refl}
use Rattle.std.proofs.Common.{sym, ap, ◌∙◌, arith}
use Rattle.std.proofs.Math.Bool.{true, false}
use Rattle.laws.specs.Bools.{pick, cases}
use Rattle.laws.specs.Decides.{false_true}
use Rattle.config.specs.declared.SimConfig.{SimConfig}
use Rattle.config.specs.declared.Limits.{Limits}
use Rattle.model.specs.State.{State}
use Rattle.model.specs.Calls.{Out, refused, done, ask, in_cluster}
use Rattle.model.specs.Calls as model
use Rattle.model.specs.Reads as reads
use Rattle.model.specs.Outcome.{Call, start, step, propose, fire_timer, confirm_leadership, schedule, write, seal, output, end, check_log_matching, check_durability, read, ReadCall, WriteCall, OutputCall, Answer, no, got, given, outcome, write_outcome, output_outcome, read_outcome, only_reads, finish, after}
use Rattle.model.specs.Outcome as calls
use Rattle.claims.specs.Claim.{accepted, Does, refuses, gives, Machine}

-- ---- reads leave the state as it was, and every answer that is given accepts

-- What is given leaves s as it was.
data Stays {A : Type 0} (s : State) : Out A → Type 0 where
  no_answer : {number : ℕ} → Stays s (refused number)
  same : {a : A} → Stays s (done a s)

stays_ask : {A : Type 0} {s : State} (t : Bool) (number : ℕ) {o : Out A} → Stays s o → Stays s (ask t number o)
stays_ask true number h = h
stays_ask false number h = no_answer

stays_given : {A : Type 0} {s : State} (f : A → Answer) {o : Out A} → Stays s o → Stays s (given f o)
stays_given f no_answer = no_answer
stays_given f same = same

read_stays : (r : ReadCall) (s : State) → Stays s (read_outcome r s)
unfolding read_outcome reads.read_status reads.read_hard_state reads.read_log reads.read_entry reads.read_leader reads.read_applied reads.read_applied_entry reads.read_metrics reads.read_sent_by reads.read_reply reads.read_confirmation reads.read_violation reads.read_run reads.read_settings
read_stays (calls.read_status server) s = stays_given _ (stays_ask (in_cluster s server) 7 same)
read_stays (calls.read_hard_state server) s = stays_given _ (stays_ask (in_cluster s server) 7 same)
read_stays (calls.read_log server) s = stays_given _ (stays_ask (in_cluster s server) 7 same)
read_stays (calls.read_entry server index buffer) s = stays_given _ (stays_ask (in_cluster s server) 7 (stays_ask (leb s.limits.payload buffer) 9 same))
read_stays calls.read_leader s = same
read_stays (calls.read_applied server) s = stays_given _ (stays_ask (in_cluster s server) 7 same)
read_stays (calls.read_applied_entry index buffer) s = stays_given _ (stays_ask (leb s.limits.payload buffer) 9 same)
read_stays calls.read_metrics s = stays_given _ (stays_ask (ltb (reads.discarded_by s.servers) (2 ^ 64)) 10 same)
read_stays (calls.read_sent_by server) s = stays_given _ (stays_ask (in_cluster s server) 7 same)
read_stays (calls.read_reply place) s = same
read_stays (calls.read_confirmation place) s = same
read_stays (calls.read_violation place) s = same
read_stays calls.read_run s = same
read_stays calls.read_settings s = same

stayed : {A : Type 0} {s t : State} {a : A} {o : Out A} → Stays s o → o ≡ done a t → s ≡ t
stayed no_answer e = let z : ◌≡◌ {A = ℕ} 0 1 = cc in absurd (omega arith)
stayed same e = cc

-- a read leaves the state
pub read_same : (r : ReadCall) (s t : State) (a : Answer) → outcome (read r) s ≡ done a t → t ≡ s
unfolding outcome
read_same r s t a e = sym (stayed (read_stays r s) e)

-- a call that only reads leaves a state that fits
pub read_fits : (fits : State → Bool) (c : Call) (s t : State) (a : Answer) → only_reads c ≡ true → fits s ≡ true → outcome c s ≡ done a t → fits t ≡ true
unfolding outcome
read_fits fits (read r) s t a h f e = ap fits (read_same r s t a e) ∙ f
read_fits fits (start config limits seed) s t a h f e = absurd (false_true h)
read_fits fits (step deadline buffer) s t a h f e = absurd (false_true h)
read_fits fits (propose server) s t a h f e = absurd (false_true h)
read_fits fits (fire_timer server timer) s t a h f e = absurd (false_true h)
read_fits fits (confirm_leadership server request) s t a h f e = absurd (false_true h)
read_fits fits (schedule time kind first second groups) s t a h f e = absurd (false_true h)
read_fits fits (write w) s t a h f e = absurd (false_true h)
read_fits fits (seal refusal present leader) s t a h f e = absurd (false_true h)
read_fits fits (output o) s t a h f e = absurd (false_true h)
read_fits fits (end role term present leader commit) s t a h f e = absurd (false_true h)
read_fits fits check_log_matching s t a h f e = absurd (false_true h)
read_fits fits check_durability s t a h f e = absurd (false_true h)

-- ---- the machine

module _ (fits : State → Bool) where
  -- what is finished is refused, or given and fits
  pub finished : (s : State) (c : Call) → fits s ≡ true → Does fits s c (after fits s c).answer (after fits s c).state × (fits (after fits s c).state ≡ true)
  unfolding finish
  finished s c f = by (outcome c s) refl
    where
      by : (o : Out Answer) → outcome c s ≡ o → Does fits s c (finish fits (only_reads c) s o).answer (finish fits (only_reads c) s o).state × (fits (finish fits (only_reads c) s o).state ≡ true)
      by (refused number) e = (refuses number, f)
      by (done a t) e =
          cases (only_reads c)
          (λ r. let g : fits t ≡ true = read_fits fits c s t a r f e in rw r (gives e g, g))
          (λ r. cases (fits t) (λ g. rw (r, g) (gives e g, g)) (λ g. rw (r, g) (refuses 10, f)))

  -- an accepted start is given, whatever was before
  pub begun : (s : State) (config : SimConfig) (limits : Limits) (seed : ℕ) → accepted (after fits s (start config limits seed)).answer ≡ true
      → (outcome (start config limits seed) s ≡ done (after fits s (start config limits seed)).answer (after fits s (start config limits seed)).state)
      × (fits (after fits s (start config limits seed)).state ≡ true)
  unfolding finish
  begun s config limits seed h = by (outcome (start config limits seed) s) refl h
    where
      by : (o : Out Answer) → outcome (start config limits seed) s ≡ o → accepted (finish fits false s o).answer ≡ true
          → (o ≡ done (finish fits false s o).answer (finish fits false s o).state) × (fits (finish fits false s o).state ≡ true)
      by (refused number) e h = absurd (false_true h)
      by (done a t) e h = cases (fits t) (λ g. rw g (refl, g)) (λ g. absurd (false_true (rw g at h)))

  -- The calls on a state.
  abbrev pub states : Machine fits
  states = record {
    On = State;
    state = λ s. s;
    answer = λ s c. (after fits s c).answer;
    next = λ s c. (after fits s c).state;
    Sound = λ s. fits s ≡ true;
    fit = λ s f. f;
    does = finished;
    starts = begun;
  }
