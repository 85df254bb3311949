-- What demand 1 and demand 3 of the exported calls speak of, and what their proofs rest on; the theorems are in proofs/Demands.antt. Assumes nothing.
use Rattle.std.specs.Prelude.{◌≡◌, true, false, List, [], ◌∷◌, ◌++◌, ℕ, ◌≤◌, ◌<◌, eqb, ltb, length}
use Rattle.std.proofs.Math.Path.{refl, ap}
use Rattle.std.proofs.Common.{sym, ◌∙◌, arith, eqb-true, ltb-true}
use Rattle.std.proofs.Math.ListN.{drop}
use Rattle.std.proofs.lemmas.Bool.{eqb-false}
use Rattle.laws.specs.Bools.{cases}
use Rattle.laws.specs.Decides.{false_true}
use Rattle.words.specs.Words.{Bytes}
use Rattle.model.specs.State.{State}
use Rattle.model.specs.Fits.{state_fits}
use Rattle.model.specs.Calls.{Out, refused, done, Stepped, Asked, Sealed}
use Rattle.model.specs.Calls as model
use Rattle.model.specs.Outcome as calls
use Rattle.model.specs.Outcome.{Call, start, step, propose, fire_timer, confirm_leadership, schedule, write, seal, output, end, check_log_matching, check_durability, read, Answer, no, acted, opened, stepped, asked, sealed, got, got_hard_state, got_log, got_entry, got_applied, got_applied_entry, got_reply, got_confirmation, given, act, outcome, write_outcome, output_outcome}
use Rattle.state.specs.Sizes.{bytes_of}
use Rattle.state.specs.Area.{capacity_of}
use Rattle.state.specs.Decode.{gate, decode}
use Rattle.state.specs.Encode.{encode}
use Rattle.state.specs.EncodeLaws.{gate_area}
use Rattle.state.specs.Fitting.{area_fits}
use Rattle.state.specs.Call.{finish, call, answered, reading, starting}
use Rattle.claims.specs.Claim.{accepted}
use Rattle.claims.specs.OnArea.{on_area, same}
use Rattle.answers.specs.Answers.{done_no, done_yes, opened_no, opened_yes, asked_yes, stepped_no, stepped_yes, hard_state_no, hard_state_yes, log_no, log_yes, entry_no, entry_yes, applied_no, applied_yes, applied_entry_no, applied_entry_yes, reply_no, reply_yes, confirmation_no, confirmation_yes}
use Rattle.answers.specs.Numbers as numbers
use Rattle.answers.specs.Numbers.{filled, reading_bytes, entry_bytes, applied_bytes}
use Rattle.book.specs.Book.{Book, note, told_of, Right}
use Rattle.demands.specs.Heard.{heard_done, heard_opened, heard_asked, heard_stepped, heard_hard_state, heard_log, heard_entry, heard_applied, heard_applied_entry, heard_reply, heard_confirmation}
use Rattle.demands.specs.WrittenLaws.{step_filled, entry_filled, applied_filled}
use Rattle.demands.specs.Returned.{unless_no, Directly, opened_heard, asked_heard, stepped_heard, hard_state_heard, log_heard, entry_heard, applied_heard, applied_entry_heard, reply_heard, confirmation_heard}
use Rattle.demands.specs.Clean.{Clean, refuses, gives, Any, Quiet, Room}
use Rattle.demands.specs.Exported.{Made, made_start, made_step, made_propose, made_fire_timer, made_confirm_leadership, made_schedule, made_write_hard_state, made_write_put, made_write_truncate, made_seal, made_output_send, made_output_set_timer, made_output_cancel_timer, made_output_apply, made_output_confirmed, made_output_lost, made_end, made_check_log_matching, made_check_durability, made_read_hard_state, made_read_log, made_read_entry, made_read_applied, made_read_applied_entry, made_read_reply, made_read_confirmation, made_other_read}

-- ---- what is heard of a call is its definition's answer

-- a gate that refuses has a number
shut : (n : ℕ) → eqb n 0 ≡ false → 0 < n
shut n e = omega (arith, eqb-false n 0 e)

-- bytes that the gate lets through hold a state that fits
open_fits : (b : List ℕ) → Bytes b → eqb (gate b) 0 ≡ true → state_fits (decode b) ≡ true
open_fits b h e = area_fits (gate_area b h (eqb-true (gate b) 0 e))

-- A struct's refusal and its answers, as they are heard with the buffer that was z and was filled by the answer.
pub record Hears {A R : Type 0} (xNo : ℕ → R) (xYes : A → R) (f : A → Answer) (heard : R → List ℕ → Answer) (z : List ℕ) (Fine : A → Type 0) : Type 0 where
  pub says_no : (n : ℕ) (u : List ℕ) → 0 < n → heard (xNo n) u ≡ no n
  pub says_yes : (a : A) → Fine a → heard (xYes a) (filled z (f a)) ≡ f a

module _ {A R : Type 0} {xNo : ℕ → R} {xYes : A → R} {f : A → Answer} {heard : R → List ℕ → Answer} {z : List ℕ} {Fine : A → Type 0} (h : Hears xNo xYes f heard z Fine) (b : List ℕ) where
  hear_finish : (o : Out A) → Clean Fine o
      → (heard (finish xNo xYes b o).0 (filled z (finish no same b (given f o)).0), (finish xNo xYes b o).1) ≡ finish no same b (given f o)
  unfolding finish
  hear_finish (refused n) (refuses _ l) = ap (λ (a : Answer). (a, b)) (h.says_no n _ (ltb-true 0 n l))
  hear_finish (done a s) (gives y) =
      cases (state_fits s)
      (λ t. rw t (ap (λ (x : Answer). (x, encode s ++ drop (bytes_of (capacity_of s)) b)) (h.says_yes a y)))
      (λ t. rw t (ap (λ (x : Answer). (x, b)) (h.says_no 10 _ (omega arith))))

  module _ (d : State → Out A) where
    pub hear_call : Bytes b → ((s : State) → state_fits s ≡ true → Clean Fine (d s))
        → (heard (call xNo xYes b d).0 (filled z (call no same b (λ s. given f (d s))).0), (call xNo xYes b d).1) ≡ call no same b (λ s. given f (d s))
    unfolding call
    hear_call y c =
        cases (eqb (gate b) 0)
        (λ t. rw t (hear_finish (d (decode b)) (c (decode b) (open_fits b y t))))
        (λ t. rw t (ap (λ (a : Answer). (a, b)) (h.says_no (gate b) _ (shut (gate b) t))))

    pub hear_read : Bytes b → ((s : State) → state_fits s ≡ true → Clean Fine (d s))
        → heard (reading xNo xYes b d) (filled z (reading no same b (λ s. given f (d s)))) ≡ reading no same b (λ s. given f (d s))
    unfolding reading
    hear_read y c =
        cases (eqb (gate b) 0)
        (λ t. rw t (by (d (decode b)) (c (decode b) (open_fits b y t))))
        (λ t. rw t (h.says_no (gate b) _ (shut (gate b) t)))
      where
        by : (o : Out A) → Clean Fine o → heard (answered xNo xYes o) (filled z (answered no same (given f o))) ≡ answered no same (given f o)
        by (refused n) (refuses _ l) = h.says_no n _ (ltb-true 0 n l)
        by (done a s) (gives y) = h.says_yes a y

  pub hear_start : (o : Out A) → Clean Fine o
      → (heard (starting xNo xYes b o).0 (filled z (starting no same b (given f o)).0), (starting xNo xYes b o).1) ≡ starting no same b (given f o)
  unfolding starting
  hear_start (refused n) (refuses _ l) = ap (λ (a : Answer). (a, b)) (h.says_no n _ (ltb-true 0 n l))
  hear_start (done a s) y =
      cases (ltb (length b) (bytes_of (capacity_of s)))
      (λ t. rw t (ap (λ (x : Answer). (x, b)) (h.says_no 4 _ (omega arith))))
      (λ t. rw t (hear_finish (done a s) y))

-- the structs
pub hears_done : Hears done_no done_yes act (λ r u. heard_done r) [] Any
hears_done = record { says_no = λ n u l. unless_no n _ l; says_yes = λ a y. refl }

pub hears_opened : Hears opened_no opened_yes opened (λ r u. heard_opened r) [] Quiet
hears_opened = record { says_no = λ n u l. unless_no n _ l; says_yes = opened_heard }

pub hears_asked : Hears opened_no asked_yes asked (λ r u. heard_asked r) [] Directly
hears_asked = record { says_no = λ n u l. unless_no n _ l; says_yes = asked_heard }

pub hears_stepped : (z : List ℕ) → Hears stepped_no stepped_yes stepped heard_stepped z (Room (length z))
unfolding numbers.bytes_of
hears_stepped z = record { says_no = λ n u l. unless_no n _ l; says_yes = λ s w. stepped_heard s z w.bytes }

pub hears_hard_state : Hears hard_state_no hard_state_yes (λ x. got (got_hard_state x)) (λ r u. heard_hard_state r) [] Any
hears_hard_state = record { says_no = λ n u l. unless_no n _ l; says_yes = λ h y. hard_state_heard h }

pub hears_log : Hears log_no log_yes (λ x. got (got_log x)) (λ r u. heard_log r) [] Any
hears_log = record { says_no = λ n u l. unless_no n _ l; says_yes = λ l y. log_heard l }

pub hears_entry : (z : List ℕ) → Hears entry_no entry_yes (λ x. got (got_entry x)) heard_entry z (λ e. length (entry_bytes e) ≤ length z)
unfolding numbers.bytes_of reading_bytes
hears_entry z = record { says_no = λ n u l. unless_no n _ l; says_yes = λ e l. entry_heard e z l }

pub hears_applied : Hears applied_no applied_yes (λ x. got (got_applied x)) (λ r u. heard_applied r) [] Any
hears_applied = record { says_no = λ n u l. unless_no n _ l; says_yes = λ n y. applied_heard n }

pub hears_applied_entry : (z : List ℕ) → Hears applied_entry_no applied_entry_yes (λ x. got (got_applied_entry x)) heard_applied_entry z (λ p. length (applied_bytes p) ≤ length z)
unfolding numbers.bytes_of reading_bytes
hears_applied_entry z = record { says_no = λ n u l. unless_no n _ l; says_yes = λ p l. applied_entry_heard p z l }

pub hears_reply : Hears reply_no reply_yes (λ x. got (got_reply x)) (λ r u. heard_reply r) [] Any
hears_reply = record { says_no = λ n u l. unless_no n _ l; says_yes = λ r y. reply_heard r }

pub hears_confirmation : Hears confirmation_no confirmation_yes (λ x. got (got_confirmation x)) (λ r u. heard_confirmation r) [] Any
hears_confirmation = record { says_no = λ n u l. unless_no n _ l; says_yes = λ c y. confirmation_heard c }

-- a call by its struct and its bytes
pub acts : {A R : Type 0} {xNo : ℕ → R} {xYes : A → R} {f : A → Answer} {heard : R → Answer} {Fine : A → Type 0} → Hears xNo xYes f (λ r u. heard r) [] Fine
    → (b b' : List ℕ) (d : State → Out A) (r : R) → Bytes b → ((s : State) → Clean Fine (d s)) → (r, b') ≡ call xNo xYes b d → (heard r, b') ≡ call no same b (λ s. given f (d s))
acts {R = R} {heard = heard} h b b' d r y c e = ap (λ (p : R × List ℕ). (heard p.0, p.1)) e ∙ hear_call h b d y (λ s t. c s)

pub tells : {A R : Type 0} {xNo : ℕ → R} {xYes : A → R} {f : A → Answer} {heard : R → Answer} {Fine : A → Type 0} → Hears xNo xYes f (λ r u. heard r) [] Fine
    → (b : List ℕ) (d : State → Out A) (r : R) → Bytes b → ((s : State) → Clean Fine (d s)) → r ≡ reading xNo xYes b d → ◌≡◌ {A = Answer × List ℕ} (heard r, b) (reading no same b (λ s. given f (d s)), b)
tells {heard = heard} h b d r y c e = ap (λ (a : Answer). (a, b)) (ap heard e ∙ hear_read h b d y (λ s t. c s))

-- ---- demand 1

module _ {A : Type 0} (f : A → Answer) (yes : (a : A) → accepted (f a) ≡ true) (b : List ℕ) where
  finish_kept : (o : Out A) → accepted (finish no same b (given f o)).0 ≡ false → (finish no same b (given f o)).1 ≡ b
  unfolding finish
  finish_kept (refused n) e = refl
  finish_kept (done a s) e = cases (state_fits s) (λ t. absurd (false_true (sym (rw t at e) ∙ yes a))) (λ t. rw t refl)

  call_kept : (d : State → Out A) → accepted (call no same b (λ s. given f (d s))).0 ≡ false → (call no same b (λ s. given f (d s))).1 ≡ b
  unfolding call
  call_kept d e = cases (eqb (gate b) 0) (λ t. rw t (finish_kept (d (decode b)) (rw t at e))) (λ t. rw t refl)

  start_kept : (o : Out A) → accepted (starting no same b (given f o)).0 ≡ false → (starting no same b (given f o)).1 ≡ b
  unfolding starting
  start_kept (refused n) e = refl
  start_kept (done a s) e = cases (ltb (length b) (bytes_of (capacity_of s))) (λ t. rw t refl) (λ t. rw t (finish_kept (done a s) (rw t at e)))

-- a call that is refused on an area's bytes leaves them
pub area_kept : (b : List ℕ) (c : Call) → accepted (on_area b c).0 ≡ false → (on_area b c).1 ≡ b
unfolding on_area outcome write_outcome output_outcome
area_kept b (start config limits seed) e = start_kept opened (λ a. refl) b (model.start config limits seed) e
area_kept b (step deadline buffer) e = call_kept stepped (λ a. refl) b (model.step deadline buffer) e
area_kept b (propose server) e = call_kept asked (λ a. refl) b (model.propose server) e
area_kept b (fire_timer server timer) e = call_kept opened (λ a. refl) b (model.fire_timer server timer) e
area_kept b (confirm_leadership server request) e = call_kept asked (λ a. refl) b (model.confirm_leadership server request) e
area_kept b (schedule time kind first second groups) e = call_kept act (λ a. refl) b (model.schedule time kind first second groups) e
area_kept b (write (calls.hard_state term present vote)) e = call_kept act (λ a. refl) b (model.write_hard_state_call term present vote) e
area_kept b (write (calls.put index term kind bytes)) e = call_kept act (λ a. refl) b (model.write_put_call index term kind bytes) e
area_kept b (write (calls.truncate from)) e = call_kept act (λ a. refl) b (model.write_truncate_call from) e
area_kept b (seal refusal present leader) e = call_kept sealed (λ a. refl) b (model.seal refusal present leader) e
area_kept b (output (calls.send to message entries)) e = call_kept act (λ a. refl) b (model.output_send to message entries) e
area_kept b (output (calls.set_timer timer duration)) e = call_kept act (λ a. refl) b (model.output_set_timer timer duration) e
area_kept b (output (calls.cancel_timer timer)) e = call_kept act (λ a. refl) b (model.output_cancel_timer timer) e
area_kept b (output (calls.apply index kind bytes)) e = call_kept act (λ a. refl) b (model.output_apply index kind bytes) e
area_kept b (output (calls.confirmed request index)) e = call_kept act (λ a. refl) b (model.output_confirmed request index) e
area_kept b (output (calls.lost request)) e = call_kept act (λ a. refl) b (model.output_lost request) e
area_kept b (end role term present leader commit) e = call_kept opened (λ a. refl) b (model.end role term present leader commit) e
area_kept b check_log_matching e = call_kept act (λ a. refl) b model.check_log_matching_call e
area_kept b check_durability e = call_kept act (λ a. refl) b model.check_durability_call e
area_kept b (read r) e = refl

-- a refusal fills no buffer
nothing_filled : (z : List ℕ) (a : Answer) → accepted a ≡ false → filled z a ≡ z
unfolding numbers.bytes_of
nothing_filled z (no n) e = refl
nothing_filled z acted e = absurd (false_true (sym e))
nothing_filled z (opened o) e = absurd (false_true (sym e))
nothing_filled z (stepped s) e = absurd (false_true (sym e))
nothing_filled z (asked x) e = absurd (false_true (sym e))
nothing_filled z (sealed s) e = absurd (false_true (sym e))
nothing_filled z (got x) e = absurd (false_true (sym e))

-- the lent buffer after a call that is refused
pub buffer_kept : {b z b' z' : List ℕ} {c : Call} {a : Answer} → Made b z b' z' c a → accepted (on_area b c).0 ≡ false → z' ≡ z
unfolding on_area
buffer_kept {b} {z} (made_step {deadline = deadline} e ez) k = ez ∙ sym (step_filled b z deadline) ∙ nothing_filled z _ k
buffer_kept {b} {z} (made_read_entry {server = server} {index = index} e ez) k = ez ∙ sym (entry_filled b z server index) ∙ nothing_filled z _ k
buffer_kept {b} {z} (made_read_applied_entry {index = index} e ez) k = ez ∙ sym (applied_filled b z index) ∙ nothing_filled z _ k
buffer_kept (made_start e) k = refl
buffer_kept (made_propose e) k = refl
buffer_kept (made_fire_timer e) k = refl
buffer_kept (made_confirm_leadership e) k = refl
buffer_kept (made_schedule e) k = refl
buffer_kept (made_write_hard_state e) k = refl
buffer_kept (made_write_put e) k = refl
buffer_kept (made_write_truncate e) k = refl
buffer_kept (made_seal e) k = refl
buffer_kept (made_output_send e) k = refl
buffer_kept (made_output_set_timer e) k = refl
buffer_kept (made_output_cancel_timer e) k = refl
buffer_kept (made_output_apply e) k = refl
buffer_kept (made_output_confirmed e) k = refl
buffer_kept (made_output_lost e) k = refl
buffer_kept (made_end e) k = refl
buffer_kept (made_check_log_matching e) k = refl
buffer_kept (made_check_durability e) k = refl
buffer_kept (made_read_hard_state e) k = refl
buffer_kept (made_read_log e) k = refl
buffer_kept (made_read_applied e) k = refl
buffer_kept (made_read_reply e) k = refl
buffer_kept (made_read_confirmation e) k = refl
buffer_kept (made_other_read r) k = refl

-- ---- demand 3

-- Exported calls made one after the other on one area, each getting the bytes as the last one left them, with what was heard of each.
pub data Makes : List ℕ → List (Call × Answer) → Type 0 where
  none_made : {b : List ℕ} → Makes b []
  then_made : {b z b' z' : List ℕ} {c : Call} {a : Answer} {more : List (Call × Answer)} → Bytes b → Made b z b' z' c a → Makes b' more → Makes b ((c, a) ∷ more)

-- Every accepted call is right by the book, which is told of every call before it.
unfoldable pub AllRight : Book → List (Call × Answer) → Type 0
AllRight n [] = Unit {0}
AllRight n (x ∷ xs) = (accepted x.1 ≡ true → Right n x.0 x.1) × AllRight (note n x.0 (told_of x.1)) xs
