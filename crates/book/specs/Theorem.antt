-- Demand 3 as a claim about lists of calls, and what its proof rests on; the theorems are in proofs/Theorem.antt. Assumes nothing.
use Rattle.std.specs.Prelude.{◌≡◌, refl, Bool, true, ℕ, leb, Option}
use Rattle.std.proofs.Common.{ap}
use Rattle.config.specs.declared.SimConfig.{SimConfig}
use Rattle.config.specs.declared.Limits.{Limits}
use Rattle.units.specs.Types.{Entry}
use Rattle.storage.specs.declared.HardState.{HardState}
use Rattle.raft_log.specs.Log.{count, last_index, gaps}
use Rattle.model.specs.State.{State}
use Rattle.model.specs.Calls.{done, in_cluster}
use Rattle.model.specs.Reads as reads
use Rattle.model.specs.Reads.{LogRead, named}
use Rattle.model.specs.Outcome.{WriteCall, ReadCall, read_status, read_hard_state, read_log, read_entry, read_leader, read_applied, read_applied_entry, read_metrics, read_sent_by, read_reply, read_confirmation, read_violation, read_run, read_settings, Call, start, write, read, Answer, no, got, got_hard_state, got_log, got_entry, outcome, write_outcome, read_outcome}
use Rattle.model.specs.Outcome as calls
use Rattle.claims.specs.Claim.{Claim, accepted}
use Rattle.book.specs.Book.{Book, Found, count_up_to, note, told_of, so_far, Right}
use Rattle.book.specs.Disks.{agrees_count}
use Rattle.book.specs.Invariant.{Inv}
use Rattle.book.specs.Outcomes.{given_right}
use Rattle.book.specs.Answered.{fine_start, fine_write_hard_state, fine_write_put, fine_write_truncate}
use Rattle.book.specs.Reads.{finds, fine_read_status, fine_read_hard_state, fine_read_log, fine_read_entry, fine_read_leader, fine_read_applied, fine_read_applied_entry, fine_read_metrics, fine_read_sent_by, fine_read_reply, fine_read_confirmation, fine_read_violation, fine_read_run, fine_read_settings}

-- ---- the claim

-- What a server finds can be read: the reads of hard state, log and every entry are accepted, with a buffer that is long enough, and answer what the book says.
pub record Readable (f : Found) (last : ℕ) (s : State) (server : ℕ) : Type 0 where
  pub hard_state : outcome (read (read_hard_state server)) s ≡ done (got (got_hard_state f.hard_state)) s
  pub log : (l : LogRead) × (outcome (read (read_log server)) s ≡ done (got (got_log l)) s) × (l.entries ≡ count_up_to last f.log)
  pub entry : (index buffer : ℕ) → leb s.limits.payload buffer ≡ true → outcome (read (read_entry server index buffer)) s ≡ done (got (got_entry (f.log index))) s

-- Demand 3. Of each call: an accepted one is right by the book; and after any call the reads of every server in the cluster are accepted and answer the book.
abbrev pub demand3 : Claim
demand3 = record {
  Notes = Book;
  note = λ b s c a t. note b c (told_of a);
  Right = λ b s c a t.
      (accepted a ≡ true → Right b c a)
      × ((server : ℕ) → in_cluster t server ≡ true → Readable (so_far (note b c (told_of a)) server) (note b c (told_of a)).last_index t server);
}

-- ---- its proof

-- every server in the cluster is read as the book says
pub readable : (b : Book) (s : State) → Inv b s.phase s → (server : ℕ) → in_cluster s server ≡ true → Readable (so_far b server) b.last_index s server
unfolding outcome read_outcome reads.read_hard_state reads.read_log reads.read_entry
readable b s i server k =
    let a = finds b s i server k in
    let log = (named s server).storage.current.log in
    record {
      hard_state = rw k (ap (λ (h : HardState). done (got (got_hard_state h)) s) a.hard_state);
      log = (record { entries = count log; last = last_index log; missing = gaps log }, rw k, agrees_count a);
      entry = λ index buffer l. rw (k, l) (ap (λ (e : Option Entry). done (got (got_entry e)) s) (a.log index));
    }

-- What is to be shown of a call that is accepted.
abbrev pub Goes : Book → Call → Answer → State → Type 0
Goes b c a t = (accepted a ≡ true → Right b c a) × Inv (note b c (told_of a)) t.phase t

module _ (b : Book) (s : State) (i : Inv b s.phase s) where
  pub goes_write : (w : WriteCall) (a : Answer) (t : State) → write_outcome w s ≡ done a t → Goes b (write w) a t
  unfolding write_outcome
  goes_write (calls.hard_state term present vote) a t e = given_right (λ _. refl) (fine_write_hard_state b s i term present vote) e
  goes_write (calls.put index term kind bytes) a t e = given_right (λ _. refl) (fine_write_put b s i index term kind bytes) e
  goes_write (calls.truncate from) a t e = given_right (λ _. refl) (fine_write_truncate b s i from) e

  pub goes_read : (r : ReadCall) (a : Answer) (t : State) → read_outcome r s ≡ done a t → Goes b (read r) a t
  unfolding read_outcome
  goes_read (read_status server) a t e = given_right (λ _. refl) (fine_read_status b s i server) e
  goes_read (read_hard_state server) a t e = given_right (λ _. refl) (fine_read_hard_state b s i server) e
  goes_read (read_log server) a t e = given_right (λ _. refl) (fine_read_log b s i server) e
  goes_read (read_entry server index buffer) a t e = given_right (λ _. refl) (fine_read_entry b s i server index buffer) e
  goes_read read_leader a t e = given_right (λ _. refl) (fine_read_leader b s i) e
  goes_read (read_applied server) a t e = given_right (λ _. refl) (fine_read_applied b s i server) e
  goes_read (read_applied_entry index buffer) a t e = given_right (λ _. refl) (fine_read_applied_entry b s i index buffer) e
  goes_read read_metrics a t e = given_right (λ _. refl) (fine_read_metrics b s i) e
  goes_read (read_sent_by server) a t e = given_right (λ _. refl) (fine_read_sent_by b s i server) e
  goes_read (read_reply place) a t e = given_right (λ _. refl) (fine_read_reply b s i place) e
  goes_read (read_confirmation place) a t e = given_right (λ _. refl) (fine_read_confirmation b s i place) e
  goes_read (read_violation place) a t e = given_right (λ _. refl) (fine_read_violation b s i place) e
  goes_read read_run a t e = given_right (λ _. refl) (fine_read_run b s i) e
  goes_read read_settings a t e = given_right (λ _. refl) (fine_read_settings b s i) e

-- a start, whatever was before
pub goes_start : (b : Book) (s t : State) (config : SimConfig) (limits : Limits) (seed : ℕ) (a : Answer) → outcome (start config limits seed) s ≡ done a t → Goes b (start config limits seed) a t
unfolding outcome
goes_start b s t config limits seed a e = given_right (λ _. refl) (fine_start b config limits seed) e

module _ (fits : State → Bool) where
  pub begun : (b : Book) (s t : State) (config : SimConfig) (limits : Limits) (seed : ℕ) (a : Answer) → outcome (start config limits seed) s ≡ done a t → fits t ≡ true
      → demand3.Right b s (start config limits seed) a t × Inv (note b (start config limits seed) (told_of a)) t.phase t
  begun b s t config limits seed a e g =
      let x = goes_start b s t config limits seed a e in
      ((x.0, readable (note b (start config limits seed) (told_of a)) t x.1), x.1)
