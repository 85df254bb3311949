-- Demand 3's sentence as a claim about lists of calls: whenever a server starts, first or again, it finds what the book says, got by replaying on an empty log, in order, the
-- writes of its finished inputs since the latest fresh start. Here is what its proof rests on; the theorem is in proofs/Sentence.antt. Assumes nothing.
use Rattle.std.specs.Prelude.{◌≡◌, Bool, List, [], ℕ, ◌+◌, ◌<◌, eqb, length, Option, None, Some}
use Rattle.std.proofs.Math.Path.{refl}
use Rattle.std.proofs.Common.{sym, ap, subst, ◌∙◌, arith, ltb-true, le-leb}
use Rattle.std.proofs.Math.Bool.{true, false}
use Rattle.laws.specs.Bools.{pick, and_left}
use Rattle.laws.proofs.BoolLaws.{and_both}
use Rattle.config.specs.declared.SimConfig.{SimConfig}
use Rattle.config.specs.declared.Limits.{Limits}
use Rattle.units.specs.declared.NodeId.{NodeId}
use Rattle.faults.specs.Fault as faults
use Rattle.storage.specs.Storage.{Write}
use Rattle.model.specs.State.{State, Phase, closed, writing, sending, id_of}
use Rattle.model.specs.Simulation.{no_input, open_start}
use Rattle.model.specs.Calls.{done, in_cluster}
use Rattle.model.specs.Fits.{state_fits, phase_fits}
use Rattle.model.specs.Outcome.{Call, start, step, propose, fire_timer, confirm_leadership, schedule, write, seal, output, end, check_log_matching, check_durability, read, Answer, no, acted, opened, stepped, asked, sealed, got, outcome}
use Rattle.state.specs.FitsBy.{fits_test, server_count}
use Rattle.claims.specs.Claim.{Claim, accepted}
use Rattle.book.specs.Book.{Book, Found, unsealed, found, do_writes, Ending, by_sync, by_cut, whose, opening_of, sealed_by, told_of, enter, note, Right}
use Rattle.book.specs.Invariant.{Phased, Inv}
use Rattle.book.specs.Theorem.{Readable, readable, Goes, goes_start}

-- Whenever a call opens a server's start, the reads of hard state, log and every entry of that server are accepted and answer the book.
abbrev pub finding : Claim
finding = record {
  Notes = Book;
  note = λ b s c a t. note b c (told_of a);
  Right = λ b s c a t. (server : NodeId) (incarnation seed : ℕ) → opening_of a ≡ open_start server incarnation seed
      → Readable (found (note b c (told_of a)) server) (note b c (told_of a)).last_index t server.0;
}

-- ---- its proof

-- The book of an input that has just opened: it is the server's, and no write waits.
record JustOpened (b : Book) (server : NodeId) : Type 0 where
  input : b.input ≡ unsealed
  whom : b.server ≡ server
  none_waits : b.waiting ≡ []

module _ {server : NodeId} {incarnation seed : ℕ} where
  pub no_start : no_input ≡ open_start server incarnation seed → ⊥
  no_start e = let z : ◌≡◌ {A = ℕ} 0 1 = cc in absurd (omega arith)

  -- an answer that opens an input accepts its call
  opens_accepted : (a : Answer) → opening_of a ≡ open_start server incarnation seed → accepted a ≡ true
  opens_accepted (no number) e = absurd (no_start e)
  opens_accepted acted e = absurd (no_start e)
  opens_accepted (opened next) e = refl
  opens_accepted (stepped s) e = refl
  opens_accepted (asked a) e = refl
  opens_accepted (sealed s) e = refl
  opens_accepted (got x) e = absurd (no_start e)

  just_opened : (b : Book) (c : Call) (a : Answer) → opening_of a ≡ open_start server incarnation seed → Right b c a → JustOpened (enter b c (Some server) (sealed_by a)) server
  just_opened b (start config limits s) a e r = record { input = refl; whom = refl; none_waits = refl }
  just_opened b (step deadline buffer) a e r = record { input = refl; whom = refl; none_waits = r.0 }
  just_opened b (propose s) a e r = record { input = refl; whom = refl; none_waits = r }
  just_opened b (fire_timer s timer) a e r = record { input = refl; whom = refl; none_waits = r }
  just_opened b (confirm_leadership s request) a e r = record { input = refl; whom = refl; none_waits = r }
  just_opened b (end role term present leader commit) a e r = record { input = refl; whom = refl; none_waits = r }
  just_opened b (seal refusal present leader) a e r = by (sealed_by a) (λ n. no_start (sym (r n) ∙ e))
    where
      by : (how : Option Ending) → ((how ≡ Some by_cut → ⊥) → ⊥) → JustOpened (enter b (seal refusal present leader) (Some server) how) server
      by None k = absurd (k (λ q. let z : ◌≡◌ {A = ℕ} 0 1 = cc in absurd (omega arith)))
      by (Some by_sync) k = absurd (k (λ q. let z : ◌≡◌ {A = ℕ} 0 1 = cc in absurd (omega arith)))
      by (Some by_cut) k = record { input = refl; whom = refl; none_waits = refl }
  just_opened b (schedule time kind first second groups) a e r = absurd (no_start (sym r ∙ e))
  just_opened b (write w) a e r = absurd (no_start (sym r ∙ e))
  just_opened b (output o) a e r = absurd (no_start (sym r.1 ∙ e))
  just_opened b check_log_matching a e r = absurd (no_start (sym r ∙ e))
  just_opened b check_durability a e r = absurd (no_start (sym r ∙ e))
  just_opened b (read c) a e r = absurd (no_start (sym r.1 ∙ e))

-- the server of an open input is in the cluster
open_known : (b : Book) (t : State) → Inv b t.phase t → b.input ≡ unsealed → state_fits t ≡ true → in_cluster t b.server.0 ≡ true
unfolding faults.in_cluster
open_known b t i u f = by t.phase i.phased (fits_test t f 19)
  where
    by : (p : Phase) → Phased b p → phase_fits t.config t.limits p ≡ true → in_cluster t b.server.0 ≡ true
    by closed h k = let z : ◌≡◌ {A = ℕ} 0 1 = cc in absurd (omega arith)
    by (sending slot input verdict owed) h k = let z : ◌≡◌ {A = ℕ} 0 1 = cc in absurd (omega arith)
    by (writing slot input owed) h k = known slot h.1 (ltb-true slot t.config.servers (and_left _ _ k))
      where
        known : (slot : ℕ) → b.server ≡ id_of slot → slot < t.config.servers → in_cluster t b.server.0 ≡ true
        known slot e l =
            let id : b.server.0 ≡ slot + 1 = ap (λ (n : NodeId). n.0) e in
            and_both _ _ (le-leb 1 b.server.0 (omega arith)) (le-leb b.server.0 (length t.servers) (omega (arith, server_count t f)))

-- what is read of a server of which no write waits is what it finds
module _ (b : Book) (t : State) (server : NodeId) (i : Inv b t.phase t) (f : state_fits t ≡ true) (j : JustOpened b server) where
  written_none : (u : Bool) (ws : List Write) → ws ≡ [] → do_writes (found b b.server) (pick u ws []) ≡ found b b.server
  unfolding do_writes
  written_none true ws e = rw e
  written_none false ws e = refl

  found_read : Readable (found b server) b.last_index t server.0
  found_read =
      subst (λ (v : NodeId). Readable (found b v) b.last_index t v.0) j.whom
      (subst (λ (x : Found). Readable x b.last_index t b.server.0) (written_none (eqb b.server.0 b.server.0) b.waiting j.none_waits)
      (readable b t i b.server.0 (open_known b t i j.input f)))

-- a call that goes and opens a start
pub opened_found : (b : Book) (t : State) (c : Call) (a : Answer) → Goes b c a t → state_fits t ≡ true → (server : NodeId) (incarnation seed : ℕ) → opening_of a ≡ open_start server incarnation seed
    → Readable (found (note b c (told_of a)) server) (note b c (told_of a)).last_index t server.0
unfolding note
opened_found b t c a g f server incarnation seed e =
    let yes : accepted a ≡ true = opens_accepted a e in
    let who : whose (opening_of a) ≡ Some server = ap whose e in
    let j : JustOpened (enter b c (Some server) (sealed_by a)) server = just_opened b c a e (g.0 yes) in
    let n : note b c (told_of a) ≡ enter b c (Some server) (sealed_by a) = rw (yes, who) in
    found_read (note b c (told_of a)) t server g.1 f (subst (λ (d : Book). JustOpened d server) (sym n) j)

pub begun : (b : Book) (s t : State) (config : SimConfig) (limits : Limits) (seed : ℕ) (a : Answer) → outcome (start config limits seed) s ≡ done a t → state_fits t ≡ true
    → finding.Right b s (start config limits seed) a t × Inv (note b (start config limits seed) (told_of a)) t.phase t
begun b s t config limits seed a e g = let x = goes_start b s t config limits seed a e in (opened_found b t (start config limits seed) a x g, x.1)
