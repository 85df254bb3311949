-- The outcome of every read is fine: a server finds what the book says, and what is handed back was handed over. Assumes nothing.
use Rattle.std.specs.Prelude.{◌≡◌, refl, Bool, true, false, List, [], leb, ltb, eqb}
use Rattle.std.proofs.Common.{sym, ap, ◌∙◌, arith}
use Prim.Native.Nat.{ℕ, zero, suc, ◌+◌, ◌-◌, ◌^◌, ◌≤◌}
use Rattle.std.proofs.Math.ListN.{length}
use borrow.Author.Tests.{eqb-true, eqb-false, eq-eqb, ne_eqb, leb-true}
use Rattle.laws.specs.Bools.{pick, cases, and_left}
use Rattle.laws.proofs.BoolLaws.{and_right}
use Rattle.laws.specs.Lists.{at}
use Rattle.laws.specs.ListLaws.{each_get, each_at}
use Rattle.laws.specs.Decides.{false_true}
use Rattle.units.specs.declared.NodeId.{NodeId}
use Rattle.raft_log.specs.Log.{count, entry_at}
use Rattle.model.specs.State.{State, new_server, Phase, closed, writing, sending}
use Rattle.faults.specs.Fault as faults
use Rattle.storage.specs.Storage.{Write}
use Rattle.model.specs.Calls.{in_cluster}
use Rattle.model.specs.Reads as reads
use Rattle.model.specs.Reads.{named}
use Rattle.model.specs.Outcome.{read_status, read_hard_state, read_log, read_entry, read_leader, read_applied, read_applied_entry, read_metrics, read_sent_by, read_reply, read_confirmation, read_violation, read_run, read_settings, read, got, got_status, got_hard_state, got_log, got_entry, got_leader, got_applied, got_applied_entry, got_metrics, got_sent_by, got_reply, got_confirmation, got_violation, got_run, got_settings}
use Rattle.book.specs.Book.{Book, found, so_far}
use Rattle.book.specs.Disks.{Agrees, agrees_count}
use Rattle.book.specs.Stores.{stored_current}
use Rattle.book.specs.Handed.{ReplyGiven, ConfirmationGiven, PayloadGiven}
use Rattle.book.specs.Holds.{ServerHolds, PlaceHolds}
use Rattle.book.specs.Invariant.{Phased, waits_in, Inv, id_slot}
use Rattle.book.specs.Outcomes.{Fine, fine, fine_ask}

no_writes : (t : Bool) → ◌≡◌ {A = List Write} (pick t [] []) []
no_writes true = refl
no_writes false = refl

-- the book's writes that wait for a server are those that wait at its place
waits_are : (b : Book) (p : Phase) (id : ℕ) → 1 ≤ id → Phased b p → waits_in b p (id - 1) ≡ pick (eqb id b.server.0) b.waiting []
waits_are b closed id l h = rw h.1 (sym (no_writes (eqb id b.server.0)))
waits_are b (sending slot input verdict owed) id l h = rw h.2 (sym (no_writes (eqb id b.server.0)))
waits_are b (writing slot input owed) id l h =
    let e : b.server.0 ≡ slot + 1 = ap (λ (n : NodeId). n.0) h.1 in
    cases (eqb (id - 1) slot)
    (λ t. rw (t, eq-eqb id b.server.0 (omega (arith, eqb-true (id - 1) slot t, e))))
    (λ t. rw (t, ne_eqb id b.server.0 (λ z. eqb-false (id - 1) slot t (omega (arith, e)))))

module _ (b : Book) (s : State) (i : Inv b s.phase s) where
  -- ---- a server in the cluster

  module _ (id : ℕ) (known : in_cluster s id ≡ true) where
    low : 1 ≤ id
    unfolding faults.in_cluster
    low = leb-true 1 id (and_left _ _ known)

    server_holds : ServerHolds b.last_index b.given (record { 0 = id }) (found b (record { 0 = id })) (waits_in b s.phase (id - 1))
        (named s id).storage (named s id).next_apply
    unfolding faults.in_cluster
    server_holds =
        let l = low in
        let high : id ≤ length s.servers = leb-true id (length s.servers) (and_right _ _ known) in
        rw (id_slot (record { 0 = id }) l)
        (each_get (PlaceHolds b.last_index (found b) b.given (waits_in b s.phase)) s.servers i.held.stores (id - 1) (new_server 0) (omega arith))

    -- what it has written so far is what the book says
    pub finds : Agrees b.last_index (named s id).storage.current (so_far b id)
    finds = stored_current (rw (waits_are b s.phase id low i.phased) at server_holds.stored)

  pub fine_read_hard_state : (server : ℕ) → Fine (λ x. got (got_hard_state x)) b (read (read_hard_state server)) (reads.read_hard_state server s)
  unfolding reads.read_hard_state
  fine_read_hard_state server =
      fine_ask (in_cluster s server) 7
      (λ k. fine ((λ h e. let same : h ≡ (named s server).storage.current.hard_state = cc in same ∙ (finds server k).hard_state), refl) i)

  pub fine_read_log : (server : ℕ) → Fine (λ x. got (got_log x)) b (read (read_log server)) (reads.read_log server s)
  unfolding reads.read_log
  fine_read_log server =
      fine_ask (in_cluster s server) 7
      (λ k. fine ((λ l e. let same : l.entries ≡ count (named s server).storage.current.log = cc in same ∙ agrees_count (finds server k)), refl) i)

  pub fine_read_entry : (server index buffer : ℕ) → Fine (λ x. got (got_entry x)) b (read (read_entry server index buffer)) (reads.read_entry server index buffer s)
  unfolding reads.read_entry
  fine_read_entry server index buffer =
      fine_ask (in_cluster s server) 7 (λ k. fine_ask (leb s.limits.payload buffer) 9
      (λ _. fine ((λ x e. let same : x ≡ entry_at (named s server).storage.current.log index = cc in same ∙ (finds server k).log index), refl) i))

  pub fine_read_applied : (server : ℕ) → Fine (λ x. got (got_applied x)) b (read (read_applied server)) (reads.read_applied server s)
  unfolding reads.read_applied
  fine_read_applied server =
      fine_ask (in_cluster s server) 7
      (λ k. fine ((λ n e. let same : (named s server).next_apply - 1 ≡ suc n = cc in (server_holds server k).next n (omega arith)), refl) i)

  -- ---- what was kept

  pub fine_read_applied_entry : (index buffer : ℕ)
      → Fine (λ x. got (got_applied_entry x)) b (read (read_applied_entry index buffer)) (reads.read_applied_entry index buffer s)
  unfolding reads.read_applied_entry
  fine_read_applied_entry zero buffer = fine_ask (leb s.limits.payload buffer) 9 (λ _. fine ((λ p e. absurd (false_true (cc))), refl) i)
  fine_read_applied_entry (suc place) buffer =
      fine_ask (leb s.limits.payload buffer) 9
      (λ _. fine ((λ p e. each_at (λ k. PayloadGiven b.given (record { 0 = suc k })) s.checker.applied i.held.firsts place p (cc)), refl) i)

  pub fine_read_reply : (place : ℕ) → Fine (λ x. got (got_reply x)) b (read (read_reply place)) (reads.read_reply place s)
  unfolding reads.read_reply
  fine_read_reply place = fine {a = at s.replies place} ((λ r e. each_at (λ _. ReplyGiven b.given) s.replies i.held.replied place r (cc)), refl) i

  pub fine_read_confirmation : (place : ℕ) → Fine (λ x. got (got_confirmation x)) b (read (read_confirmation place)) (reads.read_confirmation place s)
  unfolding reads.read_confirmation
  fine_read_confirmation place = fine {a = at s.confirmations place} ((λ r e. each_at (λ _. ConfirmationGiven b.given) s.confirmations i.held.answers place r (cc)), refl) i

  -- ---- reads of which the book tells nothing

  pub fine_read_status : (server : ℕ) → Fine (λ x. got (got_status x)) b (read (read_status server)) (reads.read_status server s)
  unfolding reads.read_status
  fine_read_status server = fine_ask (in_cluster s server) 7 (λ _. fine (tt, refl) i)

  pub fine_read_leader : Fine (λ x. got (got_leader x)) b (read read_leader) (reads.read_leader s)
  unfolding reads.read_leader
  fine_read_leader = fine (tt, refl) i

  pub fine_read_metrics : Fine (λ x. got (got_metrics x)) b (read read_metrics) (reads.read_metrics s)
  unfolding reads.read_metrics
  fine_read_metrics = fine_ask (ltb (reads.discarded_by s.servers) (2 ^ 64)) 10 (λ _. fine (tt, refl) i)

  pub fine_read_sent_by : (server : ℕ) → Fine (λ x. got (got_sent_by x)) b (read (read_sent_by server)) (reads.read_sent_by server s)
  unfolding reads.read_sent_by
  fine_read_sent_by server = fine_ask (in_cluster s server) 7 (λ _. fine (tt, refl) i)

  pub fine_read_violation : (place : ℕ) → Fine (λ x. got (got_violation x)) b (read (read_violation place)) (reads.read_violation place s)
  unfolding reads.read_violation
  fine_read_violation place = fine (tt, refl) i

  pub fine_read_run : Fine (λ x. got (got_run x)) b (read read_run) (reads.read_run s)
  unfolding reads.read_run
  fine_read_run = fine (tt, refl) i

  pub fine_read_settings : Fine (λ x. got (got_settings x)) b (read read_settings) (reads.read_settings s)
  unfolding reads.read_settings
  fine_read_settings = fine (tt, refl) i
