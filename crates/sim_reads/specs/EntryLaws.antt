-- What the proof of the read of an entry cites. Assumes nothing.
use Rattle.std.specs.Prelude.{◌≡◌, refl, Bool, true, ℕ, ◌-◌, ◌≤◌, ◌<◌, length, Option, None, Some}
use Rattle.std.proofs.Common.{sym, ◌∙◌}
use Rattle.std.proofs.Math.Path.{ap}
use mathlib.Core.List.{List}
use native.Mathlib.Omega.{arith}
use Rattle.std.proofs.Math.Dec.{leb}
use Rattle.std.proofs.Math.Seq.{sets}
use borrow.Author.Tests.{le-leb, lt-leb}
use Rattle.laws.specs.Bools.{pick, cases, ◌and◌}
use Rattle.units.specs.Types.{Payload, noop, command, Entry, shape_of}
use Rattle.layout.specs.Payload.{body_of}
use Rattle.raft_log.specs.Log.{entry_at}
use Rattle.raft_log.specs.Places.{place_of, place_at, bytes_in}
use Rattle.raft_log.specs.declared.EntryShape.{EntryShape}
use Rattle.units.specs.declared.PayloadShape.TheVariants.{Noop, Command}
use Rattle.model.specs.State.{State, server_at}
use Rattle.model.specs.Calls.{Out, refused, done, in_cluster}
use Rattle.model.specs.Reads as reads
use Rattle.model.specs.Outcome.{read_entry, got_entry, Answer, no, got, given, read_outcome}
use Rattle.state.specs.declared.Capacity.{Capacity}
use Rattle.state.specs.declared.Gate.{Gate}
use Rattle.state.specs.Decode.{decode}
use Rattle.state.specs.Changes.{Gated}
use Rattle.state.specs.Exits.{read_shut, read_refused, read_answered}
use Rattle.claims.specs.OnArea as claims
use Rattle.answers.specs.declared.EntryAnswer.{EntryAnswer}
use Rattle.answers.specs.Answers.{payload_kind, commandBytes, entry_no, entry_yes}
use Rattle.answers.specs.Numbers.{entry_bytes, reading_bytes, bytes_of}
use Rattle.state_disk.specs.Disks.{log_at, ReadsEntryAt}
use Rattle.sim_reads.specs.declared.ServerAsked.{ServerAsked}
use Rattle.sim_reads.specs.Servers.{server_code, AsksServer, shape_given, entry_given, EntryRead}
use Rattle.sim_reads.specs.Laws.{cluster_known}

-- ---- in numbers

pub entry_absent : (o : Option EntryShape) (r : EntryAnswer) → o ≡ None → r ≡ entry_no 0 → r ≡ entry_given o
unfolding entry_given
entry_absent o r e q = q ∙ ap entry_given (sym e)

pub entry_noop : (o : Option EntryShape) (d : EntryShape) → o ≡ Some d → d.payload ≡ Noop
    → record { refusal = 0; present = 1; term = d.term.0; kind = 0; length = 0 } ≡ entry_given o
unfolding entry_given
entry_noop o d e f = ap (shape_given d.term) (sym f) ∙ ap entry_given (sym e)

pub entry_command : (o : Option EntryShape) (d : EntryShape) (n : ℕ) → o ≡ Some d → d.payload ≡ Command n
    → record { refusal = 0; present = 1; term = d.term.0; kind = 1; length = n } ≡ entry_given o
unfolding entry_given
entry_command o d n e f = ap (shape_given d.term) (sym f) ∙ ap entry_given (sym e)

entry_same : (o : Option Entry) → entry_given (place_of o) ≡ entry_yes o
unfolding entry_given
entry_same None = refl
entry_same (Some e) = by e.payload
  where
    by : (p : Payload) → shape_given e.term (shape_of p) ≡ record { refusal = 0; present = 1; term = e.term.0; kind = payload_kind p; length = length (commandBytes p) }
    by noop = refl
    by (command bs) = refl

bytes_same : (o : Option Entry) → bytes_in o ≡ entry_bytes o
bytes_same None = refl
bytes_same (Some e) = by e.payload
  where
    by : (p : Payload) → body_of p ≡ commandBytes p
    by noop = refl
    by (command bs) = refl

-- ---- the exits

module _ (b : List ℕ) (g : Gate) (server index : ℕ) (z : List ℕ) (q : Gated b g) where
  -- the read's definition, and the same with its answer as data
  abbrev wanted : State → Out (Option Entry)
  wanted = reads.read_entry server index (length z)

  abbrev told : State → Out Answer
  told = read_outcome (read_entry server index (length z))

  pub entry_shut : (r : EntryAnswer) → 0 < g.refusal → r ≡ entry_no g.refusal → EntryRead b server index z z r
  unfolding bytes_of
  entry_shut r n e = record {
    answer = read_shut entry_no entry_yes b wanted g q r n e;
    buffer = ap (λ (a : Answer). sets z 0 (bytes_of a)) (read_shut no claims.same b told g q (no g.refusal) n refl);
  }

  module _ (y : g.refusal ≤ 0) where
    stops : (n : ℕ) (r : EntryAnswer) → wanted (decode b) ≡ refused n → r ≡ entry_no n → EntryRead b server index z z r
    unfolding bytes_of read_outcome
    stops n r k e = record {
      answer = read_refused entry_no entry_yes b wanted g q y r n k e;
      buffer = ap (λ (a : Answer). sets z 0 (bytes_of a)) (read_refused no claims.same b told g q y (no n) n (ap (given (λ x. got (got_entry x))) k) refl);
    }

    answers : (x : Option Entry) (z' : List ℕ) (r : EntryAnswer) → wanted (decode b) ≡ done x (decode b) → z' ≡ sets z 0 (entry_bytes x) → r ≡ entry_yes x → EntryRead b server index z z' r
    unfolding bytes_of reading_bytes read_outcome
    answers x z' r k ez e = record {
      answer = read_answered entry_no entry_yes b wanted g q y r x (decode b) k e;
      buffer = ez ∙ ap (λ (a : Answer). sets z 0 (bytes_of a)) (read_answered no claims.same b told g q y (got (got_entry x)) (got (got_entry x)) (decode b) (ap (given (λ x. got (got_entry x))) k) refl);
    }

    module _ (o : ServerAsked) (a : AsksServer g.capacity server o) where
      passed : g.refusal ≡ 0
      passed = omega arith

      pub entry_seven : (r : EntryAnswer) → 0 < o.code → r ≡ entry_no o.code → EntryRead b server index z z r
      unfolding server_code reads.read_entry
      entry_seven r l e =
          cases (leb 1 server and leb server g.capacity.servers)
          (λ t. let w : o.code ≡ 0 = a.code ∙ ap (λ (u : Bool). pick u 0 7) t in absurd (omega arith))
          (λ t. stops 7 r (rw (cluster_known b g server q y ∙ t) refl) (e ∙ ap entry_no (a.code ∙ ap (λ (u : Bool). pick u 0 7) t)))

      module _ (l : o.code ≤ 0) where
        known : in_cluster (decode b) server ≡ true
        unfolding server_code
        known =
            cases (leb 1 server and leb server g.capacity.servers)
            (λ t. cluster_known b g server q y ∙ t)
            (λ t. let w : o.code ≡ 7 = a.code ∙ ap (λ (u : Bool). pick u 0 7) t in absurd (omega arith))

        limit : g.capacity.limits.payload ≡ (decode b).limits.payload
        limit = ap (λ (G : Capacity). G.limits.payload) (q.capacity passed)

        pub entry_nine : (r : EntryAnswer) → length z < g.capacity.limits.payload → r ≡ entry_no 9 → EntryRead b server index z z r
        unfolding reads.read_entry
        entry_nine r i e = stops 9 r (rw (known, lt-leb (decode b).limits.payload (length z) (omega (arith, limit))) refl) e

        pub entry_read : (p : Option EntryShape) (z' : List ℕ) (r : EntryAnswer) → g.capacity.limits.payload ≤ length z → ReadsEntryAt b g.capacity o.slot (record { 0 = index }) p z z'
            → r ≡ entry_given p → EntryRead b server index z z' r
        unfolding reads.read_entry log_at place_at
        entry_read p z' r i x e =
            let s : State = decode b in
            let c : o.code ≡ 0 = omega arith in
            let at : o.slot ≡ server - 1 = a.slot c in
            let found : Option Entry = entry_at (server_at s (server - 1)).storage.current.log index in
            answers found z' r (rw (known, le-leb s.limits.payload (length z) (omega (arith, limit))) refl)
            (x.copied s (q.area passed) (q.capacity passed)
            ∙ ap (λ (k : ℕ). sets z 0 (bytes_in (entry_at (server_at s k).storage.current.log index))) at
            ∙ ap (λ (v : List ℕ). sets z 0 v) (bytes_same found))
            (e ∙ ap entry_given (x.place.to s (q.area passed) (q.capacity passed) ∙ ap (λ (k : ℕ). place_of (entry_at (server_at s k).storage.current.log index)) at) ∙ entry_same found)
