-- What the proofs of the reads of a run's report cite. Assumes nothing.
use Rattle.std.specs.Prelude.{◌≡◌, Bool, false, not, ℕ, ◌^◌, ◌≤◌, ◌<◌, length, get_or, Option, None, Some, [], ◌∷◌}
use Rattle.std.proofs.Math.Path.{refl, sym, ap, ap₂}
use Rattle.std.proofs.Common.{◌∙◌, arith}
use Rattle.std.proofs.Math.Bool.{true}
use mathlib.Core.List.{List}
use Rattle.std.proofs.Math.Dec.{ltb}
use Rattle.std.proofs.Math.Seq.{sets}
use borrow.Author.Tests.{le-leb, lt-leb, not-true, not-false}
use Rattle.laws.specs.Bools.{pick}
use Rattle.laws.specs.Lists.{at}
use Rattle.units.specs.Types.{Payload, noop, command}
use Rattle.layout.specs.declared.marked.Kind.{Kind}
use Rattle.layout.specs.declared.marked.Kind.TheVariants as kind
use Rattle.metrics.specs.declared.Metrics.{Metrics}
use Rattle.checks.specs.Checks as checks
use Rattle.checks.specs.declared.violations.Violation.{Violation}
use Rattle.model.specs.State.{State}
use Rattle.model.specs.Calls.{Out, refused, done}
use Rattle.model.specs.Reads as reads
use Rattle.model.specs.Reads.{applied_at, discarded_by, read_violation, read_metrics}
use Rattle.model.specs.Outcome.{read_applied_entry, got_applied_entry, Answer, no, got, given, read_outcome}
use Rattle.state.specs.declared.Capacity.{Capacity}
use Rattle.state.specs.declared.Gate.{Gate}
use Rattle.state.specs.declared.Run.{Run}
use Rattle.state.specs.Area.{run_of}
use Rattle.state.specs.Decode.{decode}
use Rattle.state.specs.Call.{reading}
use Rattle.state.specs.Changes.{Gated, Reads}
use Rattle.state.specs.Exits.{read_shut, read_refused, read_answered}
use Rattle.claims.specs.OnArea as claims
use Rattle.state_header.specs.Header.{metrics_of}
use Rattle.state_records.specs.declared.Sum.{Sum}
use Rattle.state_records.specs.Records as records
use Rattle.state_records.specs.Records.{violation_at, payload_kind, payload_bytes, applied_kind, applied_into, ReadsApplied, sum_of, discarded_sum}
use Rattle.answers.specs.declared.ViolationAnswer.{ViolationAnswer}
use Rattle.answers.specs.declared.MetricsAnswer.{MetricsAnswer}
use Rattle.answers.specs.declared.AppliedEntryAnswer.{AppliedEntryAnswer}
use Rattle.answers.specs.Answers.{violation_no, violation_yes, metrics_no, metrics_yes, applied_entry_no, applied_entry_yes}
use Rattle.answers.specs.Numbers.{applied_bytes, reading_bytes, bytes_of}
use Rattle.sim_reads_report.specs.Report.{violation_given, metrics_told, kind_given, applied_given, AppliedRead}

-- ---- in numbers

pub violation_absent : (o : Option Violation) (r : ViolationAnswer) → o ≡ None → r ≡ violation_no 0 → r ≡ violation_given o
unfolding violation_given
violation_absent o r e q = q ∙ ap violation_given (sym e)

pub violation_present : (o : Option Violation) (v : Violation) → o ≡ Some v
    → record { refusal = 0; present = 1; time = v.time.0; check = v.check; count = v.count; numbers = v.numbers } ≡ violation_given o
unfolding violation_given
violation_present o v e = ap violation_given (sym e)

-- the same, its numbers one by one
five : (l : List ℕ) → length l ≡ 5 → get_or l 0 0 ∷ get_or l 1 0 ∷ get_or l 2 0 ∷ get_or l 3 0 ∷ get_or l 4 0 ∷ [] ≡ l
five [] h = absurd (omega arith)
five (a ∷ []) h = absurd (omega arith)
five (a ∷ b ∷ []) h = absurd (omega arith)
five (a ∷ b ∷ c ∷ []) h = absurd (omega arith)
five (a ∷ b ∷ c ∷ d ∷ []) h = absurd (omega arith)
five (a ∷ b ∷ c ∷ d ∷ e ∷ []) h = refl
five (a ∷ b ∷ c ∷ d ∷ e ∷ f ∷ l) h = absurd (omega arith)

pub violation_each : (o : Option Violation) (v : Violation) → o ≡ Some v → length v.numbers ≡ 5
    → record { refusal = 0; present = 1; time = v.time.0; check = v.check; count = v.count; numbers = get_or v.numbers 0 0 ∷ get_or v.numbers 1 0 ∷ get_or v.numbers 2 0 ∷ get_or v.numbers 3 0 ∷ get_or v.numbers 4 0 ∷ [] } ≡ violation_given o
unfolding violation_given
violation_each o v e l = ap (λ (n : List ℕ). record { refusal = 0; present = 1; time = v.time.0; check = v.check; count = v.count; numbers = n }) (five v.numbers l) ∙ ap violation_given (sym e)

violation_same : (o : Option checks.Violation) → violation_given (records.violation_given o) ≡ violation_yes o
unfolding violation_given records.violation_given
violation_same None = refl
violation_same (Some v) = refl

pub metrics_are : (b : List ℕ) (F : Capacity) (discarded gaps : ℕ) (m : Metrics) → Reads b F m metrics_of
    → Reads b F
    (record {
      refusal = 0;
      messages = m.sent.messages;
      bytes = m.sent.bytes;
      entries = m.sent.entries;
      entries_to_leaders = m.entries_to_leaders;
      fsyncs = m.fsyncs;
      storage_bytes = m.storage_bytes;
      client_replies = m.client_replies;
      discarded = discarded;
      max_log_gaps = gaps;
    })
    (metrics_told discarded gaps)
unfolding metrics_told metrics_of
metrics_are b F discarded gaps m q = record { to = λ s h ef. ap (λ (x : Metrics). metrics_yes (record { metrics = x; discarded = discarded; max_log_gaps = gaps })) (q.to s h ef) }

pub kind_noop : (k : Kind) → k ≡ kind.Noop → record { refusal = 0; present = 1; kind = 0; length = 0 } ≡ kind_given k
unfolding kind_given
kind_noop k e = ap kind_given (sym e)

pub kind_command : (k : Kind) (n : ℕ) → k ≡ kind.Command n → record { refusal = 0; present = 1; kind = 1; length = n } ≡ kind_given k
unfolding kind_given
kind_command k n e = ap kind_given (sym e)

pub payload_absent : (o : Option Kind) (r : AppliedEntryAnswer) → o ≡ None → r ≡ applied_entry_no 0 → r ≡ applied_given o
unfolding applied_given
payload_absent o r e q = q ∙ ap applied_given (sym e)

pub payload_present : (o : Option Kind) (k : Kind) (r : AppliedEntryAnswer) → o ≡ Some k → r ≡ kind_given k → r ≡ applied_given o
unfolding applied_given
payload_present o k r e q = q ∙ ap applied_given (sym e)

applied_same : (o : Option Payload) → applied_given (payload_kind o) ≡ applied_entry_yes o
unfolding applied_given payload_kind kind_given
applied_same None = refl
applied_same (Some noop) = refl
applied_same (Some (command bs)) = refl

bytes_same : (o : Option Payload) → payload_bytes o ≡ applied_bytes o
unfolding payload_bytes
bytes_same None = refl
bytes_same (Some noop) = refl
bytes_same (Some (command bs)) = refl

-- ---- violations and metrics

module _ (b : List ℕ) (g : Gate) (q : Gated b g) (y : g.refusal ≤ 0) where
  z : g.refusal ≡ 0
  z = omega arith

  -- what was read of the state that the bytes hold
  here : {X : Type 0} {x : X} {get : State → X} → Reads b g.capacity x get → x ≡ get (decode b)
  here p = p.to (decode b) (q.area z) (q.capacity z)

  pub violation_read : (place : ℕ) (x : Option Violation) (r : ViolationAnswer) → Reads b g.capacity x (violation_at place) → r ≡ violation_given x
      → r ≡ reading violation_no violation_yes b (read_violation place)
  unfolding violation_at read_violation
  violation_read place x r p e =
      read_answered violation_no violation_yes b (read_violation place) g q y r (at (decode b).checker.violations place) (decode b) refl
      (e ∙ ap violation_given (here p) ∙ violation_same (at (decode b).checker.violations place))

  module _ (x : Sum) (p : Reads b g.capacity x discarded_sum) where
    fits_is : x.fits ≡ ltb (discarded_by (decode b).servers) (2 ^ 64)
    unfolding discarded_sum sum_of
    fits_is = ap (λ (u : Sum). u.fits) (here p)

    pub metrics_ten : (r : MetricsAnswer) → not x.fits ≡ true → r ≡ metrics_no 10 → r ≡ reading metrics_no metrics_yes b read_metrics
    unfolding read_metrics
    metrics_ten r n e =
        read_refused metrics_no metrics_yes b read_metrics g q y r 10
        (ap (λ (t : Bool). pick t (done (record { metrics = (decode b).metrics; discarded = discarded_by (decode b).servers; max_log_gaps = (decode b).max_log_gaps }) (decode b)) (refused 10)) (sym fits_is ∙ not-true x.fits n)) e

    pub metrics_read : (run : Run) (r : MetricsAnswer) → not x.fits ≡ false → Reads b g.capacity run run_of → Reads b g.capacity r (metrics_told x.value run.max_log_gaps)
        → r ≡ reading metrics_no metrics_yes b read_metrics
    unfolding read_metrics metrics_told discarded_sum sum_of
    metrics_read run r n k m =
        let s : State = decode b in
        let yes' : ltb (discarded_by s.servers) (2 ^ 64) ≡ true = sym fits_is ∙ not-false x.fits n in
        let value : x.value ≡ discarded_by s.servers = ap (λ (u : Sum). u.value) (here p) ∙ ap (λ (t : Bool). pick t (discarded_by s.servers) 0) yes' in
        let most : run.max_log_gaps ≡ s.max_log_gaps = ap (λ (u : Run). u.max_log_gaps) (here k) in
        read_answered metrics_no metrics_yes b read_metrics g q y r (record { metrics = s.metrics; discarded = discarded_by s.servers; max_log_gaps = s.max_log_gaps }) s
        (ap (λ (t : Bool). pick t (done (record { metrics = s.metrics; discarded = discarded_by s.servers; max_log_gaps = s.max_log_gaps }) s) (refused 10)) yes')
        (here m ∙ ap₂ (λ (d k : ℕ). metrics_yes (record { metrics = s.metrics; discarded = d; max_log_gaps = k })) value most)

-- ---- the exits of the read of an applied payload

module _ (b : List ℕ) (g : Gate) (index : ℕ) (z : List ℕ) (q : Gated b g) where
  -- the read's definition, and the same with its answer as data
  abbrev wanted : State → Out (Option Payload)
  wanted = reads.read_applied_entry index (length z)

  abbrev told : State → Out Answer
  told = read_outcome (read_applied_entry index (length z))

  pub applied_shut : (r : AppliedEntryAnswer) → 0 < g.refusal → r ≡ applied_entry_no g.refusal → AppliedRead b index z z r
  unfolding bytes_of
  applied_shut r n e = record {
    answer = read_shut applied_entry_no applied_entry_yes b wanted g q r n e;
    buffer = ap (λ (a : Answer). sets z 0 (bytes_of a)) (read_shut no claims.same b told g q (no g.refusal) n refl);
  }

  module _ (y : g.refusal ≤ 0) where
    passed : g.refusal ≡ 0
    passed = omega arith

    limit : g.capacity.limits.payload ≡ (decode b).limits.payload
    limit = ap (λ (G : Capacity). G.limits.payload) (q.capacity passed)

    pub applied_nine : (r : AppliedEntryAnswer) → length z < g.capacity.limits.payload → r ≡ applied_entry_no 9 → AppliedRead b index z z r
    unfolding bytes_of read_outcome reads.read_applied_entry
    applied_nine r i e =
        let k : wanted (decode b) ≡ refused 9 = rw (lt-leb (decode b).limits.payload (length z) (omega (arith, limit))) refl in
        record {
          answer = read_refused applied_entry_no applied_entry_yes b wanted g q y r 9 k e;
          buffer = ap (λ (a : Answer). sets z 0 (bytes_of a)) (read_refused no claims.same b told g q y (no 9) 9 (ap (given (λ x. got (got_applied_entry x))) k) refl);
        }

    pub applied_read : (p : Option Kind) (z' : List ℕ) (r : AppliedEntryAnswer) → g.capacity.limits.payload ≤ length z → ReadsApplied b g.capacity index p z z' → r ≡ applied_given p
        → AppliedRead b index z z' r
    unfolding bytes_of reading_bytes read_outcome reads.read_applied_entry applied_kind applied_into
    applied_read p z' r i x e =
        let s : State = decode b in
        let found : Option Payload = applied_at s.checker.applied index in
        let k : wanted s ≡ done found s = rw (le-leb s.limits.payload (length z) (omega (arith, limit))) refl in
        record {
          answer = read_answered applied_entry_no applied_entry_yes b wanted g q y r found s k (e ∙ ap applied_given (x.kind.to s (q.area passed) (q.capacity passed)) ∙ applied_same found);
          buffer = x.copied.to s (q.area passed) (q.capacity passed) ∙ ap (λ (v : List ℕ). sets z 0 v) (bytes_same found)
              ∙ ap (λ (a : Answer). sets z 0 (bytes_of a)) (read_answered no claims.same b told g q y (got (got_applied_entry found)) (got (got_applied_entry found)) s (ap (given (λ x. got (got_applied_entry x))) k) refl);
        }
