-- What the proofs of the reads of one server cite. Assumes nothing.
use Rattle.std.specs.Prelude.{◌≡◌, refl, Bool, List, ℕ, ◌+◌, ◌-◌, ◌≤◌, ◌<◌, length, Option, None, Some}
use Rattle.std.proofs.Math.Path.{sym, ap}
use Rattle.std.proofs.Common.{ap₂, ◌∙◌, le-leb}
use native.Mathlib.Omega.{arith}
use Rattle.std.proofs.Math.Dec.{leb}
use Rattle.std.proofs.Math.ListN.{get_or}
use Rattle.std.proofs.lemmas.Bool.{lt-leb}
use Rattle.laws.specs.Bools.{pick, cases, ◌and◌, no_and}
use Rattle.laws.proofs.BoolLaws.{and_both, and_no}
use Rattle.protocol.specs.Numbers.{role_number}
use Rattle.protocol.specs.declared.Status.{Status}
use Rattle.metrics.specs.Metrics.{sent_by}
use Rattle.metrics.specs.declared.Counts.{Counts}
use Rattle.metrics.specs.declared.Metrics.{Metrics}
use Rattle.raft_log.specs.Log.{count, last_index, gaps}
use Rattle.storage.specs.declared.HardState.{HardState}
use Rattle.storage.specs.declared.StorageState.{StorageState}
use Rattle.faults.specs.Fault as faults
use Rattle.model.specs.State.{State, server_at}
use Rattle.model.specs.Calls.{Out, refused, done, in_cluster}
use Rattle.model.specs.Reads.{read_hard_state, read_log, read_status, read_applied, read_sent_by}
use Rattle.state.specs.declared.Capacity.{Capacity}
use Rattle.state.specs.declared.Gate.{Gate}
use Rattle.state.specs.declared.ServerState.{ServerState}
use Rattle.state.specs.Decode.{decode}
use Rattle.state.specs.Fitting.{area_fits}
use Rattle.state.specs.FitsBy.{server_count}
use Rattle.state.specs.Call.{reading}
use Rattle.state.specs.Changes.{Gated, Reads}
use Rattle.state.specs.Exits.{read_refused, read_answered}
use Rattle.answers.specs.declared.StatusAnswer.{StatusAnswer}
use Rattle.answers.specs.declared.HardStateAnswer.{HardStateAnswer}
use Rattle.answers.specs.declared.LogAnswer.{LogAnswer}
use Rattle.answers.specs.declared.AppliedAnswer.{AppliedAnswer}
use Rattle.answers.specs.declared.SentByAnswer.{SentByAnswer}
use Rattle.answers.specs.Answers.{nodePresent, nodeId, hard_state_no, hard_state_yes, log_no, log_yes, status_no, status_yes, applied_no, applied_yes, sent_by_no, sent_by_yes}
use Rattle.state_header.specs.Header.{metrics_of}
use Rattle.state_server.specs.Servers.{server_state_at, status_at}
use Rattle.state_disk.specs.Disks.{storage_at, log_at, log_numbers_at}
use Rattle.state_disk.specs.declared.LogNumbers.{LogNumbers}
use Rattle.sim_reads.specs.declared.ServerAsked.{ServerAsked}
use Rattle.sim_reads.specs.Servers.{server_code, AsksServer, log_read, status_given, sent_at}

-- ---- question 7

module _ (F : Capacity) (server : ℕ) where
  pub asked_low : server < 1 → AsksServer F server (record { code = 7; slot = 0 })
  unfolding server_code
  asked_low l = record { code = sym (ap (λ (t : Bool). pick t 0 7) (no_and _ _ (lt-leb 1 server l))); slot = λ e. absurd (omega arith); below = λ e. absurd (omega arith) }

  pub asked_high : F.servers < server → AsksServer F server (record { code = 7; slot = 0 })
  unfolding server_code
  asked_high l = record { code = sym (ap (λ (t : Bool). pick t 0 7) (and_no _ _ (lt-leb server F.servers l))); slot = λ e. absurd (omega arith); below = λ e. absurd (omega arith) }

  pub asked_yes_lem : 1 ≤ server → server ≤ F.servers → AsksServer F server (record { code = 0; slot = server - 1 })
  unfolding server_code
  asked_yes_lem lo hi = record { code = sym (ap (λ (t : Bool). pick t 0 7) (and_both _ _ (le-leb 1 server lo) (le-leb server F.servers hi))); slot = λ e. refl; below = λ e. omega arith }

  pub slot_below : (o : ServerAsked) → AsksServer F server o → o.code ≤ 0 → o.slot < F.servers
  slot_below o a l = a.below (let z : o.code ≡ 0 = omega arith in z)

-- ---- the exits of a read that asks question 7

-- whether the server is in the cluster, by the counts of the area
pub cluster_known : (b : List ℕ) (g : Gate) (server : ℕ) → Gated b g → g.refusal ≤ 0 → in_cluster (decode b) server ≡ (leb 1 server and leb server g.capacity.servers)
unfolding faults.in_cluster
cluster_known b g server q y =
    let z : g.refusal ≡ 0 = omega arith in
    let s : State = decode b in
    let e : length s.servers ≡ g.capacity.servers = server_count s (area_fits (q.area z)) ∙ sym (ap (λ (G : Capacity). G.servers) (q.capacity z)) in
    ap (λ (n : ℕ). leb 1 server and leb server n) e

module _ {A R : Type 0} (no : ℕ → R) (say : A → R) (b : List ℕ) (g : Gate) (server : ℕ) (o : ServerAsked) (q : Gated b g) (y : g.refusal ≤ 0) (a : AsksServer g.capacity server o) where
  same : in_cluster (decode b) server ≡ (leb 1 server and leb server g.capacity.servers)
  same = cluster_known b g server q y

  module _ (f : State → Out A) (get : State → A) (is : (s : State) → f s ≡ pick (in_cluster s server) (done (get s) s) (refused 7)) where
    seven : (r : R) → 0 < o.code → r ≡ no o.code → r ≡ reading no say b f
    unfolding server_code
    seven r l e =
        cases (leb 1 server and leb server g.capacity.servers)
        (λ t. let w : o.code ≡ 0 = a.code ∙ ap (λ (u : Bool). pick u 0 7) t in absurd (omega arith))
        (λ t. read_refused no say b f g q y r 7 (is (decode b) ∙ ap (λ (u : Bool). pick u (done (get (decode b)) (decode b)) (refused 7)) (same ∙ t))
        (e ∙ ap no (a.code ∙ ap (λ (u : Bool). pick u 0 7) t)))

    tells : (r : R) (x : A) → o.code ≤ 0 → x ≡ get (decode b) → r ≡ say x → r ≡ reading no say b f
    unfolding server_code
    tells r x l ex e =
        cases (leb 1 server and leb server g.capacity.servers)
        (λ t. read_answered no say b f g q y r (get (decode b)) (decode b) (is (decode b) ∙ ap (λ (u : Bool). pick u (done (get (decode b)) (decode b)) (refused 7)) (same ∙ t)) (e ∙ ap say ex))
        (λ t. let w : o.code ≡ 7 = a.code ∙ ap (λ (u : Bool). pick u 0 7) t in absurd (omega arith))

-- ---- answers in numbers

pub hard_state_told : (h : HardState) (n m : ℕ) → n ≡ nodePresent h.voted_for → m ≡ nodeId h.voted_for → record { refusal = 0; term = h.term.0; voted = n; vote = m } ≡ hard_state_yes h
hard_state_told h n m en em = ap₂ (λ (i j : ℕ). record { refusal = 0; term = h.term.0; voted = i; vote = j }) en em

pub status_told_lem : (x : Status) (k n m : ℕ) → k ≡ role_number x.role → n ≡ nodePresent x.leader → m ≡ nodeId x.leader
    → record { refusal = 0; running = 1; role = k; term = x.term.0; hinted = n; leader = m; commit = x.commit_index.0 } ≡ status_yes (Some x)
status_told_lem x k n m ek en em =
    ap (λ (i : ℕ). record { refusal = 0; running = 1; role = i; term = x.term.0; hinted = n; leader = m; commit = x.commit_index.0 }) ek
    ∙ ap₂ (λ (i j : ℕ). record { refusal = 0; running = 1; role = role_number x.role; term = x.term.0; hinted = i; leader = j; commit = x.commit_index.0 }) en em

pub status_absent : (o : Option Status) (r : StatusAnswer) → o ≡ None → r ≡ status_no 0 → r ≡ status_given o
unfolding status_given
status_absent o r e q = q ∙ ap status_given (sym e)

pub status_present : (o : Option Status) (x : Status) (r : StatusAnswer) → o ≡ Some x → r ≡ status_yes (Some x) → r ≡ status_given o
unfolding status_given
status_present o x r e q = q ∙ ap status_given (sym e)

pub sent_read : (b : List ℕ) (F : Capacity) (k : ℕ) (m : Metrics) (r : Counts) → Reads b F m metrics_of → r ≡ sent_by m (record { 0 = k + 1 }) → Reads b F r (sent_at k)
unfolding sent_at metrics_of
sent_read b F k m r q e = record { to = λ s h ef. e ∙ ap (λ (x : Metrics). sent_by x (record { 0 = k + 1 })) (q.to s h ef) }

-- ---- each read

module _ (b : List ℕ) (g : Gate) (server : ℕ) (o : ServerAsked) (q : Gated b g) (y : g.refusal ≤ 0) (a : AsksServer g.capacity server o) where
  zero : g.refusal ≡ 0
  zero = omega arith

  -- what was read of the server at the place that was asked for
  there : {X : Type 0} (x : X) (get : ℕ → State → X) → o.code ≤ 0 → Reads b g.capacity x (get o.slot) → x ≡ get (server - 1) (decode b)
  there x get l p =
      let c : o.code ≡ 0 = omega arith in
      p.to (decode b) (q.area zero) (q.capacity zero) ∙ ap (λ (n : ℕ). get n (decode b)) (a.slot c)

  pub hard_state_seven : (r : HardStateAnswer) → 0 < o.code → r ≡ hard_state_no o.code → r ≡ reading hard_state_no hard_state_yes b (read_hard_state server)
  unfolding read_hard_state
  hard_state_seven = seven hard_state_no hard_state_yes b g server o q y a (read_hard_state server) (λ s. (server_at s (server - 1)).storage.current.hard_state) (λ s. refl)

  pub hard_state_read : (v : StorageState) (r : HardStateAnswer) → o.code ≤ 0 → Reads b g.capacity v (storage_at o.slot) → r ≡ hard_state_yes v.current
      → r ≡ reading hard_state_no hard_state_yes b (read_hard_state server)
  unfolding read_hard_state storage_at
  hard_state_read v r l p e =
      tells hard_state_no hard_state_yes b g server o q y a (read_hard_state server) (λ s. (server_at s (server - 1)).storage.current.hard_state) (λ s. refl) r v.current l
      (ap (λ (x : StorageState). x.current) (there v storage_at l p)) e

  pub log_seven : (r : LogAnswer) → 0 < o.code → r ≡ log_no o.code → r ≡ reading log_no log_yes b (read_log server)
  unfolding read_log log_at
  log_seven = seven log_no log_yes b g server o q y a (read_log server) (λ s. record { entries = count (log_at (server - 1) s); last = last_index (log_at (server - 1) s); missing = gaps (log_at (server - 1) s) }) (λ s. refl)

  pub log_read_lem : (n : LogNumbers) (r : LogAnswer) → o.code ≤ 0 → Reads b g.capacity n (log_numbers_at o.slot) → r ≡ log_yes (log_read n) → r ≡ reading log_no log_yes b (read_log server)
  unfolding read_log log_at log_numbers_at
  log_read_lem n r l p e =
      tells log_no log_yes b g server o q y a (read_log server) (λ s. record { entries = count (log_at (server - 1) s); last = last_index (log_at (server - 1) s); missing = gaps (log_at (server - 1) s) }) (λ s. refl) r (log_read n) l
      (ap log_read (there n log_numbers_at l p)) e

  pub status_seven : (r : StatusAnswer) → 0 < o.code → r ≡ status_no o.code → r ≡ reading status_no status_yes b (read_status server)
  unfolding read_status
  status_seven = seven status_no status_yes b g server o q y a (read_status server) (λ s. (server_at s (server - 1)).status) (λ s. refl)

  pub status_read : (x : Option Status) (r : StatusAnswer) → o.code ≤ 0 → Reads b g.capacity x (status_at o.slot) → r ≡ status_given x → r ≡ reading status_no status_yes b (read_status server)
  unfolding read_status status_at status_given
  status_read x r l p e =
      tells status_no status_yes b g server o q y a (read_status server) (λ s. (server_at s (server - 1)).status) (λ s. refl) r x l
      (there x status_at l p) e

  pub applied_seven : (r : AppliedAnswer) → 0 < o.code → r ≡ applied_no o.code → r ≡ reading applied_no applied_yes b (read_applied server)
  unfolding read_applied
  applied_seven = seven applied_no applied_yes b g server o q y a (read_applied server) (λ s. (server_at s (server - 1)).next_apply - 1) (λ s. refl)

  pub applied_read : (v : ServerState) (n : ℕ) (r : AppliedAnswer) → o.code ≤ 0 → Reads b g.capacity v (server_state_at o.slot) → n ≡ v.next_apply - 1 → r ≡ applied_yes n
      → r ≡ reading applied_no applied_yes b (read_applied server)
  unfolding read_applied server_state_at
  applied_read v n r l p en e =
      tells applied_no applied_yes b g server o q y a (read_applied server) (λ s. (server_at s (server - 1)).next_apply - 1) (λ s. refl) r n l
      (en ∙ ap (λ (x : ServerState). x.next_apply - 1) (there v server_state_at l p)) e

  pub sent_by_seven : (r : SentByAnswer) → 0 < o.code → r ≡ sent_by_no o.code → r ≡ reading sent_by_no sent_by_yes b (read_sent_by server)
  unfolding read_sent_by
  sent_by_seven = seven sent_by_no sent_by_yes b g server o q y a (read_sent_by server) (λ s. sent_by s.metrics (record { 0 = server })) (λ s. refl)

  pub sent_by_read : (x : Counts) (r : SentByAnswer) → o.code ≤ 0 → Reads b g.capacity x (sent_at o.slot) → r ≡ sent_by_yes x → r ≡ reading sent_by_no sent_by_yes b (read_sent_by server)
  unfolding read_sent_by sent_at
  sent_by_read x r l p e =
      tells sent_by_no sent_by_yes b g server o q y a (read_sent_by server) (λ s. sent_by s.metrics (record { 0 = server })) (λ s. refl) r x l
      (there x sent_at l p ∙ ap (λ (n : ℕ). get_or (decode b).metrics.by_sender n Rattle.metrics.specs.Metrics.no_counts) (let w : server - 1 + 1 - 1 ≡ server - 1 = omega arith in w)) e
