-- What the proofs of matching.rt cite. Assumes nothing.
use Rattle.std.specs.Prelude.{◌≡◌, Bool, eqb, ltb, length, get_or, drop, Option, None, Some}
use Rattle.std.proofs.Math.Path.{refl, ap}
use Rattle.std.proofs.Common.{sym, ap₂, subst, ◌∙◌, lt-ltb, eqb-true}
use Rattle.std.proofs.Math.Bool.{true, false}
use mathlib.Core.List.{List, [], ◌∷◌, map}
use Prim.Native.Nat.{ℕ, zero, suc, ◌+◌, ◌-◌, ◌*◌, ◌^◌, ◌≤◌, ◌<◌, min}
use native.Mathlib.Omega.{arith}
use Rattle.std.proofs.Math.ListN.{take}
use Rattle.laws.specs.Bools.{pick, and_left, every}
use Rattle.laws.proofs.BoolLaws.{allb_in, and_right, and_both, true_and}
use Rattle.units.specs.Types.{Entry}
use Rattle.units.specs.declared.NodeId.{NodeId}
use Rattle.units.specs.declared.SimTime.{SimTime}
use Rattle.units.specs.declared.LogIndex.{LogIndex}
use Rattle.words.specs.Sets.{length_part}
use Rattle.layout.specs.UpTo.{is64}
use Rattle.layout.specs.Tables.{Held}
use Rattle.layout.specs.Parts.{lent_row}
use Rattle.layout.specs.Rows.{row_end}
use Rattle.raft_log.specs.Log.{Log, entry_at, last_index}
use Rattle.raft_log.specs.Places.{place, places}
use Rattle.queue.specs.Range.{word}
use Rattle.config.specs.declared.SimConfig.{SimConfig}
use Rattle.config.specs.declared.Limits.{Limits}
use Rattle.checks.specs.declared.Check.TheVariants.{LogMatching}
use Rattle.checks.specs.Checks.{Checker, ServerLog, same_entry, shared_term, mismatch_at, difference_at, mismatch_from}
use Rattle.checks.specs.Checks.{log_matching_failure, report_mismatch, check_against, check_log_matching}
use Rattle.checks.specs.Asked.{counts_code, where_fits}
use Rattle.checks.specs.AskedLaws.{where_coded}
use Rattle.checks_log_matching.specs.declared.pairs.MatchingAsked.{MatchingAsked}
use Rattle.checks_log_matching.specs.Pairs.{Logs, log_bytes, server_logs, Between, AsksLogs}
use Rattle.checks_log_matching.specs.Laws.{last_within}
use Rattle.model.specs.State.{State, Server, new_server, server_at, id_of}
use Rattle.model.specs.Calls.{logs_from}
use Rattle.model.specs.Fits.{server_fits, server_tests, storage_fits, checker_fits}
use Rattle.state.specs.declared.Capacity.{Capacity}
use Rattle.state.specs.declared.TableCounts.{TableCounts}
use Rattle.state.specs.Sizes.{block_words, log_words, queue_at, queue_words, Counted}
use Rattle.state.specs.Area.{Area, capacity_of, counts_of}
use Rattle.state.specs.Fitting.{area_fits, laid_limits}
use Rattle.state.specs.FitsBy.{fits_test, server_count}
use Rattle.state.specs.Changes.{Reads}
use Rattle.state_asks.specs.Asks.{Begins, Asks, checker_code, log_of, mismatch_between, after_matching, MatchingTold, MatchingGiven}
use Rattle.state_asks.specs.Lent.{lent_lent, log_lent}
use Rattle.state_asks.specs.Rows.{Sound, Reported, detail_fits, reported_none, reported_if_lem, reported_then, reported_code, area_sound}
use Rattle.state_asks.specs.Rows.{now_fits}
use Rattle.state_asks.specs.WriteLaws.{entry_good}
use Rattle.checks.specs.declared.Mismatch.{Mismatch}

-- ---- the numbers of a mismatch

-- A term of 64 bits, and indexes up to N.
record Small (N : ℕ) (m : Mismatch) : Type 0 where
  term : is64 m.term.0 ≡ true
  index : m.index.0 ≤ N
  difference : m.difference.0 ≤ N

-- A difference so far, up to N.
Before : ℕ → Option LogIndex → Type 0
Before N None = Unit {0}
Before N (Some d) = d.0 ≤ N

-- Where there is a mismatch, it is small.
Fine : ℕ → Option Mismatch → Type 0
Fine N None = Unit {0}
Fine N (Some m) = Small N m

module _ (L P N : ℕ) (a b : Log) (la : length a ≡ L) (ga : every (place P).good a ≡ true) where
  shared_fine : (i : ℕ) → i ≤ N → (x y : Option Entry) → entry_at a i ≡ x → (o : Option LogIndex) → Before N o → (later : Option Mismatch)
      → Fine N later → Fine N (mismatch_at o (shared_term x y) (record { 0 = i }) later)
  unfolding Before Fine
  shared_fine i l x y e None p later f = f
  shared_fine i l None y e (Some d) p later f = f
  shared_fine i l (Some x) None e (Some d) p later f = f
  shared_fine i l (Some x) (Some y) e (Some d) p later f = by (eqb x.term.0 y.term.0)
    where
      by : (t : Bool) → Fine N (mismatch_at (Some d) (pick t (Some x.term) None) (record { 0 = i }) later)
      by true = record { term = (entry_good L P a la ga i x e).term; index = l; difference = p }
      by false = f

  differs_fine : (o : Option LogIndex) → Before N o → (t : Bool) (i : ℕ) → i ≤ N → Before N (difference_at o t (record { 0 = i }))
  unfolding Before
  differs_fine (Some d) p t i l = p
  differs_fine None p true i l = tt
  differs_fine None p false i l = l

  from_fine : (left i : ℕ) (o : Option LogIndex) → Before N o → i + left ≤ N + 1 → Fine N (mismatch_from left i o a b)
  unfolding mismatch_from Fine
  from_fine zero i o p l = tt
  from_fine (suc left) i o p l =
      let x = entry_at a i in
      let y = entry_at b i in
      let at : LogIndex = record { 0 = i } in
      shared_fine i (omega arith) x y refl o p (mismatch_from left (suc i) (difference_at o (same_entry x y) at) a b)
      (from_fine left (suc i) (difference_at o (same_entry x y) at) (differs_fine o p (same_entry x y) i (omega arith)) (omega arith))

  failure_fine : L ≤ N → Fine N (log_matching_failure a b)
  unfolding log_matching_failure Before
  failure_fine l = from_fine (min (last_index a) (last_index b)) 1 None tt (omega (arith, last_within a, la))

-- ---- every pair is reported or not: the rows stay sound

-- A server's id of 64 bits, and its log of L places in range.
record LogGood (L P : ℕ) (x : ServerLog) : Type 0 where
  id : is64 x.server.0 ≡ true
  long : length x.log ≡ L
  good : every (place P).good x.log ≡ true

AllGood : ℕ → ℕ → List ServerLog → Type 0
AllGood L P [] = Unit {0}
AllGood L P (x ∷ xs) = LogGood L P x × AllGood L P xs

module _ (S L P : ℕ) (small : L ≤ 1024) (time : SimTime) (ht : word time.0 ≡ true) where
  mismatch_reported_lem : (c : Checker) → Sound S L P c → (x y : NodeId) → is64 x.0 ≡ true → is64 y.0 ≡ true → (m : Option Mismatch)
      → Fine 1024 m → Reported S L P c (report_mismatch m c time x y)
  unfolding Fine detail_fits
  mismatch_reported_lem c q x y hx hy None f = reported_none q
  mismatch_reported_lem c q x y hx hy (Some m) f =
      reported_if_lem q time LogMatching (x.0 ∷ y.0 ∷ m.term.0 ∷ m.index.0 ∷ m.difference.0 ∷ []) ht
      (and_both _ _ refl (and_both _ _ hx
      (and_both _ _ hy (and_both _ _ f.term
      (and_both _ _ (lt-ltb m.index.0 (2 ^ 64) (omega (arith, f.index)))
      (and_both _ _ (lt-ltb m.difference.0 (2 ^ 64) (omega (arith, f.difference))) refl)))))) true

  against_reported : (c : Checker) → Sound S L P c → (x : ServerLog) → LogGood L P x → (ys : List ServerLog) → AllGood L P ys
      → Reported S L P c (check_against c time x ys)
  unfolding check_against AllGood
  against_reported c q x g [] gs = reported_none q
  against_reported c q x g (y ∷ ys) gs =
      let m = log_matching_failure x.log y.log in
      let one = mismatch_reported_lem c q x.server y.server g.id gs.0.id m
      (failure_fine L P 1024 x.log y.log g.long g.good small) in
      reported_then one (against_reported (report_mismatch m c time x.server y.server) one.sound x g ys gs.1)

  pairs_reported : (c : Checker) → Sound S L P c → (xs : List ServerLog) → AllGood L P xs → Reported S L P c (check_log_matching c time xs)
  unfolding check_log_matching AllGood
  pairs_reported c q [] gs = reported_none q
  pairs_reported c q (x ∷ xs) gs =
      let one = against_reported c q x gs.0 xs gs.1 in
      reported_then one (pairs_reported (check_against c time x xs) one.sound xs gs.1)

-- ---- the logs of the servers

abbrev current_log : Server → Log
current_log v = v.storage.current.log

-- The current logs in the servers' order.
abbrev pub logs_of : List Server → List Log
logs_of vs = map current_log vs

pub logs_are : (k : ℕ) (vs : List Server) → logs_from k vs ≡ server_logs k (logs_of vs)
unfolding logs_from server_logs
logs_are k [] = refl
logs_are k (v ∷ vs) = ap (λ (xs : List ServerLog). record { server = id_of k; log = current_log v } ∷ xs) (logs_are (suc k) vs)

log_at_lem : (vs : List Server) (k : ℕ) → k < length vs → get_or (logs_of vs) k [] ≡ current_log (get_or vs k (new_server 0))
log_at_lem [] k h = absurd (omega arith)
log_at_lem (v ∷ vs) zero h = refl
log_at_lem (v ∷ vs) (suc k) h = log_at_lem vs k (omega arith)

logs_long : (vs : List Server) → length (logs_of vs) ≡ length vs
logs_long [] = refl
logs_long (v ∷ vs) = ap suc (logs_long vs)

servers_good : (config : SimConfig) (limits : Limits) (vs : List Server) (k : ℕ) → k + length vs ≤ 8
    → every (server_fits config limits) vs ≡ true → AllGood limits.log_indexes limits.payload (logs_from k vs)
unfolding logs_from AllGood
servers_good config limits [] k l h = tt
servers_good config limits (v ∷ vs) k l h =
    let disk : storage_fits config limits v.storage ≡ true = allb_in (server_tests config limits v) (and_left _ _ h) 1 in
    let d = and_right _ _ (and_left _ _ disk) in (
      record { id = lt-ltb (k + 1) (2 ^ 64) (omega arith); long = eqb-true _ _ (and_left _ _ d); good = and_right _ _ d },
      servers_good config limits vs (suc k) (omega arith) (and_right _ _ h),
    )

-- ---- the logs in the area

module _ {b : List ℕ} {s : State} (h : Area b s) where
  abbrev F : Capacity
  F = capacity_of s

  abbrev S : ℕ
  S = s.config.servers

  abbrev Z : ℕ
  Z = block_words F

  all_servers : length s.servers ≡ S
  all_servers = server_count s (area_fits h)

  logs_good : AllGood s.limits.log_indexes s.limits.payload (logs_from 0 s.servers)
  logs_good = servers_good s.config s.limits s.servers 0 (omega (arith, all_servers, (laid_limits h.laid).servers))
      (fits_test s (area_fits h) 5)

  matching_reported : Reported S s.limits.log_indexes s.limits.payload s.checker
      (check_log_matching s.checker s.now (logs_from 0 s.servers))
  matching_reported = pairs_reported S s.limits.log_indexes s.limits.payload (laid_limits h.laid).log_indexes s.now
      (now_fits h) s.checker (area_sound h) (logs_from 0 s.servers) logs_good

  module _ (z q : ℕ) (ez : z ≡ Z) (eq : q ≡ queue_at F) where
    abbrev blocks : List ℕ
    blocks = take (8 * q - 4096) (drop 4096 b)

    blocks_are : lent_row 512 (S * Z) b ≡ blocks
    blocks_are = let e : 8 * (512 + S * Z) - 8 * 512 ≡ 8 * q - 4096 = omega (arith, eq) in ap (λ (n : ℕ). take n (drop 4096 b)) e

    log_bytes_lem : (k : ℕ) → k < S → lent_row (512 + k * Z + 64) (log_words F) b ≡ log_bytes s.limits.payload
        s.limits.log_indexes z 64 k blocks
    unfolding log_bytes
    log_bytes_lem k i =
        let e : 512 + k * Z + 64 ≡ 512 + (k * Z + 64) = omega arith in
        let l : k * Z + 64 + log_words F ≤ S * Z = omega (arith, row_end k S Z i) in
        ap (λ (n : ℕ). lent_row n (log_words F) b) e ∙ lent_lent 512 (S * Z) (k * Z + 64) (log_words F) b l
        ∙ ap (λ (x : List ℕ). take (8 * log_words F) (drop (8 * (k * Z + 64)) x)) blocks_are
        ∙ ap (λ (y : ℕ). take (8 * log_words F) (drop (8 * (k * y + 64)) blocks)) (sym ez)

    pub logs_lent : Logs s.limits.payload s.limits.log_indexes S z 64 blocks (logs_of s.servers)
    logs_lent = record {
      count = logs_long s.servers ∙ all_servers;
      each = λ k i.
          let j : k < length s.servers = omega (arith, all_servers) in
          subst (λ (x : Log). Held (places s.limits.payload) (log_words F) s.limits.log_indexes
          (log_bytes s.limits.payload s.limits.log_indexes z 64 k blocks) x) (sym (log_at_lem s.servers k j))
          (subst (λ (x : List ℕ). Held (places s.limits.payload) (log_words F) s.limits.log_indexes x
          (current_log (server_at s k))) (log_bytes_lem k i) (log_lent h k i (512 + k * Z) refl (log_words F) refl));
    }

-- ---- blocks have room in the region that is lent

pub blocks_room : {b : List ℕ} {x y z q : ℕ} (S : ℕ) → Begins b q (512 + S * y) z → x ≡ y
    → 8 * (S * x) ≤ length (take (8 * q - 4096) (drop 4096 b))
blocks_room {b} {x} {y} {z} {q} S p e =
    let l : 4096 + (8 * q - 4096) ≤ length b = omega (arith, p.is, p.ends) in
    let n : S * x ≡ S * y = ap (λ (m : ℕ). S * m) e in
    omega (arith, length_part b 4096 (8 * q - 4096) l, p.is, n)

pub stride_room : {z : ℕ} (l more : ℕ) → z ≡ 64 + (l + more) → 64 + l ≤ z
stride_room l more e = omega arith

-- ---- matching_given, matching_asked, mismatch_of

-- What the function has of an area of these counts when it asks.
record Learnt (F : Capacity) (b : List ℕ) (total z q : ℕ) (r : MatchingAsked) : Type 0 where
  stride : z ≡ block_words F
  ends : q ≡ queue_at F
  asked : AsksLogs (Logs F.limits.payload F.limits.log_indexes F.servers z 64 (take (8 * q - 4096) (drop 4096 b))) total r

told : {b : List ℕ} {s : State} {total z q : ℕ} {r : MatchingAsked} → Area b s → Learnt (capacity_of s) b total z q r
    → MatchingGiven total r s
unfolding after_matching counts_code checker_code
told {b} {s} {total} {z} {q} {r} h p = record {
  to = λ et.
      let logs = logs_lent h z q p.stride p.ends in
      let same : check_log_matching s.checker s.now (server_logs 0 (logs_of s.servers))
      ≡ check_log_matching s.checker s.now (logs_from 0 s.servers) =
      ap (check_log_matching s.checker s.now) (sym (logs_are 0 s.servers)) in
      record {
        room = p.asked.room (logs_of s.servers) logs s.checker s.now (sym et) ∙ ap (λ (d : Checker). where_fits 0 0 d.total tt) same
            ∙ where_coded 0 0 (after_matching s).total (checker_fits s.config s.limits (after_matching s)) tt
            (ap (λ (t : Bool). pick t 0 10) (true_and (ltb (after_matching s).total (2 ^ 64))) ∙ sym (reported_code h (matching_reported h)));
        reports = ap (λ (d : Checker). d.total) (sym same) ∙ p.asked.counted (logs_of s.servers) logs s.checker s.now (sym et)
            ∙ ap (λ (n : ℕ). n + r.reports) et;
      };
}

pub matching_given : {b : List ℕ} {F : Capacity} {total z q : ℕ} {r : MatchingAsked} → Counted z (block_words F)
    → Begins b q (queue_at F) (queue_words F)
    → AsksLogs (Logs F.limits.payload F.limits.log_indexes F.servers z 64 (take (8 * q - 4096) (drop 4096 b))) total r
    → Asks b F (MatchingGiven total r)
matching_given {b} {F} {total} {z} {q} {r} cz pq a =
    let learnt : Learnt F b total z q r = record { stride = cz.is; ends = pq.is; asked = a } in
    record { to = λ s h e. told h (subst (λ (G : Capacity). Learnt G b total z q r) e learnt) }

pub matching_asked : {b : List ℕ} {F : Capacity} {counts : TableCounts} {r : MatchingAsked} → Reads b F counts counts_of
    → Asks b F (MatchingGiven counts.total r) → Asks b F (MatchingTold r)
matching_asked rc q = record { to = λ s h e. (q.to s h e).to (ap (λ (x : TableCounts). x.total) (rc.to s h e)) }

-- The same of one pair.
record PairLearnt (F : Capacity) (b : List ℕ) (i j z q : ℕ) (r : Option Mismatch) : Type 0 where
  first : i < F.servers
  second : j < F.servers
  stride : z ≡ block_words F
  ends : q ≡ queue_at F
  asked : Between (Logs F.limits.payload F.limits.log_indexes F.servers z 64 (take (8 * q - 4096) (drop 4096 b))) i j r

pub mismatch_read : {b : List ℕ} {F : Capacity} {i j z q : ℕ} (r : Option Mismatch) → i < F.servers → j < F.servers
    → Counted z (block_words F) → Begins b q (queue_at F) (queue_words F)
    → Between (Logs F.limits.payload F.limits.log_indexes F.servers z 64 (take (8 * q - 4096) (drop 4096 b))) i j r
    → Reads b F r (mismatch_between i j)
unfolding mismatch_between log_of
mismatch_read {b} {F} {i} {j} {z} {q} r hi hj cz pq a = record {
  to = λ s h e.
      let x : PairLearnt F b i j z q r = record { first = hi; second = hj; stride = cz.is; ends = pq.is; asked = a } in
      let y : PairLearnt (capacity_of s) b i j z q r = subst (λ (G : Capacity). PairLearnt G b i j z q r) e x in
      let at : (k : ℕ) → k < s.config.servers → get_or (logs_of s.servers) k [] ≡ current_log (server_at s k) = λ k l. log_at_lem
      s.servers k (rw (all_servers h) l) in
      y.asked.to (logs_of s.servers) (logs_lent h z q y.stride y.ends)
      ∙ ap₂ log_matching_failure (at i y.first) (at j y.second);
}
