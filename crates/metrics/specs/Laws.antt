-- Laws of the measurements: which counters a step can carry past 64 bits, when all fit before it. Assumes nothing.
use Rattle.std.specs.Prelude.{◌≡◌, Bool, true, false, ◌&&◌, ltb, length, get_or, set, drop, replicate, Option, None, Some}
use Rattle.std.proofs.Math.Path.{refl, sym, ap}
use Rattle.std.proofs.Common.{◌∙◌, arith}
use mathlib.Core.List.{List, [], ◌∷◌, map}
use Prim.Native.Nat.{ℕ, zero, suc, ◌+◌, ◌-◌, ◌^◌, ◌≤◌, ◌<◌}
use Rattle.std.specs.Option.{is_some}
use Rattle.std.specs.Int.{w64}
use mir.Val.{Val, Fits}
use denote.Array.{each}
use denote.Laws.{Is}
use Rattle.std.specs.Borrow.{RattleType}
use denote.Shadow.{shadow}
use borrow.Author.Tests.{lt-ltb, le-ltb, eq-eqb, eqb-true}
use Rattle.laws.specs.Bools.{pick, ◌and◌, no_and, every, and_left, and_true}
use Rattle.laws.proofs.BoolLaws.{and_right, and_both, and_no, true_and, code_and}
use Rattle.laws.specs.Lists.{modify}
use Rattle.units.specs.declared.NodeId.{NodeId}
use Rattle.metrics.specs.declared.Counts.{Counts}
use Rattle.metrics.specs.declared.Metrics.{Metrics}
use Rattle.metrics.specs.Metrics.{no_counts, no_metrics, add, totals_fit, counters_fit, none_counted, metrics_fit, checked, counted, record_send, sent_by, deliver_to_leader, record_sync, record_reply}

-- What an array by value tells of its elements, from what each tells of itself.
pub every_owned : (R : RattleType) {A : Type 0} (into : A → R.Denot) (test : A → Bool) → ((x : A) (vs : List Val) → Is R (into x) vs → test x ≡ true)
    → (xs : List A) (us : List Val) → shadow (each R.Denot R.own_val (map into xs) us) → every test xs ≡ true
every_owned R into test holds [] us s = refl
every_owned R into test holds (x ∷ xs) [] s = absurd s
every_owned R into test holds (x ∷ xs) (u ∷ us) s = and_both (test x) (every test xs) (holds x (u ∷ []) s.0) (every_owned R into test holds xs us s.1)

-- A changed element, as a store; past the end, d stands for it.
module _ {A : Type 0} (f : A → A) (d : A) where
  pub modify_set : (i : ℕ) (xs : List A) → modify i f xs ≡ set xs i (f (get_or xs i d))
  unfolding modify
  modify_set i [] = refl
  modify_set zero (x ∷ xs) = refl
  modify_set (suc i) (x ∷ xs) = ap (λ (l : List A). x ∷ l) (modify_set i xs)

  pub every_modify : (test : A → Bool) → test (f d) ≡ true → (i : ℕ) (xs : List A) → every test xs ≡ true → every test (modify i f xs) ≡ test (f (get_or xs i d))
  unfolding modify
  every_modify test e i [] h = sym e
  every_modify test e zero (x ∷ xs) h = simp (and_right (test x) (every test xs) h, and_true)
  every_modify test e (suc i) (x ∷ xs) h = simp (and_left (test x) (every test xs) h, true_and, every_modify test e i xs (and_right (test x) (every test xs) h))

-- The counters that fit, one by one.
record Fitting (m : Metrics) : Type 0 where
  sent : totals_fit m.sent ≡ true
  by_sender : every totals_fit m.by_sender ≡ true
  entries_to_leaders : ltb m.entries_to_leaders (2 ^ 64) ≡ true
  fsyncs : ltb m.fsyncs (2 ^ 64) ≡ true
  storage_bytes : ltb m.storage_bytes (2 ^ 64) ≡ true
  client_replies : ltb m.client_replies (2 ^ 64) ≡ true

fitting : (m : Metrics) → counters_fit m ≡ true → Fitting m
unfolding counters_fit
fitting m h =
    let h₁ = and_right _ _ h in
    let h₂ = and_right _ _ h₁ in
    let h₃ = and_right _ _ h₂ in
    let h₄ = and_right _ _ h₃ in
    record {
      sent = and_left _ _ h;
      by_sender = and_left _ _ h₁;
      entries_to_leaders = and_left _ _ h₂;
      fsyncs = and_left _ _ h₃;
      storage_bytes = and_left _ _ h₄;
      client_replies = and_right _ _ h₄;
    }

-- a sum that does not fit
pub too_much : {n m : ℕ} → (n < m → ⊥) → ltb n m ≡ false
too_much {n} {m} h = le-ltb n m (omega arith)

-- What passes a test is given, and only that.
module _ {A : Type 0} (fits : A → Bool) (x : A) where
  pub checked_true : (y : A) → fits x ≡ true → y ≡ x → Some y ≡ checked fits x
  unfolding checked
  checked_true y h e = rw (e, h)

  pub checked_false : (r : Option A) → fits x ≡ false → r ≡ None → r ≡ checked fits x
  unfolding checked
  checked_false r h e = rw (e, h)

  pub given_passes : (y : A) → Some y ≡ checked fits x → fits x ≡ true
  unfolding checked
  given_passes y = by (fits x)
    where
      by : (t : Bool) → Some y ≡ pick t (Some x) None → t ≡ true
      by true e = refl
      by false e = cc

  pub given_is : (y : A) → Some y ≡ checked fits x → y ≡ x
  unfolding checked
  given_is y = by (fits x)
    where
      by : (t : Bool) → Some y ≡ pick t (Some x) None → y ≡ x
      by true e = cc
      by false e = cc

  pub withheld : None ≡ checked fits x → fits x ≡ false
  unfolding checked
  withheld = by (fits x)
    where
      by : (t : Bool) → None ≡ pick t (Some x) None → t ≡ false
      by true e = cc
      by false e = refl

  checked_is_some : is_some (checked fits x) ≡ fits x
  unfolding checked
  checked_is_some = by (fits x)
    where
      by : (t : Bool) → is_some (pick t (Some x) None) ≡ t
      by true = refl
      by false = refl

-- whether an answer is accepted is whether what it counts fits
pub counted_fits : (next : Metrics) → is_some (counted next) ≡ counters_fit next
counted_fits next = checked_is_some counters_fit next

-- One message more in a server's or the cluster's totals, from the sums that fit or do not.
module _ (c : Counts) (bytes entries : ℕ) where
  pub messages_full : (r : Option Counts) → (c.messages + 1 < 2 ^ 64 → ⊥) → r ≡ None → r ≡ checked totals_fit (add bytes entries c)
  unfolding totals_fit add
  messages_full r h = checked_false _ _ r (no_and _ _ (too_much h))

  pub bytes_full : (r : Option Counts) → (c.bytes + bytes < 2 ^ 64 → ⊥) → r ≡ None → r ≡ checked totals_fit (add bytes entries c)
  unfolding totals_fit add
  bytes_full r h = checked_false _ _ r (and_no _ _ (no_and _ _ (too_much h)))

  pub entries_full : (r : Option Counts) → (c.entries + entries < 2 ^ 64 → ⊥) → r ≡ None → r ≡ checked totals_fit (add bytes entries c)
  unfolding totals_fit add
  entries_full r h = checked_false _ _ r (and_no _ _ (and_no _ _ (too_much h)))

  pub added : (m n k : ℕ) → (c.messages + 1 < 2 ^ 64) × (m ≡ c.messages + 1) → (c.bytes + bytes < 2 ^ 64) × (n ≡ c.bytes + bytes)
      → (c.entries + entries < 2 ^ 64) × (k ≡ c.entries + entries) → Some (record { messages = m; bytes = n; entries = k }) ≡ checked totals_fit (add bytes entries c)
  unfolding totals_fit add
  added m n k p q r =
      checked_true _ _ _
      (and_both _ _ (lt-ltb _ _ p.0) (and_both _ _ (lt-ltb _ _ q.0) (lt-ltb _ _ r.0)))
      (rw (p.1, q.1, r.1))

fits_alone : (bytes entries : ℕ) → Fits w64 bytes → Fits w64 entries → totals_fit (add bytes entries no_counts) ≡ true
unfolding totals_fit add
fits_alone bytes entries h k = simp (lt-ltb (0 + bytes) (2 ^ 64) (omega arith), lt-ltb (0 + entries) (2 ^ 64) (omega arith), true_and)

pub sent_is : (m : Metrics) (from : NodeId) (bytes entries : ℕ) (sent sender : Counts) → sent ≡ add bytes entries m.sent → sender ≡ add bytes entries (sent_by m from)
    → record {
      sent = sent;
      by_sender = set m.by_sender (from.0 - 1) sender;
      entries_to_leaders = m.entries_to_leaders;
      fsyncs = m.fsyncs;
      storage_bytes = m.storage_bytes;
      client_replies = m.client_replies;
    } ≡ record_send m from bytes entries
unfolding record_send
sent_is m from bytes entries sent sender e e' = rw (e, e') (simp (modify_set (add bytes entries) no_counts))

-- The test of what each step adds, where every counter fits before it.
module _ (m : Metrics) (h : counters_fit m ≡ true) where
  pub sent_fits : (from : NodeId) (bytes entries : ℕ) (t u : Bool) → Fits w64 bytes → Fits w64 entries
      → t ≡ totals_fit (add bytes entries m.sent) → u ≡ totals_fit (add bytes entries (sent_by m from)) → counters_fit (record_send m from bytes entries) ≡ (t && u)
  unfolding counters_fit record_send
  sent_fits from bytes entries t u fb fe e₀ e₁ =
      let p = fitting m h in
      let e = every_modify (add bytes entries) no_counts totals_fit (fits_alone bytes entries fb fe) (from.0 - 1) m.by_sender p.by_sender in
      simp (p.entries_to_leaders, p.fsyncs, p.storage_bytes, p.client_replies, true_and, and_true, e, code_and, e₀, e₁)

  pub delivered_fits : (entries : ℕ) → counters_fit (deliver_to_leader m entries) ≡ ltb (m.entries_to_leaders + entries) (2 ^ 64)
  unfolding counters_fit deliver_to_leader
  delivered_fits entries =
      let p = fitting m h in
      simp (p.sent, p.by_sender, p.fsyncs, p.storage_bytes, p.client_replies, true_and, and_true)

  pub synced_fits : (bytes : ℕ) → counters_fit (record_sync m bytes) ≡ (ltb (m.fsyncs + 1) (2 ^ 64) and ltb (m.storage_bytes + bytes) (2 ^ 64))
  unfolding counters_fit record_sync
  synced_fits bytes =
      let p = fitting m h in
      simp (p.sent, p.by_sender, p.entries_to_leaders, p.client_replies, true_and, and_true)

  pub replied_fits : counters_fit (record_reply m) ≡ ltb (m.client_replies + 1) (2 ^ 64)
  unfolding counters_fit record_reply
  replied_fits =
      let p = fitting m h in
      simp (p.sent, p.by_sender, p.entries_to_leaders, p.fsyncs, p.storage_bytes, true_and)

-- ---- the ranges in a cluster of S servers

module _ {A : Type 0} where
  pub length_modify : (i : ℕ) (f : A → A) (xs : List A) → length (modify i f xs) ≡ length xs
  unfolding modify
  length_modify i f [] = refl
  length_modify zero f (x ∷ xs) = refl
  length_modify (suc i) f (x ∷ xs) = ap suc (length_modify i f xs)

  -- a change before place n leaves what stands from there on
  pub drop_modify : (n i : ℕ) (f : A → A) (xs : List A) → i < n → drop n (modify i f xs) ≡ drop n xs
  unfolding modify
  drop_modify n i f [] h = refl
  drop_modify zero i f (x ∷ xs) h = absurd (omega arith)
  drop_modify (suc n) zero f (x ∷ xs) h = refl
  drop_modify (suc n) (suc i) f (x ∷ xs) h = drop_modify n i f xs (omega arith)

  pub every_drop : (test : A → Bool) (n : ℕ) (xs : List A) → every test xs ≡ true → every test (drop n xs) ≡ true
  every_drop test zero xs h = h
  every_drop test (suc n) [] h = refl
  every_drop test (suc n) (x ∷ xs) h = every_drop test n xs (and_right _ _ h)

pub none_fit : (S : ℕ) → metrics_fit S no_metrics ≡ true
unfolding metrics_fit counters_fit totals_fit none_counted ◌and◌
none_fit S = rw (every_drop none_counted S (replicate 8 no_counts) refl) refl

-- Where the metrics are in range, what a step gives is in range exactly where its counters fit 64 bits.
module _ (S : ℕ) (m : Metrics) (h : metrics_fit S m ≡ true) where
  eight : length m.by_sender ≡ 8
  unfolding metrics_fit
  eight = eqb-true _ _ (and_left _ _ h)

  beyond : every none_counted (drop S m.by_sender) ≡ true
  unfolding metrics_fit
  beyond = and_left _ _ (and_right _ _ h)

  pub counters_fit_lem : counters_fit m ≡ true
  unfolding metrics_fit
  counters_fit_lem = and_right _ _ (and_right _ _ h)

  -- the senders as they are, or with a change before place S
  with_senders : (next : Metrics) → length next.by_sender ≡ length m.by_sender → drop S next.by_sender ≡ drop S m.by_sender
      → metrics_fit S next ≡ counters_fit next
  unfolding metrics_fit
  with_senders next l d = rw d (simp (eq-eqb (length next.by_sender) 8 (l ∙ eight), beyond, true_and))

  pub sent_in_range : (from : NodeId) (bytes entries : ℕ) → 1 ≤ from.0 → from.0 ≤ S
      → metrics_fit S (record_send m from bytes entries) ≡ counters_fit (record_send m from bytes entries)
  unfolding record_send
  sent_in_range from bytes entries l u =
      with_senders (record_send m from bytes entries)
      (length_modify (from.0 - 1) (add bytes entries) m.by_sender)
      (drop_modify S (from.0 - 1) (add bytes entries) m.by_sender (omega arith))

  pub delivered_in_range : (entries : ℕ) → metrics_fit S (deliver_to_leader m entries) ≡ counters_fit (deliver_to_leader m entries)
  unfolding deliver_to_leader
  delivered_in_range entries = with_senders (deliver_to_leader m entries) refl refl

  pub synced_in_range : (bytes : ℕ) → metrics_fit S (record_sync m bytes) ≡ counters_fit (record_sync m bytes)
  unfolding record_sync
  synced_in_range bytes = with_senders (record_sync m bytes) refl refl

  pub replied_in_range : metrics_fit S (record_reply m) ≡ counters_fit (record_reply m)
  unfolding record_reply
  replied_in_range = with_senders (record_reply m) refl refl

pub ruleset adding = (messages_full, bytes_full, entries_full, added)
