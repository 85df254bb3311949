-- Events and their numbers give each other, and what the proofs of numbers.rt cite. Assumes nothing.
use Rattle.std.specs.Prelude.{◌≡◌, refl, Bool, true, false, not, ◌&&◌, List, [], ◌∷◌, ℕ, ◌≤◌, eqb, get_or, Option, None, Some, Result, Ok, Err}
use Rattle.std.specs.Bool.{then_some}
use Rattle.std.specs.Option.{unwrap_or}
use Rattle.std.specs.Result.{result_ok, result_unwrap_or}
use Rattle.std.proofs.lemmas.Option.{none-some}
use Rattle.std.proofs.Math.Path.{sym, ap}
use Rattle.std.proofs.Common.{ap₂, ◌∙◌, arith, eq-eqb, ne_eqb, eqb-true}
use Rattle.std.proofs.Math.ListN.{get_or-eq_default}
use Rattle.laws.specs.Bools.{pick, and_assoc, and_true}
use Rattle.laws.proofs.BoolLaws.{allb_in, and_both, code_and}
use Rattle.protocol.specs.declared.Timer.{Timer}
use Rattle.protocol.specs.declared.Timer.TheVariants.{Election}
use Rattle.protocol.specs.Numbers.{timer_of}
use Rattle.protocol.specs.Laws.{timers_numbered}
use Rattle.faults.specs.declared.Fault.{Fault}
use Rattle.faults.specs.declared.Fault.TheVariants.{HealAll}
use Rattle.faults.specs.Fault.{fault_of, within_limits}
use Rattle.faults.specs.Laws.{fault_of_numbers}
use Rattle.queue.specs.declared.Event.{Event}
use Rattle.queue.specs.declared.Event.TheVariants as event
use Rattle.queue.specs.declared.numbers.EventWords.{EventWords}
use Rattle.queue.specs.Numbers.{presentOf, named_of, words_of, timer_or, fault_or, leader_of, candidates, candidate, same_words, event_of}
use Rattle.units.specs.declared.NodeId.{NodeId}

-- ---- the round trips

pub leader_of_numbers : (leader : Option NodeId) → leader_of (presentOf leader) (named_of leader) ≡ leader
unfolding leader_of
leader_of_numbers None = refl
leader_of_numbers (Some id) = refl

-- The rates of an event's fault are within limits.
abbrev pub rates_fit : Event → Bool
rates_fit (event.Start slot) = true
rates_fit (event.Deliver from to entries) = true
rates_fit (event.Timer slot timer generation) = true
rates_fit (event.Fault fault) = within_limits fault
rates_fit (event.ClientSend client) = true
rates_fit (event.ClientArrive slot client seq attempt) = true
rates_fit (event.ClientRedirect client attempt leader) = true
rates_fit (event.ClientRetry client attempt) = true
rates_fit (event.ClientReply client seq index) = true
rates_fit (event.ClientTimeout client attempt) = true

pub candidate_of_words : (e : Event) → rates_fit e ≡ true → candidate (words_of e) ≡ e
unfolding candidate
candidate_of_words (event.Start slot) h = refl
candidate_of_words (event.Deliver from to entries) h = refl
candidate_of_words (event.Timer slot timer generation) h = ap (λ t. event.Timer slot (timer_or t) generation) (timers_numbered.of_number timer)
candidate_of_words (event.Fault fault) h = ap (λ f. event.Fault (fault_or f)) (fault_of_numbers fault h)
candidate_of_words (event.ClientSend client) h = refl
candidate_of_words (event.ClientArrive slot client seq attempt) h = refl
candidate_of_words (event.ClientRedirect client attempt leader) h = ap (event.ClientRedirect client attempt) (leader_of_numbers leader)
candidate_of_words (event.ClientRetry client attempt) h = refl
candidate_of_words (event.ClientReply client seq index) h = refl
candidate_of_words (event.ClientTimeout client attempt) h = refl

pub same_words_lem : (x y : EventWords) → same_words x y ≡ true → x ≡ y
unfolding same_words
same_words_lem x y h =
    let test : (i : ℕ) → get_or (eqb x.kind y.kind ∷ eqb x.a y.a ∷ eqb x.b y.b ∷ eqb x.c y.c ∷ eqb x.d y.d ∷ []) i true ≡ true =
    allb_in (eqb x.kind y.kind ∷ eqb x.a y.a ∷ eqb x.b y.b ∷ eqb x.c y.c ∷ eqb x.d y.d ∷ []) h in
    let k : x.kind ≡ y.kind = eqb-true _ _ (test 0) in
    let a : x.a ≡ y.a = eqb-true _ _ (test 1) in
    let b : x.b ≡ y.b = eqb-true _ _ (test 2) in
    let c : x.c ≡ y.c = eqb-true _ _ (test 3) in
    let d : x.d ≡ y.d = eqb-true _ _ (test 4) in
    λ i. record { kind = k i; a = a i; b = b i; c = c i; d = d i }

pub words_same : (x : EventWords) → same_words x x ≡ true
unfolding same_words
words_same x =
    let s : (n : ℕ) → eqb n n ≡ true = λ n. eq-eqb n n refl in
    and_both _ _ (s x.kind) (and_both _ _ (s x.a) (and_both _ _ (s x.b) (and_both _ _ (s x.c) (and_both _ _ (s x.d) refl))))

-- The event of an event's numbers is the event.
pub event_of_words : (e : Event) → rates_fit e ≡ true → event_of (words_of e) ≡ Some e
unfolding event_of
event_of_words e h = rw (candidate_of_words e h, words_same)

-- The numbers of the event of numbers are those numbers.
pub words_of_event : (w : EventWords) (e : Event) → event_of w ≡ Some e → words_of e ≡ w
unfolding event_of
words_of_event w e h = by (same_words (words_of (candidate w)) w) refl h
  where
    by : (t : Bool) → same_words (words_of (candidate w)) w ≡ t → pick t (Some (candidate w)) None ≡ Some e → words_of e ≡ w
    by true p q = let s : candidate w ≡ e = cc in ap words_of (sym s) ∙ same_words_lem (words_of (candidate w)) w p
    by false p q = absurd (none-some e q)

-- ---- the code's arms

pub candidate_arm : (w : EventWords) (i : ℕ) (r : Event) → w.kind ≡ i → r ≡ get_or (candidates w) i (event.ClientTimeout w.a w.b) → r ≡ candidate w
unfolding candidate
candidate_arm w i r e h = h ∙ ap (λ (k : ℕ). get_or (candidates w) k (event.ClientTimeout w.a w.b)) (sym e)

or_else : {A E : Type 0} (r : Result A E) (d : A) → result_unwrap_or r d ≡ unwrap_or (result_ok r) d
or_else (Ok x) d = refl
or_else (Err e) d = refl

pub leader_none : (present id : ℕ) → present ≡ 0 → None ≡ leader_of present id
unfolding leader_of
leader_none present id h = rw (eq-eqb present 0 h)

pub leader_some : (present id : ℕ) → (present ≡ 0 → ⊥) → Some (record { 0 = id }) ≡ leader_of present id
unfolding leader_of
leader_some present id h = rw (ne_eqb present 0 h)

pub leader_there : (present id : ℕ) → then_some {T = NodeId} (not (eqb present 0)) (record { 0 = id }) ≡ leader_of present id
unfolding leader_of
leader_there present id = by (eqb present 0)
  where
    by : (t : Bool) → then_some {T = NodeId} (not t) (record { 0 = id }) ≡ pick t None (Some (record { 0 = id }))
    by true = refl
    by false = refl

module _ (w : EventWords) where
  pub candidate_timer : {E : Type 0} (t : Result Timer E) (timer : Timer) → result_ok t ≡ timer_of w.b
      → timer ≡ result_unwrap_or t Election → w.kind ≡ 2
      → event.Timer w.a timer w.c ≡ candidate w
  candidate_timer t timer p q e = candidate_arm w 2 _ e (ap (λ (x : Timer). event.Timer w.a x w.c) (q ∙ or_else t Election ∙ ap timer_or p))

  pub candidate_fault : {E : Type 0} (f : Result Fault E) (fault : Fault) → result_ok f ≡ fault_of w.a w.b w.c
      → fault ≡ result_unwrap_or f HealAll → w.kind ≡ 3
      → event.Fault fault ≡ candidate w
  candidate_fault f fault p q e = candidate_arm w 3 _ e (ap event.Fault (q ∙ or_else f HealAll ∙ ap fault_or p))

  pub candidate_redirect : (leader : Option NodeId) → leader ≡ then_some {T = NodeId} (not (eqb w.c 0)) (record { 0 = w.d }) → w.kind ≡ 6
      → event.ClientRedirect w.a w.b leader ≡ candidate w
  candidate_redirect leader p e = candidate_arm w 6 _ e (ap (event.ClientRedirect w.a w.b) (p ∙ leader_there w.c w.d))

pub candidate_last : (w : EventWords) → 9 ≤ w.kind → event.ClientTimeout w.a w.b ≡ candidate w
unfolding candidate
candidate_last w h = sym (get_or-eq_default (candidates w) _ h)

-- a comparison of two times five numbers, from the left and, as the derived one is, from the right
pub same_words_is : (x y : EventWords)
    → ((((eqb x.kind y.kind && eqb x.a y.a) && eqb x.b y.b) && eqb x.c y.c) && eqb x.d y.d) ≡ same_words x y
unfolding same_words
same_words_is x y = simp (code_and, and_assoc, and_true)

same_derived : (x y : EventWords)
    → (eqb x.kind y.kind && (eqb x.a y.a && (eqb x.b y.b && (eqb x.c y.c && eqb x.d y.d)))) ≡ same_words x y
unfolding same_words
same_derived x y = simp (code_and, and_true)

module _ (w x : EventWords) (e : Event) (p : e ≡ candidate w) (q : x ≡ words_of e) (t : Bool)
    (h : t ≡ (eqb x.kind w.kind && (eqb x.a w.a && (eqb x.b w.b && (eqb x.c w.c && eqb x.d w.d))))) where
  tested : t ≡ same_words (words_of (candidate w)) w
  tested = h ∙ same_derived x w ∙ ap (λ (y : EventWords). same_words y w) (q ∙ ap words_of p)

  pub event_there : t ≡ true → Some e ≡ event_of w
  unfolding event_of
  event_there y = ap Some p ∙ sym (ap (λ (b : Bool). pick b (Some (candidate w)) None) (sym tested ∙ y))

  pub event_absent : t ≡ false → None ≡ event_of w
  unfolding event_of
  event_absent n = sym (ap (λ (b : Bool). pick b (Some (candidate w)) None) (sym tested ∙ n))

pub ruleset candidate_arms = (candidate_timer, candidate_fault, candidate_redirect, candidate_arm, refl)

pub ruleset events = (event_there, event_absent)
