-- Question 10 of a client's attempt. Assumes nothing.
use Rattle.std.specs.Prelude.{◌≡◌, Bool, true, false, leb, length, Option, None, Some}
use Rattle.std.proofs.Math.Path.{refl, ap, ap₂}
use Rattle.std.proofs.Common.{sym, ◌∙◌, arith, lt-ltb, le-leb, leb-true, eqb-true}
use mathlib.Core.List.{List, [], ◌∷◌}
use Prim.Native.Nat.{ℕ, zero, suc, ◌+◌, ◌-◌, ◌^◌, ◌<◌}
use Rattle.std.proofs.Math.Dec.{ltb}
use Rattle.std.proofs.Math.ListN.{get_or}
use Rattle.std.proofs.Math.Seq.{get_or-set_same}
use Rattle.laws.specs.Bools.{pick, ◌and◌, and_left, and_true}
use Rattle.laws.proofs.BoolLaws.{true_and, and_no, every_get}
use Rattle.laws.specs.Lists.{modify, is_some}
use Rattle.metrics.specs.Laws.{modify_set}
use Rattle.config.specs.Limits.{InLimits, judge}
use Rattle.config.specs.Laws.{in_limits}
use Rattle.clients.specs.declared.Client.{Client}
use Rattle.clients.specs.declared.Outstanding.{Outstanding}
use Rattle.clients.specs.ClientLaws.{no_client}
use Rattle.queue.specs.Queue.{Scheduled}
use Rattle.queue.specs.Range.{word}
use Rattle.queue.specs.declared.Event.TheVariants as event
use Rattle.units.specs.declared.SimTime.{SimTime}
use Rattle.model.specs.State.{State, client_at}
use Rattle.model.specs.Fields.{with_clients, with_attempt}
use Rattle.model.specs.Simulation.{client_attempt, send_outstanding, on_client, push_event}
use Rattle.model.specs.Fits.{state_fits, client_state_fits, outstanding_fits, if_some}
use Rattle.state.specs.FitsBy.{fits_test}
use Rattle.state.specs.Fitting.{accepted_is}
use Rattle.state_records.specs.Records.{client_set}
use Rattle.state_records.specs.Fits.{fits_client}
use Rattle.state_queue.specs.Events.{queue_room, event_in_range, plain, pushed, pushed_all}
use Rattle.state_queue.specs.Fits.{fits_push_all, plain_range, same_tests}
use Rattle.sim_attempt.specs.Attempts.{room_of, arrival_time, arrival_fits, timeout_time, timeout_fits, attempt_test, delayed, outstanding_sent, attempted_as}
use Rattle.sim_attempt.specs.Networks.{delayed_fits}

-- ---- one client

modify_twice : {A : Type 0} (f g : A → A) (k : ℕ) (xs : List A) → modify k g (modify k f xs) ≡ modify k (λ x. g (f x)) xs
unfolding modify
modify_twice f g k [] = refl
modify_twice f g zero (x ∷ xs) = refl
modify_twice f g (suc k) (x ∷ xs) = ap (λ (l : List _). x ∷ l) (modify_twice f g k xs)

module _ (s : State) (c : ℕ) (k : Client) where
  -- the client that was set
  pub client_there : c < length s.clients → client_at (client_set c k s) c ≡ k
  unfolding client_set
  client_there i =
      ap (λ (l : List Client). get_or l c no_client) (modify_set (λ (_ : Client). k) no_client c s.clients) ∙ get_or-set_same s.clients c k no_client i

  -- a client that was set, changed
  pub client_again : (f : Client → Client) → on_client (client_set c k s) c f ≡ client_set c (f k) s
  unfolding client_set
  client_again f = ap (with_clients s) (modify_twice (λ (_ : Client). k) f c s.clients)

-- a client changed is another client set
pub client_changed : (s : State) (c : ℕ) (f : Client → Client) → on_client s c f ≡ client_set c (f (client_at s c)) s
unfolding client_set
client_changed s c f =
    ap (with_clients s) (modify_set f no_client c s.clients ∙ sym (modify_set (λ (_ : Client). f (client_at s c)) no_client c s.clients))

same_there : (xs : List Client) (i : ℕ) → modify i (λ _. get_or xs i no_client) xs ≡ xs
unfolding modify
same_there [] i = refl
same_there (x ∷ xs) zero = refl
same_there (x ∷ xs) (suc i) = ap (λ (l : List Client). x ∷ l) (same_there xs i)

-- a client set as it is
pub client_same : (s : State) (c : ℕ) → client_set c (client_at s c) s ≡ s
unfolding client_set
client_same s c = ap (with_clients s) (same_there s.clients c)

module _ (s : State) (t : state_fits s ≡ true) where
  -- a state that fits has C clients
  pub client_count : length s.clients ≡ s.config.clients
  client_count = eqb-true _ _ (fits_test s t 9)

  -- and each fits
  pub client_fits_at : (c : ℕ) → c < s.config.clients → client_state_fits s.config s.limits (client_at s c) ≡ true
  client_fits_at c i = every_get (client_state_fits s.config s.limits) s.clients c no_client (rw client_count i) (fits_test s t 10)

-- ---- what an attempt does

module _ (s : State) (c : ℕ) (k : Client) (i : c < length s.clients) where
  pub attempted_none : k.outstanding ≡ None → attempted_as c k s ≡ client_set c k (delayed s)
  unfolding attempted_as client_attempt delayed client_set arrival_time
  attempted_none e =
      let a : State = client_set c k (delayed s) in
      ap (λ (o : Option Outstanding). send_outstanding a c o (record { 0 = arrival_time s.now.0 s })) (ap (λ (x : Client). x.outstanding) (client_there s c k i) ∙ e)

  pub attempted_some : (o : Outstanding) → k.outstanding ≡ Some o
      → attempted_as c k s ≡ outstanding_sent c k o.seq (arrival_time s.now.0 s) (timeout_time s.now.0 s) (delayed s)
  unfolding attempted_as client_attempt delayed client_set outstanding_sent pushed plain arrival_time timeout_time
  attempted_some o e =
      let a : State = client_set c k (delayed s) in
      let time : SimTime = record { 0 = arrival_time s.now.0 s } in
      let end : SimTime = record { 0 = timeout_time s.now.0 s } in
      let there : client_at a c ≡ k = client_there s c k i in
      ap (λ (x : Option Outstanding). send_outstanding a c x time) (ap (λ (x : Client). x.outstanding) there ∙ e)
      ∙ ap
      (λ (x : Client).
      push_event (push_event (on_client a c (λ y. with_attempt y (x.attempt + 1))) time (event.ClientArrive x.target c o.seq (x.attempt + 1))) end (event.ClientTimeout c (x.attempt + 1)))
      there
      ∙ ap (λ (x : State). push_event (push_event x time (event.ClientArrive k.target c o.seq (k.attempt + 1))) end (event.ClientTimeout c (k.attempt + 1)))
      (client_again (delayed s) c k (λ y. with_attempt y (k.attempt + 1)))

-- ---- question 10

-- room for more by the free places
pub room_is : (s : State) (n : ℕ) → 0 < n → queue_room n s ≡ leb n (room_of s)
unfolding queue_room room_of
room_is s n p =
    same_tests (leb (length s.queue + n) s.limits.events) (leb n (s.limits.events - length s.queue))
    (λ h. le-leb n (s.limits.events - length s.queue) (omega (arith, leb-true (length s.queue + n) s.limits.events h)))
    (λ h. le-leb (length s.queue + n) s.limits.events (omega (arith, leb-true n (s.limits.events - length s.queue) h)))

settle : (r a t e n : Bool) → ((r and ((t and a) and ((e and a) and true))) and (n and a)) ≡ (n and (r and (a and (t and e))))
unfolding ◌and◌
settle true true true true n = refl
settle true true true false n = sym (and_no n false refl)
settle true true false e n = sym (and_no n false refl)
settle true false true e n = sym (and_no n false refl)
settle true false false e n = sym (and_no n false refl)
settle false a t e n = sym (and_no n false refl)

-- tests of events that are known to be true
arrive_tests : (u : Bool) {k w x y p q : Bool} → k ≡ true → w ≡ true → x ≡ true → y ≡ true → p ≡ true → q ≡ true → ((k and (w and (x and (y and u)))) and (p and q)) ≡ u
arrive_tests u ek ew ex ey ep eq = simp (ek, ew, ex, ey, ep, eq, true_and, and_true)

pub number_tests : (u : Bool) {k w x y p : Bool} → k ≡ true → w ≡ true → x ≡ true → y ≡ true → p ≡ true → ((k and (w and (u and (x and y)))) and p) ≡ u
number_tests u ek ew ex ey ep = simp (ek, ew, ex, ey, ep, true_and, and_true)

-- the numbers of a state that fits
pub limits_of : (s : State) → state_fits s ≡ true → InLimits s.config.servers s.config.clients s.limits
limits_of s t = in_limits s.config s.limits (judge s.config s.limits) refl (accepted_is (judge s.config s.limits) (fits_test s t 0))

module _ (s : State) (c : ℕ) where
  room_set : (k : Client) (n : ℕ) → queue_room n (client_set c k s) ≡ queue_room n s
  unfolding queue_room client_set
  room_set k n = refl

  range_set : (k : Client) (e : Scheduled) → event_in_range (client_set c k s) e ≡ event_in_range s e
  unfolding event_in_range client_set
  range_set k e = refl

client_tests : (n a : Bool) {o h : Bool} → o ≡ true → h ≡ true → (o and (n and (a and h))) ≡ (n and a)
client_tests n a eo eh = simp (eo, eh, true_and, and_true)

module _ (s : State) (c : ℕ) (k : Client) (t : state_fits s ≡ true) (i : c < s.config.clients) where
  abbrev S : ℕ
  S = s.config.servers

  abbrev C : ℕ
  C = s.config.clients

  abbrev L : ℕ
  L = s.limits.log_indexes

  -- a client set
  pub fits_set : state_fits (client_set c k s) ≡ client_state_fits s.config s.limits k
  fits_set = fits_client s c k (client_count s t) i (fits_test s t 10) ∙ ap (λ (x : Bool). client_state_fits s.config s.limits k and x) t ∙ and_true _

  arrive_range : (seq attempt at : ℕ) → k.target < S → word seq ≡ true
      → event_in_range s (plain (record { 0 = at }) (event.ClientArrive k.target c seq attempt)) ≡ (word at and word attempt)
  arrive_range seq attempt at o w =
      let l = limits_of s t in
      plain_range s (record { 0 = at }) (event.ClientArrive k.target c seq attempt)
      ∙ ap (λ (x : Bool). word at and x)
      (arrive_tests (word attempt) refl (lt-ltb k.target (2 ^ 64) (omega (arith, l.servers))) (lt-ltb c (2 ^ 64) (omega (arith, l.clients))) w (lt-ltb k.target S o) (lt-ltb c C i))

  timeout_range : (attempt at : ℕ) → event_in_range s (plain (record { 0 = at }) (event.ClientTimeout c attempt)) ≡ (word at and word attempt)
  timeout_range attempt at =
      plain_range s (record { 0 = at }) (event.ClientTimeout c attempt)
      ∙ ap (λ (x : Bool). word at and x) (number_tests (word attempt) refl (lt-ltb c (2 ^ 64) (omega (arith, (limits_of s t).clients))) refl refl (lt-ltb c C i))

  -- a command sent to arrive and to time out at given times
  pub fits_sent : (seq at end : ℕ) → k.target < S → word seq ≡ true → if_some (outstanding_fits s.config s.limits) k.outstanding ≡ true
      → state_fits (outstanding_sent c k seq at end s) ≡ (word k.next_seq and (leb 2 (room_of s) and (word (k.attempt + 1) and (word at and word end))))
  unfolding outstanding_sent pushed_all
  fits_sent seq at end o w h =
      let a : ℕ = k.attempt + 1 in
      let x : State = client_set c (with_attempt k a) s in
      fits_push_all (plain (record { 0 = at }) (event.ClientArrive k.target c seq a) ∷ plain (record { 0 = end }) (event.ClientTimeout c a) ∷ []) x
      ∙ ap₂ (λ (r e : Bool). (r and e) and state_fits x) (room_set s c (with_attempt k a) 2 ∙ room_is s 2 (omega arith))
      (ap₂ (λ (u v : Bool). u and (v and true)) (range_set s c (with_attempt k a) _ ∙ arrive_range seq a at o w) (range_set s c (with_attempt k a) _ ∙ timeout_range a end))
      ∙ ap (λ (u : Bool). (leb 2 (room_of s) and ((word at and word a) and ((word end and word a) and true))) and u)
      (fits_client s c (with_attempt k a) (client_count s t) i (fits_test s t 10) ∙ ap (λ (u : Bool). client_state_fits s.config s.limits (with_attempt k a) and u) t ∙ and_true _
      ∙ client_tests (word k.next_seq) (word a) (lt-ltb k.target S o) h)
      ∙ settle (leb 2 (room_of s)) (word a) (word at) (word end) (word k.next_seq)

module _ (s : State) (c : ℕ) (k : Client) (t : state_fits s ≡ true) (i : c < s.config.clients) where
  here : c < length s.clients
  here = rw (client_count s t) i

  fits_none : k.outstanding ≡ None → ltb k.target s.config.servers ≡ true → word k.attempt ≡ true
      → state_fits (attempted_as c k s) ≡ (word k.next_seq and true)
  unfolding delayed
  fits_none e o w =
      ap state_fits (attempted_none s c k here e) ∙ fits_set (delayed s) c k (delayed_fits s t) i
      ∙ ap (λ (x : Option Outstanding). ltb k.target s.config.servers and (word k.next_seq and (word k.attempt and if_some (outstanding_fits s.config s.limits) x))) e
      ∙ client_tests (word k.next_seq) (word k.attempt) o refl ∙ ap (λ (x : Bool). word k.next_seq and x) w

  fits_some : (x : Outstanding) → k.outstanding ≡ Some x → k.target < s.config.servers → word x.seq ≡ true → if_some (outstanding_fits s.config s.limits) k.outstanding ≡ true
      → state_fits (attempted_as c k s) ≡ (word k.next_seq and attempt_test s.now.0 (room_of s) k.attempt s)
  unfolding delayed attempt_test arrival_fits timeout_fits room_of
  fits_some x e o w h =
      ap state_fits (attempted_some s c k here x e)
      ∙ fits_sent (delayed s) c k (delayed_fits s t) i x.seq (arrival_time s.now.0 s) (timeout_time s.now.0 s) o w h

-- an attempt of a client that is k, on a state that fits
pub fits_attempt : (s : State) (c : ℕ) (k : Client) → state_fits s ≡ true → c < s.config.clients → k.target < s.config.servers → word k.attempt ≡ true
    → if_some (outstanding_fits s.config s.limits) k.outstanding ≡ true
    → state_fits (attempted_as c k s) ≡ (word k.next_seq and pick (is_some k.outstanding) (attempt_test s.now.0 (room_of s) k.attempt s) true)
fits_attempt s c k t i o w h = by k.outstanding refl h
  where
    by : (x : Option Outstanding) → k.outstanding ≡ x → if_some (outstanding_fits s.config s.limits) x ≡ true
        → state_fits (attempted_as c k s) ≡ (word k.next_seq and pick (is_some x) (attempt_test s.now.0 (room_of s) k.attempt s) true)
    by None e g = fits_none s c k t i e (lt-ltb _ _ o) w
    by (Some x) e g = fits_some s c k t i x e o (and_left _ _ g) h
