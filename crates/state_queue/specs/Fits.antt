-- Question 10 by the queue: pushes and takes in a row. Assumes nothing.
use Rattle.std.specs.Prelude.{◌≡◌, Bool, ℕ, suc, ◌+◌, ◌-◌, ◌≤◌, ◌<◌}
use Rattle.std.proofs.Math.Path.{refl, ap}
use Rattle.std.proofs.Common.{sym, ap₂, ◌∙◌, zero-add, arith}
use Rattle.std.proofs.Math.Bool.{true, false, not}
use mathlib.Core.List.{List, [], ◌∷◌, map}
use Rattle.std.proofs.Math.Dec.{leb, ltb}
use Rattle.std.proofs.Math.ListN.{length}
use borrow.Author.Tests.{leb-true, le-leb, ltb-true, ltb-false, le-ltb}
use Rattle.laws.specs.Bools.{pick, ◌and◌, and_left, and_true, every}
use Rattle.laws.proofs.BoolLaws.{and_right, and_both, true_and}
use Rattle.laws.specs.Order.{numbers, not_below, next, chain, sorted, push_by}
use Rattle.laws.specs.OrderLaws.{length_push}
use Rattle.laws.proofs.OrderLaws.{every_push}
use Rattle.layout.specs.Sorted.{sorted_push}
use Rattle.units.specs.declared.SimTime.{SimTime}
use Rattle.queue.specs.declared.Event.{Event}
use Rattle.queue.specs.Queue.{Scheduled, Queue, time_of, push}
use Rattle.queue.specs.Range.{word, event_fits, message_room, message_fits, in_order}
use Rattle.queue.specs.Table.{rest}
use Rattle.model.specs.State.{State}
use Rattle.model.specs.Fits.{state_fits, queue_fits}
use Rattle.state.specs.FitsBy.{fits_one, fits_test}
use Rattle.state_queue.specs.Events.{queue_room, event_in_range, dequeued, pushed, plain, pushed_all}

-- ---- a queue before a push

module _ (a : Scheduled) where
  next_before : (p : ℕ) (x : Queue) → ltb (time_of a) p ≡ false → next (not_below numbers) p (map time_of (push_by numbers time_of a x)) ≡ true
      → next (not_below numbers) p (map time_of x) ≡ true
  unfolding push_by not_below
  next_before p [] h k = refl
  next_before p (b ∷ x) h k = by (ltb (time_of a) (time_of b)) refl k
    where
      by : (t : Bool) → ltb (time_of a) (time_of b) ≡ t
          → next (not_below numbers) p (map time_of (pick t (a ∷ b ∷ x) (b ∷ push_by numbers time_of a x))) ≡ true
          → not (ltb (time_of b) p) ≡ true
      by true e k = ap not (le-ltb (time_of b) p (omega (arith, ltb-true (time_of a) (time_of b) e, ltb-false (time_of a) p h)))
      by false e k = k

  sorted_before : (x : Queue) → sorted numbers (map time_of (push_by numbers time_of a x)) ≡ true → sorted numbers (map time_of x) ≡ true
  unfolding push_by chain
  sorted_before [] h = refl
  sorted_before (b ∷ x) h = by (ltb (time_of a) (time_of b)) refl h (λ k. sorted_before x k)
    where
      by : (t : Bool) → ltb (time_of a) (time_of b) ≡ t
          → sorted numbers (map time_of (pick t (a ∷ b ∷ x) (b ∷ push_by numbers time_of a x))) ≡ true
          → (sorted numbers (map time_of (push_by numbers time_of a x)) ≡ true → sorted numbers (map time_of x) ≡ true) → sorted numbers (map time_of (b ∷ x)) ≡ true
      by true e k more = and_right _ _ k
      by false e k more = and_both _ _ (next_before (time_of b) x e (and_left _ _ k)) (more (and_right _ _ k))

  every_before : (f : Scheduled → Bool) (x : Queue) → every f (push_by numbers time_of a x) ≡ true → (f a and every f x) ≡ true
  unfolding push_by
  every_before f [] h = h
  every_before f (b ∷ x) h = by (ltb (time_of a) (time_of b)) h (λ k. every_before f x k)
    where
      by : (t : Bool) → every f (pick t (a ∷ b ∷ x) (b ∷ push_by numbers time_of a x)) ≡ true
          → (every f (push_by numbers time_of a x) ≡ true → (f a and every f x) ≡ true) → (f a and every f (b ∷ x)) ≡ true
      by true k more = k
      by false k more = let m = more (and_right _ _ k) in and_both _ _ (and_left _ _ m) (and_both _ _ (and_left _ _ k) (and_right _ _ m))

-- two tests that are true together are equal
pub same_tests : (t u : Bool) → (t ≡ true → u ≡ true) → (u ≡ true → t ≡ true) → t ≡ u
same_tests true u f g = sym (f refl)
same_tests false true f g = g refl
same_tests false false f g = refl

-- ---- one event more

module _ (s : State) (e : Scheduled) where
  abbrev q' : Queue
  q' = push_by numbers time_of e s.queue

  -- a queue that fits with one event more fits without it, and had room for the event, which is in range
  queue_before : queue_fits s.config s.limits q' ≡ true
      → (queue_room 1 s and event_in_range s e) and queue_fits s.config s.limits s.queue ≡ true
  unfolding in_order queue_room event_in_range
  queue_before t =
      let o : length q' ≤ s.limits.events = leb-true (length q') s.limits.events (and_left _ _ t) in
      let l : length q' ≡ length s.queue + 1 = length_push numbers time_of e s.queue in
      let f = every_before e _ s.queue (and_left _ _ (and_right _ _ t)) in
      and_both _ _ (and_both _ _ (le-leb (length s.queue + 1) s.limits.events (omega arith)) (and_left _ _ f))
      (and_both _ _ (le-leb (length s.queue) s.limits.events (omega arith)) (and_both _ _ (and_right _ _ f) (sorted_before e s.queue (and_right _ _ (and_right _ _ t)))))

  -- and the other way round
  queue_after : queue_fits s.config s.limits s.queue ≡ true → queue_room 1 s and event_in_range s e ≡ true
      → queue_fits s.config s.limits q' ≡ true
  unfolding in_order queue_room event_in_range
  queue_after h k =
      and_both _ _ (ap (λ (n : ℕ). leb n s.limits.events) (length_push numbers time_of e s.queue) ∙ and_left _ _ k)
      (and_both _ _ (every_push numbers time_of _ e s.queue (and_right _ _ k) (and_left _ _ (and_right _ _ h))) (sorted_push numbers time_of e s.queue (and_right _ _ (and_right _ _ h))))

  -- what fits with one event more fits without it
  pub fits_unpushed : state_fits (pushed e s) ≡ true → state_fits s ≡ true
  unfolding pushed push
  fits_unpushed h =
      let t : queue_fits s.config s.limits q' ≡ true = fits_test (pushed e s) h 3 in
      fits_one (pushed e s) s 3 (queue_fits s.config s.limits s.queue) (omega arith) t refl
      ∙ and_both _ _ (and_right _ _ (queue_before t)) h

  -- one event more, whatever the state
  pub fits_push : state_fits (pushed e s) ≡ ((queue_room 1 s and event_in_range s e) and state_fits s)
  unfolding pushed push
  fits_push =
      same_tests (state_fits (pushed e s)) ((queue_room 1 s and event_in_range s e) and state_fits s)
      (λ h. and_both _ _ (and_left _ _ (queue_before (fits_test (pushed e s) h 3))) (fits_unpushed h))
      (λ h.
      let k : queue_fits s.config s.limits s.queue ≡ true = fits_test s (and_right _ _ h) 3 in
      fits_one s (pushed e s) 3 (queue_fits s.config s.limits q') (omega arith) k refl
      ∙ and_both _ _ (queue_after k (and_left _ _ h)) (and_right _ _ h))

-- ---- several events more

room_less : (s : State) (m n : ℕ) → m ≤ n → queue_room n s ≡ true → queue_room m s ≡ true
unfolding queue_room
room_less s m n l h =
    le-leb (length s.queue + m) s.limits.events (omega (arith, leb-true (length s.queue + n) s.limits.events h))

-- room after a push is room for one more before it
pub room_pushed : (s : State) (e : Scheduled) (n : ℕ) → queue_room n (pushed e s) ≡ queue_room (suc n) s
unfolding queue_room pushed push
room_pushed s e n =
    ap (λ (m : ℕ). leb m s.limits.events) (let o : length (push_by numbers time_of e s.queue) + n ≡ length s.queue + suc n = omega (arith, length_push numbers time_of e s.queue) in o)

range_pushed : (s : State) (e : Scheduled) (es : List Scheduled) → every (event_in_range (pushed e s)) es ≡ every (event_in_range s) es
unfolding event_in_range pushed
range_pushed s e es = refl

fits_none : (s : State) → state_fits s ≡ ((queue_room 0 s and true) and state_fits s)
unfolding queue_room
fits_none s = same_tests (state_fits s) ((queue_room 0 s and true) and state_fits s)
    (λ h. and_both _ _ (and_both _ _ (le-leb (length s.queue + 0) s.limits.events (omega (arith, leb-true (length s.queue) s.limits.events (and_left _ _ (fits_test s h 3))))) refl) h) (λ h. and_right _ _ h)

-- several events more, whatever the state
pub fits_push_all : (es : List Scheduled) (s : State)
    → state_fits (pushed_all es s) ≡ ((queue_room (length es) s and every (event_in_range s) es) and state_fits s)
unfolding pushed_all
fits_push_all [] s = fits_none s
fits_push_all (e ∷ es) s =
    fits_push_all es (pushed e s)
    ∙ ap₂ (λ (t u : Bool). (t and u) and state_fits (pushed e s)) (room_pushed s e (length es)) (range_pushed s e es)
    ∙ ap (λ (t : Bool). (queue_room (suc (length es)) s and every (event_in_range s) es) and t) (fits_push s e)
    ∙ same_tests ((queue_room (suc (length es)) s and every (event_in_range s) es) and ((queue_room 1 s and event_in_range s e) and state_fits s)) ((queue_room (suc (length es)) s and (event_in_range s e and every (event_in_range s) es)) and state_fits s)
    (λ h. let a = and_left _ _ h in let b = and_right _ _ h in and_both _ _ (and_both _ _ (and_left _ _ a) (and_both _ _ (and_right _ _ (and_left _ _ b)) (and_right _ _ a))) (and_right _ _ b))
    (λ h.
    let a = and_left _ _ h in
    let r = and_left _ _ a in
    let b = and_right _ _ a in
    and_both _ _ (and_both _ _ r (and_right _ _ b)) (and_both _ _ (and_both _ _ (room_less s 1 (suc (length es)) (omega arith) r) (and_left _ _ b)) (and_right _ _ h)))

-- room after several pushes
pub room_pushed_all : (es : List Scheduled) (s : State) (n : ℕ) → queue_room n (pushed_all es s) ≡ queue_room (length es + n) s
unfolding pushed_all
room_pushed_all [] s n = ap (λ (m : ℕ). queue_room m s) (sym (zero-add n))
room_pushed_all (e ∷ es) s n =
    room_pushed_all es (pushed e s) n ∙ room_pushed s e (length es + n)
    ∙ ap (λ (m : ℕ). queue_room m s) (let o : suc (length es + n) ≡ suc (length es) + n = omega arith in o)

-- an event that delivers no message
pub plain_range : (s : State) (time : SimTime) (event : Event)
    → event_in_range s (plain time event) ≡ (word time.0 and event_fits s.config.servers s.config.clients s.limits.log_indexes event)
unfolding event_in_range plain
plain_range s time event =
    let m : message_fits s.limits.message event [] ≡ true =
    and_both _ _ refl (and_both _ _ (le-leb 0 (message_room s.limits.message event) (omega arith)) refl) in
    ap (λ (u : Bool). word time.0 and (event_fits s.config.servers s.config.clients s.limits.log_indexes event and u)) m
    ∙ ap (λ (u : Bool). word time.0 and u) (and_true _)

-- ---- the first event taken

every_rest : (f : Scheduled → Bool) (q : Queue) → every f q ≡ true → every f (rest q) ≡ true
every_rest f [] h = h
every_rest f (e ∷ q) h = and_right _ _ h

order_rest : (q : Queue) → in_order q ≡ true → in_order (rest q) ≡ true
unfolding in_order chain
order_rest [] h = h
order_rest (e ∷ q) h = and_right _ _ h

-- the length without the first event
pub rest_most : (q : Queue) → length (rest q) ≡ length q - 1
rest_most [] = refl
rest_most (e ∷ q) = omega arith

-- room after an event was taken is room for one less before it
pub room_taken : (s : State) (n : ℕ) → 0 < length s.queue → queue_room (suc n) (dequeued s) ≡ queue_room n s
unfolding queue_room dequeued
room_taken s n k =
    ap (λ (m : ℕ). leb m s.limits.events) (let o : length (rest s.queue) + suc n ≡ length s.queue + n = omega (arith, rest_most s.queue) in o)

-- the first event taken, where the queue fitted
pub fits_taken : (s : State) → queue_fits s.config s.limits s.queue ≡ true → state_fits (dequeued s) ≡ state_fits s
unfolding dequeued
fits_taken s h =
    let o : length s.queue ≤ s.limits.events = leb-true (length s.queue) s.limits.events (and_left _ _ h) in
    let t : queue_fits s.config s.limits (rest s.queue) ≡ true =
    and_both _ _ (le-leb (length (rest s.queue)) s.limits.events (omega (arith, rest_most s.queue))) (and_both _ _ (every_rest _ s.queue (and_left _ _ (and_right _ _ h))) (order_rest s.queue (and_right _ _ (and_right _ _ h)))) in
    fits_one s (dequeued s) 3 (queue_fits s.config s.limits (rest s.queue)) (omega arith) h refl
    ∙ ap (λ (u : Bool). u and state_fits s) t ∙ true_and _
