-- What the proofs of lib.rt cite. Assumes nothing.
use Rattle.std.proofs.Math.Path.{◌≡◌, refl, sym, ap, ap₂, subst}
use Rattle.std.proofs.Common.{◌∙◌, mul-le-mul_right, arith}
use Rattle.std.proofs.Math.Bool.{true}
use Rattle.std.specs.Prelude.{false, ℕ, ◌+◌, ◌-◌, ◌*◌, ◌≤◌, ◌<◌, eqb, drop, take, Option, None, Some}
use mathlib.Core.List.{List, [], ◌∷◌}
use Rattle.std.proofs.Math.Dec.{leb}
use Rattle.std.proofs.Math.ListN.{length, get_or, set}
use Rattle.std.proofs.lemmas.List.Edits.{sets}
use borrow.Author.Tests.{leb-true, leb-false, le-leb, lt-leb}
use Rattle.laws.specs.Bools.{◌and◌, and_left, cases, every, pick_both}
use Rattle.laws.proofs.BoolLaws.{and_right}
use Rattle.laws.specs.Order.{numbers}
use Rattle.laws.specs.OrderLaws.{length_push}
use Rattle.units.specs.declared.SimTime.{SimTime}
use Rattle.words.specs.Words.{W, bytes, bytes_of as bytesOfNumber}
use Rattle.layout.specs.Tables.{Holds, Table, Held}
use Rattle.layout.specs.Contents.{holds_w}
use Rattle.layout.specs.Marked.{words_for}
use Rattle.layout.specs.Parts.{lent_row, back_row, length_lent_row}
use Rattle.layout.specs.Cuts.{cut, region}
use Rattle.layout.specs.Rows.{row_start, row_end}
use Rattle.queue.specs.declared.Event.{Event}
use Rattle.queue.specs.declared.table.Earliest.{Earliest}
use Rattle.queue.specs.Numbers.{words_of}
use Rattle.queue.specs.Range.{message_room}
use Rattle.queue.specs.Queue.{Scheduled, Queue, time_of, push}
use Rattle.queue.specs.Table.{events, rest, Pushes, Removes, GivesFirst, Copies}
use Rattle.model.specs.State.{State}
use Rattle.model.specs.Fields.{with_queue}
use Rattle.model.specs.Fits.{state_fits}
use Rattle.state.specs.declared.Capacity.{Capacity}
use Rattle.state.specs.Sizes.{sizes, queue_at, queue_words, Counted}
use Rattle.state.specs.SizeLaws.{room}
use Rattle.state.specs.Parts.{counts_words}
use Rattle.state.specs.Area.{Area, capacity_of, counts_of, queue_code}
use Rattle.state.specs.Encode.{contents}
use Rattle.state.specs.Fitting.{area_fits}
use Rattle.state.specs.FitsBy.{fits_test}
use Rattle.state.specs.Changes.{Inside, AreaOf, Changes, Reads}
use Rattle.state.specs.Tables.{Spans, queue_span, table_lent, table_put}
use Rattle.state_queue.specs.Events.{queue_length, queue_room, event_in_range, first_of, next_event, CopiesMessage, FirstInRange, dequeued, pushed, plain}
use Rattle.state_queue.specs.Fits.{fits_push, rest_most}

-- ---- the count

is_empty : (q : Queue) → length q ≡ 0 → q ≡ []
is_empty [] e = refl
is_empty (x ∷ q) e = absurd (omega arith)

was_empty : (q : Queue) → length q ≡ 0 → q ≡ rest q
was_empty [] e = refl
was_empty (x ∷ q) e = absurd (omega arith)

module _ (b : List ℕ) (F : Capacity) where
  pub count_read : (r : ℕ) → r ≡ get_or (W (take (728 - 664) (drop 664 b))) 0 0 → Reads b F r queue_length
  unfolding queue_length
  count_read r e = record {
    to =
        λ s h ef. e ∙ ap (λ (l : List ℕ). get_or (W l) 0 0) (region (sizes (capacity_of s)) b 6 (omega arith))
        ∙ ap (λ (ws : List ℕ). get_or ws 0 0) (holds_w h.laid.counts);
  }

  module _ (n : ℕ) (p : Reads b F n queue_length) where
    -- so many events are within the limit, wherever the area holds a state
    pub count_most : (s : State) → Area b s → F ≡ capacity_of s → n ≤ F.limits.events
    unfolding queue_length
    count_most s h ef =
        omega (arith, p.to s h ef, leb-true (length s.queue) s.limits.events (and_left _ _ (fits_test s (area_fits h) 3)), ap (λ (G : Capacity). G.limits.events) ef)

    pub room_none : (more : ℕ) → F.limits.events < n → Reads b F false (queue_room more)
    room_none more k = record { to = λ s h ef. absurd (let o : n ≤ F.limits.events = count_most s h ef in omega arith) }

    pub room_read : (more : ℕ) → n ≤ F.limits.events → Reads b F (leb more (F.limits.events - n)) (queue_room more)
    unfolding queue_length queue_room
    room_read more k = record {
      to = λ s h ef.
          shifted n more F.limits.events k
          ∙ ap₂ (λ (m u : ℕ). leb (m + more) u) (p.to s h ef) (ap (λ (G : Capacity). G.limits.events) ef);
    }
      where
        shifted : (a c d : ℕ) → a ≤ d → leb c (d - a) ≡ leb (a + c) d
        shifted a c d k =
            cases (leb c (d - a)) (λ t. t ∙ sym (le-leb (a + c) d (omega (arith, leb-true c (d - a) t)))) (λ t. t ∙ sym (lt-leb (a + c) d (omega (arith, leb-false c (d - a) t))))

    -- nothing to read, to take, or no room

    pub first_none : n ≡ 0 → Reads b F None next_event
    unfolding queue_length next_event first_of
    first_none k = record { to = λ s h ef. ap first_of (sym (is_empty s.queue (sym (p.to s h ef) ∙ k))) }

    pub take_none : n ≡ 0 → Changes b b F dequeued
    unfolding queue_length dequeued
    take_none k =
        record { to = λ s r h t. subst (λ (q : Queue). AreaOf b r F (with_queue s q)) (was_empty s.queue (sym (p.to s h.area h.capacity) ∙ k)) h }

    pub take_past : F.limits.events < n → Changes b b F dequeued
    take_past k = record { to = λ s r h t. absurd (let o : n ≤ F.limits.events = count_most s h.area h.capacity in omega arith) }

    pub push_full : (e : Scheduled) → F.limits.events ≤ n → Changes b b F (pushed e)
    unfolding queue_length queue_room
    push_full e k = record {
      to = λ s r h t.
          let o : length s.queue + 1 ≤ s.limits.events =
          leb-true (length s.queue + 1) s.limits.events (and_left _ _ (and_left _ _ (sym (fits_push s e) ∙ t))) in
          absurd (omega (arith, o, p.to s h.area h.capacity, ap (λ (G : Capacity). G.limits.events) h.capacity));
    }

-- ---- the queue as it is lent

-- The table of a state's queue.
abbrev table_of : State → Table Scheduled
table_of s = events s.config.servers s.config.clients s.limits.log_indexes s.limits.message

-- The bytes y are the queue's words in a state's area, with the events q.
abbrev InQueue : State → List ℕ → Queue → Type 0
InQueue s y q = Held (table_of s) (queue_words (capacity_of s)) (length s.queue) y q

module _ (b : List ℕ) (F : Capacity) (at w : ℕ) where
  pub queue_end : Inside b F → Counted at (queue_at F) → Counted w (queue_words F) → 8 * (at + w) ≤ length b
  queue_end i p q = omega (arith, i.long, room F, p.is, q.is)

  -- there is a row, with room for a message
  pub first_within : (count : ℕ) → Inside b F → Counted at (queue_at F) → Counted w (queue_words F) → count ≤ F.limits.message
      → 56 + count ≤ length (lent_row at w b)
  first_within count i p q k =
      let o : 1 * (7 + words_for F.limits.message) ≤ queue_words F =
      mul-le-mul_right (7 + words_for F.limits.message) i.within.limits.events_low in
      omega (arith, o, q.is, length_lent_row at w b (queue_end i p q))

  -- n rows, and one more
  pub rows_within : (n : ℕ) → Inside b F → Counted at (queue_at F) → Counted w (queue_words F) → n ≤ F.limits.events
      → 8 * (n * (7 + words_for F.limits.message)) ≤ length (lent_row at w b)
  rows_within n i p q k =
      omega (arith, row_start n F.limits.events (7 + words_for F.limits.message) k, q.is, length_lent_row at w b (queue_end i p q))

  pub row_within : (n : ℕ) → Inside b F → Counted at (queue_at F) → Counted w (queue_words F) → n < F.limits.events
      → 8 * (n * (7 + words_for F.limits.message) + (7 + words_for F.limits.message)) ≤ length (lent_row at w b)
  row_within n i p q k =
      omega (arith, row_end n F.limits.events (7 + words_for F.limits.message) k, q.is, length_lent_row at w b (queue_end i p q))

  module _ (p : Counted at (queue_at F)) (q : Counted w (queue_words F)) where
    queue_spans : Spans F 10 at w
    queue_spans = record {
      here = omega arith;
      starts = ap (λ (n : ℕ). 8 * n) p.is ∙ (queue_span F).starts;
      wide = ap (λ (n : ℕ). 8 * n) q.is ∙ (queue_span F).wide;
    }

    queue_held : (s : State) → Area b s → F ≡ capacity_of s → InQueue s (lent_row at w b) s.queue
    queue_held s h ef =
        record { holds = table_lent queue_spans (queue_code (capacity_of s) (counts_of s)) b s.queue (subst (λ (G : Capacity). Holds (queue_code (capacity_of s) (counts_of s)) (get_or (cut (sizes G) b) 10 []) s.queue) (sym ef) h.laid.queue) }

    -- ---- the first event

    pub first_read : (n : ℕ) (r : Earliest) → Reads b F n queue_length → (n ≡ 0 → ⊥) → GivesFirst r (lent_row at w b)
        → Reads b F (Some r) next_event
    unfolding queue_length next_event first_of
    first_read n r c k g = record { to = λ s h ef. by s s.queue (λ e. k (c.to s h ef ∙ ap length e)) (queue_held s h ef) }
      where
        by : (s : State) (q : Queue) → (q ≡ [] → ⊥) → InQueue s (lent_row at w b) q → ◌≡◌ {A = (Option Earliest)} (Some r) (first_of q)
        by s [] k h = absurd (k refl)
        by s (e ∷ q) k h = ap Some (g.to _ _ _ _ _ _ e q h)

    pub message_copied : (count : ℕ) (d d' : List ℕ) → Copies count (lent_row at w b) d d' → CopiesMessage b F count d d'
    message_copied count d d' g = record {
      to = λ s h ef e q x k.
          g.to s.config.servers s.config.clients s.limits.log_indexes s.limits.message (queue_words (capacity_of s)) (length s.queue) e q
          (subst (InQueue s (lent_row at w b)) x (queue_held s h ef)) k;
    }

    -- ---- one event more, one event less

    -- another queue of a state, put with its count
    queue_put : (s s' : State) (r ys : List ℕ) (v : ℕ) → AreaOf b r F s → capacity_of s ≡ capacity_of s'
        → set (set (contents s) 10 ys) 6 (bytes (set (counts_words (counts_of s)) 0 v)) ≡ contents s' → state_fits s' ≡ true
        → AreaOf (sets (back_row at w b ys) (8 * 83) (bytesOfNumber 8 v)) r F s'
    queue_put s s' r ys v h c e t = table_put h queue_spans s' ys c 83 0 v (λ z. omega arith) refl (omega arith) e t

    pub push_put : (n : ℕ) (e : Scheduled) (ys b₂ : List ℕ) → Reads b F n queue_length → Pushes e F.limits.message n (lent_row at w b) ys
        → b₂ ≡ sets (back_row at w b ys) (8 * 83) (bytesOfNumber 8 (n + 1)) → Changes b b₂ F (pushed e)
    unfolding queue_length pushed push event_in_range
    push_put n e ys b₂ c k eb = record {
      to = λ s r h t.
          let en : n ≡ length s.queue = c.to s h.area h.capacity in
          let good : event_in_range s e ≡ true = and_right _ _ (and_left _ _ (sym (fits_push s e) ∙ t)) in
          let k₁ : Pushes e s.limits.message (length s.queue) (lent_row at w b) ys =
          subst (λ (G : Capacity). Pushes e G.limits.message (length s.queue) (lent_row at w b) ys) h.capacity (subst (λ (m : ℕ). Pushes e F.limits.message m (lent_row at w b) ys) en k) in
          let held =
          (k₁.to s.config.servers s.config.clients s.limits.log_indexes good).to (queue_words (capacity_of s)) s.queue (queue_held s h.area h.capacity) in
          let ev : n + 1 ≡ length (push s.queue e.time e.event e.message) =
          omega (arith, length_push numbers time_of e s.queue, en) in
          subst (λ (l : List ℕ). AreaOf l r F (pushed e s)) (sym eb)
          (queue_put s (pushed e s) r ys (n + 1) h refl (ap₂ (λ (y : List ℕ) (m : ℕ). set (set (contents s) 10 y) 6 (bytes (set (counts_words (counts_of s)) 0 m))) held.holds.is ev) t);
    }

    pub take_put : (n : ℕ) (ys b₂ : List ℕ) → Reads b F n queue_length → Removes F.limits.message n (lent_row at w b) ys
        → b₂ ≡ sets (back_row at w b ys) (8 * 83) (bytesOfNumber 8 (n - 1)) → Changes b b₂ F dequeued
    unfolding queue_length dequeued
    take_put n ys b₂ c k eb = record {
      to = λ s r h t.
          let en : n ≡ length s.queue = c.to s h.area h.capacity in
          let k₁ : Removes s.limits.message (length s.queue) (lent_row at w b) ys =
          subst (λ (G : Capacity). Removes G.limits.message (length s.queue) (lent_row at w b) ys) h.capacity (subst (λ (m : ℕ). Removes F.limits.message m (lent_row at w b) ys) en k) in
          let held =
          (k₁.to s.config.servers s.config.clients s.limits.log_indexes).to (queue_words (capacity_of s)) s.queue (queue_held s h.area h.capacity) in
          let ev : n - 1 ≡ length (rest s.queue) = omega (arith, rest_most s.queue, en) in
          subst (λ (l : List ℕ). AreaOf l r F (dequeued s)) (sym eb)
          (queue_put s (dequeued s) r ys (n - 1) h refl (ap₂ (λ (y : List ℕ) (m : ℕ). set (set (contents s) 10 y) 6 (bytes (set (counts_words (counts_of s)) 0 m))) held.holds.is ev) t);
    }

-- an event that delivers no message
pub plain_put : (b b' : List ℕ) (F : Capacity) (time : SimTime) (event : Event) → Changes b b' F (pushed (record { time = time; event = event; message = [] }))
    → Changes b b' F (pushed (plain time event))
unfolding plain
plain_put b b' F time event p = p

-- ---- what is known of the first event

first_is : {r x : Earliest} → ◌≡◌ {A = (Option Earliest)} (Some r) (Some x) → r ≡ x
first_is e = cc

room_most : (M : ℕ) (e : Event) → message_room M e ≤ M
unfolding message_room
room_most M e = pick_both (λ (n : ℕ). n ≤ M) (eqb (words_of e).kind 1) (omega arith) (omega arith)

-- the first event of a state in an area is in range
pub first_in_range : (b : List ℕ) (F : Capacity) (r : Earliest) → Reads b F (Some r) next_event → (s : State) → Area b s → F ≡ capacity_of s
    → FirstInRange F r
unfolding next_event first_of
first_in_range b F r p s h ef =
    subst (λ (G : Capacity). FirstInRange G r) (sym ef) (by s.queue (p.to s h ef) (and_left _ _ (and_right _ _ (fits_test s (area_fits h) 3))))
  where
    by : (q : Queue) → ◌≡◌ {A = (Option Earliest)} (Some r) (first_of q) → every (table_of s).row.good q ≡ true → FirstInRange (capacity_of s) r
    by [] e k = absurd (let z : ◌≡◌ {A = ℕ} 0 1 = cc in omega arith)
    by (x ∷ q) e k =
        let f = and_right _ _ (and_left _ _ k) in
        let l =
        leb-true (length x.message) (message_room s.limits.message x.event) (and_left _ _ (and_right _ _ (and_right _ _ f))) in
        subst (FirstInRange (capacity_of s)) (sym (first_is e)) (record { event = and_right _ _ (and_left _ _ f); message = l; short = omega (arith, l, room_most s.limits.message x.event) })
