-- The code of a queued event and its laws. Assumes nothing.
use Rattle.std.specs.Prelude.{◌≡◌, Bool, ℕ, ◌≤◌, leb, eqb, None, Some}
use Rattle.std.proofs.Math.Path.{refl}
use Rattle.std.proofs.Common.{ap, ◌∙◌, arith}
use Rattle.std.proofs.Math.Bool.{true, false}
use Rattle.std.proofs.Math.ListN.{length}
use borrow.Author.Tests.{leb-true, le-leb}
use Rattle.laws.specs.Bools.{pick, and_left}
use Rattle.laws.proofs.BoolLaws.{and_right, and_both}
use Rattle.laws.specs.Decides.{false_true}
use Rattle.layout.specs.Code.{Code}
use Rattle.layout.specs.Payload.{message}
use Rattle.layout.specs.Coded.{Telling, coded}
use Rattle.queue.specs.declared.Event.{Event}
use Rattle.queue.specs.declared.Event.TheVariants as event
use Rattle.queue.specs.declared.numbers.EventWords.{EventWords}
use Rattle.queue.specs.Queue.{Scheduled}
use Rattle.queue.specs.Numbers.{words_of, candidate, same_words, event_of}
use Rattle.queue.specs.NumberLaws.{rates_fit, candidate_of_words, same_words_lem, event_of_words}
use Rattle.queue.specs.Range.{in_range, words_fit, message_room, scheduled_fits}
use Rattle.queue.specs.Row.{Parts, parts, words_in, message_in, parts_of, scheduled_of, told, parts_tell}

room_upto : (M : ℕ) (t : Bool) → pick t M 0 ≤ M
room_upto M true = omega arith
room_upto M false = omega arith

module _ (S C L M : ℕ) where
  -- an event in range has rates within limits
  rates_fit_lem : (e : Event) → in_range S C L e ≡ true → rates_fit e ≡ true
  rates_fit_lem (event.Start slot) h = refl
  rates_fit_lem (event.Deliver from to entries) h = refl
  rates_fit_lem (event.Timer slot timer generation) h = refl
  rates_fit_lem (event.Fault fault) h = and_right _ _ h
  rates_fit_lem (event.ClientSend client) h = refl
  rates_fit_lem (event.ClientArrive slot client seq attempt) h = refl
  rates_fit_lem (event.ClientRedirect client attempt leader) h = refl
  rates_fit_lem (event.ClientRetry client attempt) h = refl
  rates_fit_lem (event.ClientReply client seq index) h = refl
  rates_fit_lem (event.ClientTimeout client attempt) h = refl

  -- what is known of numbers that tell an event
  record Told (w : EventWords) (n : ℕ) : Type 0 where
    same : words_of (candidate w) ≡ w
    range : in_range S C L (candidate w) ≡ true
    short : leb n (message_room M (candidate w)) ≡ true

  tells : (w : EventWords) (n : ℕ) → told S C L M (event_of w) n ≡ true → Told w n
  unfolding event_of
  tells w n h = by (same_words (words_of (candidate w)) w) refl h
    where
      by : (t : Bool) → same_words (words_of (candidate w)) w ≡ t → told S C L M (pick t (Some (candidate w)) None) n ≡ true → Told w n
      by true e k = record { same = same_words_lem (words_of (candidate w)) w e; range = and_left _ _ k; short = and_right _ _ k }
      by false e k = absurd (false_true k)

  -- what is known of an event that fits
  module _ (x : Scheduled) (h : scheduled_fits S C L M x ≡ true) where
    numbers_fit : words_fit (words_of x.event) ≡ true
    numbers_fit = and_left _ _ (and_left _ _ (and_right _ _ h))

    range : in_range S C L x.event ≡ true
    range = and_right _ _ (and_left _ _ (and_right _ _ h))

    short : leb (length x.message) (message_room M x.event) ≡ true
    short = and_left _ _ (and_right _ _ (and_right _ _ (and_right _ _ h)))

    short_m : leb (length x.message) M ≡ true
    unfolding message_room
    short_m = let l : length x.message ≤ message_room M x.event = leb-true _ _ short in le-leb _ M (omega (arith, l, room_upto M (eqb (words_of x.event).kind 1)))

    pub message_good : (message M).good x.message ≡ true
    message_good = and_both _ _ (and_left _ _ (and_right _ _ (and_right _ _ h))) (and_both _ _ short_m (and_right _ _ (and_right _ _ (and_right _ _ (and_right _ _ h)))))

    parts_good : (parts M).good (parts_of x) ≡ true
    parts_good =
        let n = numbers_fit in
        let n₁ = and_right _ _ n in
        let n₂ = and_right _ _ n₁ in
        let n₃ = and_right _ _ n₂ in
        and_both _ _ (and_left _ _ h) (and_both _ _ (and_left _ _ n) (and_both _ _ (and_left _ _ n₁) (and_both _ _ (and_left _ _ n₂) (and_both _ _ (and_left _ _ n₃) (and_both _ _ (and_right _ _ n₃) message_good)))))

    parts_tell_lem : parts_tell S C L M (parts_of x) ≡ true
    parts_tell_lem = ap (λ o. told S C L M o (length x.message)) (event_of_words x.event (rates_fit_lem x.event range)) ∙ and_both _ _ range short

    pub event_back : scheduled_of (parts_of x) ≡ x
    event_back = ap (λ (e : Event). record { time = x.time; event = e; message = x.message }) (candidate_of_words x.event (rates_fit_lem x.event range))

  module _ (p : Parts) (k : parts_tell S C L M p ≡ true) where
    parts_back : parts_of (scheduled_of p) ≡ p
    parts_back = ap (λ (w : EventWords). (p.0, (w.kind, (w.a, (w.b, (w.c, (w.d, message_in p))))))) (tells (words_in p) (length (message_in p)) k).same

    event_fits_lem : (parts M).good p ≡ true → scheduled_fits S C L M (scheduled_of p) ≡ true
    event_fits_lem g =
        let t = tells (words_in p) (length (message_in p)) k in
        let g₁ = and_right _ _ g in
        let g₂ = and_right _ _ g₁ in
        let g₃ = and_right _ _ g₂ in
        let g₄ = and_right _ _ g₃ in
        let g₅ = and_right _ _ g₄ in
        let m = and_right _ _ g₅ in
        let w : words_fit (words_in p) ≡ true = and_both _ _ (and_left _ _ g₁) (and_both _ _ (and_left _ _ g₂) (and_both _ _ (and_left _ _ g₃) (and_both _ _ (and_left _ _ g₄) (and_left _ _ g₅)))) in
        and_both _ _ (and_left _ _ g)
        (and_both _ _ (and_both _ _ (ap words_fit t.same ∙ w) t.range) (and_both _ _ (and_left _ _ m) (and_both _ _ t.short (and_right _ _ (and_right _ _ m)))))

  pub telling : Telling (parts M) parts_of scheduled_of (scheduled_fits S C L M) (parts_tell S C L M)
  telling = record { fits_good = parts_good; fits_test = parts_tell_lem; to_from = event_back; test_fits = λ p g k. event_fits_lem p k g; from_to = parts_back }

  -- The code of a queued event in range.
  abbrev pub event_row : Code Scheduled
  event_row = coded (parts M) parts_of scheduled_of (scheduled_fits S C L M) (parts_tell S C L M) telling
