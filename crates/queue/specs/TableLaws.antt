-- What the proofs of table.rt cite. Assumes nothing.
use Rattle.std.specs.Prelude.{◌≡◌, refl, Bool, true, false, ◌&&◌, leb, get_or, take, drop, Option, Result, Ok, Err}
use Rattle.std.specs.Result.{result_ok}
use Rattle.std.proofs.Common.{sym, ap₂, ◌∙◌, subst, arith, length-drop, get_or-drop, drop-drop, take_all}
use Rattle.std.proofs.Math.Path.{ap}
use mathlib.Core.List.{List, [], ◌∷◌, ◌++◌, append_assoc}
use Prim.Native.Nat.{ℕ, ◌+◌, ◌-◌, ◌*◌, ◌≤◌, ◌<◌}
use Rattle.std.proofs.Math.ListN.{length}
use Rattle.std.proofs.lemmas.List.Edits.{sets}
use Rattle.std.proofs.Math.Seq.{length-sets}
use Rattle.laws.specs.Bools.{◌and◌, and_left, and_assoc, no_and}
use Rattle.laws.proofs.BoolLaws.{and_right, code_and, and_no, true_and}
use Rattle.laws.specs.Order.{numbers, chain, sorted}
use Rattle.words.specs.Words.{bytes, W, Bytes, Fit}
use Rattle.words.specs.Sets.{length_part, part_at}
use Rattle.words.specs.Numbers.{each_drop}
use Rattle.words.specs.Lift.{bytes_append, length_bytes, length_w, W-fit, W-part}
use Rattle.layout.specs.Code.{zeros, flat}
use Rattle.layout.specs.Tables.{Holds, Held, rows_in, remove_at, opened, removed}
use Rattle.layout.specs.Contents.{holds_length, holds_w}
use Rattle.layout.specs.TableLaws.{held_rows, held_rule, remove_held, rowed_start, rowed_done}
use Rattle.layout.specs.Order.{last_place, one, heads}
use Rattle.layout.specs.RowLaws.{heads_are}
use Rattle.layout.specs.SortedTables.{Queued, queued_push}
use Rattle.layout.specs.Marked.{words_for, padded_to, padded_back, sound}
use Rattle.layout.specs.Payload.{message, message_marking}
use Rattle.layout.specs.MarkedCalls.{Puts}
use Rattle.layout.specs.Parts.{lent_row, back_row, length_lent_row, row_back, head_rest, lent_fine, lent_fails}
use Rattle.units.specs.declared.SimTime.{SimTime}
use Rattle.queue.specs.declared.Event.{Event}
use Rattle.queue.specs.declared.Event.TheVariants as event
use Rattle.queue.specs.declared.numbers.EventWords.{EventWords}
use Rattle.queue.specs.Queue.{Scheduled, Queue, time_of, push}
use Rattle.queue.specs.Numbers.{words_of, candidate, event_of}
use Rattle.queue.specs.Range.{in_range, message_room, scheduled_fits, in_order}
use Rattle.queue.specs.Row.{told}
use Rattle.queue.specs.RowLaws.{event_row, message_good, event_back}
use Rattle.queue.specs.Table.{events, rest, numbers_in, PutsRow, Pushes, Removes, GivesFirst, Copies}

-- ---- push

-- the numbers of a row before its message
abbrev pub first_six : ℕ → EventWords → List ℕ
first_six t w = t ∷ w.kind ∷ w.a ∷ w.b ∷ w.c ∷ w.d ∷ []

pub row_put : (time : SimTime) (e : Event) (w : EventWords) (src b b₁ ys : List ℕ) → 56 + length src ≤ length b → w ≡ words_of e → b₁ ≡ sets b 0 (bytes (first_six time.0 w))
    → Puts message_marking src (take (length b - 48) (drop 48 b₁)) ys
    → PutsRow (record { time = time; event = e; message = src }) b (take 48 b₁ ++ (ys ++ drop (length b - 48) (drop 48 b₁)))
row_put time e w src b b₁ ys r p q h = record {
  to = λ S C L M l g.
      let x : Scheduled = record { time = time; event = e; message = src } in
      let n : length b₁ ≡ length b = ap length q ∙ length-sets b 0 (bytes (first_six time.0 w)) in
      let k : length (take (length b - 48) (drop 48 b₁)) ≡ 8 * (1 + words_for M) =
      length_part b₁ 48 (length b - 48) (omega arith) ∙ (let d : length b - 48 ≡ 8 * (1 + words_for M) = omega arith in d) in
      let c : Holds (message M) ys src = h.to M k (message_good S C L M x g) in
      record {
        good = g;
        is = head_rest b b₁ (first_six time.0 w) ys 6 refl (omega arith) q (holds_length c ∙ sym k)
            ∙ ap₂ (λ (v : EventWords) (y : List ℕ). bytes (first_six time.0 v) ++ y) p c.is
            ∙ sym (bytes_append (first_six time.0 (words_of e)) ((message M).enc src));
      };
}

queued : (S C L M : ℕ) → Queued (events S C L M) numbers time_of one
unfolding in_order one
queued S C L M = record { rule = λ x. refl; read = λ ws. refl }

pub pushed : (M n i at : ℕ) (e : Scheduled) (b b₁ ys : List ℕ) → 8 * (n * (7 + words_for M) + (7 + words_for M)) ≤ length b
    → i ≡ last_place numbers e.time.0 (heads one (7 + words_for M) n (W b)) → i ≤ n → at ≡ i * (7 + words_for M) → at ≤ n * (7 + words_for M)
    → b₁ ≡ opened (7 + words_for M) n i b
    → PutsRow e (lent_row at (7 + words_for M) b₁) ys
    → Pushes e M n b (back_row at (7 + words_for M) b₁ ys)
unfolding push opened
pushed M n i at e b b₁ ys r p k a m o h = record {
  to = λ S C L g.
      let w : ℕ = 7 + words_for M in
      let l : length b₁ ≡ length b = ap length o ∙ length-sets b (8 * (i * w) + 8 * w) (take (8 * (n * w) - 8 * (i * w)) (drop (8 * (i * w)) b)) in
      let f : 8 * (at + w) ≤ length b₁ = omega arith in
      queued_push (queued S C L M) n b e i b₁ (back_row at w b₁ ys) r g p k o
      (row_back (event_row S C L M) b₁ ys at e f (h.to S C L M (length_lent_row at w b₁ f) g) ∙ ap (λ (j : ℕ). sets b₁ (8 * j) (bytes ((event_row S C L M).enc e))) a);
}

-- ---- the earliest event

removed_first : (q : Queue) → remove_at 0 q ≡ rest q
unfolding remove_at
removed_first [] = refl
removed_first (e ∷ q) = refl

order_rest : (q : Queue) → in_order q ≡ true → in_order (rest q) ≡ true
unfolding in_order chain
order_rest [] h = h
order_rest (e ∷ q) h = and_right _ _ h

pub first_removed : (M n : ℕ) (b b' : List ℕ) → 0 < n → b' ≡ removed (7 + words_for M) n 0 b → Removes M n b b'
first_removed M n b b' h e = record {
  to = λ S C L. record {
    to = λ N q k.
        subst (Held (events S C L M) N (n - 1) b') (removed_first q)
        (remove_held k 0 (record { time = record { 0 = 0 }; event = event.Start 0; message = [] }) b' h (ap in_order (removed_first q) ∙ order_rest q (held_rule k)) e);
  };
}

module _ (S C L M N n : ℕ) (b : List ℕ) (e : Scheduled) (q : Queue) (h : Held (events S C L M) N n b (e ∷ q)) where
  first_fits : scheduled_fits S C L M e ≡ true
  first_fits = and_left _ _ (held_rows h).each

  -- the words and the bytes of a queue that begins with e
  after : List ℕ
  after = flat (event_row S C L M).enc q ++ zeros (N - length (e ∷ q) * (7 + words_for M))

  first_words_lem : W b ≡ (event_row S C L M).enc e ++ after
  unfolding after
  first_words_lem = holds_w h.holds ∙ append_assoc ((event_row S C L M).enc e) (flat (event_row S C L M).enc q) (zeros (N - length (e ∷ q) * (7 + words_for M)))

  first_bytes : b ≡ bytes (first_six e.time.0 (words_of e.event) ++ length e.message ∷ []) ++ (e.message ++ (zeros (8 * words_for M - length e.message) ++ bytes after))
  unfolding after padded_to
  first_bytes =
      let s = sound message_marking M e.message (message_good S C L M e first_fits) in
      let seven : List ℕ = first_six e.time.0 (words_of e.event) ++ length e.message ∷ [] in
      h.holds.is ∙ ap bytes (append_assoc ((event_row S C L M).enc e) (flat (event_row S C L M).enc q) (zeros (N - length (e ∷ q) * (7 + words_for M))))
      ∙ bytes_append seven (W (padded_to M e.message) ++ after)
      ∙ ap (λ (l : List ℕ). bytes seven ++ l) (bytes_append (W (padded_to M e.message)) after ∙ ap (λ (l : List ℕ). l ++ bytes after) (padded_back M e.message s.short s.each)
      ∙ append_assoc e.message (zeros (8 * words_for M - length e.message)) (bytes after))

-- the loads of numbers_in
pub numbers_read : (ws : List ℕ) (k a b c d : ℕ) → k ≡ get_or ws 1 0 → a ≡ get_or ws 2 0 → b ≡ get_or ws 3 0 → c ≡ get_or ws 4 0 → d ≡ get_or ws 5 0
    → ◌≡◌ {A = EventWords} (record { kind = k; a = a; b = b; c = c; d = d }) (numbers_in ws)
numbers_read ws k a b c d p q r s t i = record { kind = p i; a = q i; b = r i; c = s i; d = t i }

pub first_given : (b : List ℕ) (t l : ℕ) (w : EventWords) (v : Event) → w ≡ numbers_in (W b) → t ≡ get_or (W b) 0 0 → v ≡ candidate w → l ≡ get_or (W b) 6 0
    → GivesFirst (record { time = record { 0 = t }; event = v; length = l }) b
first_given b t l w v p q r s = record {
  to = λ S C L M N n e rows h.
      let at : (k : ℕ) → get_or (W b) k 0 ≡ get_or ((event_row S C L M).enc e ++ after S C L M N n b e rows h) k 0 = λ k. ap (λ (ws : List ℕ). get_or ws k 0) (first_words_lem S C L M N n b e rows h) in
      let i : w ≡ words_of e.event = p ∙ ap numbers_in (first_words_lem S C L M N n b e rows h) in
      let x : v ≡ e.event = r ∙ ap candidate i ∙ ap (λ (y : Scheduled). y.event) (event_back S C L M e (first_fits S C L M N n b e rows h)) in
      let y : t ≡ e.time.0 = q ∙ at 0 in
      let z : l ≡ length e.message = s ∙ at 6 in
      λ j. record { time = record { 0 = y j }; event = x j; length = z j };
}

pub first_copied : (b d d' : List ℕ) (count : ℕ) → d' ≡ sets d 0 (take (56 + count - 56) (drop 56 b)) → Copies count b d d'
first_copied b d d' count c = record {
  to = λ S C L M N n e q h k.
      let m : length e.message ≡ 56 + count - 56 = omega arith in
      let seven : List ℕ = first_six e.time.0 (words_of e.event) ++ length e.message ∷ [] in
      c ∙ ap (λ (l : List ℕ). sets d 0 (take (56 + count - 56) (drop 56 l))) (first_bytes S C L M N n b e q h)
      ∙ ap (sets d 0) (part_at (bytes seven) e.message (zeros (8 * words_for M - length e.message) ++ bytes (after S C L M N n b e q h)) 56 (56 + count - 56) (length_bytes seven) m);
}

-- ---- check

module _ (S C L M : ℕ) (ws : List ℕ) (f : Fit ws) (l : 7 + words_for M ≤ length ws) where
  -- the words of the message, as the code and as the program reads them
  abbrev body : List ℕ
  body = drop 1 (drop 1 (drop 1 (drop 1 (drop 1 (drop 1 ws)))))

  body_is : body ≡ drop 6 ws
  body_is = simp drop-drop

  numbers_are : numbers_in ws ≡ record { kind = get_or (drop 1 ws) 0 0; a = get_or (drop 1 (drop 1 ws)) 0 0; b = get_or (drop 1 (drop 1 (drop 1 ws))) 0 0; c = get_or (drop 1 (drop 1 (drop 1 (drop 1 ws)))) 0 0; d = get_or (drop 1 (drop 1 (drop 1 (drop 1 (drop 1 ws))))) 0 0 }
  numbers_are = simp get_or-drop

  length_is : (message M).ok (drop 6 ws) ≡ true → length ((message M).parse (drop 6 ws)) ≡ get_or ws 6 0
  length_is k =
      ap (λ (v : List ℕ). get_or v 0 0) ((message M).enc_parse (drop 6 ws) (each_drop 6 ws f) (omega (arith, length-drop 6 ws)) k) ∙ get_or-drop 6 ws 0 0

  row_ok : (event_row S C L M).ok ws ≡ ((message M).ok (drop 6 ws) and told S C L M (event_of (numbers_in ws)) (get_or ws 6 0))
  row_ok =
      ap₂ (λ (v : List ℕ) (w : EventWords). (true and true and true and true and true and true and (message M).ok v) and told S C L M (event_of w) (length ((message M).parse v))) body_is (sym numbers_are)
      ∙ ap (λ (b : Bool). b and told S C L M (event_of (numbers_in ws)) (length ((message M).parse (drop 6 ws)))) (simp true_and)
      ∙ by ((message M).ok (drop 6 ws)) refl
    where
      by : (t : Bool) → (message M).ok (drop 6 ws) ≡ t
          → (t and told S C L M (event_of (numbers_in ws)) (length ((message M).parse (drop 6 ws)))) ≡ (t and told S C L M (event_of (numbers_in ws)) (get_or ws 6 0))
      by true k = ap (λ (n : ℕ). true and told S C L M (event_of (numbers_in ws)) n) (length_is k)
      by false k = no_and _ _ refl ∙ sym (no_and _ _ refl)

module _ {E : Type 0} (S C L M : ℕ) (s : List ℕ) (w : EventWords) (n : ℕ) (t : Bool) (o : Result Event E) (B : Bytes s)
    (l : length s ≡ 8 * (7 + words_for M))
    (p : w ≡ numbers_in (W s)) (q : n ≡ get_or (W s) 6 0) (r : t ≡ (message M).ok (W (take (length s - 48) (drop 48 s))))
    (v : result_ok o ≡ event_of w) where
  padded_is : t ≡ (message M).ok (drop 6 (W s))
  padded_is =
      let e : length s - 48 ≡ 8 * (7 + words_for M) - 8 * 6 = omega arith in
      r ∙ ap (λ (k : ℕ). (message M).ok (W (take k (drop 48 s)))) e
      ∙ ap (message M).ok (W-part s 6 (7 + words_for M) B (omega arith) (omega arith) ∙ take_all (7 + words_for M - 6) (drop 6 (W s)) (omega (arith, length-drop 6 (W s), length_w s)))

  row_test : (event_row S C L M).ok (W s) ≡ (t and told S C L M (result_ok o) n)
  row_test =
      row_ok S C L M (W s) (W-fit s B) (omega (arith, length_w s))
      ∙ sym (ap₂ (λ (x : Bool) (y : Option Event). x and told S C L M y n) padded_is (v ∙ ap event_of p) ∙ ap (λ (k : ℕ). (message M).ok (drop 6 (W s)) and told S C L M (event_of (numbers_in (W s))) k) q)

  pub row_none : (x : E) → o ≡ Err x → false ≡ (event_row S C L M).ok (W s)
  row_none x e = sym (row_test ∙ ap (λ (y : Result Event E). t and told S C L M (result_ok y) n) e ∙ and_no _ _ refl)

  pub row_some : (e : Event) (x : Bool) (m : ℕ) → o ≡ Ok e → x ≡ in_range S C L e → m ≡ message_room M e
      → ((t && x) && leb n m) ≡ (event_row S C L M).ok (W s)
  row_some e x m h i j =
      code_and (t && x) (leb n m) ∙ ap (λ (y : Bool). y and leb n m) (code_and t x) ∙ and_assoc t x (leb n m) ∙ ap₂ (λ (y : Bool) (k : ℕ). t and y and leb n k) i j
      ∙ sym (row_test ∙ ap (λ (y : Result Event E). t and told S C L M (result_ok y) n) h)

pub queue_sorted : (S C L M n : ℕ) (b : List ℕ) (r : Bool) → r ≡ sorted numbers (heads one (7 + words_for M) n (W b)) → r ≡ (events S C L M).rule (rows_in (events S C L M).row n b)
unfolding in_order
queue_sorted S C L M n b r e = e ∙ ap (sorted numbers) (heads_are (event_row S C L M) one time_of (queued S C L M).read n b)

pub ruleset row_tests = (row_none, row_some)

pub ruleset event_rows = (rowed_start, lent_fine, lent_fails, rowed_done)
