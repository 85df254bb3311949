-- What the proofs of waiting.rt cite. Assumes nothing.
use Rattle.std.specs.Prelude.{◌≡◌, ◌⊎◌, Bool, true, false, not, ◌&&◌, eqb, length, drop, Option, None, Some}
use Rattle.std.proofs.Math.Path.{refl, sym, ap, ap₂}
use Rattle.std.proofs.Common.{◌∙◌, inl, inr, get_or-append-add, get_or-drop, take-take, Fits, lt-ltb, le-leb}
use mathlib.Core.List.{List, [], ◌∷◌, ◌++◌}
use Prim.Native.Nat.{ℕ, zero, suc, ◌+◌, ◌-◌, ◌*◌, ◌^◌, ◌≤◌, ◌<◌}
use native.Mathlib.Omega.{arith}
use Rattle.std.proofs.Math.Dec.{leb}
use Rattle.std.proofs.Math.ListN.{get_or, take}
use Rattle.std.proofs.lemmas.List.Edits.{sets}
use Rattle.std.proofs.lemmas.List.{get_or_at}
use Rattle.std.specs.Int.{w64}
use Rattle.std.proofs.lemmas.Bool.{lt-leb, not-true, not-false}
use Rattle.laws.specs.Bools.{◌and◌, and_left, no_and}
use Rattle.laws.proofs.BoolLaws.{and_both, true_and, code_and}
use Rattle.units.specs.Types.{Payload, noop, command, command_length, shape_of as shape_of_payload}
use Rattle.units.specs.declared.PayloadShape.{PayloadShape}
use Rattle.units.specs.declared.PayloadShape.TheVariants.{Noop, Command}
use Rattle.units.specs.declared.Term.{Term}
use Rattle.units.specs.declared.LogIndex.{LogIndex}
use Rattle.units.specs.declared.NodeId.{NodeId}
use Rattle.words.specs.Words.{bytes, W, Bytes, allz}
use Rattle.words.specs.Sets.{sets_append}
use Rattle.words.specs.Lift.{bytes_append, length_bytes, W-part}
use Rattle.layout.specs.Tables.{Holds, Held, Becomes, append}
use Rattle.layout.specs.Code.{zeros}
use Rattle.layout.specs.TableLaws.{row_word, row_held, appends, clear_held, rowed_start, rowed_done}
use Rattle.layout.specs.Marked.{words_for, Sound, sound, sounds, marked, body_in}
use Rattle.layout.specs.MarkedCalls.{laid, rest_ok}
use Rattle.layout.specs.Payload.{mark_of as payloadMark, body_of as payloadBody}
use Rattle.layout.specs.MarkedLaws.{puts}
use Rattle.layout.specs.Parts.{lent_row, back_row, length_lent_row, row_back, lent_fine, lent_fails}
use Rattle.storage.specs.declared.HardState.{HardState}
use Rattle.storage.specs.declared.waiting.Shape.{Shape}
use Rattle.storage.specs.Storage.{Write, write_hard_state, write_put, write_truncate}
use Rattle.storage.specs.Waiting.{Kind, mark_of, body_of, kind_marking, kind_from, kind_of, first_of, second_of, vote_kind, voteNumber, payload_kind, plain, plain_mark, two_more, write_from, write_code, waiting, put_within, within_mark, waiting_in, Pushes, shape_of, length_of, nothing, shape_at, payload_said, shaped, Shaped, Shows, emptied}

-- ---- a write after the last

plain_write : (w : Write) → plain (kind_of w) (second_of w) ≡ true
plain_write (write_hard_state h) = by h.voted_for
  where
    by : (v : Option NodeId) → plain (vote_kind v) (voteNumber v) ≡ true
    by None = refl
    by (Some id) = refl
plain_write (write_put index e) = by e.payload
  where
    by : (y : Payload) → plain (payload_kind y) e.term.0 ≡ true
    by noop = refl
    by (command bs) = refl
plain_write (write_truncate from) = refl

pub pushed : (p m mark a b : ℕ) (src s ys s' : List ℕ) → p ≤ 256 → 8 * (m * (3 + words_for p) + (3 + words_for p)) ≤ length s → length src ≤ p → Fits w64 mark → Fits w64 a → Fits w64 b → Bytes src
    → ys ≡ laid mark src (length (lent_row (m * (1 + words_for p + 2)) (1 + words_for p) s))
    → s' ≡ sets (back_row (m * (1 + words_for p + 2)) (1 + words_for p) s ys) (8 * (m * (1 + words_for p + 2) + (1 + words_for p))) (bytes (a ∷ b ∷ []))
    → Pushes p m mark src a b s s'
pushed p m mark a b src s ys s' q room l fm fa fb B ey es = record { to = to }
  where
    at_is : m * (1 + words_for p + 2) ≡ m * (3 + words_for p)
    at_is = ap (λ (k : ℕ). m * k) (two_more (words_for p))

    to : (w : Write) → mark_of (kind_of w) ≡ mark → body_of (kind_of w) ≡ src → first_of w ≡ a → second_of w ≡ b → Becomes (waiting p) m (m + 1) s s' (append w)
    to w em eb ea eb₂ =
        let o : ℕ = m * (1 + words_for p + 2) in
        let c : ℕ = 1 + words_for p in
        let k : Kind = kind_of w in
        let fits : 8 * (m * (1 + words_for p + 2) + (1 + words_for p)) ≤ length s = omega (arith, at_is) in
        let u : Sound kind_marking p k = record { marked = rw em fm.fits; short = rw eb l; each = λ j. rw eb (B j) } in
        let h : Holds (marked kind_marking p) ys k = (puts kind_marking k (lent_row o c s) ys (ey ∙ ap₂ (λ (x : ℕ) (y : List ℕ). laid x y (length (lent_row o c s))) (sym em) (sym eb))).to p (length_lent_row o c s fits) (sounds kind_marking p k u) in
        let n : 8 * o + length (bytes ((marked kind_marking p).enc k)) ≡ 8 * (o + c) = omega (arith, length_bytes ((marked kind_marking p).enc k), (marked kind_marking p).size_enc k h.good) in
        appends (waiting p) m s w s' room
        (and_both _ _ (and_both _ _ h.good (and_both _ _ (rw ea (lt-ltb a (2 ^ 64) fa.fits)) (rw eb₂ (lt-ltb b (2 ^ 64) fb.fits)))) (plain_write w)) (λ x r. refl)
        (es ∙ ap (λ (v : List ℕ). sets v (8 * (o + c)) (bytes (a ∷ b ∷ []))) (row_back (marked kind_marking p) s ys o k fits h)
        ∙ sets_append (bytes ((marked kind_marking p).enc k)) s (bytes (a ∷ b ∷ [])) (8 * o) (8 * (o + c)) n
        ∙ ap (sets s (8 * o)) (ap₂ (λ (x y : ℕ). bytes ((marked kind_marking p).enc k) ++ bytes (x ∷ y ∷ [])) (sym ea) (sym eb₂) ∙ sym (bytes_append ((marked kind_marking p).enc k) (first_of w ∷ second_of w ∷ [])))
        ∙ ap (λ (j : ℕ). sets s (8 * j) (bytes ((write_code p).enc w))) at_is)

-- a put's number and bytes are those of its payload
put_mark : (y : Payload) → mark_of (payload_kind y) ≡ 2 + payloadMark y
put_mark noop = refl
put_mark (command bs) = omega arith

put_body : (y : Payload) → body_of (payload_kind y) ≡ payloadBody y
put_body noop = refl
put_body (command bs) = refl

module _ (p m : ℕ) (s s' : List ℕ) where
  pub pushed_state : (h : HardState) → h.voted_for ≡ None → Pushes p m 0 [] h.term.0 0 s s' → Becomes (waiting p) m (m + 1) s s' (append (write_hard_state h))
  pushed_state h e P =
      P.to (write_hard_state h) (ap (λ (v : Option NodeId). mark_of (vote_kind v)) e) (ap (λ (v : Option NodeId). body_of (vote_kind v)) e) refl (ap voteNumber e)

  pub pushed_vote : (h : HardState) (id : NodeId) → h.voted_for ≡ Some id → Pushes p m 1 [] h.term.0 id.0 s s' → Becomes (waiting p) m (m + 1) s s' (append (write_hard_state h))
  pushed_vote h id e P =
      P.to (write_hard_state h) (ap (λ (v : Option NodeId). mark_of (vote_kind v)) e) (ap (λ (v : Option NodeId). body_of (vote_kind v)) e) refl (ap voteNumber e)

  pub pushed_put : (index : LogIndex) (term : Term) (y : Payload) (mark k : ℕ) (src : List ℕ) → Pushes p m k src index.0 term.0 s s' → k ≡ 2 + mark → mark ≡ payloadMark y → src ≡ payloadBody y
      → Becomes (waiting p) m (m + 1) s s' (append (write_put index (record { term = term; payload = y })))
  pushed_put index term y mark k src P e em es =
      P.to (write_put index (record { term = term; payload = y })) (put_mark y ∙ ap (λ (j : ℕ). 2 + j) (sym em) ∙ sym e) (put_body y ∙ sym es) refl refl

  pub pushed_truncate : (from : LogIndex) → Pushes p m 2 [] from.0 0 s s' → Becomes (waiting p) m (m + 1) s s' (append (write_truncate from))
  pushed_truncate from P = P.to (write_truncate from) refl refl refl refl

pub ruleset pushes = (pushed_state, pushed_vote, pushed_put, pushed_truncate)

-- ---- no write waits

pub cleared_writes : (p m end : ℕ) (s s' : List ℕ) → end ≡ m * (3 + words_for p) → s' ≡ sets s 0 (zeros (8 * end - 0)) → Becomes (waiting p) m 0 s s' emptied
unfolding emptied
cleared_writes p m end s s' e f =
    let k : 8 * end - 0 ≡ 8 * (m * (3 + words_for p)) = omega arith in
    record { to = λ N ws h. clear_held h s' refl (f ∙ ap (λ (j : ℕ). sets s 0 (zeros j)) k) }

-- ---- what a row says

module _ (p m : ℕ) where
  pub said_noop : m < 4 → Noop ≡ payload_said p m
  unfolding payload_said
  said_noop h = rw (le-leb m 3 (omega arith))

  pub said_command : 4 ≤ m → m - 4 ≤ p → Command (m - 4) ≡ payload_said p m
  unfolding payload_said
  said_command h k = rw (lt-leb m 3 (omega arith), le-leb (m - 4) p k)

  pub said_long : 4 ≤ m → p < m - 4 → Command 0 ≡ payload_said p m
  unfolding payload_said
  said_long h k = rw (lt-leb m 3 (omega arith), lt-leb (m - 4) p k)

pub ruleset payloads = (said_noop, said_command, said_long)

module _ (p m a b : ℕ) where
  shaped_as : (k : ℕ) (r : Shape) → m ≡ k → r ≡ shaped p k a b → length_of r ≤ p → Shaped p m a b r
  shaped_as k r e f l = record { is = f ∙ ap (λ (j : ℕ). shaped p j a b) (sym e); most = l }

  pub shaped_state : m ≡ 0 → Shaped p m a b (Shape.HardState (record { term = record { 0 = a }; voted_for = None }))
  unfolding shaped
  shaped_state h = shaped_as 0 _ h refl (omega arith)

  pub shaped_vote : m ≡ 1 → Shaped p m a b (Shape.HardState (record { term = record { 0 = a }; voted_for = Some (record { 0 = b }) }))
  unfolding shaped
  shaped_vote h = shaped_as (suc zero) _ h refl (omega arith)

  pub shaped_truncate : m ≡ 2 → Shaped p m a b (Shape.Truncate (record { 0 = a }))
  unfolding shaped
  shaped_truncate h = shaped_as (suc (suc zero)) _ h refl (omega arith)

  pub shaped_put : (q : PayloadShape) → 3 ≤ m → q ≡ payload_said p m → command_length q ≤ p → Shaped p m a b (Shape.Put (record { 0 = a }) (record { term = record { 0 = b }; payload = q }))
  unfolding shaped
  shaped_put q h e l =
      let k : 3 + (m - 3) ≡ m = omega arith in
      shaped_as (suc (suc (suc (m - 3)))) _ (omega arith)
      (ap (λ (o : PayloadShape). Shape.Put (record { 0 = a }) (record { term = record { 0 = b }; payload = o })) (e ∙ ap (payload_said p) (sym k))) l

pub ruleset shapes = (shaped_state, shaped_vote, shaped_truncate, shaped_put)

-- ---- write k

shaped_write : (p : ℕ) (w : Write) → (write_code p).good w ≡ true → shaped p (mark_of (kind_of w)) (first_of w) (second_of w) ≡ shape_of w
unfolding shaped
shaped_write p (write_hard_state h) g = by h.voted_for
  where
    by : (v : Option NodeId) → shaped p (mark_of (vote_kind v)) h.term.0 (voteNumber v) ≡ Shape.HardState (record { term = h.term; voted_for = v })
    by None = refl
    by (Some id) = refl
shaped_write p (write_put index e) g = by e.payload (sound kind_marking p (payload_kind e.payload) (and_left _ _ (and_left _ _ g)))
  where
    put : PayloadShape → Shape
    put q = Shape.Put index (record { term = e.term; payload = q })

    by : (y : Payload) → Sound kind_marking p (payload_kind y) → shaped p (mark_of (payload_kind y)) index.0 e.term.0 ≡ put (shape_of_payload y)
    by noop s = ap put (sym (said_noop p 3 (omega arith)))
    by (command bs) s =
        let f : 4 + length bs ≡ suc (suc (suc (1 + length bs))) = omega arith in
        let g : 3 + (1 + length bs) - 4 ≡ length bs = omega arith in
        ap (λ (k : ℕ). shaped p k index.0 e.term.0) f ∙ ap put (sym (said_command p (3 + (1 + length bs)) (omega arith) (omega (arith, s.short))) ∙ ap Command g)
shaped_write p (write_truncate from) g = refl

pub shows : (p m k at mark a b : ℕ) (s : List ℕ) (r : Shape) → k < m → at ≡ k * (3 + words_for p) → mark ≡ get_or (W s) at 0 → a ≡ get_or (W s) (at + (3 + words_for p) - 2) 0
    → b ≡ get_or (W s) (at + (3 + words_for p) - 1) 0 → Shaped p mark a b r
    → Shows p m k r s
unfolding shape_at
shows p m k at mark a b s r h e em ea eb c = record { is = record { to = λ N ws g. c.is ∙ is g }; most = c.most }
  where
    is : {N : ℕ} {ws : List Write} → Held (waiting p) N m s ws → shaped p mark a b ≡ shape_of (get_or ws k nothing)
    is {N} {ws} g =
        let w : Write = get_or ws k nothing in
        let row : List ℕ = (marked kind_marking p).enc (kind_of w) in
        let good : (write_code p).good w ≡ true = (row_held g k nothing h).good in
        let l : length row ≡ 1 + words_for p = (marked kind_marking p).size_enc (kind_of w) (and_left _ _ (and_left _ _ good)) in
        let i₀ : at ≡ k * (3 + words_for p) + 0 = omega arith in
        let i₁ : at + (3 + words_for p) - 2 ≡ k * (3 + words_for p) + (1 + words_for p) = omega arith in
        let i₂ : at + (3 + words_for p) - 1 ≡ k * (3 + words_for p) + (2 + words_for p) = omega arith in
        let j₂ : 2 + words_for p ≡ length row + 1 = omega arith in
        let m₀ : mark ≡ mark_of (kind_of w) = em ∙ ap (λ (j : ℕ). get_or (W s) j 0) i₀ ∙ row_word g k 0 nothing h (omega arith) in
        let m₁ : a ≡ first_of w = ea ∙ ap (λ (j : ℕ). get_or (W s) j 0) i₁ ∙ row_word g k (1 + words_for p) nothing h (omega arith) ∙ get_or_at row (first_of w) (second_of w ∷ []) 0 (1 + words_for p) l in
        let m₂ : b ≡ second_of w =
        eb ∙ ap (λ (j : ℕ). get_or (W s) j 0) i₂ ∙ row_word g k (2 + words_for p) nothing h (omega arith) ∙ ap (λ (j : ℕ). get_or (row ++ (first_of w ∷ second_of w ∷ [])) j 0) j₂
        ∙ get_or-append-add row (first_of w ∷ second_of w ∷ []) 1 0 in
        ap (λ (j : ℕ). shaped p j a b) m₀ ∙ ap₂ (λ (x y : ℕ). shaped p (mark_of (kind_of w)) x y) m₁ m₂ ∙ shaped_write p w good

-- ---- check

plain_kind : (m : ℕ) (d : List ℕ) (b : ℕ) → plain (kind_from m d) b ≡ plain_mark m b
unfolding kind_from plain_mark
plain_kind zero d b = refl
plain_kind (suc zero) d b = refl
plain_kind (suc (suc zero)) d b = refl
plain_kind (suc (suc (suc zero))) d b = refl
plain_kind (suc (suc (suc (suc m)))) d b = refl

plain_as : (m k b : ℕ) (r : Bool) → m ≡ k → r ≡ plain_mark k b → r ≡ plain_mark m b
plain_as m k b r e f = f ∙ ap (λ (j : ℕ). plain_mark j b) (sym e)

pub plain_zero : (m b : ℕ) → (m ≡ 0) ⊎ (m ≡ 2) → eqb b 0 ≡ plain_mark m b
unfolding plain_mark
plain_zero m b (inl e) = plain_as m zero b (eqb b 0) e refl
plain_zero m b (inr e) = plain_as m (suc (suc zero)) b (eqb b 0) e refl

pub plain_other : (m b : ℕ) → (m ≡ 0 → ⊥) → (m ≡ 2 → ⊥) → true ≡ plain_mark m b
unfolding plain_mark
plain_other zero b h k = absurd (h refl)
plain_other (suc zero) b h k = refl
plain_other (suc (suc zero)) b h k = absurd (k refl)
plain_other (suc (suc (suc m))) b h k = refl

pub ruleset plains = (plain_zero, plain_other)

within_kind : (n m : ℕ) (d : List ℕ) (a b : ℕ) → put_within n (write_from (kind_from m d) a b) ≡ within_mark n m a
unfolding kind_from within_mark
within_kind n zero d a b = refl
within_kind n (suc zero) d a b = refl
within_kind n (suc (suc zero)) d a b = refl
within_kind n (suc (suc (suc zero))) d a b = refl
within_kind n (suc (suc (suc (suc m)))) d a b = refl

pub within_other : (n m a : ℕ) → m < 3 → true ≡ within_mark n m a
unfolding within_mark
within_other n zero a h = refl
within_other n (suc zero) a h = refl
within_other n (suc (suc zero)) a h = refl
within_other n (suc (suc (suc m))) a h = absurd (omega arith)

pub within_put : (n m a : ℕ) → 3 ≤ m → (leb 1 a && leb a n) ≡ within_mark n m a
unfolding within_mark
within_put n zero a h = absurd (omega arith)
within_put n (suc zero) a h = absurd (omega arith)
within_put n (suc (suc zero)) a h = absurd (omega arith)
within_put n (suc (suc (suc m))) a h = code_and (leb 1 a) (leb a n)

pub ruleset withins = (within_other, within_put)

-- the bytes of a row's command are in its first 1 + ⌈p/8⌉ words
body_front : (k : ℕ) (ws : List ℕ) → take k (drop 1 (take (suc k) ws)) ≡ take k (drop 1 ws)
body_front k [] = refl
body_front k (w ∷ ws) = take-take k k ws (omega arith)

module _ (n p : ℕ) (s : List ℕ) (B : Bytes s) (l : length s ≡ 8 * (3 + words_for p)) (m : ℕ) (e : m ≡ get_or (W s) 0 0) (u : ℕ) (eu : u ≡ m - 4) (q : Bool)
    (t : q ≡ rest_ok p u (take (8 * (1 + words_for p) - 0) (drop 0 s))) where
  rest_row : q ≡ (marked kind_marking p).ok (W s)
  unfolding rest_ok body_in
  rest_row =
      let k : 8 * (1 + words_for p) - 0 ≡ 8 * (1 + words_for p) - 8 * 0 = omega arith in
      let j : 1 + words_for p - 0 ≡ suc (words_for p) = omega arith in
      let f : W (take (8 * (1 + words_for p) - 0) (drop 0 s)) ≡ take (suc (words_for p)) (W s) =
      ap (λ (v : ℕ). W (take v s)) k ∙ W-part s 0 (1 + words_for p) B (omega arith) (omega arith) ∙ ap (λ (v : ℕ). take v (W s)) j in
      let i : u ≡ get_or (W s) 0 0 - 4 = eu ∙ ap (λ (v : ℕ). v - 4) e in
      t ∙ ap₂ (λ (i : ℕ) (ws : List ℕ). leb i p and allz (drop i (bytes (take (words_for p) (drop 1 ws))))) i f
      ∙ ap (λ (ws : List ℕ). leb (get_or (W s) 0 0 - 4) p and allz (drop (get_or (W s) 0 0 - 4) (bytes ws))) (body_front (words_for p) (W s)) ∙ sym (true_and _)

  pub write_fails : not q ≡ true → false ≡ (waiting_in n p).row.ok (W s)
  write_fails f = sym (no_and _ _ (no_and _ _ (no_and _ _ (sym rest_row ∙ not-true q f))))

  write_plain : (b : ℕ) (r : Bool) → not q ≡ false → b ≡ get_or (W s) (1 + words_for p + 1) 0 → r ≡ plain_mark m b → r ≡ (write_code p).ok (W s)
  write_plain b r f eb er =
      let d : List ℕ = take (get_or (W s) 0 0 - 4) (body_in p (W s)) in
      let c : get_or (drop 1 (drop (1 + words_for p) (W s))) 0 0 ≡ b =
      get_or-drop 1 (drop (1 + words_for p) (W s)) 0 0 ∙ get_or-drop (1 + words_for p) (W s) 1 0 ∙ sym eb in
      er ∙ ap₂ plain_mark e (sym c) ∙ sym (plain_kind (get_or (W s) 0 0) d (get_or (drop 1 (drop (1 + words_for p) (W s))) 0 0))
      ∙ sym (ap (λ (v : Bool). (v and (true and true)) and plain (kind_from (get_or (W s) 0 0) d) (get_or (drop 1 (drop (1 + words_for p) (W s))) 0 0)) (sym rest_row ∙ not-false q f)
      ∙ ap (λ (v : Bool). v and plain (kind_from (get_or (W s) 0 0) d) (get_or (drop 1 (drop (1 + words_for p) (W s))) 0 0)) (and_both _ _ refl (and_both _ _ refl refl)) ∙ true_and _)

  pub write_within : (a b : ℕ) (r t : Bool) → not q ≡ false → a ≡ get_or (W s) (1 + words_for p) 0 → b ≡ get_or (W s) (1 + words_for p + 1) 0 → r ≡ plain_mark m b → t ≡ within_mark n m a
      → (r && t) ≡ (waiting_in n p).row.ok (W s)
  write_within a b r t f ea eb er et =
      let d : List ℕ = take (get_or (W s) 0 0 - 4) (body_in p (W s)) in
      let i : 1 + words_for p ≡ 1 + words_for p + 0 = omega arith in
      let c : a ≡ get_or (drop (1 + words_for p) (W s)) 0 0 = ea ∙ ap (λ (j : ℕ). get_or (W s) j 0) i ∙ sym (get_or-drop (1 + words_for p) (W s) 0 0) in
      code_and r t
      ∙ ap₂ (λ (x y : Bool). x and y) (write_plain b r f eb er)
      (et ∙ ap₂ (within_mark n) e c ∙ sym (within_kind n (get_or (W s) 0 0) d (get_or (drop (1 + words_for p) (W s)) 0 0) (get_or (drop 1 (drop (1 + words_for p) (W s))) 0 0)))

pub ruleset write_tests = (write_fails, write_within)

pub ruleset write_rows = (rowed_start, lent_fine, lent_fails, rowed_done)
