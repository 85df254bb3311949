-- What the proofs of lib.rt cite. Assumes nothing.
use Rattle.std.proofs.Math.Path.{◌≡◌, refl, sym, ap, ap₂, subst}
use Rattle.std.proofs.Common.{◌∙◌, add-zero, drop_of_length-le, take_all, take-suc, get_or-drop, length-take-le, Fits, eq-eqb, ne_eqb, eqb-true, lt-ltb, leb-true, leb-false}
use Rattle.std.specs.Prelude.{Bool, not, eqb, leb, get_or, take, drop, replicate, Option, None, Some}
use Rattle.std.proofs.Math.Bool.{true, false}
use mathlib.Core.List.{List, [], ◌∷◌, ◌++◌}
use Prim.Native.Nat.{ℕ, zero, suc, ◌+◌, ◌-◌, ◌*◌, ◌/◌, ◌%◌, ◌^◌, ◌≤◌, ◌<◌}
use native.Mathlib.Omega.{arith}
use Rattle.std.proofs.Math.ListN.{length, set, get_or-eq_default}
use Rattle.std.proofs.lemmas.List.{length-replicate, get_or_at}
use Rattle.std.proofs.Math.Seq.{sets}
use Rattle.std.specs.Int.{w8, w64}
use Rattle.std.proofs.lemmas.Bool.{not-false}
use Rattle.laws.specs.Bools.{pick, cases, and_left, and_true}
use Rattle.laws.proofs.BoolLaws.{and_right, and_both}
use Rattle.laws.specs.Lists.{is_some, same_list}
use Rattle.laws.specs.ListLaws.{drop_next}
use Rattle.laws.proofs.ListLaws.{list_itself}
use Rattle.laws.specs.Decides.{Decides, false_true, holds, decided}
use Rattle.units.specs.Types.{Payload, noop, command, Entry, same_payload, shape_of, command_length}
use Rattle.units.specs.PayloadLaws.{payload_itself, payload_equal}
use Rattle.units.specs.declared.Term.{Term}
use Rattle.units.specs.declared.PayloadShape.TheVariants.{Noop, Command}
use Rattle.words.specs.Words.{bytes, bytes_of, W, Bytes, allz}
use Rattle.words.specs.Zero.{zeros_allz}
use Rattle.words.specs.Sets.{sets_append, sets_all, part_part}
use Rattle.words.specs.Lift.{bytes_append, bytes_one, length_bytes, length_w, W-fit, W-whole, allz_bytes}
use Rattle.layout.specs.Code.{zeros}
use Rattle.layout.specs.Tables.{Holds, Held, Tabled, Becomes, Gives, rows_in, fill_from, padded}
use Rattle.layout.specs.Contents.{decides_same}
use Rattle.layout.specs.Rows.{row_end}
use Rattle.layout.specs.TableLaws.{row_word, row_held, row_parsed, length_rows_in, fill_held, blank_held, puts, rowed_start, rowed_done, held_rows}
use Rattle.layout.specs.Marked.{words_for, Sound, sound, sounds}
use Rattle.layout.specs.Payload.{payload, payload_marking, mark_of, body_of, count_mark, valid_mark}
use Rattle.layout.specs.MarkedCalls.{laid, Puts}
use Rattle.layout.specs.MarkedLaws.{puts as written, body_read}
use Rattle.layout.specs.Parts.{lent_row, back_row, length_lent_row, row_back, part_ok, lent_fine, lent_fails}
use Rattle.raft_log.specs.declared.EntryShape.{EntryShape}
use Rattle.raft_log.specs.Log.{Log, entry_at, put_at, truncate_at, count, last_index, gaps, removed_by}
use Rattle.raft_log.specs.Places.{entry_code, place, places, place_of, place_at, said, length_of, presence, bytes_in, ReadsEntry, Truncates, Clears, Compares, is_payload, holds_at, same_payloads, put_entry}
use Rattle.raft_log.specs.Payloads.{entry_place, payload_in, place_start, payload_held, entry_held}

-- ---- what a row's words say

said_as : (m : ℕ) (t : Term) (b c : Bool) → eqb m 0 ≡ b → eqb m 1 ≡ c → said m t ≡ pick b None (Some (record { term = t; payload = pick c Noop (Command (m - 2)) }))
unfolding said
said_as m t b c e f = ap₂ (λ (u v : Bool). pick u None (Some (record { term = t; payload = pick v Noop (Command (m - 2)) }))) e f

pub said_none : (m : ℕ) (t : Term) → m ≡ 0 → None ≡ said m t
said_none m t h = sym (said_as m t true false (eq-eqb m 0 h) (ne_eqb m 1 (omega arith)))

pub said_noop : (m : ℕ) (t : Term) → m ≡ 1 → Some (record { term = t; payload = Noop }) ≡ said m t
said_noop m t h = sym (said_as m t false true (ne_eqb m 0 (omega arith)) (eq-eqb m 1 h))

pub said_command : (m : ℕ) (t : Term) → 2 ≤ m → Some (record { term = t; payload = Command (m - 2) }) ≡ said m t
said_command m t h = sym (said_as m t false false (ne_eqb m 0 (omega arith)) (ne_eqb m 1 (omega arith)))

-- the first word of a place and its last
abbrev pub mark_in : Option Entry → ℕ
mark_in None = 0
mark_in (Some e) = mark_of e.payload

first_zero : (n : ℕ) → get_or (zeros n) 0 0 ≡ 0
first_zero zero = refl
first_zero (suc n) = refl

first_word : (p : ℕ) (o : Option Entry) → get_or ((place p).enc o) 0 0 ≡ mark_in o
first_word p None = first_zero (2 + words_for p)
first_word p (Some e) = refl

said_entry : (m : ℕ) (t : ℕ) (e : Entry) → m ≡ mark_of e.payload → t ≡ e.term.0 → said m (record { 0 = t }) ≡ place_of (Some e)
said_entry m t e a b = by e.payload a
  where
    by : (y : Payload) → m ≡ mark_of y → said m (record { 0 = t }) ≡ place_of (Some (record { term = e.term; payload = y }))
    by noop a = sym (said_noop m (record { 0 = t }) a) ∙ ap (λ (u : ℕ). Some (record { term = record { 0 = u }; payload = Noop })) b
    by (command bs) a =
        let l : m - 2 ≡ length bs = omega arith in
        sym (said_command m (record { 0 = t }) (omega arith)) ∙ ap₂ (λ (u k : ℕ). Some (record { term = record { 0 = u }; payload = Command k })) b l

-- ---- indexes

none_at : (x : Log) (n i : ℕ) → length x ≡ n → n < i → entry_at x i ≡ None
none_at x n i l h = entry_place x i (omega arith) ∙ get_or-eq_default x None {n = i - 1} (omega arith)

-- ---- the words of a place

last_word : (p : ℕ) (e : Entry) → (entry_code p).good e ≡ true → get_or ((entry_code p).enc e) (1 + words_for p) 0 ≡ e.term.0
last_word p e h = get_or_at ((payload p).enc e.payload) e.term.0 [] 0 (1 + words_for p) ((payload p).size_enc e.payload (and_left _ _ h))

module _ (p n : ℕ) {N : ℕ} {s : List ℕ} {x : Log} (h : Held (places p) N n s x) (i at : ℕ) (k : i < n) (e : at ≡ i * (2 + words_for p)) where
  abbrev here : Option Entry
  here = get_or x i None

  mark_here : get_or (W s) at 0 ≡ mark_in here
  mark_here =
      let a : at ≡ i * (2 + words_for p) + 0 = omega arith in
      ap (λ (j : ℕ). get_or (W s) j 0) a ∙ row_word h i 0 None k (omega arith) ∙ first_word p here

  term_here : (d : Entry) → here ≡ Some d → get_or (W s) (at + (2 + words_for p) - 1) 0 ≡ d.term.0
  term_here d q =
      let a : at + (2 + words_for p) - 1 ≡ i * (2 + words_for p) + (1 + words_for p) = omega arith in
      ap (λ (j : ℕ). get_or (W s) j 0) a ∙ row_word h i (1 + words_for p) None k (omega arith) ∙ ap (λ (o : Option Entry). get_or ((place p).enc o) (1 + words_for p) 0) q
      ∙ last_word p d (ap (place p).good (sym q) ∙ (row_held h i None k).good)

  -- the bytes of a command
  body_here : (d : Entry) → here ≡ Some d → (m : ℕ) → m ≡ length (body_of d.payload) → m ≤ p → take (8 * (at + 1) + m - 8 * (at + 1)) (drop (8 * (at + 1)) s) ≡ body_of d.payload
  body_here d q m l b =
      let c : 8 * (at + 1) + m - 8 * (at + 1) ≡ 8 + m - 8 = omega arith in
      let a : 8 * (at + 1) ≡ 8 * at + 8 = omega arith in
      ap₂ (λ (u v : ℕ). take u (drop v s)) c a ∙ sym (part_part s (8 * at) (8 * (at + (1 + words_for p)) - 8 * at) 8 (8 + m - 8) (omega arith)) ∙ body_read payload_marking p (entry_held p n h i at k e d q) m l

-- ---- entry

pub at_zero : (p n i : ℕ) (b : List ℕ) → i < 1 → Gives (places p) n b None (place_at i)
unfolding place_at entry_at
at_zero p n zero b h = record { to = λ N x k. refl }
at_zero p n (suc i) b h = absurd (omega arith)

pub at_past : (p n i : ℕ) (b : List ℕ) → n < i → Gives (places p) n b None (place_at i)
unfolding place_at
at_past p n i b h = record { to = λ N x k. sym (ap place_of (none_at x n i (held_rows k).count h)) }

pub at_place : (p n i at m t : ℕ) (b : List ℕ) (r : Option EntryShape) → 1 ≤ i → i ≤ n → at ≡ (i - 1) * (2 + words_for p) → m ≡ get_or (W b) at 0 → t ≡ get_or (W b) (at + (2 + words_for p) - 1) 0
    → r ≡ said m (record { 0 = t })
    → Gives (places p) n b r (place_at i)
unfolding place_at
at_place p n i at m t b r lo hi e em et er = record { to = λ N x h. er ∙ by h (get_or x (i - 1) None) refl ∙ ap place_of (sym (entry_place x i lo)) }
  where
    by : {N : ℕ} {x : Log} → Held (places p) N n b x → (o : Option Entry) → get_or x (i - 1) None ≡ o → said m (record { 0 = t }) ≡ place_of o
    by h None q =
        let z : m ≡ 0 = em ∙ mark_here p n h (i - 1) at (omega arith) e ∙ ap mark_in q in
        sym (said_none m (record { 0 = t }) z)
    by h (Some d) q =
        said_entry m t d (em ∙ mark_here p n h (i - 1) at (omega arith) e ∙ ap mark_in q) (et ∙ term_here p n h (i - 1) at (omega arith) e d q)

pub ruleset entries = (at_zero, at_past, at_place)

-- ---- read_entry

command_most : (p : ℕ) (o : Option Entry) → (place p).good o ≡ true → length_of (place_of o) ≤ p
command_most p None h = omega arith
command_most p (Some e) h = by e.payload (sound payload_marking p e.payload (and_left _ _ h))
  where
    by : (y : Payload) → Sound payload_marking p y → command_length (shape_of y) ≤ p
    by noop s = omega arith
    by (command bs) s = s.short

length_bytes_in : (o : Option Entry) → length_of (place_of o) ≡ length (bytes_in o)
length_bytes_in None = refl
length_bytes_in (Some e) = by e.payload
  where
    by : (y : Payload) → command_length (shape_of y) ≡ length (body_of y)
    by noop = refl
    by (command bs) = refl

module _ (p n i : ℕ) (s b : List ℕ) where
  pub read_zero : i < 1 → ReadsEntry p n i None s b b
  unfolding entry_at
  read_zero h = record { place = (at_zero p n i s h).to; copied = λ N x k. ap (λ (o : Option Entry). sets b 0 (bytes_in o)) (sym (none_zero x i h)) }
    where
      none_zero : (x : Log) (i : ℕ) → i < 1 → entry_at x i ≡ None
      none_zero x zero h = refl
      none_zero x (suc i) h = absurd (omega arith)

  pub read_past : n < i → ReadsEntry p n i None s b b
  read_past h = record { place = (at_past p n i s h).to; copied = λ N x k. ap (λ (o : Option Entry). sets b 0 (bytes_in o)) (sym (none_at x n i (held_rows k).count h)) }

  module _ (lo : 1 ≤ i) (hi : i ≤ n) (at : ℕ) (e : at ≡ (i - 1) * (2 + words_for p)) (r : Option EntryShape) (g : Gives (places p) n s r (place_at i)) (m : ℕ) (q : m ≡ length_of r) where
    is_length : {N : ℕ} {x : Log} → Held (places p) N n s x → m ≡ length_of (place_of (get_or x (i - 1) None))
    unfolding place_at
    is_length {N} {x} h = q ∙ ap length_of (g.to N x h) ∙ ap (λ (o : Option Entry). length_of (place_of o)) (entry_place x i lo)

    never : {N : ℕ} {x : Log} → Held (places p) N n s x → p < m → ⊥
    never {N} {x} h l = omega (arith, is_length h, command_most p (get_or x (i - 1) None) (row_held h (i - 1) None (omega arith)).good)

    pub read_long : p < m → ReadsEntry p n i None s b b
    read_long l = record { place = λ N x h. absurd (never h l); copied = λ N x h. absurd (never h l) }

    pub read_here : m ≤ p → (b' : List ℕ) → b' ≡ sets b 0 (take (8 * (at + 1) + m - 8 * (at + 1)) (drop (8 * (at + 1)) s)) → ReadsEntry p n i r s b b'
    read_here l b' c = record {
      place = g.to;
      copied = λ N x h. c ∙ ap (sets b 0) (by h (get_or x (i - 1) None) refl ∙ ap bytes_in (sym (entry_place x i lo)));
    }
      where
        by : {N : ℕ} {x : Log} → Held (places p) N n s x → (o : Option Entry) → get_or x (i - 1) None ≡ o → take (8 * (at + 1) + m - 8 * (at + 1)) (drop (8 * (at + 1)) s) ≡ bytes_in o
        by h None o =
            let z : m ≡ 0 = is_length h ∙ ap (λ (y : Option Entry). length_of (place_of y)) o in
            let y : 8 * (at + 1) + m - 8 * (at + 1) ≡ 0 = omega arith in
            ap (λ (k : ℕ). take k (drop (8 * (at + 1)) s)) y
        by h (Some d) o =
            body_here p n h (i - 1) at (omega arith) e d o m (is_length h ∙ ap (λ (y : Option Entry). length_of (place_of y)) o ∙ length_bytes_in (Some d)) l

pub ruleset reading = (read_zero, read_past, read_long, read_here)

-- ---- the last index of a list of places

last_some : (y : Log) (o : Option Entry) → is_some o ≡ true → last_index (y ++ (o ∷ [])) ≡ suc (length y)
unfolding last_index
last_some [] o h = ap (λ (b : Bool). pick b 1 0) h
last_some (a ∷ y) o h =
    ap (λ (j : ℕ). pick (eqb j 0) (pick (is_some a) 1 0) (suc j)) (last_some y o h) ∙ ap (λ (b : Bool). pick b (pick (is_some a) 1 0) (suc (suc (length y)))) (ne_eqb (suc (length y)) 0 (omega arith))

last_none : (y : Log) (o : Option Entry) → is_some o ≡ false → last_index (y ++ (o ∷ [])) ≡ last_index y
unfolding last_index
last_none [] o h = ap (λ (b : Bool). pick b 1 0) h
last_none (a ∷ y) o h = ap (λ (j : ℕ). pick (eqb j 0) (pick (is_some a) 1 0) (suc j)) (last_none y o h)

count_last : (x : Log) → count x ≤ last_index x
unfolding count last_index
count_last [] = omega arith
count_last (a ∷ x) = by (is_some a) (eqb (last_index x) 0) refl (count_last x)
  where
    by : (t u : Bool) → eqb (last_index x) 0 ≡ u → count x ≤ last_index x → pick t 1 0 + count x ≤ pick u (pick t 1 0) (suc (last_index x))
    by true true e h = omega (arith, eqb-true (last_index x) 0 e)
    by false true e h = omega (arith, eqb-true (last_index x) 0 e)
    by true false e h = omega arith
    by false false e h = omega arith

-- ---- counting

module _ (p n : ℕ) (s : List ℕ) where
  abbrev log : Log
  log = rows_in (place p) n s

  log_long : length log ≡ n
  log_long = length_rows_in (place p) n s

  -- a row's first word says whether an entry is there
  there : (i at m : ℕ) → i < n → at ≡ i * (2 + words_for p) → m ≡ get_or (W s) at 0 → is_some (get_or log i None) ≡ not (eqb m 0)
  there i at m k e q =
      ap is_some (row_parsed (place p) n s i None k)
      ∙ by (eqb (get_or (drop (i * (2 + words_for p)) (W s)) 0 0) 0)
      ∙ ap (λ (j : ℕ). not (eqb j 0)) (get_or-drop (i * (2 + words_for p)) (W s) 0 0 ∙ ap (λ (j : ℕ). get_or (W s) j 0) (add-zero (i * (2 + words_for p)) ∙ sym e) ∙ sym q)
    where
      by : (b : Bool) → is_some (pick b None (Some ((entry_code p).parse (drop (i * (2 + words_for p)) (W s))))) ≡ not b
      by true = refl
      by false = refl

  -- r entries from place `from` up to place i
  pub record Counting (from r i : ℕ) : Type 0 where
    pub is : count (drop from log) ≡ r + count (drop i log)
    pub upto : i ≤ n
    pub most : r + from ≤ i

  pub counting_start : (from : ℕ) → from ≤ n → Counting from 0 from
  counting_start from h = record { is = omega arith; upto = h; most = omega arith }

  pub counting_turn : (from r i at m d : ℕ) → Counting from r i → i < n → at ≡ i * (2 + words_for p) → m ≡ get_or (W s) at 0 → d ≡ presence m → d ≤ 1 → Counting from (r + d) (i + 1)
  unfolding presence count
  counting_turn from r i at m d c k e q f l =
      let v : pick (is_some (get_or log i None)) 1 0 ≡ d = ap (λ (b : Bool). pick b 1 0) (there i at m k e q) ∙ by (eqb m 0) ∙ sym f in
      let a : count (drop i log) ≡ d + count (drop (i + 1) log) =
      ap count (drop_next log i None (omega (arith, log_long))) ∙ ap (λ (j : ℕ). j + count (drop (i + 1) log)) v in
      record { is = omega (arith, c.is); upto = omega arith; most = omega (arith, c.most) }
    where
      by : (b : Bool) → ◌≡◌ {A = ℕ} (pick (not b) 1 0) (pick b 0 1)
      by true = refl
      by false = refl

  pub counting_done : (from r i : ℕ) → Counting from r i → n ≤ i → r ≡ count (drop from log)
  unfolding count
  counting_done from r i c h =
      let z : count (drop i log) ≡ 0 = ap count (drop_of_length-le log {i = i} (omega (arith, log_long))) in
      omega (arith, c.is)

  -- no entry from place i on
  pub record Seeking (i : ℕ) : Type 0 where
    pub is : last_index log ≡ last_index (take i log)
    pub upto : i ≤ n

  pub seeking_start : Seeking n
  seeking_start = record { is = ap last_index (sym (take_all n log (omega (arith, log_long)))); upto = omega arith }

  module _ (i at m : ℕ) (c : Seeking i) (k : 0 < i) (e : at ≡ (i - 1) * (2 + words_for p)) (q : m ≡ get_or (W s) at 0) where
    split : take i log ≡ take (i - 1) log ++ (get_or log (i - 1) None ∷ [])
    split =
        let a : i ≡ suc (i - 1) = omega arith in
        ap (λ (j : ℕ). take j log) a ∙ take-suc log (i - 1) None (omega (arith, log_long, c.upto))

    pub seeking_found : 0 < m → i - 1 + 1 ≡ last_index log
    seeking_found l =
        let f : length (take (i - 1) log) ≡ i - 1 = length-take-le (i - 1) log (omega (arith, log_long, c.upto)) in
        let t : is_some (get_or log (i - 1) None) ≡ true = there (i - 1) at m (omega (arith, c.upto)) e q ∙ ap not (ne_eqb m 0 (omega arith)) in
        let a : i - 1 + 1 ≡ suc (length (take (i - 1) log)) = omega arith in
        a ∙ sym (c.is ∙ ap last_index split ∙ last_some (take (i - 1) log) (get_or log (i - 1) None) t)

    pub seeking_turn : m ≤ 0 → Seeking (i - 1)
    seeking_turn l =
        let t : is_some (get_or log (i - 1) None) ≡ false = there (i - 1) at m (omega (arith, c.upto)) e q ∙ ap not (eq-eqb m 0 (omega arith)) in
        record { is = c.is ∙ ap last_index split ∙ last_none (take (i - 1) log) (get_or log (i - 1) None) t; upto = omega (arith, c.upto) }

  pub seeking_done : (i : ℕ) → Seeking i → i ≤ 0 → 0 ≡ last_index log
  unfolding last_index
  seeking_done i c h = sym (c.is ∙ ap (λ (j : ℕ). last_index (take j log)) (let z : i ≡ 0 = omega arith in z))

  pub gap_fits : (a b : ℕ) → a ≡ last_index log → b ≡ count log → b ≤ a
  gap_fits a b e f = omega (arith, count_last log)

  pub gap_is : (a b : ℕ) → a ≡ last_index log → b ≡ count log → a - b ≡ gaps log
  unfolding gaps
  gap_is a b e f = ap₂ (λ (u v : ℕ). u - v) e f

pub ruleset counts = (counting_start, counting_turn, counting_done)

pub ruleset seeks = (seeking_start, seeking_found, seeking_turn, seeking_done)

pub ruleset gapped = (gap_fits, gap_is)

-- ---- put

put_place : (x : Log) (i : ℕ) (e : Entry) → 1 ≤ i → set x (i - 1) (Some e) ≡ put_at x i e
unfolding put_at
put_place x zero e h = absurd (omega arith)
put_place x (suc i) e h = ap (λ (k : ℕ). set x k (Some e)) (let q : suc i - 1 ≡ i = omega arith in q)

module _ (p n i at : ℕ) (term : Term) (b ys b' : List ℕ) (lo : 1 ≤ i) (hi : i ≤ n) (room : 8 * (n * (2 + words_for p)) ≤ length b) (f : Fits w64 term.0) (a : at ≡ (i - 1) * (1 + words_for p + 1))
  where
    put_row : (y : Payload) → Sound payload_marking p y → Puts payload_marking y (lent_row at (1 + words_for p) b) ys
        → b' ≡ sets (back_row at (1 + words_for p) b ys) (8 * (at + (1 + words_for p))) (bytes_of 8 term.0)
        → Becomes (places p) n n b b' (put_entry i (record { term = term; payload = y }))
    unfolding put_entry
    put_row y s h e =
        let d : Entry = record { term = term; payload = y } in
        let at_is : at ≡ (i - 1) * (2 + words_for p) = place_start p (i - 1) at a in
        let fits : 8 * (at + (1 + words_for p)) ≤ length b = omega (arith, row_end (i - 1) n (2 + words_for p) (omega arith)) in
        let k : Holds (payload p) ys y = h.to p (length_lent_row at (1 + words_for p) b fits) (sounds payload_marking p y s) in
        let l : 8 * at + length (bytes ((payload p).enc y)) ≡ 8 * (at + (1 + words_for p)) = omega (arith, length_bytes ((payload p).enc y), (payload p).size_enc y k.good) in
        let q : b' ≡ sets b (8 * ((i - 1) * (2 + words_for p))) (bytes ((entry_code p).enc d)) =
        e ∙ ap (λ (v : List ℕ). sets v (8 * (at + (1 + words_for p))) (bytes_of 8 term.0)) (row_back (payload p) b ys at y fits k)
        ∙ sets_append (bytes ((payload p).enc y)) b (bytes_of 8 term.0) (8 * at) (8 * (at + (1 + words_for p))) l
        ∙ ap (sets b (8 * at)) (ap (λ (v : List ℕ). bytes ((payload p).enc y) ++ v) (sym (bytes_one term.0)) ∙ sym (bytes_append ((payload p).enc y) (term.0 ∷ [])))
        ∙ ap (λ (j : ℕ). sets b (8 * j) (bytes ((entry_code p).enc d))) at_is in
        let z : Becomes (places p) n n b b' (λ x. set x (i - 1) (Some d)) =
        puts (places p) n b (i - 1) (Some d) b' (omega arith) (and_both _ _ k.good (lt-ltb term.0 (2 ^ 64) f.fits)) (λ x r. refl) q in
        record { to = λ N x g. subst (Held (places p) N n b') (put_place x i d lo) (z.to N x g) }

    pub put_made : (y : Payload) (m : ℕ) (src : List ℕ) → p ≤ 256 → length (body_of y) ≤ p
        → b' ≡ sets (back_row at (1 + words_for p) b ys) (8 * (at + (1 + words_for p))) (bytes_of 8 term.0)
        → ys ≡ laid m src (length (lent_row at (1 + words_for p) b)) → m ≡ mark_of y → src ≡ body_of y → Bytes src
        → Becomes (places p) n n b b' (put_entry i (record { term = term; payload = y }))
    put_made y m src q l e h em es B =
        put_row y (record { marked = omega (arith, count_mark y); short = l; each = λ j. subst (λ (v : List ℕ). Fits w8 (get_or v j 0)) es (B j) })
        (written payload_marking y (lent_row at (1 + words_for p) b) ys (h ∙ ap₂ (λ (k : ℕ) (v : List ℕ). laid k v (length (lent_row at (1 + words_for p) b))) em es)) e

-- ---- truncate: i is the first place that is removed, or the count of places

module _ {A : Type 0} (x : List A) (i j : ℕ) (h : i ≤ length x) (k : i ≤ j) (l : j ≤ i + (j - length x)) where
  cut_take : (d : A) → take i x ++ replicate (length x - i) d ≡ take j x ++ replicate (length x - j) d
  cut_take d = cases (leb j (length x)) inside past
    where
      inside : leb j (length x) ≡ true → take i x ++ replicate (length x - i) d ≡ take j x ++ replicate (length x - j) d
      inside t = ap (λ (m : ℕ). take m x ++ replicate (length x - m) d) (let e : i ≡ j = omega (arith, leb-true j (length x) t) in e)

      past : leb j (length x) ≡ false → take i x ++ replicate (length x - i) d ≡ take j x ++ replicate (length x - j) d
      past t =
          let a : length x - i ≡ length x - j = omega (arith, leb-false j (length x) t) in
          ap₂ (λ (u : List A) (m : ℕ). u ++ replicate m d) (take_all i x (omega (arith, leb-false j (length x) t)) ∙ sym (take_all j x (omega (arith, leb-false j (length x) t)))) a

  cut_drop : drop i x ≡ drop j x
  cut_drop = cases (leb j (length x)) inside past
    where
      inside : leb j (length x) ≡ true → drop i x ≡ drop j x
      inside t = ap (λ (m : ℕ). drop m x) (let e : i ≡ j = omega (arith, leb-true j (length x) t) in e)

      past : leb j (length x) ≡ false → drop i x ≡ drop j x
      past t = drop_of_length-le x {i = i} (omega (arith, leb-false j (length x) t)) ∙ sym (drop_of_length-le x {i = j} (omega (arith, leb-false j (length x) t)))

pub removed_from : (p n from i r : ℕ) (b : List ℕ) → i ≤ n → i ≤ from - 1 → from - 1 ≤ i + (from - 1 - n) → r ≡ count (drop i (rows_in (place p) n b)) → r ≡ removed_by (rows_in (place p) n b) from
unfolding removed_by
removed_from p n from i r b h k l c = c ∙ ap count (cut_drop (rows_in (place p) n b) i (from - 1) (omega (arith, length_rows_in (place p) n b)) k (rw (length_rows_in (place p) n b) l))

pub truncated : (p n from i r at end : ℕ) (b b' : List ℕ) → i ≤ n → i ≤ from - 1 → from - 1 ≤ i + (from - 1 - n) → r ≡ count (drop i (rows_in (place p) n b))
    → at ≡ i * (2 + words_for p) → end ≡ n * (2 + words_for p) → b' ≡ sets b (8 * at) (zeros (8 * end - 8 * at))
    → Truncates p n from r b b'
unfolding truncate_at fill_from
truncated p n from i r at end b b' h k l c ea ee e = record {
  kept = record {
    to = λ N x g.
        let m : length x ≡ n = (held_rows g).count in
        let q : b' ≡ sets b (8 * (i * (2 + words_for p))) (zeros (8 * (n * (2 + words_for p)) - 8 * (i * (2 + words_for p)))) =
        e ∙ ap₂ (λ (u v : ℕ). sets b (8 * u) (zeros (8 * v - 8 * u))) ea ee in
        subst (Held (places p) N n b') (cut_take x i (from - 1) (omega arith) k (rw m l) None) (fill_held g i None b' h refl refl refl q);
  };
  removed = removed_from p n from i r b h k l c;
}

-- ---- clear

pub cleared : (p n : ℕ) (b b' : List ℕ) → b' ≡ sets b 0 (zeros (length b - 0)) → Clears p n b b'
cleared p n b b' e =
    let z : length b - 0 ≡ length b = omega arith in
    let q : b' ≡ zeros (length b) = e ∙ ap (λ (k : ℕ). sets b 0 (zeros k)) z ∙ sets_all b (zeros (length b)) (length-replicate (length b) zero) in
    let l : length b' ≡ length b = ap length q ∙ length-replicate (length b) zero in
    record { to = λ N m h. blank_held (places p) N n None b' (l ∙ m) h refl refl refl (q ∙ ap zeros (sym l)) }

-- ---- comparing

same_payloads_lem : (a b : Option Entry) → payload_in a ≡ payload_in b → same_payloads a b ≡ true
same_payloads_lem None None h = refl
same_payloads_lem None (Some e) h = let z : ◌≡◌ {A = ℕ} 0 1 = cc in absurd (omega arith)
same_payloads_lem (Some d) None h = let z : ◌≡◌ {A = ℕ} 0 1 = cc in absurd (omega arith)
same_payloads_lem (Some d) (Some e) h =
    let q : d.payload ≡ e.payload = cc in
    ap (λ (y : Payload). same_payload d.payload y) (sym q) ∙ payload_itself d.payload

payloads_same : (a b : Option Entry) → same_payloads a b ≡ true → payload_in a ≡ payload_in b
payloads_same None None h = refl
payloads_same None (Some e) h = absurd (false_true h)
payloads_same (Some d) None h = absurd (false_true h)
payloads_same (Some d) (Some e) h = ap Some (payload_equal d.payload e.payload h)

pub compared : (p n i j at at₂ : ℕ) (r : Bool) (s t : List ℕ) → 1 ≤ i → i ≤ n → 1 ≤ j → j ≤ n → at ≡ (i - 1) * (1 + words_for p + 1) → at₂ ≡ (j - 1) * (1 + words_for p + 1)
    → Decides r (lent_row at (1 + words_for p) s ≡ lent_row at₂ (1 + words_for p) t)
    → Compares p n i j r s t
compared p n i j at at₂ r s t li hi lj hj e e₂ d = record {
  to = λ N M x y g h.
      decided r (same_payloads (get_or x (i - 1) None) (get_or y (j - 1) None))
      (decides_same (payload_held p n g (i - 1) at (omega arith) (place_start p (i - 1) at e)) (payload_held p n h (j - 1) at₂ (omega arith) (place_start p (j - 1) at₂ e₂)) d)
      (payloads_same (get_or x (i - 1) None) (get_or y (j - 1) None)) (same_payloads_lem (get_or x (i - 1) None) (get_or y (j - 1) None))
      ∙ ap₂ same_payloads (sym (entry_place x i li)) (sym (entry_place y j lj));
}

-- payloads of one mark and the same bytes are the same
same_parts : (x y : Payload) → mark_of x ≡ mark_of y → body_of x ≡ body_of y → same_payload x y ≡ true
unfolding same_payload
same_parts noop noop m b = refl
same_parts noop (command d) m b = absurd (omega arith)
same_parts (command c) noop m b = absurd (omega arith)
same_parts (command c) (command d) m b = ap (λ (v : List ℕ). same_list c v) (sym b) ∙ list_itself c

module _ (p n i : ℕ) (s : List ℕ) (y : Payload) where
  at_none : ((N : ℕ) (x : Log) → Held (places p) N n s x → entry_at x i ≡ None) → Gives (places p) n s false (holds_at i y)
  unfolding holds_at
  at_none f = record { to = λ N x h. ap (λ (o : Option Entry). is_payload o y) (sym (f N x h)) }

  module _ (lo : 1 ≤ i) (hi : i ≤ n) (at m : ℕ) (e : at ≡ (i - 1) * (2 + words_for p)) (em : m ≡ get_or (W s) at 0) where
    holds_if : {N : ℕ} {x : Log} (b : Bool) → Held (places p) N n s x → ((o : Option Entry) → get_or x (i - 1) None ≡ o → m ≡ mark_in o → b ≡ is_payload o y) → b ≡ holds_at i y x
    unfolding holds_at
    holds_if {N} {x} b h f =
        f (get_or x (i - 1) None) refl (em ∙ mark_here p n h (i - 1) at (omega arith) e) ∙ ap (λ (o : Option Entry). is_payload o y) (sym (entry_place x i lo))

    holds_other : (m ≡ mark_of y → ⊥) → Gives (places p) n s false (holds_at i y)
    holds_other f = record { to = λ N x h. holds_if false h (λ o q. by o) }
      where
        by : (o : Option Entry) → m ≡ mark_in o → false ≡ is_payload o y
        by None l = refl
        by (Some d) l = no (same_payload d.payload y) refl
          where
            no : (b : Bool) → same_payload d.payload y ≡ b → false ≡ b
            no true a = absurd (f (l ∙ ap mark_of (payload_equal d.payload y a)))
            no false a = refl

    holds_same : (r : Bool) (k : ℕ) → k ≤ p → k ≡ length (body_of y) → m ≡ mark_of y → Decides r (take (8 * (at + 1) + k - 8 * (at + 1)) (drop (8 * (at + 1)) s) ≡ body_of y)
        → Gives (places p) n s r (holds_at i y)
    holds_same r k l g f c = record { to = λ N x h. holds_if r h (by h) }
      where
        by : {N : ℕ} {x : Log} → Held (places p) N n s x → (o : Option Entry) → get_or x (i - 1) None ≡ o → m ≡ mark_in o → r ≡ is_payload o y
        by h None q a = absurd (omega (arith, leb-true 1 (mark_of y) (valid_mark y)))
        by h (Some d) q a =
            let z : k ≡ length (body_of d.payload) = omega (arith, count_mark y, count_mark d.payload) in
            decided r (same_payload d.payload y) (subst (λ (v : List ℕ). Decides r (v ≡ body_of y)) (body_here p n h (i - 1) at (omega arith) e d q k z l) c)
            (λ o. ap body_of (payload_equal d.payload y o)) (same_parts d.payload y (sym a ∙ f))

module _ (p n i : ℕ) (s : List ℕ) (y : Payload) where
  pub holds_zero : i < 1 → Gives (places p) n s false (holds_at i y)
  unfolding entry_at
  holds_zero h = at_none p n i s y (λ N x k. by x i h)
    where
      by : (x : Log) (i : ℕ) → i < 1 → entry_at x i ≡ None
      by x zero h = refl
      by x (suc i) h = absurd (omega arith)

  pub holds_past : n < i → Gives (places p) n s false (holds_at i y)
  holds_past h = at_none p n i s y (λ N x k. none_at x n i (held_rows k).count h)

  module _ (lo : 1 ≤ i) (hi : i ≤ n) (at m k : ℕ) (e : at ≡ (i - 1) * (2 + words_for p)) (em : m ≡ get_or (W s) at 0) (ek : k ≡ mark_of y) where
    pub holds_not : (m ≡ k → ⊥) → Gives (places p) n s false (holds_at i y)
    holds_not f = holds_other p n i s y lo hi at m e em (λ o. f (o ∙ sym ek))

    pub holds_here : (src : List ℕ) (r : Bool) → length (body_of y) ≤ p → m ≡ k → src ≡ body_of y → Decides r (take (8 * (at + 1) + length src - 8 * (at + 1)) (drop (8 * (at + 1)) s) ≡ src)
        → Gives (places p) n s r (holds_at i y)
    holds_here src r l f es d =
        holds_same p n i s y lo hi at m e em r (length src) (rw es l) (ap length es) (f ∙ ek)
        (subst (λ (v : List ℕ). Decides r (take (8 * (at + 1) + length src - 8 * (at + 1)) (drop (8 * (at + 1)) s) ≡ v)) es d)

pub ruleset holding = (holds_zero, holds_past, holds_not, holds_here)

-- ---- check

pub place_zeros : (p m : ℕ) (s : List ℕ) (r : Bool) → Bytes s → length s ≡ 8 * (2 + words_for p) → m ≡ get_or (W s) 0 0 → m < 1 → r ≡ allz s → r ≡ (place p).ok (W s)
place_zeros p m s r B l e h z =
    z ∙ ap allz (sym (W-whole s (2 + words_for p) B l)) ∙ allz_bytes (W s) (W-fit s B) ∙ ap allz (sym (take_all (2 + words_for p) (W s) (omega (arith, length_w s))))
    ∙ sym (ap (λ (b : Bool). pick b (allz (take (2 + words_for p) (W s))) ((entry_code p).ok (W s))) (eq-eqb (get_or (W s) 0 0) 0 (omega arith)))

pub place_entry : (p m : ℕ) (s : List ℕ) (r : Bool) → Bytes s → length s ≡ 8 * (2 + words_for p) → m ≡ get_or (W s) 0 0 → 1 ≤ m
    → r ≡ (payload p).ok (W (take (8 * (1 + words_for p) - 0) (drop 0 s)))
    → r ≡ (place p).ok (W s)
place_entry p m s r B l e h z =
    z ∙ part_ok (payload p) s 0 (1 + words_for p) B (omega arith) (omega arith) ∙ sym (and_true ((payload p).ok (W s)))
    ∙ sym (ap (λ (b : Bool). pick b (allz (take (2 + words_for p) (W s))) ((entry_code p).ok (W s))) (ne_eqb (get_or (W s) 0 0) 0 (omega arith)))

-- a log with no entry
pub empty_log_lem : (p n : ℕ) (s : List ℕ) (t z : Bool) → t ≡ padded (2 + words_for p) n s → not t ≡ false → z ≡ allz s → z ≡ true → Decides true (Tabled (places p) n s)
unfolding padded
empty_log_lem p n s t z et y ez e =
    let q = sym et ∙ not-false t y in
    let m : length s % 8 ≡ 0 = eqb-true _ 0 (and_left _ _ q) in
    let r : n * (2 + words_for p) ≤ length s / 8 = leb-true _ _ (and_left _ _ (and_right _ _ q)) in
    holds (record { words = length s / 8; value = replicate n None; held = blank_held (places p) (length s / 8) n None s (omega arith) r refl refl refl (zeros_allz s (sym ez ∙ e)) })

pub ruleset place_rows = (rowed_start, lent_fine, lent_fails, rowed_done)
