-- What the proofs of entries.rt cite. Assumes nothing.
use Rattle.std.specs.Prelude.{◌≡◌, refl, ◌⊎◌, Bool, true, false, not, List, [], ◌∷◌, ℕ, ◌+◌, ◌-◌, ◌*◌, ◌^◌, ◌≤◌, ◌<◌, leb, length, get_or, take, drop, Option, None, Some, Result, Ok, Err}
use Rattle.std.proofs.Math.Path.{sym, ap}
use Rattle.std.proofs.Common.{ap₂, inl, inr, ◌∙◌, arith, get_or-drop, Fits, lt-ltb, le-leb}
use Rattle.std.proofs.lemmas.List.Edits.{sets}
use Rattle.std.specs.Int.{w64}
use Rattle.std.proofs.lemmas.Bool.{lt-leb}
use Rattle.laws.specs.Bools.{pick, ◌and◌, no_and, and_true}
use Rattle.laws.proofs.BoolLaws.{and_both, and_no, true_and}
use Rattle.laws.specs.Decides.{Decides, false_true}
use Rattle.laws.specs.Order.{pairs, rising, lookup}
use Rattle.words.specs.Words.{bytes, W, Bytes}
use Rattle.words.specs.Sets.{sets_append}
use Rattle.words.specs.Lift.{length_bytes, bytes_append}
use Rattle.units.specs.Types.{Payload, noop, Entry, same_payload}
use Rattle.units.specs.declared.NodeId.{NodeId}
use Rattle.units.specs.declared.Term.{Term}
use Rattle.units.specs.declared.LogIndex.{LogIndex}
use Rattle.units.specs.declared.SimTime.{SimTime}
use Rattle.layout.specs.Code.{word, pair}
use Rattle.layout.specs.Tables.{Holds, Held, opened, rows_in}
use Rattle.layout.specs.TableLaws.{rows_are}
use Rattle.layout.specs.Order.{find, place, two, heads}
use Rattle.layout.specs.RowLaws.{heads_are}
use Rattle.layout.specs.SortedTables.{Keyed, found_inside, found_row, found_none}
use Rattle.layout.specs.Marked.{words_for}
use Rattle.layout.specs.Parts.{lent_row, row_lent, pair_second, part_ok}
use Rattle.layout.specs.Payload.{payload}
use Rattle.layout.specs.MarkedLaws.{payloads_same}
use Rattle.checks.specs.declared.Check.TheVariants.{UniqueEntries}
use Rattle.checks.specs.declared.Compared.TheVariants.{Same, Other, New}
use Rattle.checks.specs.Compared.{is_new}
use Rattle.checks.specs.Checks.{Checker, Seen, seen_key, report_if, compare_seen}
use Rattle.checks.specs.Entries.{seen_parts, to_parts, seen_row, seen, index_within, seen_in, entry_seen, entry_after, AsksSeen}
use Rattle.checks.specs.Entries.{InsertsSeen}
use Rattle.checks.specs.InsertLaws.{insert_length, place_insert}
use Rattle.checks.specs.Asked.{insert_seen_if}

-- ---- the key of a row is its first two words

pub seen_read : (p : ℕ) (ws : List ℕ) → two ws ≡ seen_key ((seen_row p).parse ws)
unfolding two
seen_read p ws = simp get_or-drop

keyed : (p : ℕ) → Keyed (seen p) pairs seen_key two
keyed p = record { rule = λ x. refl; read = seen_read p }

-- any row, for `get_or`
abbrev pub no_seen : Seen
no_seen = record { index = record { 0 = 0 }; term = record { 0 = 0 }; payload = noop }

abbrev w : ℕ → ℕ
w p = 3 + words_for p

-- ---- an entry compared: f is what the search said

module _ (p n : ℕ) (b content : List ℕ) (index : LogIndex) (term : Term) (f : Result ℕ ℕ) (e : f
    ≡ find pairs (index.0, term.0) (heads two (3 + words_for p) n (W b))) (i : ℕ) where
  module _ (t : f ≡ Ok i) (at : ℕ) (a : at ≡ i * (3 + words_for p)) (q : Bool)
      (d : Decides q (take (8 * (at + (3 + words_for p)) - 8 * (at + 2)) (drop (8 * (at + 2)) b) ≡ content)) where
    there : (N : ℕ) (x : List Seen) → Held (seen p) N n b x → lookup pairs seen_key (index.0, term.0) x ≡ Some (get_or x i no_seen)
    there N x h =
        ap (lookup pairs seen_key (index.0, term.0)) (sym (rows_are h))
        ∙ found_row pairs (index.0, term.0) two (seen_row p) seen_key n b f i (seen_read p) e no_seen t
        ∙ ap (λ (y : List Seen). Some (get_or y i no_seen)) (rows_are h)

    same : (N : ℕ) (x : List Seen) (y : Payload) → Holds (payload p) content y → Held (seen p) N n b x
        → same_payload (get_or x i no_seen).payload y ≡ q
    same N x y k h =
        let s : Seen = get_or x i no_seen in
        let g = row_lent h i at no_seen (found_inside pairs (index.0, term.0) two (w p) n (W b) f i e t) a in
        let u : Holds (seen_parts p) (lent_row at (w p) b) (to_parts s) = record { good = g.good; is = g.is } in
        sym (payloads_same p _ content s.payload y q (pair_second (pair word word) (payload p) b at (w p) (omega arith) u) k d)

    row_seen : (N : ℕ) (x : List Seen) (y : Payload) → Holds (payload p) content y → Held (seen p) N n b x
        → pick q Same (Other (tt {0})) ≡ entry_seen (lookup pairs seen_key (index.0, term.0) x) y
    unfolding entry_seen
    row_seen N x y k h = ap (λ (t : Bool). pick t Same (Other (tt {0}))) (sym (same N x y k h))
        ∙ sym (ap (λ (o : Option Seen). entry_seen o y) (there N x h))

    pub entry_same : q ≡ true → AsksSeen p index term content n Same b
    entry_same g = record { to = λ N x y k h. sym (ap (λ (t : Bool). pick t Same (Other (tt {0}))) g) ∙ row_seen N x y k h }

    pub entry_other : q ≡ false → AsksSeen p index term content n (Other (tt {0})) b
    entry_other g = record { to = λ N x y k h. sym (ap (λ (t : Bool). pick t Same (Other (tt {0}))) g) ∙ row_seen N x y k h }

  pub entry_new : f ≡ Err i → AsksSeen p index term content n New b
  unfolding entry_seen
  entry_new t = record {
    to = λ N x y k h.
        sym (ap (λ (o : Option Seen). entry_seen o y)
        (ap (lookup pairs seen_key (index.0, term.0)) (sym (rows_are h))
        ∙ found_none pairs (index.0, term.0) two (seen_row p) seen_key n b f i (seen_read p) e t));
  }

pub ruleset entry_asks = (entry_same, entry_other, entry_new)

-- ---- an entry put in

pub entry_inserts : {p n : ℕ} {b content : List ℕ} {index : LogIndex} {term : Term} {i at : ℕ} {b₁ b₂ b₃ : List ℕ}
    → 8 * (n * (3 + words_for p) + (3 + words_for p)) ≤ length b
    → Fits w64 index.0 → Fits w64 term.0 → i ≡ place pairs (index.0, term.0) (heads two (3 + words_for p) n (W b))
    → at ≡ i * (3 + words_for p)
    → b₁ ≡ opened (3 + words_for p) n i b → b₂ ≡ sets b₁ (8 * at) (bytes (index.0 ∷ term.0 ∷ [])) → b₃ ≡ sets b₂ (8 * (at + 2)) content
    → InsertsSeen p index term content n b b₃
entry_inserts {p} {n} {b} {content} {index} {term} {i} {at} {b₁} {b₂} {b₃} r fi ft e a e₁ e₂ e₃ = record {
  to = λ N xs x k h u.
      let hs : List ℕ = index.0 ∷ term.0 ∷ [] in
      let s : Seen = record { index = index; term = term; payload = x } in
      let z : b₃ ≡ sets b₁ (8 * (i * w p)) (bytes ((seen_row p).enc s)) =
      e₃ ∙ ap₂ (λ (u v : List ℕ). sets u (8 * (at + 2)) v) e₂ k.is
      ∙ sets_append (bytes hs) b₁ (bytes ((payload p).enc x)) (8 * at) (8 * (at + 2)) (omega (arith, length_bytes hs))
      ∙ ap₂ (λ (j : ℕ) (u : List ℕ). sets b₁ (8 * j) u) a (sym (bytes_append hs ((payload p).enc x))) in
      place_insert (keyed p) n b s i b₁ b₃ r
      (and_both _ _ (and_both _ _ (lt-ltb index.0 (2 ^ 64) fi.fits) (lt-ltb term.0 (2 ^ 64) ft.fits)) k.good) e e₁ z N xs h
      u;
}

-- ---- the answer says what the checks become

pub entry_after_lem : (o : Option Seen) (c : Checker) (time : SimTime) (server : NodeId) (index : LogIndex) (e : Entry)
    → compare_seen o c time server index e ≡ entry_after (entry_seen o e.payload) c time server index e
unfolding entry_seen
entry_after_lem None c time server index e = refl
entry_after_lem (Some first) c time server index e = by (same_payload first.payload e.payload)
  where
    by : (t : Bool)
        → report_if (not t) c time UniqueEntries (server.0 ∷ index.0 ∷ e.term.0 ∷ [])
        ≡ entry_after (pick t Same (Other (tt {0}))) c time server index e
    by true = refl
    by false = refl

-- where none was there
pub entry_absent : (o : Option Seen) (x : Payload) → is_new (entry_seen o x) ≡ true → o ≡ None
unfolding entry_seen
entry_absent None x e = refl
entry_absent (Some first) x e = absurd (by (same_payload first.payload x) e)
  where
    by : (t : Bool) → is_new (pick t Same (Other (tt {0}))) ≡ true → ⊥
    by true e = false_true e
    by false e = false_true e

pub entry_rows : (t : Bool) (s : Seen) (c : Checker) → (t ≡ true → lookup pairs seen_key (seen_key s) c.entries ≡ None)
    → length (insert_seen_if t s c).entries ≡ length c.entries + pick t 1 0
entry_rows true s c f = insert_length pairs seen_key s c.entries (f refl)
entry_rows false s c f = omega arith

-- ---- the test of a row: its index, then its payload

module _ (L p : ℕ) (s : List ℕ) (B : Bytes s) (l : length s ≡ 8 * (3 + words_for p)) (x : ℕ) (e : x ≡ get_or (W s) 0 0) where
  pub index_past : (x < 1) ⊎ ((1 ≤ x) × (L < x)) → false ≡ (seen_in L p).row.ok (W s)
  index_past (inl h) = sym (and_no _ _ (no_and _ _ (ap (leb 1) (sym e) ∙ lt-leb 1 x h)))
  index_past (inr h) = sym (and_no _ _ (and_no _ _ (ap (λ (y : ℕ). leb y L) (sym e) ∙ lt-leb x L h.1)))

  pub index_fine : (q : Bool) → 1 ≤ x → x ≤ L → q ≡ (payload p).ok (W (take (8 * (3 + words_for p) - 16) (drop 16 s)))
      → q ≡ (seen_in L p).row.ok (W s)
  index_fine q g h t =
      let y : Bool = (payload p).ok (drop 2 (W s)) in
      let z : index_within L ((seen_row p).parse (W s)) ≡ true =
      and_both _ _ (ap (leb 1) (sym e) ∙ le-leb 1 x g) (ap (λ (j : ℕ). leb j L) (sym e) ∙ le-leb x L h) in
      t ∙ part_ok (payload p) s 2 (3 + words_for p) B (omega arith) (omega arith)
      ∙ sym (ap (λ (v : Bool). ((true and true) and y) and v) z ∙ and_true _ ∙ ap (λ (v : Bool). v and y) (true_and true) ∙ true_and y)

pub ruleset index_tests = (index_past, index_fine)

-- ---- check: the order of the words is that of the rows

pub entries_rising : (L p n : ℕ) (b : List ℕ) (r : Bool) → r ≡ rising pairs (heads two (3 + words_for p) n (W b))
    → r ≡ (seen_in L p).rule (rows_in (seen_in L p).row n b)
entries_rising L p n b r e = e ∙ ap (rising pairs) (heads_are (seen_in L p).row two seen_key (seen_read p) n b)
