-- The entry at an index, and the payload and the term of a place: what comparing logs cites, here and in the crates above. Assumes nothing.
use Rattle.std.specs.Prelude.{◌≡◌, refl, true, List, ◌++◌, ℕ, zero, suc, ◌+◌, ◌-◌, ◌*◌, ◌≤◌, ◌<◌, get_or, Option, None, Some}
use Rattle.std.proofs.Common.{sym, ap, ◌∙◌, subst, arith}
use Rattle.std.proofs.lemmas.List.{replicate-append-replicate}
use Rattle.laws.proofs.BoolLaws.{and_both}
use Rattle.units.specs.Types.{Payload, noop, command, Entry}
use Rattle.words.specs.Words.{bytes}
use Rattle.layout.specs.Code.{Code, zeros, word, pair, optional}
use Rattle.layout.specs.Tables.{Holds, Held}
use Rattle.layout.specs.Parts.{lent_row, row_lent, pair_first}
use Rattle.layout.specs.Marked.{words_for}
use Rattle.layout.specs.Payload.{payload}
use Rattle.raft_log.specs.Log.{Log, entry_at}
use Rattle.raft_log.specs.Places.{one_more, place, places, place_of, term_in, entry_term}

-- ---- the entry at an index

pub entry_place : (x : Log) (i : ℕ) → 1 ≤ i → entry_at x i ≡ get_or x (i - 1) None
unfolding entry_at
entry_place x zero h = absurd (omega arith)
entry_place x (suc i) h = ap (λ (k : ℕ). get_or x k None) (let e : i ≡ suc i - 1 = omega arith in e)

-- ---- a place in two parts: the payload, or zeros where there is none, and the term

abbrev pub payload_in : Option Entry → Option Payload
payload_in None = None
payload_in (Some e) = Some e.payload

pub payload_size : (k : ℕ) → 0 < 1 + k
payload_size k = omega arith

pub payload_marked : (p : ℕ) (y : Payload) (r : List ℕ) → (payload p).good y ≡ true → 0 < get_or ((payload p).enc y ++ r) 0 0
payload_marked p noop r h = omega arith
payload_marked p (command bs) r h = omega arith

abbrev pub payload_code : ℕ → Code (Option Payload)
payload_code p = optional (payload p) (payload_size (words_for p)) (payload_marked p)

abbrev term_word : Option Entry → ℕ
term_word None = 0
term_word (Some e) = e.term.0

place_parts : (p : ℕ) (b : List ℕ) (o : Option Entry) → Holds (place p) b o → Holds (pair (payload_code p) word) b (payload_in o, term_word o)
place_parts p b None h = record {
  good = and_both _ _ refl refl;
  is = h.is ∙ ap bytes (ap zeros (sym (one_more (words_for p))) ∙ sym (replicate-append-replicate (1 + words_for p) 1 zero));
}
place_parts p b (Some e) h = record { good = h.good; is = h.is }

-- where a place starts, of the width that the code computes from its payload's
pub place_start : (p i at : ℕ) → at ≡ i * (1 + words_for p + 1) → at ≡ i * (2 + words_for p)
place_start p i at e = e ∙ ap (λ (k : ℕ). i * k) (one_more (words_for p))

module _ (p n : ℕ) {N : ℕ} {s : List ℕ} {x : Log} (h : Held (places p) N n s x) (i at : ℕ) (k : i < n) (e : at ≡ i * (2 + words_for p)) where
  -- the payload at a place, or none
  pub payload_held : Holds (payload_code p) (lent_row at (1 + words_for p) s) (payload_in (get_or x i None))
  payload_held = pair_first (payload_code p) word s at (2 + words_for p) (omega arith) (place_parts p _ (get_or x i None) (row_lent h i at None k e))

  -- the payload of the entry there
  pub entry_held : (d : Entry) → get_or x i None ≡ Some d → Holds (payload p) (lent_row at (1 + words_for p) s) d.payload
  entry_held d q =
      let o : Holds (payload_code p) (lent_row at (1 + words_for p) s) (Some d.payload) =
      subst (λ (y : Option Entry). Holds (payload_code p) (lent_row at (1 + words_for p) s) (payload_in y)) q payload_held in
      record { good = o.good; is = o.is }

-- ---- the term of a place is that of its entry

pub place_term : (o : Option Entry) → (term_in (place_of o)) ≡ entry_term o
place_term None = refl
place_term (Some e) = refl
