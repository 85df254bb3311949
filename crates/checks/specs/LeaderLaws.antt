-- What the proofs of leaders.rt cite. Assumes nothing.
use Rattle.std.specs.Prelude.{◌≡◌, refl, Bool, true, false, not, List, [], ◌∷◌, ℕ, ◌+◌, ◌*◌, ◌^◌, ◌≤◌, ◌<◌, leb, eqb, length, get_or, drop, Option, None, Some, Result, Ok, Err}
use Rattle.std.proofs.Math.Path.{sym, ap}
use Rattle.std.proofs.Common.{◌∙◌, arith, get_or-drop, Fits, lt-ltb, le-leb, eq-eqb, ne_eqb}
use Rattle.std.proofs.lemmas.List.Edits.{sets}
use Rattle.std.specs.Int.{w64}
use Rattle.std.proofs.lemmas.Bool.{lt-leb}
use Rattle.laws.specs.Bools.{pick, ◌and◌, no_and}
use Rattle.laws.proofs.BoolLaws.{and_both, true_and}
use Rattle.laws.specs.Decides.{false_true}
use Rattle.laws.specs.Order.{numbers, rising, lookup}
use Rattle.words.specs.Words.{bytes, W}
use Rattle.units.specs.declared.NodeId.{NodeId}
use Rattle.units.specs.declared.Term.{Term}
use Rattle.units.specs.declared.SimTime.{SimTime}
use Rattle.layout.specs.Tables.{Held, opened, rows_in}
use Rattle.layout.specs.TableLaws.{rows_are, row_parsed}
use Rattle.layout.specs.Order.{find, place, one, heads}
use Rattle.layout.specs.RowLaws.{heads_are}
use Rattle.layout.specs.SortedTables.{Keyed, found_inside, found_row, found_none}
use Rattle.checks.specs.declared.Check.TheVariants.{ElectionSafety}
use Rattle.checks.specs.declared.TermLeader.{TermLeader}
use Rattle.checks.specs.declared.Compared.TheVariants.{Same, Other, New}
use Rattle.checks.specs.Compared.{is_new}
use Rattle.checks.specs.Checks.{Checker, leader_key, report_if, compare_leader}
use Rattle.checks.specs.Leaders.{leader_row, leaders, leader_seen, leader_after, AsksLeader, InsertsLeader}
use Rattle.checks.specs.InsertLaws.{insert_length, place_insert}
use Rattle.checks.specs.Asked.{insert_leader_if}

-- the key of a row is its first word
pub leader_read : (ws : List ℕ) → one ws ≡ leader_key (leader_row.parse ws)
unfolding one
leader_read ws = refl

keyed : (S : ℕ) → Keyed (leaders S) numbers leader_key one
keyed S = record { rule = λ x. refl; read = leader_read }

-- any row, for `get_or`
abbrev pub no_leader : TermLeader
no_leader = record { term = record { 0 = 0 }; server = record { 0 = 0 } }

-- ---- a leader compared: f is what the search said

module _ (n : ℕ) (b : List ℕ) (server : NodeId) (term : Term) (f : Result ℕ ℕ) (e : f
    ≡ find numbers term.0 (heads one 2 n (W b))) (i : ℕ) where
  module _ (t : f ≡ Ok i) (at : ℕ) (a : at ≡ i * 2) (first : ℕ) (e₁ : first ≡ get_or (W b) (at + 1) 0) where
    -- the row of that term
    abbrev row : TermLeader
    row = leader_row.parse (drop (i * 2) (W b))

    row_server : row.server.0 ≡ first
    row_server = get_or-drop 1 (drop (i * 2) (W b)) 0 0 ∙ get_or-drop (i * 2) (W b) 1 0 ∙ sym (e₁ ∙ ap (λ (j : ℕ). get_or (W b) (j + 1) 0) a)

    there : (S N : ℕ) (x : List TermLeader) → Held (leaders S) N n b x → lookup numbers leader_key term.0 x ≡ Some row
    there S N x h =
        ap (lookup numbers leader_key term.0) (sym (rows_are h))
        ∙ found_row numbers term.0 one (leaders S).row leader_key n b f i leader_read e no_leader t
        ∙ ap Some (row_parsed (leaders S).row n b i no_leader (found_inside numbers term.0 one 2 n (W b) f i e t))

    row_seen : (S N : ℕ) (x : List TermLeader) → Held (leaders S) N n b x
        → pick (eqb first server.0) Same (Other (record { 0 = first })) ≡ leader_seen (lookup numbers leader_key term.0 x) server
    unfolding leader_seen
    row_seen S N x h =
        ap (λ (j : ℕ). pick (eqb j server.0) Same (Other (record { 0 = j }))) (sym row_server)
        ∙ sym (ap (λ (o : Option TermLeader). leader_seen o server) (there S N x h))

    pub leader_same : first ≡ server.0 → AsksLeader server term n Same b
    leader_same q = record {
      to = λ S N x h. sym (ap (λ (t : Bool). pick t Same (Other (record { 0 = first }))) (eq-eqb first server.0 q)) ∙ row_seen S N x h;
    }

    pub leader_other : (first ≡ server.0 → ⊥) → AsksLeader server term n (Other (record { 0 = first })) b
    leader_other q = record {
      to = λ S N x h. sym (ap (λ (t : Bool). pick t Same (Other (record { 0 = first }))) (ne_eqb first server.0 q)) ∙ row_seen S N x h;
    }

  pub leader_new : f ≡ Err i → AsksLeader server term n New b
  unfolding leader_seen
  leader_new t = record {
    to = λ S N x h.
        sym (ap (λ (o : Option TermLeader). leader_seen o server)
        (ap (lookup numbers leader_key term.0) (sym (rows_are h))
        ∙ found_none numbers term.0 one (leaders S).row leader_key n b f i leader_read e t));
  }

pub ruleset leader_asks = (leader_same, leader_other, leader_new)

-- ---- a leader put in

pub leader_inserts : {n : ℕ} {b : List ℕ} {server : NodeId} {term : Term} {i at : ℕ} {b₁ b₂ : List ℕ} → 8 * (n * 2 + 2) ≤ length b
    → Fits w64 term.0 → Fits w64 server.0
    → i ≡ place numbers term.0 (heads one 2 n (W b)) → at ≡ i * 2 → b₁ ≡ opened 2 n i b
    → b₂ ≡ sets b₁ (8 * at) (bytes (term.0 ∷ server.0 ∷ []))
    → InsertsLeader term server n b b₂
leader_inserts {n} {b} {server} {term} {i} {at} {b₁} {b₂} r p q e a e₁ e₂ = record {
  to = λ S N x p₁ p₂ h u.
      place_insert (keyed S) n b (record { term = term; server = server }) i b₁ b₂ r
      (and_both _ _ (and_both _ _ (lt-ltb term.0 (2 ^ 64) p.fits) (lt-ltb server.0 (2 ^ 64) q.fits))
      (and_both _ _ (le-leb 1 server.0 p₁) (le-leb server.0 S p₂))) e e₁
      (e₂ ∙ ap (λ (j : ℕ). sets b₁ (8 * j) (bytes (term.0 ∷ server.0 ∷ []))) a) N x h u;
}

-- ---- the answer says what the checks become

pub leader_after_lem : (o : Option TermLeader) (c : Checker) (time : SimTime) (server : NodeId) (term : Term)
    → compare_leader o c time server term ≡ leader_after (leader_seen o server) c time server term
unfolding leader_seen
leader_after_lem None c time server term = refl
leader_after_lem (Some first) c time server term = by (eqb first.server.0 server.0)
  where
    by : (t : Bool)
        → report_if (not t) c time ElectionSafety (first.server.0 ∷ server.0 ∷ term.0 ∷ [])
        ≡ leader_after (pick t Same (Other first.server)) c time server term
    by true = refl
    by false = refl

-- where none was there
pub leader_absent : (o : Option TermLeader) (server : NodeId) → is_new (leader_seen o server) ≡ true → o ≡ None
unfolding leader_seen
leader_absent None server e = refl
leader_absent (Some first) server e = absurd (by (eqb first.server.0 server.0) e)
  where
    by : (t : Bool) → is_new (pick t Same (Other first.server)) ≡ true → ⊥
    by true e = false_true e
    by false e = false_true e

pub leader_rows : (t : Bool) (l : TermLeader) (c : Checker) → (t ≡ true → lookup numbers leader_key (leader_key l) c.leaders ≡ None)
    → length (insert_leader_if t l c).leaders ≡ length c.leaders + pick t 1 0
leader_rows true l c f = insert_length numbers leader_key l c.leaders (f refl)
leader_rows false l c f = omega arith

-- ---- the test of a row: its server

module _ (ws : List ℕ) (S k x : ℕ) (e : x ≡ get_or ws (k * 2 + 1) 0) where
  row_is : (leaders S).row.ok (drop (k * 2) ws) ≡ (leb 1 x and leb x S)
  row_is =
      let y : ℕ = get_or (drop 1 (drop (k * 2) ws)) 0 0 in
      ap (λ (b : Bool). b and (leb 1 y and leb y S)) (true_and true) ∙ true_and (leb 1 y and leb y S)
      ∙ ap (λ (y : ℕ). leb 1 y and leb y S) (get_or-drop 1 (drop (k * 2) ws) 0 0 ∙ get_or-drop (k * 2) ws 1 0 ∙ sym e)

  pub server_zero : x < 1 → leb 1 x ≡ (leaders S).row.ok (drop (k * 2) ws)
  server_zero h = lt-leb 1 x h ∙ sym (row_is ∙ no_and _ _ (lt-leb 1 x h))

  pub server_tested : 1 ≤ x → leb x S ≡ (leaders S).row.ok (drop (k * 2) ws)
  server_tested h = sym (row_is ∙ ap (λ (b : Bool). b and leb x S) (le-leb 1 x h) ∙ true_and _)

pub ruleset server_rows = (server_zero, server_tested)

-- ---- check: the order of the words is that of the rows

pub leaders_rising : (S n : ℕ) (b : List ℕ) (r : Bool) → r ≡ rising numbers (heads one 2 n (W b))
    → r ≡ (leaders S).rule (rows_in (leaders S).row n b)
leaders_rising S n b r e = e ∙ ap (rising numbers) (heads_are (leaders S).row one leader_key leader_read n b)
