-- The leader of each term as a table (leaders.rt): rows of the term and the server, the terms rising. Assumes nothing.
use Rattle.std.specs.Prelude.{◌≡◌, refl, List, [], ◌∷◌, map, ℕ, ◌+◌, ◌≤◌, leb, eqb, Option, None, Some}
use Rattle.laws.specs.Bools.{pick, ◌and◌}
use Rattle.laws.specs.Order.{numbers, rising, lookup, insert_by}
use Rattle.units.specs.declared.NodeId.{NodeId}
use Rattle.units.specs.declared.Term.{Term}
use Rattle.units.specs.declared.SimTime.{SimTime}
use Rattle.layout.specs.Code.{Code, word, pair, iso, such}
use Rattle.layout.specs.Tables.{Table, Held}
use Rattle.checks.specs.declared.Check.TheVariants.{ElectionSafety}
use Rattle.checks.specs.declared.TermLeader.{TermLeader}
use Rattle.checks.specs.declared.Compared.{Compared}
use Rattle.checks.specs.declared.Compared.TheVariants.{Same, Other, New}
use Rattle.checks.specs.Compared.{is_other, first_of, is_new}
use Rattle.checks.specs.Checks.{Checker, leader_key, report_if}
use Rattle.checks.specs.Asked.{insert_leader_if}

-- A row: the term, then the server.
abbrev pub leader_row : Code TermLeader
leader_row = iso (pair word word) (λ x. record { term = record { 0 = x.0 }; server = record { 0 = x.1 } })
    (λ l. (l.term.0, l.server.0)) (λ l. refl) (λ x h. refl)

-- Leaders among the servers 1 to S, the terms rising.
abbrev pub leaders : ℕ → Table TermLeader
leaders S = record {
  row = such leader_row (λ l. leb 1 l.server.0 and leb l.server.0 S);
  rule = λ x. rising numbers
      (map leader_key x);
}

-- ---- answers

-- A server against the first leader of a term.
unfoldable pub leader_seen : Option TermLeader → NodeId → Compared NodeId
leader_seen None server = New
leader_seen (Some first) server = pick (eqb first.server.0 server.0) Same (Other first.server)

-- What the checks become by an answer: another server is reported; the first leader of a term is kept.
abbrev pub leader_after : Compared NodeId → Checker → SimTime → NodeId → Term → Checker
leader_after r c time server term =
    insert_leader_if (is_new r) (record { term = term; server = server })
    (report_if (is_other r) c time ElectionSafety (first_of r ∷ server.0 ∷ term.0 ∷ []))

-- A server that leads was compared: the answer, whatever n leaders b holds.
pub record AsksLeader (server : NodeId) (term : Term) (n : ℕ) (r : Compared NodeId) (b : List ℕ) : Type 0 where
  pub to : (S N : ℕ) (xs : List TermLeader) → Held (leaders S) N n b xs → r ≡ leader_seen (lookup numbers leader_key term.0 xs) server

-- A leader of a term that had none was put in, whatever n leaders b holds.
pub record InsertsLeader (term : Term) (server : NodeId) (n : ℕ) (b b' : List ℕ) : Type 0 where
  pub to : (S N : ℕ) (xs : List TermLeader) → 1 ≤ server.0 → server.0 ≤ S → Held (leaders S) N n b xs
      → lookup numbers leader_key term.0 xs ≡ None
      → Held (leaders S) N (n + 1) b' (insert_by numbers leader_key (record { term = term; server = server }) xs)
