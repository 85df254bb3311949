-- What the proofs of leaders cite. Assumes nothing.
use Rattle.std.specs.Prelude.{◌≡◌, Bool, ltb, eqb, Option, None, Some}
use Rattle.std.proofs.Math.Path.{refl, sym, ap, ap₂, subst}
use Rattle.std.proofs.Common.{◌∙◌, arith}
use Rattle.std.proofs.Math.Bool.{true, false, not}
use mathlib.Core.List.{List}
use Prim.Native.Nat.{ℕ, ◌+◌, ◌*◌, ◌≤◌, ◌<◌}
use Rattle.std.proofs.Math.Dec.{leb}
use Rattle.std.proofs.Math.ListN.{length, set}
use Rattle.std.proofs.lemmas.List.Edits.{sets}
use borrow.Author.Tests.{not-true, not-false, leb-true, ltb-true}
use Rattle.laws.specs.Bools.{pick, cases, ◌and◌, and_left}
use Rattle.laws.proofs.BoolLaws.{and_right}
use Rattle.laws.specs.Decides.{false_true}
use Rattle.laws.specs.Lists.{is_some}
use Rattle.laws.specs.Order.{numbers, lookup, insert_by}
use Rattle.units.specs.declared.NodeId.{NodeId}
use Rattle.units.specs.declared.Term.{Term}
use Rattle.words.specs.Words.{bytes, bytes_of as bytesOfNumber}
use Rattle.layout.specs.Tables.{Held}
use Rattle.layout.specs.TableLaws.{held_rows}
use Rattle.layout.specs.Parts.{lent_row, back_row}
use Rattle.checks.specs.declared.TermLeader.{TermLeader}
use Rattle.checks.specs.declared.Compared.{Compared}
use Rattle.checks.specs.declared.Compared.TheVariants.{Same, Other}
use Rattle.checks.specs.Compared.{is_new}
use Rattle.checks.specs.Checks.{leader_key, with_leaders}
use Rattle.checks.specs.Asked.{insert_leader_if}
use Rattle.checks.specs.Leaders.{leaders, leader_seen, AsksLeader, InsertsLeader}
use Rattle.model.specs.State.{State}
use Rattle.model.specs.Fields.{with_checker}
use Rattle.model.specs.Fits.{state_fits}
use Rattle.state.specs.declared.Capacity.{Capacity}
use Rattle.state.specs.Sizes.{leaders_at, Counted}
use Rattle.state.specs.SizeLaws.{room}
use Rattle.state.specs.Parts.{counts_words}
use Rattle.state.specs.Area.{Area, capacity_of, counts_of, leaders_code}
use Rattle.state.specs.Encode.{contents}
use Rattle.state.specs.Fitting.{area_fits}
use Rattle.state.specs.FitsBy.{fits_test}
use Rattle.state.specs.Changes.{Inside, AreaOf, Changes, Reads}
use Rattle.state.specs.Tables.{leaders_span, table_lent}
use Rattle.state_checks.specs.Checked.{count_at, led_if, leaderless, Stored}
use Rattle.state_checks.specs.TestLaws.{insert_known, is_none}
use Rattle.state_checks.specs.FitLaws.{lead_fits, fits_led}
use Rattle.state_checks.specs.TableLaws.{rows_put}

-- the leaders lie in the area
pub leaders_inside : (b : List ℕ) (F : Capacity) (at : ℕ) → Inside b F → Counted at (leaders_at F)
    → 8 * (at + F.limits.history * 2) ≤ length b
leaders_inside b F at i p = omega (arith, room F, i.long, p.is)

-- ---- the table as it is lent

-- the leaders of the state that an area holds
leaders_lent : {b : List ℕ} {s : State} (h : Area b s) (n at : ℕ) → n ≡ length s.checker.leaders → at ≡ leaders_at (capacity_of s)
    → Held (leaders s.config.servers) (s.limits.history * 2) n (lent_row at (s.limits.history * 2) b) s.checker.leaders
leaders_lent {b} {s} h n at en ea =
    subst (λ (m : ℕ). Held (leaders s.config.servers) (s.limits.history * 2) m (lent_row at (s.limits.history * 2) b)
    s.checker.leaders) (sym en)
    (subst (λ (a : ℕ). Held (leaders s.config.servers) (s.limits.history * 2) (length s.checker.leaders)
    (lent_row a (s.limits.history * 2) b) s.checker.leaders) (sym ea)
    (record {
      holds = table_lent (leaders_span (capacity_of s)) (leaders_code (capacity_of s) (counts_of s)) b s.checker.leaders
          h.laid.leaders;
    }))

-- ---- whether a term has a leader

seen_new : (o : Option TermLeader) (server : NodeId) → is_new (leader_seen o server) ≡ not (is_some o)
unfolding leader_seen
seen_new None server = refl
seen_new (Some first) server = by (eqb first.server.0 server.0)
  where
    by : (t : Bool) → is_new (pick t Same (Other first.server)) ≡ false
    by true = refl
    by false = refl

pub leaderless_read : (b : List ℕ) (F : Capacity) (n at : ℕ) (term : Term) (server : NodeId) (q : Compared NodeId) (r : Bool)
    → Reads b F n (count_at 2) → Counted at (leaders_at F)
    → AsksLeader server term n q (lent_row at (F.limits.history * 2) b) → r ≡ is_new q → Reads b F r (leaderless term)
unfolding leaderless count_at
leaderless_read b F n at term server q r p pa a e = record {
  to = λ s h ef.
      let a' : AsksLeader server term n q (lent_row at (s.limits.history * 2) b) =
      subst (λ (G : Capacity). AsksLeader server term n q (lent_row at (G.limits.history * 2) b)) ef a in
      e ∙ ap is_new
      (a'.to s.config.servers (s.limits.history * 2) s.checker.leaders
      (leaders_lent h n at (p.to s h ef) (pa.is ∙ ap leaders_at ef)))
      ∙ seen_new (lookup numbers leader_key term.0 s.checker.leaders) server;
}

-- ---- a leader added

pub leader_stored : (b ys b₂ : List ℕ) (F : Capacity) (at n : ℕ) (term : Term) (server : NodeId) → Inside b F → Counted at (leaders_at F)
    → InsertsLeader term server n (lent_row at (F.limits.history * 2) b) ys
    → b₂ ≡ sets (back_row at (F.limits.history * 2) b ys) (8 * 85) (bytesOfNumber 8 (n + 1))
    → Stored b b₂ (leaders_at F) (F.limits.history * 2) 85 (n + 1) (InsertsLeader term server n)
leader_stored b ys b₂ F at n term server i p q e =
    subst (λ (a : ℕ). Stored b b₂ a (F.limits.history * 2) 85 (n + 1) (InsertsLeader term server n)) p.is
    (record { rows = ys; put = q; is = e })

module _ (b : List ℕ) (F : Capacity) (due : Bool) (term : Term) (server : NodeId) where
  pub not_led : not due ≡ true → Changes b b F (led_if due term server)
  unfolding led_if
  not_led t =
      record {
        to = λ s r h u. subst
            (λ (d : Bool). AreaOf b r F (with_checker s (insert_leader_if d (record { term = term; server = server }) s.checker)))
            (sym (not-true due t)) h;
      }

  module _ (d : not due ≡ false) where
    due_led : (s : State) → led_if true term server s ≡ led_if due term server s
    due_led s = ap (λ (t : Bool). led_if t term server s) (sym (not-false due d))

    -- where it fits it is in range
    in_range_lem : {r : List ℕ} (s : State) → AreaOf b r F s → state_fits (led_if due term server s) ≡ true → lead_fits term server s ≡ true
    in_range_lem s h u =
        and_left _ _
        (sym (fits_led s term server (and_left _ _ (fits_test s (area_fits h.area) 13)) true) ∙ ap state_fits (due_led s) ∙ u)

    -- a term that has a leader keeps it
    kept : {r : List ℕ} (s : State) → AreaOf b r F s → is_some (lookup numbers leader_key term.0 s.checker.leaders) ≡ true
        → AreaOf b r F (led_if due term server s)
    unfolding led_if
    kept {r} s h e =
        subst (λ (y : State). AreaOf b r F y) (due_led s)
        (subst (λ (l : List TermLeader). AreaOf b r F (with_checker s (with_leaders s.checker l)))
        (sym (insert_known numbers leader_key (record { term = term; server = server }) s.checker.leaders e)) h)

    module _ (n : ℕ) (p : Reads b F n (count_at 2)) where
      -- no row is left
      pub led_full : F.limits.history ≤ n → Changes b b F (led_if due term server)
      unfolding count_at
      led_full l = record {
        to = λ s r h u.
            cases (is_some (lookup numbers leader_key term.0 s.checker.leaders)) (kept s h)
            (λ e.
            let en : n ≡ length s.checker.leaders = p.to s h.area h.capacity in
            let t : (ltb (length s.checker.leaders) s.limits.history and (leaders s.config.servers).row.good
            (record { term = term; server = server })) ≡ true =
            sym (ap (λ (t : Bool). pick t true
            (ltb (length s.checker.leaders) s.limits.history and (leaders s.config.servers).row.good
            (record { term = term; server = server }))) e) ∙ in_range_lem s h u in
            let m : length s.checker.leaders < s.limits.history = ltb-true _ _ (and_left _ _ t) in
            absurd (omega (arith, en, ap (λ (G : Capacity). G.limits.history) h.capacity)));
      }

      module _ (q : Bool) (a : Reads b F q (leaderless term)) where
        pub led_known : not q ≡ true → Changes b b F (led_if due term server)
        unfolding leaderless
        led_known t = record {
          to = λ s r h u.
              cases (is_some (lookup numbers leader_key term.0 s.checker.leaders)) (kept s h)
              (λ e. absurd (false_true (sym (not-true q t) ∙ a.to s h.area h.capacity ∙ ap not e)));
        }

        pub led_put : (b₂ : List ℕ) → not q ≡ false
            → Stored b b₂ (leaders_at F) (F.limits.history * 2) 85 (n + 1) (InsertsLeader term server n)
            → Changes b b₂ F (led_if due term server)
        unfolding led_if leaderless count_at
        led_put b₂ t w = record {
          to = λ s r h u.
              let G : Capacity = capacity_of s in
              let xs : List TermLeader = s.checker.leaders in
              let l : TermLeader = record { term = term; server = server } in
              let s' : State = led_if true term server s in
              let new : not (is_some (lookup numbers leader_key term.0 xs)) ≡ true =
              sym (a.to s h.area h.capacity) ∙ not-false q t in
              let none_there : is_some (lookup numbers leader_key term.0 xs) ≡ false = not-true _ new in
              let good : (ltb (length xs) s.limits.history and (leaders s.config.servers).row.good l) ≡ true =
              sym (ap (λ (t : Bool). pick t true (ltb (length xs) s.limits.history and (leaders s.config.servers).row.good l))
              none_there) ∙ in_range_lem s h u in
              let range : (leb 1 server.0 and leb server.0 s.config.servers) ≡ true = and_right _ _ (and_right _ _ good) in
              let en : n ≡ length xs = p.to s h.area h.capacity in
              let at : ℕ = leaders_at G in
              let w' : Stored b b₂ at (G.limits.history * 2) 85 (n + 1) (InsertsLeader term server n) =
              subst (λ (K : Capacity). Stored b b₂ (leaders_at K) (K.limits.history * 2) 85 (n + 1) (InsertsLeader term server n))
              h.capacity w in
              let after : Held (leaders s.config.servers) (s.limits.history * 2) (n + 1) w'.rows
              (insert_by numbers leader_key l xs) =
              w'.put.to s.config.servers (s.limits.history * 2) xs (leb-true _ _ (and_left _ _ range))
              (leb-true _ _ (and_right _ _ range)) (leaders_lent h.area n at en refl) (is_none _ none_there) in
              let same : set (set (contents s) 12 w'.rows) 6 (bytes (set (counts_words (counts_of s)) 2 (n + 1))) ≡ contents s' =
              ap₂ (λ (y : List ℕ) (m : ℕ). set (set (contents s) 12 y) 6 (bytes (set (counts_words (counts_of s)) 2 m))) after.holds.is
              (sym (held_rows after).count) in
              subst (λ (y : State). AreaOf b₂ r F y) (due_led s)
              (rows_put h (leaders_span G) s' w'.rows b₂ 85 2 (n + 1) refl (omega arith) refl (omega arith) w'.is same
              (ap state_fits (due_led s) ∙ u));
        }

pub ruleset leading = (not_led, led_full, led_known, led_put)
