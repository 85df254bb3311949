-- Laws of a schedule's draws, from the code's steps. Assumes nothing.
use Rattle.std.specs.Prelude.{◌≡◌, refl, List, [], ◌∷◌, Bool, true, false, ◌&&◌, ℕ, suc, ◌+◌, ◌-◌, ◌≤◌, ◌<◌, leb, eqb, length, get_or, Option, None, Some}
use Rattle.std.proofs.Common.{sym, ap, ap₂, ◌∙◌, arith, zero-add, add-zero, eq-eqb, ne_eqb}
use Rattle.std.specs.List.{list_all}
use Rattle.std.proofs.lemmas.List.{length-map}
use Rattle.std.proofs.lemmas.Option.{get_or_from_slice_get}
use Rattle.std.proofs.Math.ListN.{get_or-map}
use Rattle.laws.specs.Bools.{pick, ◌and◌}
use Rattle.laws.proofs.BoolLaws.{code_and}
use Rattle.units.specs.declared.NodeId.{NodeId}
use Rattle.rng.specs.Rng.{under}
use Rattle.rng.specs.declared.Rng.{Rng}
use Rattle.faults_chaos.specs.declared.Draws.{Draws}
use Rattle.faults_chaos.specs.Schedule.{then, give, uniform, pick_server, pick_other, known_ids}
use Rattle.faults_chaos.specs.Answers.{ids_of, over, drawn_from}

-- The server at a place of the ids.
node : ℕ → NodeId
node id = record { 0 = id }

pub length_ids : (ids : List ℕ) → length (ids_of ids) ≡ length ids
unfolding ids_of
length_ids ids = length-map ids (λ (id : ℕ). record { 0 = id })

pub id_at : (ids : List ℕ) (i : ℕ) → get_or (ids_of ids) i (record { 0 = 0 }) ≡ record { 0 = get_or ids i 0 }
unfolding ids_of node
id_at ids i = get_or-map node ids i 0

-- The test of every id.
pub ids_tested : (ids : List ℕ) → list_all (λ id. leb 1 id && leb id 8) ids ≡ known_ids (ids_of ids)
unfolding known_ids ids_of
ids_tested [] = refl
ids_tested (id ∷ ids) = code_and (leb 1 id && leb id 8) _ ∙ ap₂ ◌and◌ (code_and (leb 1 id) (leb id 8)) (ids_tested ids)

pub pick_is : (ids : List ℕ) (g : Rng) (d : Draws ℕ) (id : ℕ) (r : Draws NodeId) → over Some d ≡ drawn_from ids g → id ≡ d.result
    → r ≡ record { result = record { 0 = id }; draws = d.draws; next = d.next } → r ≡ pick_server (ids_of ids) g
unfolding pick_server drawn_from
pick_is ids g d id r e i h =
    let at : get_or ids (under g (length ids)).value 0 ≡ d.result =
    get_or_from_slice_get ids (under g (length ids)).value d.result 0 (sym (ap (λ (x : Draws (Option ℕ)). x.result) e)) in
    let draws : d.draws ≡ 1 = ap (λ (x : Draws (Option ℕ)). x.draws) e in
    let next : d.next ≡ (under g (length ids)).next = ap (λ (x : Draws (Option ℕ)). x.next) e in
    h ∙ rw (length_ids, id_at, at, i, draws, next)

-- A duration and a server take one draw each.
pub duration_draws : (low high : ℕ) (g : Rng) → (uniform low high g).draws ≡ 1
unfolding uniform
duration_draws low high g = refl

pub server_draws : (servers : List NodeId) (g : Rng) → (pick_server servers g).draws ≡ 1
unfolding pick_server
server_draws servers g = refl

-- The redraw of the other server: none left, another one, the same one again.
module _ (server : NodeId) (ids : List NodeId) (g : Rng) where
  pub other_none : (left : ℕ) → left ≡ 0 → record { result = None; draws = 0; next = g } ≡ pick_other left server ids g
  unfolding pick_other
  other_none left e = rw e

  module _ (p : Draws NodeId) (h : p ≡ pick_server ids g) where
    one_draw : p.draws ≡ 1
    one_draw = ap (λ (x : Draws NodeId). x.draws) h ∙ server_draws ids g

    -- one draw, by a test of the server that it gives
    drawn_one : (left : ℕ) (t : Bool) → eqb p.result.0 server.0 ≡ t
        → pick_other (suc left) server ids g ≡ then p (λ other. pick t (pick_other left server ids) (give (Some other)))
    unfolding pick_other
    drawn_one left t e =
        ap (λ (x : Draws NodeId). then x (λ other. pick (eqb other.0 server.0) (pick_other left server ids) (give (Some other)))) (sym h)
        ∙ ap (λ (b : Bool). then p (λ other. pick b (pick_other left server ids) (give (Some other)))) e

    pub other_found : (left : ℕ) → (left ≡ 0 → ⊥) → (p.result.0 ≡ server.0 → ⊥)
        → record { result = Some p.result; draws = 1; next = p.next } ≡ pick_other left server ids g
    other_found left z n =
        let e : left ≡ suc (left - 1) = omega arith in
        let draws : p.draws + 0 ≡ 1 = omega (arith, one_draw) in
        sym (ap (λ (k : ℕ). pick_other k server ids g) e ∙ drawn_one (left - 1) false (ne_eqb _ _ n) ∙ rw draws)

    pub other_again : (left : ℕ) (r : Draws (Option NodeId)) → (left ≡ 0 → ⊥) → p.result.0 ≡ server.0
        → r ≡ pick_other (left - 1) server ids p.next
        → record { result = r.result; draws = 1 + r.draws; next = r.next } ≡ pick_other left server ids g
    other_again left r z q k =
        let e : left ≡ suc (left - 1) = omega arith in
        let rest : Draws (Option NodeId) = pick_other (left - 1) server ids p.next in
        let draws : p.draws + rest.draws ≡ 1 + rest.draws = omega (arith, one_draw) in
        rw k (sym (ap (λ (n : ℕ). pick_other n server ids g) e ∙ drawn_one (left - 1) true (eq-eqb _ _ q) ∙ rw draws))

pub ruleset redraw = (other_none, other_found, other_again)
