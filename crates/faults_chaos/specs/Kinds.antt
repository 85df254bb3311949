-- Laws of the kinds of fault in a schedule, from the code's steps. Assumes nothing.
use Rattle.std.specs.Prelude.{◌≡◌, Bool, true, false, List, ℕ, ◌+◌, ◌≤◌, ◌<◌, min, ltb, length, get_or, Option, if◌then◌else◌}
use Rattle.std.specs.Ordering.{is_lt, nat_cmp}
use Rattle.std.proofs.lemmas.Bool.Decides.{nat_tests}
use Rattle.std.proofs.Math.Path.{refl, ap}
use Rattle.std.proofs.Common.{sym, ◌∙◌, arith, lt-ltb, le-ltb}
use Rattle.std.proofs.Math.ListN.{get_or-eq_default}
use Rattle.laws.specs.Bools.{pick}
use Rattle.units.specs.declared.NodeId.{NodeId}
use Rattle.units.specs.declared.SimTime.{SimTime}
use Rattle.units.specs.declared.Duration.{Duration}
use Rattle.rng.specs.Rng.{under}
use Rattle.rng.specs.declared.Rng.{Rng}
use Rattle.rng.specs.declared.Drawn.{Drawn}
use Rattle.faults_chaos.specs.declared.Timed.{Timed}
use Rattle.faults_chaos.specs.declared.ChaosConfig.{ChaosConfig}
use Rattle.faults_chaos.specs.declared.Draws.{Draws}
use Rattle.faults_chaos.specs.declared.Entries.{Entries}
use Rattle.faults_chaos.specs.Schedule.{Faulting, kinds, slower, fault_of_kind, uniform, pick_server, one_fault}
use Rattle.faults_chaos.specs.Draws.{length_ids, duration_draws, server_draws}
use Rattle.faults_chaos.specs.Answers.{ids_of, duration_drawn, fault_drawn}

module _ (time until : SimTime) (server : NodeId) (ids : List ℕ) (kind : ℕ) (g : Rng) (r : Draws (Option (List Timed))) where
  abbrev pub kind_at : ℕ → Faulting
  kind_at i = get_or (kinds time until server (ids_of ids)) i (slower time until)

  -- the fault of a kind, by its place among the kinds: as it is; with two servers or more; with one; past the kinds
  pub kind_is : (i : ℕ) → kind ≡ i → r ≡ kind_at i g → r ≡ fault_of_kind time until server (ids_of ids) kind g
  unfolding fault_of_kind
  kind_is i e h = rw e h

  choice : (i : ℕ) (f : Faulting) (b : Bool) → kind_at i ≡ pick (ltb 1 (length (ids_of ids))) f (slower time until)
      → ltb 1 (length (ids_of ids)) ≡ b
      → pick b f (slower time until) g ≡ kind_at i g
  choice i f b a m = sym (ap (λ (x : Faulting). x g) (a ∙ ap (λ (t : Bool). pick t f (slower time until)) m))

  pub kind_many : (i : ℕ) (f : Faulting) → kind_at i ≡ pick (ltb 1 (length (ids_of ids))) f (slower time until) → kind ≡ i
      → 1 < length ids → r ≡ f g
      → r ≡ fault_of_kind time until server (ids_of ids) kind g
  kind_many i f a e m h = kind_is i e (h ∙ choice i f true a (lt-ltb 1 (length (ids_of ids)) (omega (arith, length_ids ids))))

  pub kind_few : (i : ℕ) (f : Faulting) → kind_at i ≡ pick (ltb 1 (length (ids_of ids))) f (slower time until) → kind ≡ i
      → length ids ≤ 1 → r ≡ slower time until g
      → r ≡ fault_of_kind time until server (ids_of ids) kind g
  kind_few i f a e m h = kind_is i e (h ∙ choice i f false a (le-ltb 1 (length (ids_of ids)) (omega (arith, length_ids ids))))

  pub kind_rest : 7 ≤ kind → r ≡ slower time until g → r ≡ fault_of_kind time until server (ids_of ids) kind g
  kind_rest n h = kind_is kind refl (h
      ∙ sym (ap (λ (x : Faulting). x g) (get_or-eq_default (kinds time until server (ids_of ids)) (slower time until) n)))

-- The earlier of two times.
earlier : (n : ℕ) (t : SimTime) → (if is_lt (nat_cmp t.0 n) then t else record { 0 = n }) ≡ record { 0 = min n t.0 }
earlier n t = by (is_lt (nat_cmp t.0 n)) refl
  where
    by : (b : Bool) → is_lt (nat_cmp t.0 n) ≡ b → (if b then t else record { 0 = n }) ≡ record { 0 = min n t.0 }
    by true e = let m : t.0 ≡ min n t.0 = grind (arith, nat_tests) in λ i. record { 0 = m i }
    by false e = let m : n ≡ min n t.0 = grind (arith, nat_tests) in λ i. record { 0 = m i }

-- One fault, from the code's steps.
pub one_fault_is : (servers : List NodeId) (config : ChaosConfig) (time until : SimTime) (g : Rng) (d : Draws Duration)
    (p : Draws NodeId) (k : Drawn) (f : Draws (Option Entries))
    → duration_drawn d ≡ uniform 100_000_000 config.max_duration.0 g → p ≡ pick_server servers d.next → k ≡ under p.next 8
    → until ≡ (if is_lt (nat_cmp config.end.0 (time.0 + d.result.0)) then config.end else record { 0 = time.0 + d.result.0 })
    → fault_drawn f ≡ fault_of_kind time until p.result servers k.value k.next
    → record { result = (fault_drawn f).result; draws = 3 + f.draws; next = f.next } ≡ one_fault servers config time g
unfolding one_fault
one_fault_is servers config time until g d p k f ed ep ek eu ef =
    let one : d.draws ≡ 1 = ap (λ (x : Draws ℕ). x.draws) ed ∙ duration_draws 100_000_000 config.max_duration.0 g in
    let two : p.draws ≡ 1 = ap (λ (x : Draws NodeId). x.draws) ep ∙ server_draws servers d.next in
    let m : 3 + f.draws ≡ d.draws + (p.draws + (1 + f.draws)) = omega (arith, one, two) in
    rw (m, ← ed, ← ep, ← ek, ← earlier (time.0 + d.result.0) config.end, ← eu, ← ef)
