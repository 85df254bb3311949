-- The exits of a call that branches once its questions are answered. Assumes nothing.
use Rattle.std.specs.Prelude.{◌≡◌, refl, Bool, true, false, List, ℕ, ◌≤◌, ◌<◌}
use Rattle.std.proofs.Common.{sym, ap, ◌∙◌}
use Rattle.laws.specs.Bools.{cases}
use Rattle.model.specs.State.{State}
use Rattle.model.specs.Calls.{Out, done}
use Rattle.state.specs.declared.Capacity.{Capacity}
use Rattle.state.specs.declared.Gate.{Gate}
use Rattle.state.specs.Area.{Area, capacity_of}
use Rattle.state.specs.Call.{call}
use Rattle.state.specs.Changes.{Gated, AreaOf, Changes, Planned, judged}
use Rattle.state.specs.Exits.{call_refused, call_done}

-- Whatever state with these counts the bytes hold: c is the number that the call answers, and where it is 0 the call gives a and `op` of the state if u holds, else
-- a' and `op'` of it.
pub record PlannedIf {A : Type 0} (b : List ℕ) (F : Capacity) (c : ℕ) (call : State → Out A) (u : Bool) (a : A) (op : State → State) (a' : A) (op' : State → State) : Type 0 where
  pub code : (s : State) → Area b s → F ≡ capacity_of s → c ≡ judged (call s)
  pub yes : u ≡ true → (s : State) → Area b s → F ≡ capacity_of s → c ≡ 0 → call s ≡ done a (op s)
  pub no : u ≡ false → (s : State) → Area b s → F ≡ capacity_of s → c ≡ 0 → call s ≡ done a' (op' s)

-- nothing changed
pub unchanged : (b : List ℕ) (F : Capacity) → Changes b b F (λ s. s)
unchanged b F = record { to = λ s r h t. h }

module _ {A : Type 0} {b : List ℕ} {F : Capacity} {c : ℕ} {f : State → Out A} {u : Bool} {a : A} {op : State → State} {a' : A} {op' : State → State} (p : PlannedIf b F c f u a op a' op') where
  -- either branch alone
  pub planned_yes : u ≡ true → Planned b F c f a op
  planned_yes e = record { code = p.code; gives = p.yes e }

  pub planned_no : u ≡ false → Planned b F c f a' op'
  planned_no e = record { code = p.code; gives = p.no e }

module _ {A R : Type 0} (no : ℕ → R) (say : A → R) (b : List ℕ) (f : State → Out A) (g : Gate) (q : Gated b g) (y : g.refusal ≤ 0)
    (c : ℕ) (u : Bool) (a : A) (op : State → State) (a' : A) (op' : State → State) (p : PlannedIf b g.capacity c f u a op a' op') where
  -- refused, whatever the branch
  pub if_refused : (r : R) → 0 < c → r ≡ no c → (r, b) ≡ call no say b f
  if_refused r n e =
      cases u
      (λ t. call_refused no say b f g q y c a op (planned_yes p t) r n e)
      (λ t. call_refused no say b f g q y c a' op' (planned_no p t) r n e)

  -- done, by the branch
  pub if_done : (b' : List ℕ) (r : R) → c ≤ 0 → u ≡ true → Changes b b' g.capacity op → r ≡ say a → (r, b') ≡ call no say b f
  if_done b' r n t k e = call_done no say b f g q y c a op (planned_yes p t) b' r n k e

  pub else_done : (b' : List ℕ) (r : R) → c ≤ 0 → u ≡ false → Changes b b' g.capacity op' → r ≡ say a' → (r, b') ≡ call no say b f
  else_done b' r n t k e = call_done no say b f g q y c a' op' (planned_no p t) b' r n k e

  -- the other branch changes nothing
  pub else_kept : (r : R) → c ≤ 0 → u ≡ false → ((s : State) → op' s ≡ s) → r ≡ say a' → (r, b) ≡ call no say b f
  else_kept r n t same e = else_done b r n t (record { to = λ s rest h fit. kept s (same s) h }) e
    where
      kept : {rest : List ℕ} (s : State) → op' s ≡ s → AreaOf b rest g.capacity s → AreaOf b rest g.capacity (op' s)
      kept s e h = rw e h
