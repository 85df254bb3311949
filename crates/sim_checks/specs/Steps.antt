-- What both checks share (lib.rt): the phase, and a step for each of some numbers. Assumes nothing.
use Rattle.std.specs.Prelude.{◌≡◌, Bool, List, ℕ, zero, suc, ◌-◌, length}
use Rattle.model.specs.State.{State}
use Rattle.model.specs.Calls.{is_closed}
use Rattle.state.specs.declared.Capacity.{Capacity}
use Rattle.state.specs.Changes.{Inside, Changes}

-- Whether no input is open.
unfoldable pub closed_of : State → Bool
closed_of s = is_closed s.phase

-- The state after the steps of n numbers from i on, one after another.
unfoldable pub each : (ℕ → State → State) → ℕ → ℕ → State → State
each step i zero s = s
each step i (suc n) s = each step (suc i) n (step i s)

-- A loop at i: whatever does the steps from i up to `end` on b does all from `from` on b₀, which is as long.
pub record Turning (step : ℕ → State → State) (b₀ b : List ℕ) (F : Capacity) (from i end : ℕ) : Type 0 where
  pub inside : Inside b F
  pub long : length b ≡ length b₀
  pub to : (b' : List ℕ) → Changes b b' F (each step i (end - i)) → Changes b₀ b' F (each step from (end - from))
