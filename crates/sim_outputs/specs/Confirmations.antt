-- What the answers to leadership checks ask (confirmations.rt): what their contracts cite. Assumes nothing.
use Rattle.std.specs.Prelude.{true, ℕ, ◌+◌, leb, length}
use Rattle.model.specs.State.{State}
use Rattle.sim_outputs.specs.Outputs.{sends, asks_code}

-- The refusal of one confirmation more: 6 where outputs do not belong, 10 where H are there, else 0.
unfoldable pub confirm_code : State → ℕ
confirm_code s = asks_code 9 10 (sends s.phase) true (leb (length s.confirmations + 1) s.limits.history)
