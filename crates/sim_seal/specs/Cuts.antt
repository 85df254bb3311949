-- A seal that cuts: what the contracts of cuts.rt cite. Assumes nothing.
use Rattle.std.specs.Prelude.{Bool, false}
use Rattle.laws.specs.Bools.{◌and◌}
use Rattle.model.specs.State.{State}
use Rattle.model.specs.Simulation.{Moved}
use Rattle.state.specs.declared.OpenInput.{OpenInput}
use Rattle.state.specs.Parts.{owed_in}
use Rattle.sim_replies.specs.Replies.{redirect_count, redirect_test, redirected}
use Rattle.sim_owed.specs.Servers.{stop_at}
use Rattle.sim_owed.specs.Closes.{close_at, close_test}

-- The input with these numbers cut: its server stops, its client is redirected where it was refused, and what was owed goes on.
unfoldable pub cut_at : OpenInput → State → Moved
cut_at o s = close_at (owed_in o.owed o.next) (redirected o (stop_at o.slot s))

-- Question 10 of it, asked before anything is changed.
unfoldable pub cut_test : OpenInput → State → Bool
cut_test o s = redirect_test o s and close_test (owed_in o.owed o.next) (redirect_count o) o.slot false s
