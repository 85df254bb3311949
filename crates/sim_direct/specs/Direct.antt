-- What the direct calls ask and do (lib.rt): what their contracts cite. Assumes nothing.
use Rattle.std.specs.Prelude.{◌≡◌, Bool, List, ℕ, ◌-◌, ◌<◌, eqb}
use Rattle.laws.specs.Bools.{pick}
use Rattle.protocol.specs.declared.Timer.{Timer}
use Rattle.protocol.specs.declared.Timer.TheVariants.{Election, Heartbeat}
use Rattle.model.specs.State.{State, writing, timer_input, nothing}
use Rattle.model.specs.Fields.{with_phase}
use Rattle.model.specs.Simulation.{running, no_input, open_timer}
use Rattle.model.specs.Calls.{is_closed, in_cluster, fire_timer}
use Rattle.state.specs.declared.Capacity.{Capacity}
use Rattle.state.specs.Changes.{Changes, Reads}
use Rattle.state.specs.Branches.{PlannedIf}
use Rattle.sim_direct.specs.declared.DirectAsked.{DirectAsked}

-- The timer of a number.
unfoldable pub timer_given : ℕ → Timer
timer_given timer = pick (eqb timer 1) Heartbeat Election

-- Questions 6 and 7: the number of the first that is answered no, or 0.
unfoldable pub direct_code : ℕ → State → ℕ
direct_code server s = pick (is_closed s.phase) (pick (in_cluster s server) 0 7) 6

-- Whether the server of an id runs.
unfoldable pub server_runs : ℕ → State → Bool
server_runs server s = running s (server - 1)

-- What was asked of a server: the refusal; where it is 0, its place in the cluster and whether it runs.
pub record AsksDirect (b : List ℕ) (F : Capacity) (server : ℕ) (r : DirectAsked) : Type 0 where
  pub code : Reads b F r.code (direct_code server)
  pub slot : r.code ≡ 0 → r.slot ≡ server - 1
  pub below : r.code ≡ 0 → r.slot < F.servers
  pub running : r.code ≡ 0 → Reads b F r.running (server_runs server)

-- The state with a timer's input of the server at a place open.
unfoldable pub timer_open : ℕ → State → State
timer_open slot s = with_phase s (writing slot timer_input nothing)

-- What firing a timer will do.
pub record FirePlanned (b : List ℕ) (F : Capacity) (server timer : ℕ) (r : DirectAsked) : Type 0 where
  pub plan : PlannedIf b F r.code (fire_timer server timer) r.running (open_timer (record { 0 = server }) (timer_given timer)) (timer_open r.slot) no_input (λ s. s)

-- The timer's input is open.
pub record OpensTimer (b b' : List ℕ) (F : Capacity) (slot : ℕ) : Type 0 where
  pub changes : Changes b b' F (timer_open slot)
