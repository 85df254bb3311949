-- What the proofs of the answers cite. Assumes nothing.
use Rattle.std.specs.Prelude.{◌≡◌, ℕ}
use Rattle.std.proofs.Common.{ap}
use Rattle.units.specs.declared.NodeId.{NodeId}
use Rattle.protocol.specs.Numbers.{timer_number}
use Rattle.protocol.specs.declared.Timer.{Timer}
use Rattle.model.specs.Simulation.{open_timer}
use Rattle.answers.specs.declared.InputNumbers.{InputNumbers}
use Rattle.answers.specs.Answers.{input_of, no_input_numbers, opened_no, stepped_no, sealed_no}

pub opened_none : (n : ℕ) (i : InputNumbers) → i ≡ no_input_numbers → record { refusal = n; input = i } ≡ opened_no n
opened_none n i e = ap (λ (x : InputNumbers). record { refusal = n; input = x }) e

pub stepped_none : (n : ℕ) (i : InputNumbers) → i ≡ no_input_numbers → record { refusal = n; taken = 0; input = i } ≡ stepped_no n
stepped_none n i e = ap (λ (x : InputNumbers). record { refusal = n; taken = 0; input = x }) e

pub sealed_none : (n : ℕ) (i : InputNumbers) → i ≡ no_input_numbers → record { refusal = n; outcome = 0; input = i } ≡ sealed_no n
sealed_none n i e = ap (λ (x : InputNumbers). record { refusal = n; outcome = 0; input = x }) e

pub timer_told : (server : NodeId) (timer : Timer) (n : ℕ) → n ≡ timer_number timer → record { kind = 3; server = server.0; first = n; second = 0; third = 0 } ≡ input_of (open_timer server timer)
timer_told server timer n e = ap (λ (m : ℕ). record { kind = 3; server = server.0; first = m; second = 0; third = 0 }) e
