-- What is heard of a seal's struct is the answer whose numbers it has. Assumes nothing.
use Rattle.std.specs.Prelude.{◌≡◌, refl, []}
use Rattle.std.proofs.Common.{ap₂}
use Rattle.model.specs.Simulation.{Opening}
use Rattle.model.specs.Calls.{Sealed, Sealing, synced, nothing_to_sync, cut, sealing_number}
use Rattle.model.specs.Outcome.{sealed}
use Rattle.answers.specs.Answers.{sealed_yes}
use Rattle.answers.specs.Numbers.{input_bytes}
use Rattle.demands.specs.Heard.{sealing_heard, heard_sealed}
use Rattle.demands.specs.Returned.{quiet_heard}

sealing_heard_lem : (x : Sealing) → sealing_heard (sealing_number x) ≡ x
sealing_heard_lem synced = refl
sealing_heard_lem nothing_to_sync = refl
sealing_heard_lem cut = refl

pub sealed_heard : (s : Sealed) → input_bytes s.opening ≡ [] → heard_sealed (sealed_yes s) ≡ sealed s
sealed_heard s e = ap₂ (λ (x : Sealing) (o : Opening). sealed (record { sealing = x; opening = o })) (sealing_heard_lem s.sealing) (quiet_heard s.opening e)
