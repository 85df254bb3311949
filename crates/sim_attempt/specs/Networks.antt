-- A delay drawn keeps a network in range, and a state fit. Assumes nothing.
use Rattle.std.specs.Prelude.{◌≡◌, Bool, true, List, ℕ, ◌+◌, set}
use Rattle.std.proofs.Common.{sym, ap, subst, ◌∙◌}
use Rattle.laws.specs.Bools.{allb}
use Rattle.network.specs.declared.Network.{Network}
use Rattle.network.specs.Network.{network_in_range, delay, DelaysFit}
use Rattle.network.specs.Ranges.{in_range_lem, delays_fit}
use Rattle.model.specs.State.{State}
use Rattle.model.specs.Fits.{state_fits, state_tests}
use Rattle.state.specs.declared.Capacity.{Capacity}
use Rattle.state.specs.Decode.{decode}
use Rattle.state.specs.Fitting.{area_fits}
use Rattle.state.specs.FitsBy.{fits_test}
use Rattle.state.specs.Changes.{Reads}
use Rattle.state_header.specs.Header.{network_of}
use Rattle.state_header.specs.Laws.{under_word}
use Rattle.sim_outputs.specs.Outputs.{Passed}
use Rattle.sim_attempt.specs.Attempts.{delayed}

-- the network of an area that the gate let through has delays within the limits
pub may_delay : (b : List ℕ) (F : Capacity) (n : Network) → Passed b F → Reads b F n network_of → DelaysFit n
unfolding network_of
may_delay b F n o r =
    let s : State = decode b in
    subst (λ (x : Network). DelaysFit x) (sym (r.to s o.area o.capacity))
    (delays_fit s.config.servers s.network (in_range_lem s.config.servers s.network (fits_test s (area_fits o.area) 6)))

-- the state with a delay drawn fits where the state before did
pub delayed_fits : (s : State) → state_fits s ≡ true → state_fits (delayed s) ≡ true
unfolding delayed state_fits delay network_in_range
delayed_fits s t =
    ap (λ (x : Bool). allb (set (state_tests s) 8 x)) (under_word s.network.rng (s.network.base_delay.0 + 1) ∙ sym (fits_test s t 8)) ∙ t
