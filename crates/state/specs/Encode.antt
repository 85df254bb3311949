-- The one content of a state. Assumes nothing.
use Rattle.std.specs.Prelude.{List, [], ◌∷◌, ℕ, ◌-◌, ◌*◌}
use Rattle.words.specs.Words.{bytes}
use Rattle.layout.specs.Code.{zeros}
use Rattle.layout.specs.Cuts.{joined}
use Rattle.network_words.specs.NetworkCode.{network_code}
use Rattle.metrics_words.specs.MetricsCode.{metrics_code}
use Rattle.model.specs.State.{State}
use Rattle.model.specs.Fits.{phase_fits}
use Rattle.state.specs.Sizes.{whole_words, bytes_of}
use Rattle.state.specs.Parts.{capacity_code, settings_code, run_code, counts_code, phase_code}
use Rattle.state.specs.Area.{capacity_of, run_of, counts_of, servers_code, queue_code, seen_code, leaders_code, replies_code, confirmations_code, applied_code, clients_code, violations_code}

-- The bytes of each region, in order.
abbrev pub contents : State → List (List ℕ)
contents s =
    let F = capacity_of s in
    let n = counts_of s in
    bytes (capacity_code.enc F)
    ∷ bytes ((settings_code F).enc s.config)
    ∷ bytes (run_code.enc (run_of s))
    ∷ bytes ((network_code s.config.servers s.config.one_way_delay.0).enc s.network)
    ∷ bytes ((metrics_code s.config.servers).enc s.metrics)
    ∷ bytes ((phase_code (phase_fits s.config s.limits)).enc s.phase)
    ∷ bytes (counts_code.enc n)
    ∷ zeros 1320
    ∷ bytes ((violations_code F n).enc s.checker.violations)
    ∷ bytes ((servers_code F).enc s.servers)
    ∷ bytes ((queue_code F n).enc s.queue)
    ∷ bytes ((seen_code F n).enc s.checker.entries)
    ∷ bytes ((leaders_code F n).enc s.checker.leaders)
    ∷ bytes ((replies_code F n).enc s.replies)
    ∷ bytes ((confirmations_code F n).enc s.confirmations)
    ∷ bytes ((applied_code F n).enc s.checker.applied)
    ∷ bytes ((clients_code F).enc s.clients)
    ∷ zeros (bytes_of F - 8 * whole_words F)
    ∷ []

-- The bytes of a state.
unfoldable pub encode : State → List ℕ
encode s = joined (contents s)
