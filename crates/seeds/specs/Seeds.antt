-- Independent random streams derived from one seed (seeds.rs). Assumes nothing.
use Rattle.std.specs.Prelude.{ℕ, ◌*◌, ◌%◌, ◌^◌}
use Rattle.std.specs.Int.Bits.{bit_or, bit_xor}
use Rattle.rng.specs.Rng.{golden, wrapping_mul, new, next_u64}
use Rattle.rng.specs.declared.Rng.{Rng}
use Rattle.seeds.specs.declared.Stream.{Stream}
use Rattle.seeds.specs.declared.Stream.TheVariants.{Faults, Network, Workload, Scenario, Startup, Server}

-- A stream's number (Stream::tag). A server's three fields are joined by OR: 5, the incarnation, and the low 32 bits of the id.
unfoldable pub tag : Stream → ℕ
tag Faults = 1
tag Network = 2
tag Workload = 3
tag Scenario = 4
tag Startup = 6
tag (Server id incarnation) = bit_or (bit_or (5 * 2 ^ 56) (incarnation * 2 ^ 32)) (id.0 % 2 ^ 32)

-- The seed of a stream: a draw from the seed, changed by the stream's tag, and a draw from that (stream_seed).
unfoldable pub stream_seed : ℕ → Stream → ℕ
stream_seed seed stream =
    let base = (next_u64 (new seed)).value in
    (next_u64 (new (bit_xor base (wrapping_mul (tag stream) golden)))).value

-- The generator of a stream (stream_rng).
unfoldable pub stream_rng : ℕ → Stream → Rng
stream_rng seed stream = new (stream_seed seed stream)
