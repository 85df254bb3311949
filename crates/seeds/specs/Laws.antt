-- Laws of stream tags and seeds. Assumes nothing.
use Rattle.std.specs.Prelude.{◌≡◌, refl, ℕ, ◌*◌, ◌%◌, ◌^◌, ◌<◌}
use Rattle.std.proofs.Common.{sym, ap, ◌∙◌, arith, lit<}
use Rattle.std.specs.Int.Bits.{bit_or}
use Rattle.std.proofs.lemmas.Nat.{or_lt}
use Rattle.units.specs.declared.NodeId.{NodeId}
use Rattle.rng.specs.Laws.{value_lt}
use Rattle.seeds.specs.declared.Stream.{Stream}
use Rattle.seeds.specs.declared.Stream.TheVariants.{Faults, Network, Workload, Scenario, Startup, Server}
use Rattle.seeds.specs.Seeds.{tag, stream_seed}

-- The tag of server 1 in its first incarnation.
pub first_server : tag (Server (record { 0 = 1 }) 0) ≡ 0x0500_0000_0000_0001
unfolding tag
first_server = refl

-- Incarnation 16,777,216 reaches into the field of the 5, whose lowest bit is set already: the tag is that of incarnation 0.
pub tag_again : (id : NodeId) → tag (Server id 16_777_216) ≡ tag (Server id 0)
unfolding tag
tag_again id =
    let joined : bit_or (5 * 2 ^ 56) (16_777_216 * 2 ^ 32) ≡ 5 * 2 ^ 56 = refl in
    let alone : bit_or (5 * 2 ^ 56) (0 * 2 ^ 32) ≡ 5 * 2 ^ 56 = refl in
    ap (λ (fields : ℕ). bit_or fields (id.0 % 2 ^ 32)) (joined ∙ sym alone)

-- A tag fits 64 bits, if the incarnation fits 32.
pub tag_lt : (stream : Stream) → ((id : NodeId) (incarnation : ℕ) → stream ≡ Server id incarnation → incarnation < 2 ^ 32) → tag stream < 2 ^ 64
unfolding tag
tag_lt Faults h = lit< tt
tag_lt Network h = lit< tt
tag_lt Workload h = lit< tt
tag_lt Scenario h = lit< tt
tag_lt Startup h = lit< tt
tag_lt (Server id incarnation) h =
    let fits : incarnation < 2 ^ 32 = h id incarnation refl in
    or_lt 64 (bit_or (5 * 2 ^ 56) (incarnation * 2 ^ 32)) (id.0 % 2 ^ 32) (or_lt 64 (5 * 2 ^ 56) (incarnation * 2 ^ 32) (lit< tt) (omega arith)) (omega arith)

-- A stream's seed fits 64 bits.
pub stream_seed_lt : (seed : ℕ) (stream : Stream) → stream_seed seed stream < 2 ^ 64
unfolding stream_seed
stream_seed_lt seed stream = value_lt _
