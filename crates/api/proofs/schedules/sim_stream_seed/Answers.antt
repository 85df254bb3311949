-- Made by tools/uniform from proofs.txt, not by hand: c12bbda425d1990b
use Rattle.api.specs.Laws.{seed_stream, seed_long, seed_given}
use borrow.Author.Rules.{rules}
use Rattle.api.proofs.schedules.sim_stream_seed.Goals as goal

pub returns-then-stream-gt5 : goal.returns-then-stream-gt5
returns-then-stream-gt5 c = search (seed_stream, seed_long, seed_given, rules)

pub returns-then-incarnation-ge4294967296 : goal.returns-then-incarnation-ge4294967296
returns-then-incarnation-ge4294967296 c = search (seed_stream, seed_long, seed_given, rules)

pub overflow_cast-incarnation : goal.overflow_cast-incarnation
overflow_cast-incarnation c = search (seed_stream, seed_long, seed_given, rules)

pub stream_of-of-requires : goal.stream_of-of-requires
stream_of-of-requires c = search (seed_stream, seed_long, seed_given, rules)

pub stream_seed-requires : goal.stream_seed-requires
stream_seed-requires c = search (seed_stream, seed_long, seed_given, rules)

pub returns : goal.returns
returns c = search (seed_stream, seed_long, seed_given, rules)
