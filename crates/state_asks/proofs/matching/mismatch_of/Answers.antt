-- Made by tools/uniform from proofs.txt, not by hand: 80b754a4809ebfc0
use Rattle.state_asks.specs.MatchingLaws.{blocks_room, stride_room}
use Rattle.state_asks.specs.MatchingLaws.{mismatch_read}
use borrow.Author.Rules.{rules}
use Rattle.state_asks.proofs.matching.mismatch_of.Goals as goal

pub mismatch_between-requires : goal.mismatch_between-requires
mismatch_between-requires c = record { i_lt_servers = search rules; j_lt_servers = search rules; p_bound = c.requires.inside.within.limits.payload; p_bound_2 = stride_room _ _ c.block_words-stride.ensures.is; stride_in_bounds = blocks_room _ c.queue_at-end.ensures c.block_words-stride.ensures.is }

pub returns : goal.returns
returns c = mismatch_read _ c.requires.i_lt_servers c.requires.j_lt_servers c.block_words-stride.ensures c.queue_at-end.ensures c.mismatch_between.ensures
