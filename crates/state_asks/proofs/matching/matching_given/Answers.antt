-- Made by tools/uniform from proofs.txt, not by hand: c015fe94eb6b4318
use Rattle.state_asks.specs.MatchingLaws.{blocks_room, stride_room}
use Rattle.state_asks.specs.MatchingLaws.{matching_given}
use Rattle.state_asks.proofs.matching.matching_given.Goals as goal

pub check_log_matching-requires : goal.check_log_matching-requires
check_log_matching-requires c = record { servers_bound = c.requires.within.limits.servers; p_bound = c.requires.within.limits.payload; p_bound_2 = stride_room _ _ c.block_words-stride.ensures.is; stride_in_bounds = blocks_room _ c.queue_at-end.ensures c.block_words-stride.ensures.is }

pub returns : goal.returns
returns c = matching_given c.block_words-stride.ensures c.queue_at-end.ensures c.check_log_matching.ensures
