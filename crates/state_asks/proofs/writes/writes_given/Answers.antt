-- Made by tools/uniform from proofs.txt, not by hand: 43a8721b1ce15fcf
use Rattle.state_asks.specs.Laws.{rows_room, log_room, waiting_room}
use Rattle.state_asks.specs.WriteLaws.{writes_given}
use Rattle.state_asks.proofs.writes.writes_given.Goals as goal

pub on_writes-requires : goal.on_writes-requires
on_writes-requires c = record { p_bound = c.requires.inside.within.limits.payload; l_bound = c.requires.inside.within.limits.log_indexes; p_in_bounds = waiting_room _ c.rows_of-m.ensures c.block_at-to.ensures c.log_words-words.ensures.is c.waiting_words.ensures.is; p_in_bounds_2 = log_room _ c.block_at-to.ensures c.log_words-words.ensures.is; p_in_bounds_3 = rows_room c.rows_of-n.ensures c.seen_at-at.ensures c.seen_words.ensures.is }

pub returns : goal.returns
returns c = writes_given c.requires.k_lt_servers c.rows_of-m.ensures c.rows_of-n.ensures c.block_at-to.ensures c.seen_at-at.ensures c.log_words-words.ensures c.waiting_words.ensures c.seen_words.ensures c.on_writes.ensures
