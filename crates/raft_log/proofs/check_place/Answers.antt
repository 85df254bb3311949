-- Made by tools/uniform from proofs.txt, not by hand: c835e3092e70542d
use Rattle.raft_log.specs.Laws.{place_zeros, place_entry}
use Rattle.raft_log.proofs.check_place.Goals as goal

pub returns-then-load-lt1 : goal.returns-then-load-lt1
returns-then-load-lt1 c = place_zeros _ _ _ _ c.type_inv.s c.requires.1 c.load.ensures c.if-load-lt1.true c.all_zero.ensures

pub returns : goal.returns
returns c = place_entry _ _ _ _ c.type_inv.s c.requires.1 c.load.ensures c.if-load-lt1.false c.check_payload.ensures
