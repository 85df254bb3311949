-- Made by tools/uniform from proofs.txt, not by hand: 5365141653769770
use Rattle.state_server.specs.Laws.{state_stored}
use Rattle.state_server.proofs.store_state.Goals as goal

pub returns : goal.returns
returns c = state_stored _ _ _ _ _ _ _ _ c.flag_number.ensures c.store_status.ensures c.store_all.ensures c.term_flag.ensures c.term_number.ensures c.store_all-2.ensures
