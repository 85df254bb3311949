-- Made by tools/uniform from proofs.txt, not by hand: b94561d4ab73a1b7
use Rattle.state_server.specs.Laws.{registered_done, registered_full}
use Rattle.state_server.proofs.register.Goals as goal

pub returns-in-Ok : goal.returns-in-Ok
returns-in-Ok c = registered_done _ _ _ _ _ _ c.requires.k_lt_servers c.pending_count-n.ensures c.pending_in-a.ensures _ _ c.insert.ensures _ _ c.in-Ok.is c.store_count.ensures

pub returns-in-Err : goal.returns-in-Err
returns-in-Err c = registered_full _ _ _ _ _ _ c.requires.k_lt_servers c.pending_count-n.ensures c.pending_in-a.ensures _ _ c.insert.ensures _ c.in-Err.is
