-- Made by tools/uniform from proofs.txt, not by hand: 3ac99085a7508590
use Rattle.state_gate.specs.Laws.{all_ok}
use Rattle.state_gate.proofs.contents.Goals as goal

pub returns : goal.returns
returns c = all_ok c.args.f _ _ _ _ _ c.header-header.ensures c.servers-servers.ensures c.tables-tables.ensures c.spare-spare.ensures
