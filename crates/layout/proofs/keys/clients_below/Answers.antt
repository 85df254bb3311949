-- Made by tools/uniform from proofs.txt, not by hand: 3af2c68f0eb948a0
use Rattle.layout.specs.KeyLaws.{client_rows}
use borrow.Author.Rules.{rules}
use Rattle.layout.proofs.keys.clients_below.Goals as goal

pub returns-then-clients-load : goal.returns-then-clients-load
returns-then-clients-load c = search (client_rows, rules)

pub loop-i-preserved : goal.loop-i-preserved
loop-i-preserved c = search (client_rows, rules)
