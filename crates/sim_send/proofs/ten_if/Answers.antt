-- Made by tools/uniform from proofs.txt, not by hand: 7747a98cc133e692
use Rattle.sim_send.specs.Laws.{ten_yes, ten_no}
use borrow.Author.Rules.{rules}
use Rattle.sim_send.proofs.ten_if.Goals as goal

pub returns-then-fits : goal.returns-then-fits
returns-then-fits c = search (ten_yes, ten_no, rules)

pub returns-else-fits : goal.returns-else-fits
returns-else-fits c = search (ten_yes, ten_no, rules)
