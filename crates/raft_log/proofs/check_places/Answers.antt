-- Made by tools/uniform from proofs.txt, not by hand: 73b3651bd440083d
use Rattle.raft_log.specs.Laws.{place_rows}
use borrow.Author.Rules.{rules}
use Rattle.raft_log.proofs.check_places.Goals as goal

pub loop-i-init : goal.loop-i-init
loop-i-init c = search (place_rows, rules)

pub returns-then-not-check_place : goal.returns-then-not-check_place
returns-then-not-check_place c = search (place_rows, rules)

pub loop-i-preserved : goal.loop-i-preserved
loop-i-preserved c = search (place_rows, rules)

pub returns : goal.returns
returns c = search (place_rows, rules)
