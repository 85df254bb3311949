-- Made by tools/uniform from proofs.txt, not by hand: b4ca3ea6858fcfee
use Rattle.layout.specs.TableLaws.{checks}
use Rattle.raft_log.specs.Laws.{empty_log_lem}
use borrow.Author.Rules.{rules}
use Rattle.raft_log.proofs.check.Goals as goal

pub returns-then-not-padding : goal.returns-then-not-padding
returns-then-not-padding c = search (checks, rules)

pub returns-then-all_zero : goal.returns-then-all_zero
returns-then-all_zero c = empty_log_lem _ _ _ _ _ c.padding.ensures c.if-not-padding.false-raw c.all_zero.ensures c.if-all_zero.true

pub check_places-requires : goal.check_places-requires
check_places-requires c = search (checks, rules)

pub returns : goal.returns
returns c = search (checks, rules)
