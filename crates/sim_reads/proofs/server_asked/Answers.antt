-- Made by tools/uniform from proofs.txt, not by hand: 4e7aa8e83aacd8df
use Rattle.sim_reads.specs.Laws.{asked_low, asked_high, asked_yes_lem}
use borrow.Author.Rules.{rules}
use Rattle.sim_reads.proofs.server_asked.Goals as goal

pub returns-then-server-lt1 : goal.returns-then-server-lt1
returns-then-server-lt1 c = search (asked_low, asked_high, asked_yes_lem, rules)

pub returns-then-f-server : goal.returns-then-f-server
returns-then-f-server c = search (asked_low, asked_high, asked_yes_lem, rules)

pub returns : goal.returns
returns c = search (asked_low, asked_high, asked_yes_lem, rules)
