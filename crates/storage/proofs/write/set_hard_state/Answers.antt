-- Made by tools/uniform from proofs.txt, not by hand: a5ba810846545546
use Rattle.storage.proofs.WritesLaws.{states}
use borrow.Author.Rules.{rules}
use Rattle.storage.proofs.write.set_hard_state.Goals as goal

pub returns-then-rows-m : goal.returns-then-rows-m
returns-then-rows-m c = search (states, rules)

pub push_hard_state-requires : goal.push_hard_state-requires
push_hard_state-requires c = search (states, rules)

pub returns : goal.returns
returns c = search (states, rules)
