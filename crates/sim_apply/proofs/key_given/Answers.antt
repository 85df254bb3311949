-- Made by tools/uniform from proofs.txt, not by hand: 0f2506a5e5b41e81
use Rattle.sim_apply.specs.ReplyLaws.{key_noop, key_command}
use borrow.Author.Rules.{rules}
use Rattle.sim_apply.proofs.key_given.Goals as goal

pub returns-then-kind-eq0 : goal.returns-then-kind-eq0
returns-then-kind-eq0 c = search (key_noop, key_command, rules)

pub decode-requires : goal.decode-requires
decode-requires c = search (key_noop, key_command, rules)

pub returns : goal.returns
returns c = search (key_noop, key_command, rules)
