-- Made by tools/uniform from proofs.txt, not by hand: 331947818a40a50a
use Rattle.sim_seal.specs.SealLaws.{sealing_is}
use borrow.Author.Rules.{rules}
use Rattle.sim_seal.proofs.sealing.Goals as goal

pub verdict_kind-verdict-requires : goal.verdict_kind-verdict-requires
verdict_kind-verdict-requires c = search (sealing_is, rules)

pub verdict_leader-named-requires : goal.verdict_leader-named-requires
verdict_leader-named-requires c = search (sealing_is, rules)

pub returns : goal.returns
returns c = search (sealing_is, rules)
