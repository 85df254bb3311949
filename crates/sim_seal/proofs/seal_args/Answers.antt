-- Made by tools/uniform from proofs.txt, not by hand: b93e7c05451d19ac
use Rattle.sim_seal.specs.SealLaws.{args_given_lem}
use borrow.Author.Rules.{rules}
use Rattle.sim_seal.proofs.seal_args.Goals as goal

pub returns : goal.returns
returns c = search (args_given_lem, rules)
