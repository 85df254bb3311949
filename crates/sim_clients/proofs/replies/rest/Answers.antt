-- Made by tools/uniform from proofs.txt, not by hand: 1bae5931041e91b7
use Rattle.sim_clients.specs.ReplyLaws.{rests}
use borrow.Author.Rules.{rules}
use Rattle.sim_clients.proofs.replies.rest.Goals as goal

pub sum64-next-requires : goal.sum64-next-requires
sum64-next-requires c = search (rests, rules)

pub returns : goal.returns
returns c = search (rests, rules)
