-- Made by tools/uniform from proofs.txt, not by hand: 507b6ead840114ad
use Rattle.sim_direct.specs.AskedLaws.{proposal_opens}
use borrow.Author.Rules.{rules}
use Rattle.sim_direct.proofs.asked.open_proposal.Goals as goal

pub returns : goal.returns
returns c = search (proposal_opens, rules)
