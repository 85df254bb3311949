-- Made by tools/uniform from proofs.txt, not by hand: 479e5f714d369351
use Rattle.state_asks.specs.MatchingLaws.{matching_asked}
use Rattle.state_asks.proofs.matching.matching_asked.Goals as goal

pub returns : goal.returns
returns c = matching_asked c.counts_of-counts.ensures c.matching_given.ensures
