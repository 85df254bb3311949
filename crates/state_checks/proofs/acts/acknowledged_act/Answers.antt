-- Made by tools/uniform from proofs.txt, not by hand: 2d8bcd3ba2746763
use Rattle.state_checks.specs.ActLaws.{missing_acted}
use Rattle.state_checks.proofs.acts.acknowledged_act.Goals as goal

pub returns : goal.returns
returns c = missing_acted _ _ _ _ _ _ c.keep.ensures
