-- Made by tools/uniform from proofs.txt, not by hand: 4eee419518389a09
use Rattle.state_checks.specs.ActLaws.{behind_acted}
use Rattle.state_checks.proofs.acts.applied_up_to_act.Goals as goal

pub returns : goal.returns
returns c = behind_acted _ _ _ _ _ _ _ c.keep.ensures
