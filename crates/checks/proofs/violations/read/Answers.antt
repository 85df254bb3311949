-- Made by tools/uniform from proofs.txt, not by hand: fdc0f5b5614df191
use Rattle.checks.specs.ViolationLaws.{read_is}
use Rattle.checks.proofs.violations.read.Goals as goal

pub returns : goal.returns
returns c = read_is _ _ _ c.requires.0 _ _ _ _ _ _ _ _ c.load.ensures c.load-2.ensures c.load-3.ensures c.load-4.ensures c.load-5.ensures c.load-6.ensures c.load-7.ensures c.load-8.ensures
