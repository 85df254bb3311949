-- Made by tools/uniform from proofs.txt, not by hand: 304d942dcdcc0440
use mathlib.Core.Path.{sym, ap}
use Rattle.faults.specs.Fault.{within_limits}
use Rattle.faults.proofs.within_limits.Goals as goal

pub returns-in-CrashLeader : goal.returns-in-CrashLeader
returns-in-CrashLeader c = sym (ap within_limits c.in-CrashLeader.is)
