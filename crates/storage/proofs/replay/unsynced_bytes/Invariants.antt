-- Made by tools/uniform from proofs.txt, not by hand: fd46f59f775bba6b
use Rattle.storage.specs.ReplayLaws.{Summing}
use Rattle.storage.proofs.replay.unsynced_bytes.Given as goal

abbrev pub invariant-loop-i : goal.invariant-loop-i
invariant-loop-i l = Summing l.p l.m l.s l.total l.i
