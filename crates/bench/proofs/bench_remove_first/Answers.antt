-- Made by tools/uniform from proofs.txt, not by hand: d1a18c865008fffe
use Rattle.bench.proofs.bench_remove_first.Goals as goal

pub returns : goal.returns
returns c = c.remove_first.ensures
