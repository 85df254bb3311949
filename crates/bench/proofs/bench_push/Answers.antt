-- Made by tools/uniform from proofs.txt, not by hand: 03b942416eb0c76a
use Rattle.bench.proofs.bench_push.Goals as goal

pub returns : goal.returns
returns c = c.push.ensures
