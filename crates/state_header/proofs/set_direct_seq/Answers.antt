-- Made by tools/uniform from proofs.txt, not by hand: a90a45a16f8e4eaa
use Rattle.state_header.specs.Laws.{direct_seq_put}
use borrow.Author.Rules.{rules}
use Rattle.state_header.proofs.set_direct_seq.Goals as goal

pub returns : goal.returns
returns c = search (direct_seq_put, rules)
