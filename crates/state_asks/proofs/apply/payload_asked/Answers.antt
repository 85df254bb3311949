-- Made by tools/uniform from proofs.txt, not by hand: cef1cb0bb3ad4bea
use Rattle.state_asks.specs.ApplyLaws.{payload_asked}
use borrow.Author.Rules.{rules}
use Rattle.state_asks.proofs.apply.payload_asked.Goals as goal

pub put_payload-requires : goal.put_payload-requires
put_payload-requires c = search (payload_asked, rules)

pub row_asked-requires : goal.row_asked-requires
row_asked-requires c = search (payload_asked, rules)

pub returns : goal.returns
returns c = search (payload_asked, rules)
