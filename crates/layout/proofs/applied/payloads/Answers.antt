-- Made by tools/uniform from proofs.txt, not by hand: f9afa1748566bbfe
use Rattle.layout.specs.AppliedLaws.{payload_rows}
use borrow.Author.Rules.{rules}
use Rattle.layout.proofs.applied.payloads.Goals as goal

pub returns-then-not-check_payload : goal.returns-then-not-check_payload
returns-then-not-check_payload c = search (payload_rows, rules)

pub loop-i-preserved : goal.loop-i-preserved
loop-i-preserved c = search (payload_rows, rules)
