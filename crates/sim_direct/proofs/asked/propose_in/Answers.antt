-- Made by tools/uniform from proofs.txt, not by hand: 57e637822617224b
use Rattle.state.specs.Exits.{inside_of, call_shut}
use Rattle.sim_direct.specs.AskedLaws.{propose_no, propose_used, propose_opened}
use borrow.Author.Rules.{rules}
use Rattle.sim_direct.proofs.asked.propose_in.Goals as goal

pub returns-then-refusal-gt0 : goal.returns-then-refusal-gt0
returns-then-refusal-gt0 c = search (inside_of, call_shut, propose_no, propose_opened, rules)

pub propose_plan-p-requires : goal.propose_plan-p-requires
propose_plan-p-requires c = search (inside_of, call_shut, propose_no, propose_opened, rules)

pub returns-then-code-gt0 : goal.returns-then-code-gt0
returns-then-code-gt0 c = search (inside_of, call_shut, propose_no, propose_opened, rules)

pub set_direct_seq-requires : goal.set_direct_seq-requires
set_direct_seq-requires c = search (inside_of, call_shut, propose_no, propose_opened, rules)

pub returns-then-not-running : goal.returns-then-not-running
returns-then-not-running c = propose_used _ _ _ _ c.requires c.if-refusal-gt0.false c.propose_plan-p.ensures _ _ _ c.if-code-gt0.false c.if-not-running.true-raw c.set_direct_seq.ensures c.no_input.ensures c.opened.ensures

pub open_proposal-requires : goal.open_proposal-requires
open_proposal-requires c = search (inside_of, call_shut, propose_no, propose_opened, rules)

pub returns : goal.returns
returns c = search (inside_of, call_shut, propose_no, propose_opened, rules)
