-- Made by tools/uniform from proofs.txt, not by hand: a48aa69bbedd03ee
use Rattle.sim_start.specs.Laws.{begun_first, begun_spread}
use borrow.Author.Rules.{rules}
use Rattle.sim_start.proofs.begin.Goals as goal

pub returns-then-spread-eq0 : goal.returns-then-spread-eq0
returns-then-spread-eq0 c = search (begun_first, rules)

pub returns : goal.returns
returns c = begun_spread _ _ _ _ _ _ _ _ c.if-spread-eq0.false c.stream_rng-g.ensures c.push_spread_starts.ensures c.push_first_sends.ensures c.no_input.ensures
