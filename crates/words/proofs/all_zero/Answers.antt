-- Made by tools/uniform from proofs.txt, not by hand: d70eb0b2ea2115a7
use borrow.Author.Tests.{tests}
use Rattle.std.proofs.lemmas.Iterator.{YieldsList-from_slice}
use Rattle.std.proofs.lemmas.Iterator.Search.{all_from_yields_List}
use Rattle.words.specs.Words.{allz}
use Rattle.words.specs.Zero.{chunks_zero, chunks_not}
use borrow.Author.Rules.{rules}
use Rattle.words.proofs.all_zero.Goals as goal

pub returns-then-all : goal.returns-then-all
returns-then-all c = chunks_zero _ (all_from_yields_List allz _ _ _ c.all.ensures.ran (YieldsList-from_slice _ cc) (λ x b q k. search (rules, tests))) c.if-all.true c.as_chunks.ensures.back c.none_set.ensures

pub returns-else-all : goal.returns-else-all
returns-else-all c = chunks_not _ (all_from_yields_List allz _ _ _ c.all.ensures.ran (YieldsList-from_slice _ cc) (λ x b q k. search (rules, tests))) c.if-all.false
