-- Made by tools/uniform from proofs.txt, not by hand: 06845e9d6baed08e
use Rattle.std.proofs.Common.{◌∙◌, eqb, ◌/◌, ◌^◌, ◌%◌}
use Rattle.laws.specs.Arrays.{from_fn_list}
use Rattle.network_words.specs.LinkLaws.{bits_by_place}
use borrow.Author.Rules.{rules}
use Rattle.network_words.proofs.links_of.Goals as goal

pub returns : goal.returns
returns c = from_fn_list _ (λ k. eqb (c.args.word / 2 ^ k % 2) 1) _ (λ i y q k. search rules) c.from_fn.ensures.items ∙ bits_by_place c.args.word
