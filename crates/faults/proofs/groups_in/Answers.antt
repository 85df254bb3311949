-- Made by tools/uniform from proofs.txt, not by hand: df00e4011653fe11
use Rattle.std.proofs.Common.{◌/◌, ◌^◌, min, eqb, ap, ◌∙◌, tests}
use Rattle.std.specs.List.{list_all}
use Rattle.std.proofs.lemmas.Iterator.{YieldsList-from_slice}
use Rattle.std.proofs.lemmas.Iterator.Search.{all_from_yields_List}
use Rattle.faults.specs.Laws.{group_bytes}
use borrow.Author.Rules.{rules}
use Rattle.faults.proofs.groups_in.Goals as goal

pub returns : goal.returns
returns c = all_from_yields_List (λ group. eqb (group / 2 ^ min c.args.servers 8) 0) _ _ _ c.all.ensures.ran (YieldsList-from_slice c.to_le_bytes.result cc) (λ x b q k. search (rules, tests)) ∙ ap (list_all (λ group. eqb (group / 2 ^ min c.args.servers 8) 0)) c.to_le_bytes.ensures ∙ group_bytes _ _
