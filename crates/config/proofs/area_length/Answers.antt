-- Made by tools/uniform from proofs.txt, not by hand: b9985b4b759cd10c
use Rattle.std.proofs.Common.{arith, refl}
use Rattle.config.specs.Limits.{area_length}
use Rattle.config.specs.Laws.{area_sum}
use Rattle.config.proofs.area_length.Goals as goal

pub overflow_add-result-3 : goal.overflow_add-result-3
unfolding area_length
overflow_add-result-3 c = omega (arith, area_sum _ _ _ c.requires)

pub overflow_add-result-5 : goal.overflow_add-result-5
unfolding area_length
overflow_add-result-5 c = omega (arith, area_sum _ _ _ c.requires)

pub overflow_add-result-7 : goal.overflow_add-result-7
unfolding area_length
overflow_add-result-7 c = omega (arith, area_sum _ _ _ c.requires)

pub overflow_add-result-8 : goal.overflow_add-result-8
unfolding area_length
overflow_add-result-8 c = omega (arith, area_sum _ _ _ c.requires)

pub returns : goal.returns
unfolding area_length
returns c = (refl, area_sum _ _ _ c.requires)
