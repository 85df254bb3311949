-- Made by tools/uniform from proofs.txt, not by hand: 3003193b7c7b87d6
use Rattle.checks_on_apply.specs.Laws.{apply_asked}
use Rattle.checks_on_apply.proofs.on_apply.Goals as goal

pub returns : goal.returns
returns c = apply_asked c.ask-seen.ensures c.is_other-other.ensures c.is_next-next.ensures c.one_if.ensures.0 c.one_if-2.ensures.0 c.one_if-3.ensures.0 c.where_fits.ensures
