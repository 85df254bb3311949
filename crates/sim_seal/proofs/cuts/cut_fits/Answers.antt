-- Made by tools/uniform from proofs.txt, not by hand: 205a058f56252c28
use Rattle.sim_seal.specs.CutLaws.{redirect_few, cut_asked}
use borrow.Author.Rules.{rules}
use Rattle.sim_seal.proofs.cuts.cut_fits.Goals as goal

pub owed_given-owed-requires : goal.owed_given-owed-requires
owed_given-owed-requires c = search (redirect_few, cut_asked, rules)

pub redirect_count-more-requires : goal.redirect_count-more-requires
redirect_count-more-requires c = search (redirect_few, cut_asked, rules)

pub redirect_room-told-requires : goal.redirect_room-told-requires
redirect_room-told-requires c = search (redirect_few, cut_asked, rules)

pub close_fits-closes-requires : goal.close_fits-closes-requires
close_fits-closes-requires c = search (redirect_few, cut_asked, rules)

pub returns : goal.returns
returns c = search (redirect_few, cut_asked, rules)
