-- Made by tools/uniform from proofs.txt, not by hand: c730228272c76ba9
use Rattle.checks_on_write.specs.WritesLaws.{put_asked}
use Rattle.checks_on_write.proofs.ask_put.Goals as goal

pub returns : goal.returns
returns c = put_asked c.write_at-shape.ensures c.put_index-index.ensures c.on_write-asked.ensures c.place_of.ensures
