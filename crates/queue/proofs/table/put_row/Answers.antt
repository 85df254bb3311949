-- Made by tools/uniform from proofs.txt, not by hand: 497a3df15355b12f
use Rattle.queue.specs.TableLaws.{row_put}
use Rattle.queue.proofs.table.put_row.Goals as goal

pub returns : goal.returns
returns c = row_put _ _ _ _ _ _ _ c.requires c.from-w.ensures c.store_all.ensures c.put_message.ensures
