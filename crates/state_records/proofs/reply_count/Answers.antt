-- Made by tools/uniform from proofs.txt, not by hand: 4e099ee17b892b02
use Rattle.state_records.specs.ReplyRows.{replies_counted}
use Rattle.state_records.proofs.reply_count.Goals as goal

pub returns : goal.returns
returns c = replies_counted _ _ _ c.load.ensures
