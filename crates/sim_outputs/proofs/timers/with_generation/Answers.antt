-- Made by tools/uniform from proofs.txt, not by hand: 099628cb1b583cf1
use Rattle.sim_outputs.specs.TimerLaws.{put_election, put_heartbeat}
use borrow.Author.Rules.{rules}
use Rattle.sim_outputs.proofs.timers.with_generation.Goals as goal

pub returns-in-Election : goal.returns-in-Election
returns-in-Election c = search (put_election, put_heartbeat, rules)

pub returns-in-Heartbeat : goal.returns-in-Heartbeat
returns-in-Heartbeat c = search (put_election, put_heartbeat, rules)
