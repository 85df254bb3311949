-- Made by tools/uniform from proofs.txt, not by hand: 609971f6f0e019b2
use Rattle.sim_events.specs.Laws.{fires_election, fires_heartbeat}
use borrow.Author.Rules.{rules}
use Rattle.sim_events.proofs.fires.Goals as goal

pub runs-running-requires : goal.runs-running-requires
runs-running-requires c = search (fires_election, fires_heartbeat, rules)

pub returns-in-Election : goal.returns-in-Election
returns-in-Election c = search (fires_election, fires_heartbeat, rules)

pub returns-in-Heartbeat : goal.returns-in-Heartbeat
returns-in-Heartbeat c = search (fires_election, fires_heartbeat, rules)
