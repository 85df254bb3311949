-- The definitions answer every exchange of the recorded runs as the Rust did, whatever was before: each by computing the whole run. Assumes nothing.
use Rattle.std.specs.Prelude.{◌≡◌, refl, []}
use Rattle.model.specs.State.{State}
use Rattle.runs.specs.Trace.{differs}
use Rattle.runs.specs.Unfolded.{everything}
use Rattle.runs.specs.Short as short

-- A leader stops and leads its term again: its log is compared again, it applies from 1 again, and its old timer does nothing.
pub leads_again_agrees : (before : State) → differs 1 before short.leads_again ≡ []
unfolding everything short.leads_again
leads_again_agrees before = refl

-- HealAll: the crash flag of a running server is cleared, links and rates are healed, and a stopped server starts.
pub healed_agrees : (before : State) → differs 1 before short.healed ≡ []
unfolding everything short.healed
healed_agrees before = refl

-- The Start event of a server that was restarted before it: nothing, whether it runs or has stopped.
pub late_start_agrees : (before : State) → differs 1 before short.late_start ≡ []
unfolding everything short.late_start
late_start_agrees before = refl

-- The first events of servers and clients at one time: servers come first.
pub spread_agrees : (before : State) → differs 1 before short.spread ≡ []
unfolding everything short.spread
spread_agrees before = refl

-- Two leaders of one term, the last of which crashes and is back after its downtime; deadlines; a fault in the past.
pub crashed_leader_agrees : (before : State) → differs 1 before short.crashed_leader ≡ []
unfolding everything short.crashed_leader
crashed_leader_agrees before = refl

-- A client's refused command: a hint that names a stranger, a late retry, a late redirect, a hint that is followed.
pub redirects_agrees : (before : State) → differs 1 before short.redirects ≡ []
unfolding everything short.redirects
redirects_agrees before = refl

-- A command that is acknowledged twice: the second reply does not count.
pub two_replies_agrees : (before : State) → differs 1 before short.two_replies ≡ []
unfolding everything short.two_replies
two_replies_agrees before = refl

-- A retry at the very time of the reply: it is old.
pub retry_at_reply_agrees : (before : State) → differs 1 before short.retry_at_reply ≡ []
unfolding everything short.retry_at_reply
retry_at_reply_agrees before = refl

-- A refused proposal that is cut: its redirect is sent, its gaps are not counted.
pub cut_refusal_agrees : (before : State) → differs 1 before short.cut_refusal ≡ []
unfolding everything short.cut_refusal
cut_refusal_agrees before = refl

-- Direct calls at a stopped server; the sequence number that its proposal uses.
pub stopped_server_agrees : (before : State) → differs 1 before short.stopped_server ≡ []
unfolding everything short.stopped_server
stopped_server_agrees before = refl

-- One pending key too many.
pub full_keys_agrees : (before : State) → differs 1 before short.full_keys ≡ []
unfolding everything short.full_keys
full_keys_agrees before = refl

-- A command applied twice is answered once; one reply too many.
pub full_replies_agrees : (before : State) → differs 1 before short.full_replies ≡ []
unfolding everything short.full_replies
full_replies_agrees before = refl

-- One leader too many, and a known one.
pub full_leaders_agrees : (before : State) → differs 1 before short.full_leaders ≡ []
unfolding everything short.full_leaders
full_leaders_agrees before = refl

-- One write, one event, one confirmation and one entry seen too many.
pub full_entries_agrees : (before : State) → differs 1 before short.full_entries ≡ []
unfolding everything short.full_entries
full_entries_agrees before = refl

-- Which question refuses a call, in each phase.
pub refusals_agrees : (before : State) → differs 1 before short.refusals ≡ []
unfolding everything short.refusals
refusals_agrees before = refl

-- Timers of one time in the order in which they were set; one that was set again, and one that was cancelled.
pub timers_agrees : (before : State) → differs 1 before short.timers ≡ []
unfolding everything short.timers
timers_agrees before = refl

-- Partition, loss, copies and delays; what is counted of messages.
pub network_agrees : (before : State) → differs 1 before short.network ≡ []
unfolding everything short.network
network_agrees before = refl

-- Entries that differ under one index and term, and logs that do not match.
pub matching_agrees : (before : State) → differs 1 before short.matching ≡ []
unfolding everything short.matching
matching_agrees before = refl

-- An acknowledged command that no server applied; the 33rd violation is counted and not kept.
pub many_violations_agrees : (before : State) → differs 1 before short.many_violations ≡ []
unfolding everything short.many_violations
many_violations_agrees before = refl
