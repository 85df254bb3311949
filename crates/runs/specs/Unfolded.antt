-- Every definition that a run computes with, so that a theorem by computing unfolds `everything` and need not name each. Assumes nothing.
use Rattle.laws.specs.Bools.{◌and◌}
use Rattle.laws.specs.Lists as lists
use Rattle.laws.specs.Order as order
use Rattle.units.specs.Types as types
use Rattle.words.specs.Words as words
use Rattle.rng.specs.Rng as rng
use Rattle.seeds.specs.Seeds as seeds
use Rattle.record.specs.Postcard as postcard
use Rattle.config.specs.Questions as questions
use Rattle.config.specs.Config as config
use Rattle.config.specs.Limits as limits
use Rattle.client.specs.Key as client
use Rattle.faults.specs.Fault as faults
use Rattle.network.specs.Network as network
use Rattle.metrics.specs.Metrics as metrics
use Rattle.raft_log.specs.Log as log
use Rattle.storage.specs.Storage as storage
use Rattle.queue.specs.Queue as queue
use Rattle.queue.specs.Range as range
use Rattle.leader.specs.Leader as leader
use Rattle.checks.specs.Checks as checks
use Rattle.checks_durability.specs.Acknowledged as acknowledged
use Rattle.model.specs.Simulation as simulation
use Rattle.model.specs.Calls as calls
use Rattle.model.specs.Reads as reads
use Rattle.model.specs.Fits as fits
use Rattle.model.specs.Outcome as outcome
use Rattle.answers.specs.Numbers as numbers
use Rattle.runs.specs.Trace as trace

-- Tests and lists.
unfoldable pub listed : Unit {0}
unfolding ◌and◌ lists.modify lists.list_from lists.at lists.same_list order.below order.not_below order.chain order.insert_by order.push_by order.remove_by order.lookup
listed = tt

-- Bytes and commands, the generator and its streams.
unfoldable pub drawn : Unit {0}
unfolding types.payload_of types.same_payload words.le words.bytes_of client.encode client.decode rng.mix rng.next_u64 rng.under seeds.tag seeds.stream_seed seeds.stream_rng
drawn = tt

-- Settings and limits.
unfoldable pub configured : Unit {0}
unfolding questions.first_no config.validate config.accepts limits.within limits.servers_fit limits.duration_fits limits.durations_fit limits.limits_fit limits.counts_fit limits.settings_fit limits.judge
configured = tt

-- Log, disk and the lengths of records.
unfoldable pub stored : Unit {0}
unfolding log.entry_at log.put_at log.truncate_at log.count log.last_index log.gaps log.removed_by storage.apply_writes storage.unsynced_bytes storage.written storage.write storage.sync storage.crash postcard.varint_in postcard.varint postcard.option postcard.payload postcard.hard_state_record postcard.put_record postcard.truncate_record postcard.framed postcard.record_bytes
stored = tt

-- Network, metrics, queue and leader.
unfoldable pub sent : Unit {0}
unfolding faults.fault_of faults.in_cluster faults.groups_in network.delay network.chance network.link network.delivered network.route network.any_from network.elsewhere network.separated network.partition network.link_within network.links_within network.network_in_range metrics.add metrics.record_send metrics.deliver_to_leader metrics.record_sync metrics.record_reply metrics.totals_fit metrics.counters_fit metrics.none_counted metrics.metrics_fit queue.push range.message_room range.in_order leader.better leader.leader_from leader.leader
sent = tt

-- The checks.
unfoldable pub checked : Unit {0}
unfolding checks.report checks.on_apply checks.on_write checks.on_writes checks.first_missing checks.check_leader_completeness checks.on_status checks.mismatch_from checks.log_matching_failure checks.check_against checks.check_log_matching checks.check_acknowledged checks.highest_of checks.check_applied_up_to checks.check_durability acknowledged.acknowledged_from
checked = tt

-- What happens in a simulation.
unfoldable pub simulated : Unit {0}
unfolding simulation.start_server simulation.stop_server simulation.restart_server simulation.first_sends simulation.construct_from simulation.heal_from simulation.reported_from simulation.apply_fault simulation.client_attempt simulation.client_send simulation.client_arrive simulation.client_redirect simulation.client_timeout simulation.client_reply simulation.deliver simulation.process simulation.draw_targets simulation.spread_starts simulation.new_servers simulation.unstarted simulation.begin simulation.write_at simulation.cut_input simulation.sync_input simulation.send simulation.set_timer simulation.cancel_timer simulation.apply simulation.confirm simulation.end_input
simulated = tt

-- The calls.
unfoldable pub called : Unit {0}
unfolding calls.start calls.step calls.propose calls.fire_timer calls.confirm_leadership calls.groups_word calls.fault_given calls.schedule calls.write_hard_state_call calls.write_put_call calls.write_truncate_call calls.sealed calls.seal calls.output_send calls.output_set_timer calls.output_cancel_timer calls.output_apply calls.output_confirmed calls.output_lost calls.end calls.logs_from calls.check_log_matching_call calls.applied_from calls.check_durability_call
called = tt

-- The reads.
unfoldable pub read : Unit {0}
unfolding reads.read_status reads.read_hard_state reads.read_log reads.read_entry reads.read_leader reads.read_applied reads.read_applied_entry reads.read_metrics reads.read_sent_by reads.read_reply reads.read_confirmation reads.read_violation reads.discarded_by reads.read_run reads.read_settings
read = tt

-- Question 10, and the comparison of answers.
unfoldable pub compared : Unit {0}
unfolding fits.state_fits outcome.write_outcome outcome.output_outcome outcome.read_outcome outcome.outcome outcome.finish numbers.reading_numbers numbers.numbers_of numbers.reading_bytes numbers.bytes_of trace.is trace.differs
compared = tt

-- All of it.
unfoldable pub everything : Unit {0}
unfolding listed drawn configured stored sent checked simulated called read compared
everything = tt
