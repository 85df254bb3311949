-- What an event of a client leaves as it was: settings, limits, the phase, the count of events. Assumes nothing.
use Rattle.std.specs.Prelude.{◌≡◌, refl, true, ◌&&◌, List, [], ℕ, eqb, length, Option, None, Some}
use Rattle.std.proofs.Common.{sym, ap, ◌∙◌}
use Rattle.laws.specs.Bools.{pick_both}
use Rattle.laws.proofs.BoolLaws.{true_and}
use Rattle.laws.specs.Lists.{is_some}
use Rattle.units.specs.declared.LogIndex.{LogIndex}
use Rattle.units.specs.declared.SimTime.{SimTime}
use Rattle.rng.specs.Rng.{under}
use Rattle.config.specs.declared.SimConfig.{SimConfig}
use Rattle.config.specs.declared.Limits.{Limits}
use Rattle.queue.specs.declared.Event.TheVariants as event
use Rattle.model.specs.State.{State, Phase, closed, Outstanding, client_at}
use Rattle.model.specs.Fields.{with_workload, with_phase, with_target}
use Rattle.model.specs.Simulation.{Moved, idle, send_outstanding, client_attempt, client_send, client_redirect, client_timeout, client_reply, follow, known_slot, latest, on_client, take_reply, process}
use Rattle.model.specs.Fits.{state_fits, phase_fits}
use Rattle.state.specs.declared.Capacity.{Capacity}
use Rattle.state.specs.FitsBy.{fits_test}
use Rattle.state.specs.Fitting.{area_fits}
use Rattle.state.specs.Changes.{Changes}
use Rattle.state_header.specs.Header.{phase_set}
use Rattle.state_header.specs.Laws.{fits_phase}
use Rattle.answers.specs.declared.InputNumbers.{InputNumbers}
use Rattle.state_records.specs.Records.{client_set}
use Rattle.sim_clients.specs.ClientEvents.{begun, client_sent, client_retried, client_timed_out}
use Rattle.sim_clients.specs.Redirects.{client_redirected}
use Rattle.sim_clients.specs.Replies.{client_replied}
use Rattle.sim_owed.specs.Servers.{Opens}
use Rattle.sim_owed.specs.Closes.{idle_at}
use Rattle.sim_owed.specs.ServerLaws.{opens_after}
use Rattle.sim_events.specs.Moves.{processed}
use Rattle.units.specs.declared.NodeId.{NodeId}

-- These four parts of a state are so.
pub record Kept (settings : SimConfig) (most : Limits) (at : Phase) (count : ℕ) (x : State) : Type 0 where
  pub config : x.config ≡ settings
  pub limits : x.limits ≡ most
  pub phase : x.phase ≡ at
  pub events : x.events ≡ count

-- x has them as s does.
abbrev pub Keeps : State → State → Type 0
Keeps s x = Kept s.config s.limits s.phase s.events x

pub same : (s : State) → Keeps s s
same s = record { config = refl; limits = refl; phase = refl; events = refl }

keeps_outstanding : (s : State) (c : ℕ) (o : Option Outstanding) (time : SimTime) → Keeps s (send_outstanding s c o time)
keeps_outstanding s c None time = same s
keeps_outstanding s c (Some o) time = record { config = refl; limits = refl; phase = refl; events = refl }

keeps_attempt : (s : State) (c : ℕ) → Keeps s (client_attempt s c)
unfolding client_attempt
keeps_attempt s c = keeps_outstanding _ c (client_at s c).outstanding _

pub keeps_send : (s : State) (c : ℕ) → Keeps s (client_sent c s)
unfolding client_sent client_send begun client_set
keeps_send s c =
    let x : State = client_set c (begun s.now (client_at s c)) s in
    pick_both (λ (y : State). Keeps s y) (is_some (client_at s c).outstanding) {a = s} {b = client_attempt x c} (same s) (keeps_attempt x c)

pub keeps_retry : (s : State) (c attempt : ℕ) → Keeps s (client_retried c attempt s)
unfolding client_retried
keeps_retry s c attempt = pick_both (λ (y : State). Keeps s y) (latest s c attempt) {a = client_attempt s c} {b = s} (keeps_attempt s c) (same s)

pub keeps_timeout : (s : State) (c attempt : ℕ) → Keeps s (client_timed_out c attempt s)
unfolding client_timed_out client_timeout
keeps_timeout s c attempt =
    let d = under s.workload (length s.servers) in
    let x : State = on_client (with_workload s d.next) c (λ k. with_target k d.value) in
    pick_both (λ (y : State). Keeps s y) (latest s c attempt && is_some (client_at s c).outstanding) {a = client_attempt x c} {b = s} (keeps_attempt x c) (same s)

keeps_follow : (s : State) (c attempt : ℕ) (o : Option ℕ) → Keeps s (follow s c attempt o)
keeps_follow s c attempt None = record { config = refl; limits = refl; phase = refl; events = refl }
keeps_follow s c attempt (Some slot) = keeps_attempt (on_client s c (λ k. with_target k slot)) c

pub keeps_redirect : (s : State) (c attempt : ℕ) (hint : Option NodeId) → Keeps s (client_redirected c attempt hint s)
unfolding client_redirected client_redirect
keeps_redirect s c attempt hint =
    let x : State = follow s c attempt (known_slot s hint) in
    pick_both (λ (y : State). Keeps s y) (latest s c attempt && is_some (client_at s c).outstanding) {a = x} {b = s} (keeps_follow s c attempt (known_slot s hint)) (same s)

keeps_taken : (s : State) (c seq : ℕ) (index : LogIndex) (o : Option Outstanding) → Keeps s (take_reply s c seq index o)
keeps_taken s c seq index None = same s
keeps_taken s c seq index (Some o) = pick_both (λ (x : State). Keeps s x) (eqb o.seq seq) (record { config = refl; limits = refl; phase = refl; events = refl }) (same s)

pub keeps_reply : (s : State) (c seq : ℕ) (index : LogIndex) → Keeps s (client_replied c seq index s)
unfolding client_replied client_reply
keeps_reply s c seq index = keeps_taken s c seq index (client_at s c).outstanding

-- ---- the phase

-- a phase that is kept is in range where it was
pub phase_kept : (s x : State) → state_fits s ≡ true → Keeps s x → phase_fits x.config x.limits x.phase ≡ true
phase_kept s x t k =
    ap (λ (a : SimConfig). phase_fits a x.limits x.phase) k.config ∙ ap (λ (a : Limits). phase_fits s.config a x.phase) k.limits
    ∙ ap (phase_fits s.config s.limits) k.phase ∙ fits_test s t 19

pub idle_fits : (s x : State) → state_fits s ≡ true → Keeps s x → state_fits (with_phase x closed) ≡ state_fits x
unfolding phase_set
idle_fits s x t k = fits_phase x closed (phase_kept s x t k) ∙ true_and (state_fits x)

-- a client's event, and the phase closed
client_moved : {b b₁ b₂ : List ℕ} {F : Capacity} {r : InputNumbers} (op : State → State) (whole : State → Moved) → ((s : State) → idle (op s) ≡ whole s) → ((s : State) → Keeps s (op s))
    → Changes b b₁ F op → Opens b₁ b₂ F r idle_at → Opens b b₂ F r whole
unfolding idle_at
client_moved op whole is keeps p q =
    opens_after op idle_at whole p q
    (λ s a ef t. (is s, sym (idle_fits s (op s) (area_fits a) (keeps s)) ∙ ap (λ (m : Moved). state_fits m.state) (is s) ∙ t))

module _ (b b₁ b₂ : List ℕ) (F : Capacity) (r : InputNumbers) (c : ℕ) where
  pub send_moved : Changes b b₁ F (client_sent c) → Opens b₁ b₂ F r idle_at → Opens b b₂ F r (processed (event.ClientSend c) [])
  unfolding processed process client_sent
  send_moved p q = client_moved (client_sent c) (processed (event.ClientSend c) []) (λ s. refl) (λ s. keeps_send s c) p q

  pub redirect_moved : (attempt : ℕ) (hint : Option NodeId) → Changes b b₁ F (client_redirected c attempt hint) → Opens b₁ b₂ F r idle_at → Opens b b₂ F r (processed (event.ClientRedirect c attempt hint) [])
  unfolding processed process client_redirected
  redirect_moved attempt hint p q = client_moved (client_redirected c attempt hint) (processed (event.ClientRedirect c attempt hint) []) (λ s. refl) (λ s. keeps_redirect s c attempt hint) p q

  pub retry_moved : (attempt : ℕ) → Changes b b₁ F (client_retried c attempt) → Opens b₁ b₂ F r idle_at → Opens b b₂ F r (processed (event.ClientRetry c attempt) [])
  unfolding processed process client_retried
  retry_moved attempt p q = client_moved (client_retried c attempt) (processed (event.ClientRetry c attempt) []) (λ s. refl) (λ s. keeps_retry s c attempt) p q

  pub reply_moved : (seq : ℕ) (index : LogIndex) → Changes b b₁ F (client_replied c seq index) → Opens b₁ b₂ F r idle_at → Opens b b₂ F r (processed (event.ClientReply c seq index) [])
  unfolding processed process client_replied
  reply_moved seq index p q = client_moved (client_replied c seq index) (processed (event.ClientReply c seq index) []) (λ s. refl) (λ s. keeps_reply s c seq index) p q

  pub timeout_moved : (attempt : ℕ) → Changes b b₁ F (client_timed_out c attempt) → Opens b₁ b₂ F r idle_at → Opens b b₂ F r (processed (event.ClientTimeout c attempt) [])
  unfolding processed process client_timed_out
  timeout_moved attempt p q = client_moved (client_timed_out c attempt) (processed (event.ClientTimeout c attempt) []) (λ s. refl) (λ s. keeps_timeout s c attempt) p q
