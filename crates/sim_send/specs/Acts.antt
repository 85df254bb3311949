-- What the proofs of the writes cite. Assumes nothing.
use Rattle.std.specs.Prelude.{◌≡◌, true, List, ℕ, Option}
use Rattle.std.proofs.Common.{sym, ap, ◌∙◌}
use Rattle.std.proofs.Math.Path.{subst}
use Rattle.laws.proofs.BoolLaws.{and_right}
use Rattle.units.specs.declared.NodeId.{NodeId}
use Rattle.network.specs.declared.Network.{Network}
use Rattle.network.specs.declared.Routed.{Routed}
use Rattle.network.specs.Network.{route}
use Rattle.metrics.specs.declared.Metrics.{Metrics}
use Rattle.std.specs.Option.{unwrap_or}
use Rattle.metrics.specs.Metrics.{metrics_fit, counters_fit, record_send, counted, Counting}
use Rattle.metrics.specs.Laws.{counters_fit_lem}
use Rattle.model.specs.State.{State}
use Rattle.model.specs.Fits.{state_fits}
use Rattle.state.specs.declared.Capacity.{Capacity}
use Rattle.state.specs.Fitting.{area_fits}
use Rattle.state.specs.FitsBy.{fits_test}
use Rattle.state.specs.Changes.{AreaOf, Changes, Reads}
use Rattle.state_header.specs.Header.{network_of, metrics_of, network_set, metrics_set}
use Rattle.state_header.specs.Laws.{fits_metrics, counted_is}
use Rattle.state_queue.specs.Events.{pushed, pushed_all}
use Rattle.state_queue.specs.Fits.{fits_push, fits_push_all}
use Rattle.sim_send.specs.declared.Mail.{Mail}
use Rattle.sim_send.specs.declared.Mail.TheVariants as mail
use Rattle.sim_send.specs.Sends.{send_routed, send_counted, letter, letters, mailed, sent}

pub route_sent : (b b' : List ℕ) (F : Capacity) (from to : ℕ) (n : Network) (r : Routed) → Reads b F n network_of → r ≡ route n (record { 0 = from }) (record { 0 = to })
    → Changes b b' F (network_set r.network) → Changes b b' F (send_routed from to)
unfolding network_of network_set send_routed
route_sent b b' F from to n r pn er k = record {
  to = λ s l h t.
      let e : r.network ≡ (route s.network (record { 0 = from }) (record { 0 = to })).network =
      ap (λ (x : Routed). x.network) er ∙ ap (λ (x : Network). (route x (record { 0 = from }) (record { 0 = to })).network) (pn.to s h.area h.capacity) in
      subst (λ (x : Network). AreaOf b' l F (network_set x s)) e (k.to s l h (ap (λ (x : Network). state_fits (network_set x s)) e ∙ t));
}

pub count_sent : (b b' : List ℕ) (F : Capacity) (from bytes entries : ℕ) (m : Metrics) (c : Option Metrics) (next : Metrics) → Reads b F m metrics_of
    → Counting (record_send m (record { 0 = from }) bytes entries) c → next ≡ unwrap_or c m → Changes b b' F (metrics_set next)
    → Changes b b' F (send_counted from bytes entries)
unfolding metrics_of metrics_set send_counted
count_sent b b' F from bytes entries m c next pm ec en k = record {
  to = λ s l h t.
      let new : Metrics = record_send s.metrics (record { 0 = from }) bytes entries in
      let fit : counters_fit new ≡ true = counters_fit_lem s.config.servers new (fits_test (send_counted from bytes entries s) t 12) in
      let e : next ≡ new =
      en ∙ ap (λ (x : Option Metrics). unwrap_or x m) ec.value
      ∙ ap (λ (x : Metrics). unwrap_or (counted (record_send x (record { 0 = from }) bytes entries)) x) (pm.to s h.area h.capacity)
      ∙ counted_is s.metrics new fit in
      subst (λ (x : Metrics). AreaOf b' l F (metrics_set x s)) e (k.to s l h (ap (λ (x : Metrics). state_fits (metrics_set x s)) e ∙ t));
}

-- ---- the message pushed

module _ (b : List ℕ) (F : Capacity) (m : Mail) (from to : NodeId) (entries : ℕ) (message : List ℕ) where
  pub mail_none : m ≡ mail.Dropped → Changes b b F (mailed m from to entries message)
  unfolding mailed letters pushed_all
  mail_none e = subst (λ (x : Mail). Changes b b F (mailed x from to entries message)) (sym e) (record { to = λ s l h t. h })

  pub mail_once : (b' : List ℕ) (at : ℕ) → m ≡ mail.Once at → Changes b b' F (pushed (letter from to entries message at)) → Changes b b' F (mailed m from to entries message)
  unfolding mailed letters pushed_all
  mail_once b' at e p = subst (λ (x : Mail). Changes b b' F (mailed x from to entries message)) (sym e) (record { to = λ s l h t. p.to s l h t })

  pub mail_twice : (b₁ b₂ : List ℕ) (at copy : ℕ) → m ≡ mail.Twice at copy → Changes b b₁ F (pushed (letter from to entries message copy)) → Changes b₁ b₂ F (pushed (letter from to entries message at))
      → Changes b b₂ F (mailed m from to entries message)
  unfolding mailed letters pushed_all
  mail_twice b₁ b₂ at copy e p q = subst (λ (x : Mail). Changes b b₂ F (mailed x from to entries message)) (sym e)
      (record {
        to = λ s l h t.
            let s₁ : State = pushed (letter from to entries message copy) s in
            q.to s₁ l (p.to s l h (and_right _ _ (sym (fits_push s₁ (letter from to entries message at)) ∙ t))) t;
      })

-- ---- the three writes

-- a state fits before a message is counted where it fits after
uncounted : (from bytes entries : ℕ) (s : State) → metrics_fit s.config.servers s.metrics ≡ true → state_fits (send_counted from bytes entries s) ≡ true → state_fits s ≡ true
unfolding send_counted metrics_set
uncounted from bytes entries s h t = and_right _ _ (sym (fits_metrics s (record_send s.metrics (record { 0 = from }) bytes entries) h) ∙ t)

routed_metrics : (from to : ℕ) (s : State) → state_fits s ≡ true → metrics_fit (send_routed from to s).config.servers (send_routed from to s).metrics ≡ true
unfolding send_routed
routed_metrics from to s h = fits_test s h 12

pub sent_acts : (b b₁ b₂ b₃ : List ℕ) (F : Capacity) (ml : Mail) (from to bytes entries : ℕ) (message : List ℕ) → Changes b b₁ F (send_routed from to) → Changes b₁ b₂ F (send_counted from bytes entries)
    → Changes b₂ b₃ F (mailed ml (record { 0 = from }) (record { 0 = to }) entries message) → Changes b b₃ F (sent ml from to bytes entries message)
unfolding sent mailed
sent_acts b b₁ b₂ b₃ F ml from to bytes entries message p q r = record {
  to = λ s l h t.
      let s₁ : State = send_routed from to s in
      let s₂ : State = send_counted from bytes entries s₁ in
      let t₂ : state_fits s₂ ≡ true = and_right _ _ (sym (fits_push_all (letters ml (record { 0 = from }) (record { 0 = to }) entries message) s₂) ∙ t) in
      let t₁ : state_fits s₁ ≡ true = uncounted from bytes entries s₁ (routed_metrics from to s (area_fits h.area)) t₂ in
      r.to s₂ l (q.to s₁ l (p.to s l h t₁) t₂) t;
}
