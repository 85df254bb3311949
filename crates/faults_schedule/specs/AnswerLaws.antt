-- What the proof of `chaos_schedule` cites. Assumes nothing.
use Rattle.std.specs.Prelude.{◌≡◌, refl, List, ℕ, length, Result, Ok, Err}
use Rattle.std.proofs.Common.{sym, ◌∙◌, ap}
use Rattle.units.specs.declared.refusal.Refusal.{Refusal}
use Rattle.rng.specs.declared.Rng.{Rng}
use Rattle.faults_chaos.specs.declared.Timed.{Timed}
use Rattle.faults_chaos.specs.declared.Draws.{Draws}
use Rattle.faults_chaos.specs.Schedule.{Chaos}
use Rattle.faults_chaos.specs.Answers.{over, summary}
use Rattle.faults_schedule.specs.Schedules.{answer_of, list_after, generator_after, Accepted, Schedules}

-- refused: the plan is what the schedule answers
pub refuses : (c : Chaos) (p : Result (Draws ℕ) Refusal) (r : Refusal) (b : List ℕ) (g : Rng) → p ≡ summary c → p ≡ Err r
    → Schedules c (Err r) b b g g
unfolding summary answer_of list_after generator_after
refuses (Err q) p r b g e h = let same : r ≡ q = cc in record { answer = ap Err same; list = refl; generator = refl }
refuses (Ok s) p r b g e h = cc

-- made: the list is written, and the generator moved
module _ (c : Chaos) (p : Result (Draws ℕ) Refusal) (d : Draws ℕ) (e : p ≡ summary c) (h : p ≡ Ok d) where
  pub accepts : Accepted c
  unfolding summary
  accepts = by c e
    where
      by : (c : Chaos) → p ≡ summary c → Accepted c
      by (Err q) k = cc
      by (Ok s) k = record { schedule = s; is = refl }

  counted : (s : Draws (List Timed)) → c ≡ Ok s → d ≡ over length s
  unfolding summary
  counted s i = let k : Ok d ≡ summary (Ok s) = sym h ∙ e ∙ ap summary i in cc

  pub makes : (b b' : List ℕ) (g : Rng) → b' ≡ list_after c b
      → Schedules c (Ok (record { count = d.result; draws = d.draws })) b b' g d.next
  unfolding answer_of generator_after
  makes b b' g k =
      let s = accepts.schedule in
      let i : c ≡ Ok s = accepts.is in
      let q : d ≡ over length s = counted s i in
      record {
        answer = ap (λ (x : Draws ℕ). Ok (record { count = x.result; draws = x.draws })) q ∙ ap answer_of (sym i);
        list = k;
        generator = ap (λ (x : Draws ℕ). x.next) q ∙ ap (λ (x : Chaos). generator_after x g) (sym i);
      }
