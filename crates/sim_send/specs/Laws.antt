-- What the proofs of the functions by value and of the questions cite. Assumes nothing.
use Rattle.std.specs.Prelude.{◌≡◌, refl, Bool, true, false, ◌&&◌, List, ℕ, ◌+◌, ◌^◌, ◌≤◌, leb, ltb, length, Option, None, Some}
use Rattle.std.proofs.Common.{sym, ap, ap₂, subst, ◌∙◌, arith, Fits, leb-true, ltb-true}
use Rattle.std.specs.Int.{w64}
use Rattle.laws.specs.Bools.{◌and◌, first_true, second_true}
use Rattle.laws.proofs.BoolLaws.{code_and}
use Rattle.units.specs.declared.Duration.{Duration}
use Rattle.network.specs.declared.Route.{Route}
use Rattle.network.specs.declared.Route.TheVariants.{Dropped, Delivered}
use Rattle.faults.specs.Fault as faults
use Rattle.state.specs.declared.Capacity.{Capacity}
use Rattle.state.specs.Fitting.{area_fits}
use Rattle.state.specs.FitsBy.{server_count}
use Rattle.sim_outputs.specs.declared.Sum.{Sum}
use Rattle.sim_outputs.specs.declared.Sender.{Sender}
use Rattle.sim_outputs.specs.Outputs.{Passed, sends, IsSender, asks_code, Sums}
use Rattle.sim_outputs.specs.Laws.{ready_is, slot_is, second_yes, third_yes}
use Rattle.sim_send.specs.declared.SendAsked.{SendAsked}
use Rattle.sim_send.specs.declared.Mail.{Mail}
use Rattle.sim_send.specs.declared.Mail.TheVariants as mail
use Rattle.sim_send.specs.declared.MailPlan.{MailPlan}
use Rattle.sim_send.specs.Sends.{send_code, from_of, AsksSend, Between, mail_of, mail_fits, mail_count, MailPlanned, ten_if}

-- ---- the questions

pub from_fits : (b : List ℕ) (F : Capacity) (d : Sender) → Passed b F → IsSender b F d → Fits w64 (d.slot + 1)
from_fits b F d o p = record { fits = omega (arith, p.below, o.inside.within.limits.servers) }

pub send_asked : (b : List ℕ) (F : Capacity) (to size entries : ℕ) (d : Sender) (c : ℕ) → Passed b F → IsSender b F d
    → c ≡ asks_code 7 9 d.ready (leb 1 to && leb to F.servers) (leb size F.limits.message && ltb entries 4294967296)
    → AsksSend b F to size entries (record { code = c; from = d.slot + 1 })
unfolding send_code from_of faults.in_cluster
send_asked b F to size entries d c o pd ec =
    let here : c ≡ 0 → (leb 1 to && leb to F.servers) ≡ true = λ z. second_yes 7 9 _ _ _ (sym ec ∙ z) (omega arith) in
    let args : c ≡ 0 → (leb size F.limits.message && ltb entries 4294967296) ≡ true = λ z. third_yes 7 9 _ _ _ (sym ec ∙ z) (omega arith) (omega arith) in
    record {
      code = record {
        to = λ s h ef.
            ec
            ∙ ap₂ (λ (x y : Bool). asks_code 7 9 d.ready x y) (code_and (leb 1 to) (leb to F.servers)) (code_and (leb size F.limits.message) (ltb entries 4294967296))
            ∙ ap₂ (λ (x : Bool) (n : ℕ). asks_code 7 9 x (leb 1 to and leb to n) (leb size F.limits.message and ltb entries (2 ^ 32))) (ready_is pd h ef)
            (ap (λ (G : Capacity). G.servers) ef ∙ sym (server_count s (area_fits h)))
            ∙ ap (λ (G : Capacity). asks_code 7 9 (sends s.phase) (leb 1 to and leb to (length s.servers)) (leb size G.limits.message and ltb entries (2 ^ 32))) ef;
      };
      sender = record { to = λ s h ef. ap (λ (k : ℕ). k + 1) (slot_is pd h ef) };
      from_low = omega arith;
      from_most = omega (arith, pd.below);
      to_low = λ z. leb-true _ _ (first_true (leb 1 to) (leb to F.servers) (here z));
      to_most = λ z. leb-true _ _ (second_true (leb 1 to) (leb to F.servers) (here z));
      short = λ z. leb-true _ _ (first_true (leb size F.limits.message) (ltb entries 4294967296) (args z));
      few = λ z. ltb-true _ _ (second_true (leb size F.limits.message) (ltb entries 4294967296) (args z));
      servers = o.inside.within.limits.servers;
    }

pub between_asked : (b : List ℕ) (F : Capacity) (to size entries : ℕ) (r : SendAsked) → AsksSend b F to size entries r → r.code ≤ 0 → Between r.from to
between_asked b F to size entries r q l =
    let z : r.code ≡ 0 = omega arith in
    record {
      from_low = q.from_low;
      from_most = omega (arith, q.from_most, q.servers);
      to_low = q.to_low z;
      to_most = omega (arith, q.to_most z, q.servers);
    }

pub short_asked : (b : List ℕ) (F : Capacity) (to size entries : ℕ) (r : SendAsked) → AsksSend b F to size entries r → r.code ≤ 0 → size ≤ F.limits.message
short_asked b F to size entries r q l = q.short (let z : r.code ≡ 0 = omega arith in z)

-- ---- mail

pub mail_dropped : (now : ℕ) (r : Route) → r ≡ Dropped → MailPlanned now r (record { fits = true; mail = mail.Dropped })
unfolding mail_of mail_fits
mail_dropped now r e = subst (λ (x : Route). MailPlanned now x (record { fits = true; mail = mail.Dropped })) (sym e) (record { fits = refl; mail = λ t. refl })

pub mail_passed : (now : ℕ) (r : Route) (d : Duration) (dup : Option Duration) (p : MailPlan) → r ≡ Delivered d dup → MailPlanned now (Delivered d dup) p → MailPlanned now r p
mail_passed now r d dup p e h = subst (λ (x : Route). MailPlanned now x p) (sym e) h

pub mail_single : (now : ℕ) (d : Duration) (dup : Option Duration) (a : Sum) → Sums now d.0 a → dup ≡ None → MailPlanned now (Delivered d dup) (record { fits = a.fits; mail = mail.Once a.value })
unfolding mail_of mail_fits
mail_single now d dup a p n =
    subst (λ (x : Option Duration). MailPlanned now (Delivered d x) (record { fits = a.fits; mail = mail.Once a.value })) (sym n)
    (record { fits = p.fits; mail = λ t. ap mail.Once (p.value t) })

pub mail_double : (now : ℕ) (d c : Duration) (dup : Option Duration) (a b : Sum) → Sums now d.0 a → dup ≡ Some c → Sums now c.0 b
    → MailPlanned now (Delivered d dup) (record { fits = a.fits && b.fits; mail = mail.Twice a.value b.value })
unfolding mail_of mail_fits
mail_double now d c dup a b p n q =
    subst (λ (x : Option Duration). MailPlanned now (Delivered d x) (record { fits = a.fits && b.fits; mail = mail.Twice a.value b.value })) (sym n)
    (record {
      fits = code_and a.fits b.fits ∙ ap₂ (λ (x y : Bool). x and y) p.fits q.fits;
      mail = λ t. ap₂ mail.Twice (p.value (first_true a.fits b.fits t)) (q.value (second_true a.fits b.fits t));
    })

pub count_none : (m : Mail) → m ≡ mail.Dropped → ◌≡◌ {A = ℕ} 0 (mail_count m)
unfolding mail_count
count_none m e = ap mail_count (sym e)

pub count_once : (m : Mail) (at : ℕ) → m ≡ mail.Once at → ◌≡◌ {A = ℕ} 1 (mail_count m)
unfolding mail_count
count_once m at e = ap mail_count (sym e)

pub count_twice : (m : Mail) (at copy : ℕ) → m ≡ mail.Twice at copy → ◌≡◌ {A = ℕ} 2 (mail_count m)
unfolding mail_count
count_twice m at copy e = ap mail_count (sym e)

-- ---- question 10's number

pub ten_yes : (t : Bool) → t ≡ true → ◌≡◌ {A = ℕ} 0 (ten_if t)
unfolding ten_if
ten_yes t e = ap ten_if (sym e)

pub ten_no : (t : Bool) → t ≡ false → ◌≡◌ {A = ℕ} 10 (ten_if t)
unfolding ten_if
ten_no t e = ap ten_if (sym e)

pub none_ten : (t : Bool) → ten_if t ≡ 0 → t ≡ true
unfolding ten_if
none_ten true e = refl
none_ten false e = absurd (omega arith)
