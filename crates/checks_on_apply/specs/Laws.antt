-- What the proofs of lib.rt cite. Assumes nothing.
use Rattle.std.specs.Prelude.{◌≡◌, refl, Bool, true, false, not, List, [], ◌∷◌, ℕ, ◌+◌, eqb, length}
use Rattle.std.proofs.Common.{sym, ap, ap₂, ◌∙◌, arith, length-append}
use Rattle.laws.specs.Bools.{pick, ◌and◌}
use Rattle.laws.specs.Lists.{at}
use Rattle.units.specs.Types.{Payload, noop, same_payload}
use Rattle.std.specs.declared.result.Result.{Result}
use Rattle.units.specs.declared.refusal.Refusal.{Refusal}
use Rattle.units.specs.declared.NodeId.{NodeId}
use Rattle.units.specs.declared.LogIndex.{LogIndex}
use Rattle.units.specs.declared.SimTime.{SimTime}
use Rattle.layout.specs.TableLaws.{held_rows}
use Rattle.checks.specs.declared.Check.TheVariants.{ApplyOrder, StateMachineSafety}
use Rattle.checks.specs.declared.applied.AppliedSeen.{AppliedSeen}
use Rattle.checks.specs.Checks.{Checker, report_if, on_apply}
use Rattle.checks.specs.Reports.{total_if, applied_if_lem}
use Rattle.checks.specs.Asked.{counts_code, where_fits, append_if}
use Rattle.checks.specs.Applied.{is_other, is_next, applied_seen, applied_after, AsksApplied}
use Rattle.checks.specs.AppliedLaws.{applied_after_lem}
use Rattle.checks_on_apply.specs.declared.ApplyAsked.{ApplyAsked}
use Rattle.checks_on_apply.specs.OnApply.{ApplyGiven, apply_acts, AsksApply}

-- ---- what the acts leave

module _ (r : ApplyAsked) (index : LogIndex) (expected : ℕ) (c : Checker) (time : SimTime) (server : NodeId) (x : Payload) where
  abbrev late : List ℕ
  late = server.0 ∷ index.0 ∷ expected ∷ []

  abbrev other : List ℕ
  other = server.0 ∷ index.0 ∷ []

  abbrev ordered : Checker
  ordered = report_if r.late c time ApplyOrder late

  append_rows : (t : Bool) (d : Checker) → length (append_if t x d).applied ≡ length d.applied + pick t 1 0
  append_rows true d = simp length-append
  append_rows false d = omega arith

  append_total : (t : Bool) (d : Checker) → (append_if t x d).total ≡ d.total
  append_total true d = refl
  append_total false d = refl

  acts_rows : length (apply_acts r index expected c time server x).applied ≡ length c.applied + pick r.next 1 0
  acts_rows =
      append_rows r.next (report_if r.other ordered time StateMachineSafety other)
      ∙ ap (λ (y : List Payload). length y + pick r.next 1 0) (applied_if_lem r.other ordered time StateMachineSafety other
      ∙ applied_if_lem r.late c time ApplyOrder late)

  acts_total : (apply_acts r index expected c time server x).total ≡ c.total + (pick r.late 1 0 + pick r.other 1 0)
  acts_total =
      omega (
        arith,
        append_total r.next (report_if r.other ordered time StateMachineSafety other),
        total_if
            r.other ordered time StateMachineSafety other,
        total_if r.late c time ApplyOrder late,
      )

-- ---- on_apply

pub apply_asked : {g : ApplyGiven} {seen : AppliedSeen} {other next : Bool} {one two three : ℕ} {room : Result (Unit {0}) Refusal}
    → AsksApplied g.longest g.index g.content g.count seen g.applied → other ≡ is_other seen → next ≡ is_next seen
    → one ≡ pick next 1 0 → two ≡ pick (not (eqb g.index.0 g.expected)) 1 0 → three ≡ pick other 1 0
    → room ≡ where_fits (g.count + one) g.room (g.total + (two + three)) tt
    → AsksApply g (record { room = room; late = not (eqb g.index.0 g.expected); other = other; next = next })
unfolding on_apply
apply_asked {g} {seen} {other} {next} {one} {two} {three} {room} q eo en e₁ e₂ e₃ er = record {
  to = λ N c time server x k h t.
      let index : LogIndex = g.index in
      let late : Bool = not (eqb index.0 g.expected) in
      let detail : List ℕ = server.0 ∷ index.0 ∷ g.expected ∷ [] in
      let r : ApplyAsked = record { room = room; late = late; other = other; next = next } in
      let ordered : Checker = report_if late c time ApplyOrder detail in
      let es : applied_seen ordered.applied index.0 x ≡ seen =
      ap (λ (y : List Payload). applied_seen y index.0 x) (applied_if_lem late c time ApplyOrder detail) ∙ sym (q.to N c.applied x k h) in
      let d : on_apply c time server index x g.expected ≡ apply_acts r index g.expected c time server x =
      applied_after_lem ordered time server x index.0 ∙ ap (λ (s : AppliedSeen). applied_after s ordered time server index.0 x) es
      ∙ ap₂ (λ (a b : Bool). append_if a x (report_if b ordered time StateMachineSafety (server.0 ∷ index.0 ∷ []))) (sym en) (sym eo) in
      let rows : g.count + one ≡ length (on_apply c time server index x g.expected).applied =
      omega (arith, e₁, (held_rows h).count, acts_rows r index g.expected c time server x, ap (λ (y : Checker). length y.applied) d) in
      let sum : g.total + (two + three) ≡ (on_apply c time server index x g.expected).total =
      omega (arith, e₂, e₃, t, acts_total r index g.expected c time server x, ap (λ (y : Checker). y.total) d) in
      record { room = er ∙ ap₂ (λ (y z : ℕ). where_fits y g.room z tt) rows sum; does = d };
}

-- ---- a full table and a payload that is there: no row is added, so it is accepted

abbrev full : Checker
full = record { leaders = []; applied = noop ∷ []; entries = []; violations = []; total = 0 }

abbrev again : Checker
again = on_apply full (record { 0 = 7 }) (record { 0 = 1 }) (record { 0 = 1 }) noop 1

again_accepted : counts_code (length again.applied) 1 again.total ≡ 0
unfolding counts_code on_apply ◌and◌ at same_payload
again_accepted = refl

-- one more is refused
abbrev more : Checker
more = on_apply full (record { 0 = 7 }) (record { 0 = 1 }) (record { 0 = 2 }) noop 2

more_refused : counts_code (length more.applied) 1 more.total ≡ 10
unfolding counts_code on_apply ◌and◌ at same_payload
more_refused = refl
