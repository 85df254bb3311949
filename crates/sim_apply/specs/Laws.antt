-- What the proofs of the questions cite. Assumes nothing.
use Rattle.std.specs.Prelude.{◌≡◌, refl, Bool, true, false, not, ◌&&◌, List, ℕ, zero, suc, ◌*◌, ◌≤◌, leb, eqb}
use Rattle.std.proofs.Common.{sym, ap, ap₂, ◌∙◌, arith, ne_eqb, leb-true}
use Rattle.laws.specs.Bools.{pick, ◌and◌, and_left}
use Rattle.laws.proofs.BoolLaws.{and_right, true_and, code_and}
use Rattle.laws.specs.Decides.{false_true}
use Rattle.model.specs.Calls.{is_flag}
use Rattle.state.specs.declared.Capacity.{Capacity}
use Rattle.sim_outputs.specs.declared.Sender.{Sender}
use Rattle.sim_outputs.specs.Outputs.{Passed, sends, IsSender, asks_code}
use Rattle.sim_outputs.specs.Laws.{ready_is, slot_is, second_yes, third_yes}
use Rattle.sim_apply.specs.Applies.{is_payload_of, apply_code, AsksApply}
use Rattle.state_header.specs.Header.{open_slot}

-- ---- a payload by its kind and size

pub noop_is : (kind size limit : ℕ) → kind ≡ 0 → leb size 0 ≡ is_payload_of kind size limit
unfolding is_payload_of
noop_is kind size limit e = sym (ap (λ (k : ℕ). is_flag k and leb size (pick (eqb k 0) 0 limit)) e ∙ true_and (leb size 0))

pub command_is : (kind size limit : ℕ) → (kind ≡ 0 → ⊥) → (leb kind 1 && leb size limit) ≡ is_payload_of kind size limit
unfolding is_payload_of
command_is kind size limit n = code_and (leb kind 1) (leb size limit) ∙ ap (λ (t : Bool). leb kind 1 and leb size (pick t 0 limit)) (sym (ne_eqb kind 0 n))

payload_kind_lem : (kind size limit : ℕ) → is_payload_of kind size limit ≡ true → kind ≤ 1
unfolding is_payload_of
payload_kind_lem kind size limit t = leb-true kind 1 (and_left _ _ t)

payload_size : (kind size limit : ℕ) → is_payload_of kind size limit ≡ true → size ≤ limit
unfolding is_payload_of
payload_size zero size limit t = omega (arith, leb-true size 0 (and_right _ _ t))
payload_size (suc kind) size limit t =
    leb-true size limit (ap (λ (u : Bool). leb size (pick u 0 limit)) (sym (ne_eqb (suc kind) 0 (λ e. omega arith))) ∙ and_right _ _ t)

payload_noop : (kind size limit : ℕ) → limit ≤ 256 → is_payload_of kind size limit ≡ true → size ≤ 256 * kind
unfolding is_payload_of
payload_noop zero size limit l t = omega (arith, leb-true size 0 (and_right _ _ t))
payload_noop (suc kind) size limit l t = omega (arith, payload_size (suc kind) size limit t)

-- ---- the questions before question 10

pub apply_asked : (b : List ℕ) (F : Capacity) (index kind size : ℕ) (d : Sender) (args : Bool) (c : ℕ) → Passed b F → IsSender b F d → args ≡ is_payload_of kind size F.limits.payload
    → c ≡ asks_code 8 9 d.ready (leb index F.limits.log_indexes) args → AsksApply b F index kind size (record { code = c; slot = d.slot })
unfolding apply_code open_slot
apply_asked b F index kind size d args c o pd ea ec =
    let good : c ≡ 0 → is_payload_of kind size F.limits.payload ≡ true = λ z. sym ea ∙ third_yes 8 9 _ _ _ (sym ec ∙ z) (omega arith) (omega arith) in
    record {
      code = record {
        to = λ s h ef.
            ec ∙ ap₂ (λ (x y : Bool). asks_code 8 9 x (leb index F.limits.log_indexes) y) (ready_is pd h ef) ea
            ∙ ap (λ (G : Capacity). asks_code 8 9 (sends s.phase) (leb index G.limits.log_indexes) (is_payload_of kind size G.limits.payload)) ef;
      };
      slot = record { to = λ s h ef. slot_is pd h ef };
      below = pd.below;
      within = λ z. leb-true index F.limits.log_indexes (second_yes 8 9 _ _ _ (sym ec ∙ z) (omega arith));
      kind_most = λ z. payload_kind_lem kind size F.limits.payload (good z);
      noop_most = λ z. payload_noop kind size F.limits.payload o.inside.within.limits.payload (good z);
      size_most = λ z. payload_size kind size F.limits.payload (good z);
    }
