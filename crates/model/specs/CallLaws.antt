-- The calls' readings of numbers and bytes are the modules' own: timers and roles as `protocol` reads them, payloads as they lie in
-- words; and the faults that are scheduled are in range. Assumes nothing.
use Rattle.std.specs.Prelude.{◌≡◌, refl, Bool, true, false, List, [], ◌∷◌, ℕ, zero, suc, ◌+◌, ◌*◌, ◌/◌, ◌%◌, ◌^◌, ◌≤◌, ◌<◌, leb, ltb, eqb, length, None, Some}
use Rattle.std.proofs.Common.{sym, ap, ◌∙◌, subst, pow-suc, div-lt_iff_lt-mul, arith, pow_pos, pow_mono, lt-ltb, le-leb, eq-eqb, ne_eqb, ltb-true, leb-true, leb-false, eqb-true}
use Rattle.std.proofs.Math.Nat.{pow-zero, pow-le-pow_right}
use Rattle.laws.specs.Bools.{pick, cases, ◌and◌, every, and_left}
use Rattle.laws.proofs.BoolLaws.{and_right, and_both}
use Rattle.laws.specs.Decides.{false_true}
use Rattle.laws.specs.Kinds.{kind_of}
use Rattle.units.specs.Types.{noop, command, payload_of}
use Rattle.layout.specs.Marked.{is_byte}
use Rattle.layout.specs.Payload.{payload}
use Rattle.protocol.specs.Numbers as protocol
use Rattle.faults.specs.Fault as faults
use Rattle.faults.specs.Fault.{fault_of, groups_in, fault_in_range, within_limits}
use Rattle.faults.specs.declared.Fault.{Fault}
use Rattle.faults.specs.declared.Fault.TheVariants.{Partition}
use Rattle.model.specs.State.{State}
use Rattle.model.specs.Calls.{is_flag, timer_of, role_of, is_payload, groups_word, fault_given, targets_known, members_known}
use Rattle.model.specs.FitsLaws.{payload_fits}

-- ---- timers and roles

pub timer_known : (n : ℕ) → is_flag n ≡ true → protocol.timer_of n ≡ Some (timer_of n)
unfolding protocol.timer_of kind_of
timer_known zero h = refl
timer_known (suc zero) h = refl
timer_known (suc (suc n)) h = absurd (omega (arith, leb-true (suc (suc n)) 1 h))

pub timer_unknown : (n : ℕ) → is_flag n ≡ false → protocol.timer_of n ≡ None
unfolding protocol.timer_of kind_of
timer_unknown n h =
    let l = leb-false n 1 h in
    rw (ne_eqb n 0 (λ e. omega (arith, l)), ne_eqb n 1 (λ e. omega (arith, l))) refl

pub role_known : (n : ℕ) → leb n 2 ≡ true → protocol.role_of n ≡ Some (role_of n)
unfolding protocol.role_of kind_of
role_known zero h = refl
role_known (suc zero) h = refl
role_known (suc (suc zero)) h = refl
role_known (suc (suc (suc n))) h = absurd (omega (arith, leb-true (suc (suc (suc n))) 2 h))

pub role_unknown : (n : ℕ) → leb n 2 ≡ false → protocol.role_of n ≡ None
unfolding protocol.role_of kind_of
role_unknown n h =
    let l = leb-false n 2 h in
    rw (ne_eqb n 0 (λ e. omega (arith, l)), ne_eqb n 1 (λ e. omega (arith, l)), ne_eqb n 2 (λ e. omega (arith, l))) refl

-- ---- payloads

pub payload_taken : (s : State) (kind : ℕ) (bytes : List ℕ) → s.limits.payload ≤ 256 → every is_byte bytes ≡ true
    → is_payload s kind bytes ≡ true
    → (payload s.limits.payload).good (payload_of kind bytes) ≡ true
unfolding payload_of
payload_taken s kind bytes p b h = by (eqb kind 0) (and_right _ _ h)
  where
    by : (t : Bool) → leb (length bytes) (pick t 0 s.limits.payload) ≡ true
        → (payload s.limits.payload).good (pick t noop (command bytes)) ≡ true
    by true l = and_both _ _ (lt-ltb 1 (2 ^ 64) (omega arith)) (and_both _ _ (le-leb 0 s.limits.payload (omega arith)) refl)
    by false l = payload_fits s.limits.payload bytes p (leb-true _ _ l) b

-- ---- faults

no_members : (S n : ℕ) → groups_in n 0 S ≡ true
unfolding groups_in
no_members S zero = refl
no_members S (suc n) =
    let low : 0 / 2 ^ S < 1 = (div-lt_iff_lt-mul (pow_pos S)).1 (omega (arith, pow_pos S)) in
    and_both _ _ (eq-eqb (0 / 2 ^ S) 0 (omega arith)) (no_members S n)

-- groups of members in the cluster are the groups of a word in range
pub members_known_lem : (S n : ℕ) (groups : List ℕ) → S ≤ 8 → every (λ (g : ℕ). ltb g (2 ^ S)) groups ≡ true
    → groups_in n (groups_word groups) S ≡ true
unfolding groups_in groups_word
members_known_lem S n [] h e = no_members S n
members_known_lem S zero (g ∷ groups) h e = refl
members_known_lem S (suc n) (g ∷ groups) h e =
    let w : ℕ = groups_word groups in
    let low : g < 2 ^ S = ltb-true g (2 ^ S) (and_left _ _ e) in
    let byte : 2 ^ S ≤ 2 ^ 8 = pow_mono {j = 8} h in
    let first : (g + 256 * w) % 256 ≡ g = omega arith in
    let rest : (g + 256 * w) / 256 ≡ w = omega arith in
    let none : g / 2 ^ S < 1 = (div-lt_iff_lt-mul (pow_pos S)).1 (omega arith) in
    and_both _ _ (eq-eqb ((g + 256 * w) % 256 / 2 ^ S) 0 (ap (λ (x : ℕ). x / 2 ^ S) first ∙ (let z : g / 2 ^ S ≡ 0 = omega arith in z)))
    (ap (λ (x : ℕ). groups_in n x S) rest ∙ members_known_lem S n groups h (and_right _ _ e))

-- the word of up to 8 groups of a byte each has 64 bits
word_below : (groups : List ℕ) → every is_byte groups ≡ true → groups_word groups < 256 ^ length groups
unfolding groups_word
word_below [] h = omega (arith, pow-zero 256)
word_below (g ∷ groups) h = omega (arith, ltb-true g 256 (and_left _ _ h), word_below groups (and_right _ _ h), pow-suc 256 (length groups))

pub groups_word_fits : (groups : List ℕ) → every is_byte groups ≡ true → length groups ≤ 8 → groups_word groups < 2 ^ 64
groups_word_fits groups b l =
    let most : 256 ^ length groups ≤ 256 ^ 8 = pow-le-pow_right (omega arith) l in
    omega (arith, word_below groups b, most)

-- the fault of kind 4 is a partition
partition_known : (s : State) (kind a b : ℕ) (groups : List ℕ) (f : Fault) → length s.servers ≤ 8
    → fault_given kind a b groups ≡ Some f → kind ≡ 4
    → members_known s groups ≡ true → faults.targets_known (length s.servers) f ≡ true
unfolding fault_given fault_of
partition_known s kind a b groups f h e k m =
    let e' : Some (Partition (groups_word groups)) ≡ Some f = subst (λ (n : ℕ). fault_given n a b groups ≡ Some f) k e in
    let p : Partition (groups_word groups) ≡ f = cc in
    ap (faults.targets_known (length s.servers)) (sym p) ∙ members_known_lem (length s.servers) 8 groups h m

-- a fault that the questions accept is in range
pub fault_in_range_lem : (s : State) (kind a b : ℕ) (groups : List ℕ) (f : Fault) → length s.servers ≤ 8
    → fault_given kind a b groups ≡ Some f
    → pick (eqb kind 4) (members_known s groups) (targets_known s (fault_given kind a b groups)) ≡ true → within_limits f ≡ true
    → fault_in_range (length s.servers) f ≡ true
fault_in_range_lem s kind a b groups f h e t w =
    cases (eqb kind 4)
    (λ k. and_both _ _ (partition_known s kind a b groups f h e (eqb-true kind 4 k) (ap (λ (u : Bool). pick u (members_known s groups)
    (targets_known s (fault_given kind a b groups))) (sym k) ∙ t)) w)
    (λ k. and_both _ _ (sym (ap (targets_known s) e)
    ∙ ap (λ (u : Bool). pick u (members_known s groups) (targets_known s (fault_given kind a b groups))) (sym k) ∙ t) w)
