-- The ten numbers of a phase: the code's tests are those of the phase's code. Assumes nothing.
use Rattle.std.specs.Prelude.{◌≡◌, Bool, false, ◌&&◌, List, [], ◌∷◌, get_or, Option, None, Some}
use Rattle.std.proofs.Math.Path.{refl, sym, ap, ap₂}
use Rattle.std.proofs.Common.{◌∙◌, arith, Fits}
use Rattle.std.proofs.Math.Bool.{true}
use Prim.Native.Nat.{ℕ, zero, suc, ◌^◌}
use Rattle.std.proofs.Math.Dec.{eqb, leb, ltb}
use Rattle.std.specs.Int.{w64}
use borrow.Author.Tests.{eq-eqb, ne_eqb, lt-ltb, le-leb, lt-leb}
use Rattle.laws.specs.Bools.{pick, ◌and◌, and_assoc, and_true, no_and}
use Rattle.laws.proofs.BoolLaws.{true_and, and_no, code_and}
use Rattle.laws.specs.Lists.{same_list}
use Rattle.config.specs.declared.SimConfig.{SimConfig}
use Rattle.config.specs.declared.Limits.{Limits}
use Rattle.words.specs.Words.{Fit}
use Rattle.model.specs.State.{Input, Verdict, not_leader, Owed}
use Rattle.model.specs.Fits.{node_fits, input_fits, verdict_fits, owed_fits, phase_fits}
use Rattle.state.specs.declared.OpenInput.{OpenInput}
use Rattle.state.specs.Parts.{phase_tells, phase_words, phase_of, open_in, input_in, input_kind, input_number, verdict_in, verdict_kind, verdict_number, owed_in, owed_kind, owed_slot}
use Rattle.state_gate_blocks.specs.Tests.{eqb_sym, same}
use Rattle.state_gate_header.specs.Header.{input_ok, verdict_ok, owed_ok, open_ok}
use Rattle.units.specs.declared.NodeId.{NodeId}

-- ---- the exits of the code

pub input_client : (C k c s a : ℕ) → k ≡ 4 → ltb c C ≡ input_ok C k c s a
unfolding input_ok
input_client C k c s a e = sym (ap (λ (t : Bool). pick t (ltb c C) (leb k 5 and (eqb c 0 and (eqb s 0 and eqb a 0)))) (eq-eqb k 4 e))

pub input_other : (C k c s a : ℕ) → (k ≡ 4 → ⊥) → (((leb k 5 && eqb c 0) && eqb s 0) && eqb a 0) ≡ input_ok C k c s a
unfolding input_ok
input_other C k c s a e = rw (ne_eqb k 4 e) (simp (code_and, and_assoc))

pub verdict_yes : (i k l : ℕ) → k ≡ 0 → eqb l 0 ≡ verdict_ok i k l
unfolding verdict_ok
verdict_yes i k l e = rw (eq-eqb k 0 e)

pub verdict_no : (i k l : ℕ) → (k ≡ 0 → ⊥) → k ≡ 1 → (eqb l 0 && leb 3 i) ≡ verdict_ok i k l
unfolding verdict_ok
verdict_no i k l n e = rw (ne_eqb k 0 n, eq-eqb k 1 e) (code_and (eqb l 0) (leb 3 i))

pub verdict_named : (i k l : ℕ) → (k ≡ 0 → ⊥) → (k ≡ 1 → ⊥) → (eqb k 2 && leb 3 i) ≡ verdict_ok i k l
unfolding verdict_ok
verdict_named i k l n e = rw (ne_eqb k 0 n, ne_eqb k 1 e) (code_and (eqb k 2) (leb 3 i))

pub owed_nothing : (S k n : ℕ) → k ≡ 0 → eqb n 0 ≡ owed_ok S k n
unfolding owed_ok
owed_nothing S k n e = rw (eq-eqb k 0 e)

pub owed_something : (S k n : ℕ) → (k ≡ 0 → ⊥) → (leb k 2 && leb n S) ≡ owed_ok S k n
unfolding owed_ok
owed_something S k n e = rw (ne_eqb k 0 e) (code_and (leb k 2) (leb n S))

module _ (S C : ℕ) (o : OpenInput) where
  pub open_closed : o.phase ≡ 0
      → ((((((((eqb o.slot 0 && eqb o.input 0) && eqb o.client 0) && eqb o.seq 0) && eqb o.attempt 0) && eqb o.verdict 0) && eqb o.leader 0) && eqb o.owed 0) && eqb o.next 0) ≡ open_ok S C o
  unfolding open_ok
  open_closed e = rw (eq-eqb o.phase 0 e) (simp (code_and, and_assoc))

  module _ (i w : Bool) (ei : i ≡ input_ok C o.input o.client o.seq o.attempt) (ew : w ≡ owed_ok S o.owed o.next) (n : o.phase ≡ 0 → ⊥) where
    pub open_writing : o.phase ≡ 1 → ((((ltb o.slot S && i) && eqb o.verdict 0) && eqb o.leader 0) && w) ≡ open_ok S C o
    unfolding open_ok
    open_writing e = rw (ne_eqb o.phase 0 n, eq-eqb o.phase 1 e, ei, ew) (simp (code_and, and_assoc))

    pub open_sending : (v : Bool) → (o.phase ≡ 1 → ⊥) → v ≡ verdict_ok o.input o.verdict o.leader → ((((eqb o.phase 2 && ltb o.slot S) && i) && v) && w) ≡ open_ok S C o
    unfolding open_ok
    open_sending v e ev = rw (ne_eqb o.phase 0 n, ne_eqb o.phase 1 e, ei, ew, ev) (simp (code_and, and_assoc))

-- ---- the parts of a phase: their words are those that say them, and they are in range

module _ (c : SimConfig) (l : Limits) where
  -- an input
  input_told : (k n s a : ℕ) → Fits w64 s → Fits w64 a
      → ((eqb (input_kind (input_in k n s a)) k and (eqb (input_number (λ x y z. x) (input_in k n s a)) n and (eqb (input_number (λ x y z. y) (input_in k n s a)) s and eqb (input_number (λ x y z. z) (input_in k n s a)) a))) and input_fits c l (input_in k n s a)) ≡ input_ok c.clients k n s a
  unfolding input_in input_ok
  input_told zero n s a fs fa = simp (eqb_sym 0, true_and, and_true)
  input_told (suc zero) n s a fs fa = simp (eqb_sym 0, true_and, and_true)
  input_told (suc (suc zero)) n s a fs fa = simp (eqb_sym 0, true_and, and_true)
  input_told (suc (suc (suc zero))) n s a fs fa = simp (eqb_sym 0, true_and, and_true)
  input_told (suc (suc (suc (suc zero)))) n s a fs fa = simp (same, lt-ltb s (2 ^ 64) fs.fits, lt-ltb a (2 ^ 64) fa.fits, true_and, and_true)
  input_told (suc (suc (suc (suc (suc zero))))) n s a fs fa = simp (eqb_sym 0, true_and, and_true)
  input_told (suc (suc (suc (suc (suc (suc k)))))) n s a fs fa =
      let m : ℕ = suc (suc (suc (suc (suc (suc k))))) in
      no_and _ true (no_and (eqb 5 m) _ (ne_eqb 5 m (omega arith)))
      ∙ sym (ap (λ (t : Bool). pick t (ltb n c.clients) (leb m 5 and (eqb n 0 and (eqb s 0 and eqb a 0)))) (ne_eqb m 4 (omega arith)) ∙ no_and (leb m 5) _ (lt-leb m 5 (omega arith)))

  -- what is owed
  owed_told : (k n : ℕ) → ((eqb (owed_kind (owed_in k n)) k and eqb (owed_slot (owed_in k n)) n) and owed_fits c l (owed_in k n)) ≡ owed_ok c.servers k n
  unfolding owed_in owed_ok
  owed_told zero n = simp (eqb_sym 0, true_and, and_true)
  owed_told (suc zero) n = simp (same, true_and, and_true)
  owed_told (suc (suc zero)) n = simp (same, true_and, and_true)
  owed_told (suc (suc (suc k))) n =
      let m : ℕ = suc (suc (suc k)) in
      no_and _ (leb n c.servers) (no_and (eqb 2 m) _ (ne_eqb 2 m (omega arith)))
      ∙ sym (ap (λ (t : Bool). pick t (eqb n 0) (leb m 2 and leb n c.servers)) (ne_eqb m 0 (omega arith)) ∙ no_and (leb m 2) _ (lt-leb m 2 (omega arith)))

  -- only a proposal and a confirmation can be refused
  refusable : (i n s a : ℕ) (o : Option NodeId) → verdict_fits c l (input_in i n s a) (not_leader o) ≡ (leb 3 i and node_fits o)
  unfolding input_in ◌and◌
  refusable zero n s a o = refl
  refusable (suc zero) n s a o = refl
  refusable (suc (suc zero)) n s a o = refl
  refusable (suc (suc (suc zero))) n s a o = refl
  refusable (suc (suc (suc (suc zero)))) n s a o = refl
  refusable (suc (suc (suc (suc (suc i))))) n s a o = sym (ap (λ (t : Bool). t and node_fits o) (le-leb 3 (suc (suc (suc (suc (suc i))))) (omega arith)))

  -- a verdict
  verdict_told : (i n s a v h : ℕ) → Fits w64 h → ((eqb (verdict_kind (verdict_in v h)) v and eqb (verdict_number (verdict_in v h)) h) and verdict_fits c l (input_in i n s a) (verdict_in v h)) ≡ verdict_ok i v h
  unfolding verdict_in verdict_ok
  verdict_told i n s a zero h f = simp (eqb_sym 0, true_and, and_true)
  verdict_told i n s a (suc zero) h f = ap (λ (t : Bool). (eqb 1 1 and eqb 0 h) and t) (refusable i n s a None) ∙ simp (eqb_sym 0, true_and, and_true)
  verdict_told i n s a (suc (suc zero)) h f =
      ap (λ (t : Bool). (eqb 2 2 and eqb h h) and t) (refusable i n s a (Some (record { 0 = h }))) ∙ simp (same, lt-ltb h (2 ^ 64) f.fits, true_and, and_true)
  verdict_told i n s a (suc (suc (suc v))) h f =
      let m : ℕ = suc (suc (suc v)) in
      no_and _ _ (no_and (eqb 2 m) (eqb h h) (ne_eqb 2 m (omega arith)))
      ∙ sym (rw (ne_eqb m 0 (omega arith), ne_eqb m 1 (omega arith)) (no_and (eqb m 2) (leb 3 i) (ne_eqb m 2 (omega arith))))

-- ---- a phase

-- tests of parts, and then their ranges, are the tests of each part with its range
arrange : (a v d s i w o : Bool) → ((a and (v and d)) and (s and (i and (w and o)))) ≡ (s and ((a and i) and ((v and w) and (d and o))))
unfolding ◌and◌
arrange true true true s i w o = refl
arrange true true false s i w o = sym (and_no s (i and (w and false)) (and_no i (w and false) (and_no w false refl)))
arrange true false d s i w o = sym (and_no s (i and false) (and_no i false refl))
arrange false v d s i w o = sym (and_no s false refl)

-- the words of a phase one by one, and then its ranges
one_by_one : (ik n₁ n₂ n₃ vk vn ok on s i w o : Bool) → ((ik and (n₁ and (n₂ and (n₃ and (vk and (vn and (ok and on))))))) and (s and (i and (w and o)))) ≡ (s and (((ik and (n₁ and (n₂ and n₃))) and i) and (((vk and vn) and w) and ((ok and on) and o))))
one_by_one ik n₁ n₂ n₃ vk vn ok on s i w o =
    let e = arrange (ik and (n₁ and (n₂ and n₃))) (vk and vn) (ok and on) s i w o in
    simp and_assoc (simp and_assoc at e)

module _ (c : SimConfig) (l : Limits) where
  phase_by : (k j i n s a v h o x : ℕ) → Fits w64 s → Fits w64 a → Fits w64 h
      → (same_list (phase_words (phase_of k j (input_in i n s a) (verdict_in v h) (owed_in o x))) (k ∷ j ∷ i ∷ n ∷ s ∷ a ∷ v ∷ h ∷ o ∷ x ∷ []) and phase_fits c l (phase_of k j (input_in i n s a) (verdict_in v h) (owed_in o x)))
      ≡ open_ok c.servers c.clients (record { phase = k; slot = j; input = i; client = n; seq = s; attempt = a; verdict = v; leader = h; owed = o; next = x })
  unfolding phase_of same_list open_ok
  phase_by zero j i n s a v h o x fs fa fh = simp (eqb_sym 0, true_and, and_true)
  phase_by (suc zero) j i n s a v h o x fs fa fh =
      let I : Input = input_in i n s a in
      let O : Owed = owed_in o x in
      let e = one_by_one (eqb (input_kind I) i) (eqb (input_number (λ x y z. x) I) n) (eqb (input_number (λ x y z. y) I) s) (eqb (input_number (λ x y z. z) I) a) (eqb 0 v) (eqb 0 h) (eqb (owed_kind O) o) (eqb (owed_slot O) x) (ltb j c.servers) (input_fits c l I) true (owed_fits c l O) in
      let w : (((eqb 0 v and eqb 0 h) and true)) ≡ (eqb v 0 and eqb h 0) = and_true _ ∙ ap₂ (λ (p q : Bool). p and q) (eqb_sym 0 v) (eqb_sym 0 h) in
      starts (eqb (input_kind I) i) _ _ _ _ _ _ _ (ltb j c.servers) (input_fits c l I) (owed_fits c l O) j
      ∙ e ∙ ap₂ (λ (p q : Bool). ltb j c.servers and (p and q)) (input_told c l i n s a fs fa) (ap₂ (λ (p q : Bool). p and q) w (owed_told c l o x) ∙ and_assoc (eqb v 0) (eqb h 0) (owed_ok c.servers o x))
    where
      starts : (a b d e f g h i s r w : Bool) (j : ℕ) → ((eqb 1 1 and (eqb j j and (a and (b and (d and (e and (f and (g and (h and (i and true)))))))))) and (s and (r and w))) ≡ ((a and (b and (d and (e and (f and (g and (h and i))))))) and (s and (r and (true and w))))
      starts a b d e f g h i s r w j = simp (same, true_and, and_true)
  phase_by (suc (suc zero)) j i n s a v h o x fs fa fh =
      let I : Input = input_in i n s a in
      let D : Verdict = verdict_in v h in
      let O : Owed = owed_in o x in
      let e = one_by_one (eqb (input_kind I) i) (eqb (input_number (λ x y z. x) I) n) (eqb (input_number (λ x y z. y) I) s) (eqb (input_number (λ x y z. z) I) a) (eqb (verdict_kind D) v) (eqb (verdict_number D) h) (eqb (owed_kind O) o) (eqb (owed_slot O) x) (ltb j c.servers) (input_fits c l I) (verdict_fits c l I D) (owed_fits c l O) in
      starts (eqb (input_kind I) i) _ _ _ _ _ _ _ (ltb j c.servers and (input_fits c l I and (verdict_fits c l I D and owed_fits c l O))) j
      ∙ e ∙ ap₂ (λ (p q : Bool). ltb j c.servers and (p and q)) (input_told c l i n s a fs fa) (ap₂ (λ (p q : Bool). p and q) (verdict_told c l i n s a v h fh) (owed_told c l o x))
      ∙ sym (true_and _)
    where
      starts : (a b d e f g h i s : Bool) (j : ℕ) → ((eqb 2 2 and (eqb j j and (a and (b and (d and (e and (f and (g and (h and (i and true)))))))))) and s) ≡ ((a and (b and (d and (e and (f and (g and (h and i))))))) and s)
      starts a b d e f g h i s j = simp (same, true_and, and_true)
  phase_by (suc (suc (suc k))) j i n s a v h o x fs fa fh =
      let m : ℕ = suc (suc (suc k)) in
      no_and _ _ (no_and (eqb 2 m) _ (ne_eqb 2 m (omega arith)))
      ∙ sym (rw (ne_eqb m 0 (omega arith), ne_eqb m 1 (omega arith)) (no_and (eqb m 2) _ (ne_eqb m 2 (omega arith))))

  pub phase_told : (ws : List ℕ) → Fit ws → phase_tells (phase_fits c l) ws ≡ open_ok c.servers c.clients (open_in ws)
  phase_told ws f = phase_by (get_or ws 0 0) (get_or ws 1 0) (get_or ws 2 0) (get_or ws 3 0) (get_or ws 4 0) (get_or ws 5 0) (get_or ws 6 0) (get_or ws 7 0) (get_or ws 8 0) (get_or ws 9 0) (f 4) (f 5) (f 7)
