-- Words written behind those that are there, and zeros that are there already. Assumes nothing.
use Rattle.std.specs.Prelude.{◌≡◌, List, ◌∷◌, ◌++◌, ℕ, zero, suc, ◌+◌, ◌-◌, ◌*◌, ◌≤◌, length, drop}
use Rattle.std.proofs.Common.{sym, ap, ap₂, subst, ◌∙◌, append_assoc, arith, length-append}
use Rattle.std.proofs.lemmas.List.{length-replicate}
use Rattle.std.proofs.lemmas.List.Edits.{sets, sets-eq}
use Rattle.words.specs.Words.{bytes}
use Rattle.words.specs.Sets.{sets_at}
use Rattle.words.specs.Lift.{bytes_append, bytes_zeros, length_bytes}
use Rattle.layout.specs.Code.{zeros}
use Rattle.sim_start.specs.Fill.{Filled, Clears, Writes}

-- ---- zeros

pub zeros_add : (a b : ℕ) → zeros (a + b) ≡ zeros a ++ zeros b
zeros_add zero b = ap zeros (let e : 0 + b ≡ b = omega arith in e)
zeros_add (suc a) b = ap zeros (let e : suc a + b ≡ suc (a + b) = omega arith in e) ∙ ap (λ (l : List ℕ). 0 ∷ l) (zeros_add a b)

pub zeros_then : (a b : ℕ) (l : List ℕ) → zeros a ++ (zeros b ++ l) ≡ zeros (a + b) ++ l
zeros_then a b l = sym (append_assoc (zeros a) (zeros b) l) ∙ ap (λ (z : List ℕ). z ++ l) (sym (zeros_add a b))

-- ---- filled bytes

module _ {b r : List ℕ} {n : ℕ} {ws : List ℕ} (h : Filled b r n ws) where
  -- words behind those that are there
  pub filled_more : (vs : List ℕ) (b' : List ℕ) → 8 * (length ws + length vs) ≤ n → b' ≡ sets b (8 * length ws) (bytes vs)
      → Filled b' r n (ws ++ vs)
  filled_more vs b' k e =
      let m : ℕ = n - 8 * (length ws + length vs) in
      let l : n - 8 * length ws ≡ 8 * length vs + m = omega arith in
      let room : length (ws ++ vs) ≡ length ws + length vs = length-append ws vs in
      record {
        room = omega (arith, room);
        is =
            e ∙ ap (λ (x : List ℕ). sets x (8 * length ws) (bytes vs)) (h.is ∙ ap (λ (j : ℕ). bytes ws ++ (zeros j ++ r)) l
            ∙ ap (λ (z : List ℕ). bytes ws ++ z) (sym (zeros_then (8 * length vs) m r)))
            ∙ sets_at (bytes ws) (zeros (8 * length vs)) (zeros m ++ r) (bytes vs) (8 * length ws) (length_bytes ws)
            (length_bytes vs ∙ sym (length-replicate {A = ℕ} (8 * length vs) 0))
            ∙ sym (append_assoc (bytes ws) (bytes vs) (zeros m ++ r))
            ∙ ap₂ (λ (x : List ℕ) (j : ℕ). x ++ (zeros j ++ r)) (sym (bytes_append ws vs)) (ap (λ (j : ℕ). n - 8 * j) (sym room));
      }

  -- zeros that are there already
  pub filled_zeros : (k : ℕ) → 8 * (length ws + k) ≤ n → Filled b r n (ws ++ zeros k)
  filled_zeros k l =
      let m : ℕ = n - 8 * (length ws + k) in
      let e : n - 8 * length ws ≡ 8 * k + m = omega arith in
      let long : length (ws ++ zeros k) ≡ length ws + k = length-append ws (zeros k) ∙ ap (λ (j : ℕ). length ws + j) (length-replicate {A = ℕ} k 0) in
      record {
        room = omega (arith, long);
        is =
            h.is ∙ ap (λ (j : ℕ). bytes ws ++ (zeros j ++ r)) e ∙ ap (λ (z : List ℕ). bytes ws ++ z) (sym (zeros_then (8 * k) m r))
            ∙ ap (λ (z : List ℕ). bytes ws ++ (z ++ (zeros m ++ r))) (sym (bytes_zeros k))
            ∙ sym (append_assoc (bytes ws) (bytes (zeros k)) (zeros m ++ r))
            ∙ ap₂ (λ (x : List ℕ) (j : ℕ). x ++ (zeros j ++ r)) (sym (bytes_append ws (zeros k))) (ap (λ (j : ℕ). n - 8 * j) (sym long));
      }

-- ---- writers

-- nothing is written yet
pub cleared : (b b' : List ℕ) (n : ℕ) → n ≤ length b → b' ≡ sets b 0 (zeros (n - 0)) → Clears b b' n
unfolding bytes
cleared b b' n k e = record {
  filled = record {
    room = omega arith;
    is =
        e ∙ ap (λ (j : ℕ). sets b 0 (zeros j)) (let z : n - 0 ≡ n = omega arith in z)
        ∙ sets-eq (zeros n) b 0 (omega (arith, length-replicate {A = ℕ} n 0))
        ∙ ap (λ (j : ℕ). zeros n ++ drop j b) (let z : 0 + length (zeros n) ≡ n = omega (arith, length-replicate {A = ℕ} n 0) in z)
        ∙ ap (λ (j : ℕ). zeros j ++ drop n b) (let z : n ≡ n - 8 * 0 = omega arith in z);
  };
}

-- several words stored
pub stored_words : (b b' : List ℕ) (n at : ℕ) (vs : List ℕ) → 8 * (at + length vs) ≤ n → b' ≡ sets b (8 * at) (bytes vs)
    → Writes b b' n at vs
stored_words b b' n at vs k e = record {
  to = λ r ws h l. filled_more h vs b' (omega (arith, l)) (e ∙ ap (λ (j : ℕ). sets b (8 * j) (bytes vs)) (sym l));
}

-- nothing, and zeros
pub writes_zeros : (b : List ℕ) (n at k : ℕ) → 8 * (at + k) ≤ n → Writes b b n at (zeros k)
writes_zeros b n at k q = record { to = λ r ws h l. filled_zeros h k (omega (arith, l)) }

-- one after another
pub writes_both : {b b₁ b₂ : List ℕ} {n at at' : ℕ} {vs ws : List ℕ} → Writes b b₁ n at vs → Writes b₁ b₂ n at' ws → at + length vs ≡ at'
    → Writes b b₂ n at (vs ++ ws)
writes_both {b} {b₁} {b₂} {n} {at} {at'} {vs} {ws} p q e = record {
  to = λ r us h l.
      subst (Filled b₂ r n) (append_assoc us vs ws) (q.to r (us ++ vs) (p.to r us h l) (length-append us vs ∙ ap (λ (j : ℕ). j + length vs) l ∙ e));
}
