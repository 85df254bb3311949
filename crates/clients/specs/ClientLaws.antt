-- What the proofs of lib.rt cite. Assumes nothing.
use Rattle.std.specs.Prelude.{◌≡◌, refl, Bool, true, false, not, ◌&&◌, List, [], ◌∷◌, ℕ, ◌+◌, ◌-◌, ◌*◌, ◌≤◌, ◌<◌, eqb, ltb, length, get_or, take, drop, Option, None}
use Rattle.std.proofs.Common.{sym, ap, ap₂, ◌∙◌, add-zero, arith, get_or-drop, Fits, lt-ltb, le-ltb, eq-eqb, ne_eqb}
use Rattle.std.proofs.lemmas.Bool.{not-true, not-false}
use Rattle.std.proofs.lemmas.Bool.Decides.{nat_tests}
use Rattle.std.proofs.lemmas.List.Edits.{sets}
use Rattle.std.specs.Int.{w64}
use Rattle.laws.specs.Bools.{cases, ◌and◌, no_and, and_true, and_assoc, every}
use Rattle.laws.proofs.BoolLaws.{and_both, and_no, true_and}
use Rattle.laws.specs.Lists.{same_list}
use Rattle.laws.specs.ListLaws.{at_there}
use Rattle.words.specs.Words.{bytes, W, allz}
use Rattle.layout.specs.UpTo.{is64, is64_fits}
use Rattle.layout.specs.TableLaws.{held_rows, row_word, put_held}
use Rattle.clients.specs.declared.Numbers.{Numbers}
use Rattle.clients.specs.Clients.{Outstanding, Client, flag_of, number_of, outstanding_in, outstanding_back}
use Rattle.clients.specs.Clients.{client_code, numbers_of, tell_outstanding, ReadsClient}
use Rattle.clients.specs.Clients.{WritesClient}

-- ---- the outstanding command

module _ (flag seq sent : ℕ) where
  pub tell_none : flag ≡ 0 → (eqb seq 0 && eqb sent 0) ≡ tell_outstanding flag seq sent
  unfolding tell_outstanding ◌and◌
  tell_none e = rw (eq-eqb flag 0 e)

  pub tell_one : (flag ≡ 0 → ⊥) → eqb flag 1 ≡ tell_outstanding flag seq sent
  unfolding tell_outstanding
  tell_one e = rw (ne_eqb flag 0 e)

pub ruleset tell_three = (tell_none, tell_one)

-- ---- read

-- any client, for `get_or`
abbrev pub no_client : Client
no_client = record { target = 0; next_seq = 0; attempt = 0; outstanding = None }

pub read_is : (n k : ℕ) (b : List ℕ) (f q u t m a : ℕ) (o : Option Outstanding) → k < n → f ≡ get_or (W b) (k * 8 + 3) 0
    → q ≡ get_or (W b) (k * 8 + 4) 0
    → u ≡ get_or (W b) (k * 8 + 5) 0 → o ≡ outstanding_in f q u → t ≡ get_or (W b) (k * 8) 0 → m ≡ get_or (W b) (k * 8 + 1) 0
    → a ≡ get_or (W b) (k * 8 + 2) 0
    → ReadsClient n k (record { target = t; next_seq = m; attempt = a; outstanding = o }) b
read_is n k b f q u t m a o h ef eq eu eo et em ea = record {
  to = λ S N x held.
      let c : Client = get_or x k no_client in
      let e₀ : t ≡ c.target = et ∙ ap (λ (j : ℕ). get_or (W b) j 0) (sym (add-zero (k * 8))) ∙ row_word held k 0 no_client h (omega arith) in
      let e₁ : m ≡ c.next_seq = em ∙ row_word held k 1 no_client h (omega arith) in
      let e₂ : a ≡ c.attempt = ea ∙ row_word held k 2 no_client h (omega arith) in
      let e₃ : f ≡ flag_of c.outstanding = ef ∙ row_word held k 3 no_client h (omega arith) in
      let e₄ : q ≡ number_of (λ x. x.seq) c.outstanding = eq ∙ row_word held k 4 no_client h (omega arith) in
      let e₅ : u ≡ number_of (λ x. x.first_sent.0) c.outstanding = eu ∙ row_word held k 5 no_client h (omega arith) in
      let e₆ : o ≡ c.outstanding =
      eo ∙ ap (λ (j : ℕ). outstanding_in j q u) e₃ ∙ ap₂ (λ (i j : ℕ). outstanding_in (flag_of c.outstanding) i j) e₄ e₅
      ∙ outstanding_back c.outstanding in
      rw (e₀, e₁, e₂, e₆) (at_there x k no_client (omega (arith, (held_rows held).count)));
}

-- ---- write

pub write_is : (n k : ℕ) (client : Client) (o : Numbers) (b b' : List ℕ) → k < n → 8 * (n * 8) ≤ length b
    → Fits w64 client.target → Fits w64 client.next_seq → Fits w64 client.attempt → Fits w64 o.flag → Fits w64 o.seq
    → Fits w64 o.sent
    → o ≡ numbers_of client.outstanding
    → b' ≡ sets b (8 * (k * 8)) (bytes (client.target ∷ client.next_seq ∷ client.attempt ∷ o.flag ∷ o.seq ∷ o.sent ∷ 0 ∷ 0 ∷ []))
    → WritesClient n k client b b'
unfolding numbers_of
write_is n k client o b b' h room f₁ f₂ f₃ f₄ f₅ f₆ eo e = record {
  to = λ S N x l held.
      let row : Numbers → List ℕ = λ p. client.target ∷ client.next_seq ∷ client.attempt ∷ p.flag ∷ p.seq ∷ p.sent ∷ 0 ∷ 0 ∷ [] in
      let fit : every is64 (row o) ≡ true =
      and_both _ _ (is64_fits _ f₁) (and_both _ _ (is64_fits _ f₂)
      (and_both _ _ (is64_fits _ f₃)
      (and_both _ _ (is64_fits _ f₄)
      (and_both _ _ (is64_fits _ f₅) (and_both _ _ (is64_fits _ f₆) (and_both _ _ refl (and_both _ _ refl refl))))))) in
      put_held held k client b' h
      (and_both _ _ (ap (λ (p : Numbers). every is64 (row p)) (sym eo) ∙ fit) (lt-ltb client.target S l)) refl
      (e ∙ ap (λ (p : Numbers). sets b (8 * (k * 8)) (bytes (row p))) eo);
}

-- ---- the test of a row

pub swap : (a b : ℕ) → eqb a b ≡ eqb b a
swap a b = grind (arith, nat_tests)

same_rest : (a b c : ℕ) (l m : List ℕ) → same_list (a ∷ b ∷ c ∷ l) (a ∷ b ∷ c ∷ m) ≡ same_list l m
unfolding same_list ◌and◌
same_rest a b c l m = rw (eq-eqb a a refl, eq-eqb b b refl, eq-eqb c c refl)

-- the words of what was read are those that were there exactly where they tell a command and the last two are zero
same_words_lem : (f q u x y : ℕ)
    → same_list
    (flag_of (outstanding_in f q u) ∷ number_of (λ x. x.seq) (outstanding_in f q u)
    ∷ number_of (λ x. x.first_sent.0) (outstanding_in f q u) ∷ 0 ∷ 0 ∷ [])
    (f ∷ q ∷ u ∷ x ∷ y ∷ [])
    ≡ (tell_outstanding f q u and (eqb x 0 and eqb y 0))
unfolding outstanding_in tell_outstanding same_list
same_words_lem f q u x y =
    cases (eqb f 0)
    (λ e. rw (e, swap 0 f, e, swap 0 q, swap 0 u, swap 0 x, swap 0 y, true_and, and_assoc, and_true) refl)
    (λ e. rw (e, swap 1 f, eq-eqb q q refl, eq-eqb u u refl, swap 0 x, swap 0 y, true_and, and_true)
    (ap (λ (z : Bool). eqb f 1 and z) (true_and _)))

client_ok : (S : ℕ) (ws : List ℕ) → (client_code S).ok ws
    ≡ ((tell_outstanding (get_or ws 3 0) (get_or ws 4 0) (get_or ws 5 0) and (eqb (get_or ws 6 0) 0 and eqb (get_or ws 7 0) 0))
    and ltb (get_or ws 0 0) S)
client_ok S ws =
    ap (λ (t : Bool). t and ltb (get_or ws 0 0) S)
    (same_rest (get_or ws 0 0) (get_or ws 1 0) (get_or ws 2 0) _ _
    ∙ same_words_lem (get_or ws 3 0) (get_or ws 4 0) (get_or ws 5 0) (get_or ws 6 0) (get_or ws 7 0))

two_zeros : (l : List ℕ) → allz (take 2 l) ≡ (eqb (get_or l 0 0) 0 and eqb (get_or l 1 0) 0)
unfolding allz ◌and◌
two_zeros [] = refl
two_zeros (x ∷ []) = refl
two_zeros (x ∷ y ∷ l) = ap (λ (z : Bool). eqb x 0 and z) (and_true (eqb y 0))

module _ (b : List ℕ) (k S t : ℕ) (et : t ≡ get_or (W b) (k * 8) 0) where
  -- a word of row k
  word_at : (j : ℕ) → get_or (drop (k * 8) (W b)) j 0 ≡ get_or (W b) (k * 8 + j) 0
  word_at j = get_or-drop (k * 8) (W b) j 0

  target_at : get_or (drop (k * 8) (W b)) 0 0 ≡ t
  target_at = word_at 0 ∙ ap (λ (j : ℕ). get_or (W b) j 0) (add-zero (k * 8)) ∙ sym et

  pub target_past : S ≤ t → false ≡ (client_code S).ok (drop (k * 8) (W b))
  target_past h = sym (client_ok S (drop (k * 8) (W b)) ∙ and_no _ _ (ap (λ (j : ℕ). ltb j S) target_at ∙ le-ltb t S h))

  module _ (h : t < S) (f q u : ℕ) (ef : f ≡ get_or (W b) (k * 8 + 3) 0) (eq : q ≡ get_or (W b) (k * 8 + 4) 0)
      (eu : u ≡ get_or (W b) (k * 8 + 5) 0) (r : Bool) (er : r ≡ tell_outstanding f q u) where
    told_at : tell_outstanding (get_or (drop (k * 8) (W b)) 3 0) (get_or (drop (k * 8) (W b)) 4 0) (get_or (drop (k * 8) (W b)) 5 0) ≡ r
    told_at =
        ap (λ (j : ℕ). tell_outstanding j (get_or (drop (k * 8) (W b)) 4 0) (get_or (drop (k * 8) (W b)) 5 0)) (word_at 3 ∙ sym ef)
        ∙ ap₂ (λ (i j : ℕ). tell_outstanding f i j) (word_at 4 ∙ sym eq) (word_at 5 ∙ sym eu) ∙ sym er

    pub outstanding_wrong : not r ≡ true → false ≡ (client_code S).ok (drop (k * 8) (W b))
    outstanding_wrong n = sym (client_ok S (drop (k * 8) (W b)) ∙ no_and _ _ (no_and _ _ (told_at ∙ not-true r n)))

    pub row_tested : (z : Bool) → not r ≡ false → z ≡ allz (take (k * 8 + 8 - (k * 8 + 6)) (drop (k * 8 + 6) (W b)))
        → z ≡ (client_code S).ok (drop (k * 8) (W b))
    row_tested z n ez =
        let two : k * 8 + 8 - (k * 8 + 6) ≡ 2 = omega arith in
        let l : List ℕ = drop (k * 8 + 6) (W b) in
        let at : (j : ℕ) → get_or l j 0 ≡ get_or (drop (k * 8) (W b)) (6 + j) 0 =
        λ j. get_or-drop (k * 8 + 6) (W b) j 0 ∙ ap (λ (i : ℕ). get_or (W b) i 0) (let e : k * 8 + 6 + j ≡ k * 8 + (6 + j) = omega arith in e)
        ∙ sym (word_at (6 + j)) in
        let zs : z ≡ (eqb (get_or (drop (k * 8) (W b)) 6 0) 0 and eqb (get_or (drop (k * 8) (W b)) 7 0) 0) =
        ez ∙ ap (λ (m : ℕ). allz (take m l)) two ∙ two_zeros l ∙ ap₂ (λ (i j : ℕ). eqb i 0 and eqb j 0) (at 0) (at 1) in
        sym (client_ok S (drop (k * 8) (W b))
        ∙ ap₂ (λ (v w : Bool). (v and (eqb (get_or (drop (k * 8) (W b)) 6 0) 0 and eqb (get_or (drop (k * 8) (W b)) 7 0) 0)) and w)
        (told_at ∙ not-false r n) (ap (λ (j : ℕ). ltb j S) target_at ∙ lt-ltb t S h)
        ∙ and_true _ ∙ true_and _ ∙ sym zs)

pub ruleset row_tests = (target_past, outstanding_wrong, row_tested)
