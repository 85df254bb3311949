-- What the proofs of confirmations.rt cite. Assumes nothing.
use Rattle.std.specs.Prelude.{◌≡◌, Bool, eqb, length, get_or, drop, Option, None, Some}
use Rattle.std.proofs.Math.Path.{refl, ap}
use Rattle.std.proofs.Common.{sym, ap₂, ◌∙◌, add-zero, arith, length-append, get_or-drop, Fits, le-leb, eq-eqb}
use Rattle.std.proofs.Math.Bool.{true}
use mathlib.Core.List.{List, [], ◌∷◌}
use Prim.Native.Nat.{ℕ, ◌+◌, ◌*◌, ◌≤◌, ◌<◌}
use Rattle.std.proofs.Math.Seq.{sets}
use Rattle.std.specs.Int.{w64}
use Rattle.std.proofs.lemmas.Bool.{lt-leb}
use Rattle.laws.specs.Bools.{cases, and_true, every}
use Rattle.laws.proofs.BoolLaws.{and_both, true_and}
use Rattle.laws.specs.Lists.{same_list}
use Rattle.laws.specs.ListLaws.{at_there}
use Rattle.words.specs.Words.{bytes, W}
use Rattle.units.specs.declared.LogIndex.{LogIndex}
use Rattle.layout.specs.Tables.{Held, append}
use Rattle.layout.specs.UpTo.{is64, is64_fits}
use Rattle.layout.specs.TableLaws.{held_rows, row_word, append_held}
use Rattle.checks_durability.specs.Replies.{appending_number, room_code}
use Rattle.clients.specs.declared.confirmations.Numbers.{Numbers}
use Rattle.clients.specs.Clients.{flag_of, number_of}
use Rattle.clients.specs.ClientLaws.{swap}
use Rattle.clients.specs.Confirmations.{Confirmation, index_in, index_back, confirmation_code, confirmations}
use Rattle.clients.specs.Confirmations.{numbers_of, tell_index, ReadsConfirmation, AppendsConfirmation}

-- ---- read

-- any confirmation, for `get_or`
abbrev pub no_confirmation : Confirmation
no_confirmation = record { request = record { 0 = 0 }; read_index = None }

pub read_is : (n k : ℕ) (b : List ℕ) (f i q : ℕ) (o : Option LogIndex) → k < n → f ≡ get_or (W b) (k * 3 + 1) 0 → i ≡ get_or (W b) (k * 3 + 2) 0
    → o ≡ index_in f i → q ≡ get_or (W b) (k * 3) 0
    → ReadsConfirmation n k (record { request = record { 0 = q }; read_index = o }) b
read_is n k b f i q o h ef ei eo eq = record {
  to = λ N x held.
      let c : Confirmation = get_or x k no_confirmation in
      let e₀ : q ≡ c.request.0 =
      eq ∙ ap (λ (j : ℕ). get_or (W b) j 0) (sym (add-zero (k * 3))) ∙ row_word held k 0 no_confirmation h (omega arith) in
      let e₁ : f ≡ flag_of c.read_index = ef ∙ row_word held k 1 no_confirmation h (omega arith) in
      let e₂ : i ≡ number_of (λ x. x.0) c.read_index = ei ∙ row_word held k 2 no_confirmation h (omega arith) in
      let e₃ : o ≡ c.read_index = eo ∙ ap₂ (λ (u v : ℕ). index_in u v) e₁ e₂ ∙ index_back c.read_index in
      rw (e₀, e₃) (at_there x k no_confirmation (omega (arith, (held_rows held).count)));
}

-- ---- append

appended_length : (c : Confirmation) {N n : ℕ} {b : List ℕ} {x : List Confirmation} → Held confirmations N n b x
    → length (append c x) ≡ n + 1
unfolding append
appended_length c {x = x} h = length-append x (c ∷ []) ∙ ap (λ (k : ℕ). k + 1) (held_rows h).count

module _ (c : Confirmation) (n room : ℕ) (b : List ℕ) where
  pub append_full : room ≤ n → AppendsConfirmation c n room None b b
  unfolding appending_number room_code
  append_full l = record {
    number = λ N x h. rw (lt-leb (length (append c x)) room (omega (arith, appended_length c h)));
    to = λ N x h. refl;
  }

  pub append_row : (o : Numbers) (b' : List ℕ) → 8 * (room * 3) ≤ length b → n < room → Fits w64 c.request.0 → Fits w64 o.flag
      → Fits w64 o.index
      → o ≡ numbers_of c.read_index → b' ≡ sets b (8 * (n * 3)) (bytes (c.request.0 ∷ o.flag ∷ o.index ∷ []))
      → AppendsConfirmation c n room (Some (n + 1)) b b'
  unfolding appending_number room_code numbers_of
  append_row o b' m r f₁ f₂ f₃ eo e = record {
    number = λ N x h. rw (le-leb (length (append c x)) room (omega (arith, appended_length c h)));
    to = λ N x h.
        let row : Numbers → List ℕ = λ p. c.request.0 ∷ p.flag ∷ p.index ∷ [] in
        let fit : every is64 (row o) ≡ true =
        and_both _ _ (is64_fits _ f₁) (and_both _ _ (is64_fits _ f₂) (and_both _ _ (is64_fits _ f₃) refl)) in
        record {
          count = refl;
          held = append_held h (omega arith) c b'
              (and_both _ _ (ap (λ (p : Numbers). every is64 (row p)) (sym eo) ∙ fit) refl) refl
              (e ∙ ap (λ (p : Numbers). sets b (8 * (n * 3)) (bytes (row p))) eo);
        };
  }

pub ruleset appending = (append_full, append_row)

-- ---- the test of a row

same_words_lem : (q f i : ℕ) → same_list (q ∷ flag_of (index_in f i) ∷ number_of (λ x. x.0) (index_in f i) ∷ []) (q ∷ f ∷ i ∷ []) ≡ tell_index f i
unfolding index_in tell_index same_list
same_words_lem q f i =
    cases (eqb f 0)
    (λ e. rw (e, eq-eqb q q refl, swap 0 f, e, swap 0 i, true_and, and_true) (true_and _))
    (λ e. rw (e, eq-eqb q q refl, swap 1 f, eq-eqb i i refl, true_and, and_true) (and_true _))

pub row_tested : (b : List ℕ) (k f i : ℕ) (r : Bool) → f ≡ get_or (W b) (k * 3 + 1) 0 → i ≡ get_or (W b) (k * 3 + 2) 0 → r ≡ tell_index f i
    → r ≡ confirmation_code.ok (drop (k * 3) (W b))
row_tested b k f i r ef ei e =
    let ws : List ℕ = drop (k * 3) (W b) in
    e ∙ ap₂ tell_index (ef ∙ sym (get_or-drop (k * 3) (W b) 1 0)) (ei ∙ sym (get_or-drop (k * 3) (W b) 2 0))
    ∙ sym (and_true _ ∙ same_words_lem (get_or ws 0 0) (get_or ws 1 0) (get_or ws 2 0))
