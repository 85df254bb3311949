-- What the proofs of replies.rt cite. Assumes nothing.
use Rattle.std.specs.Prelude.{◌≡◌, Bool, true, List, [], ◌∷◌, ℕ, ◌+◌, ◌*◌, ◌≤◌, ◌<◌, leb, ltb, length, get_or, drop, None, Some}
use Rattle.std.proofs.Math.Path.{refl}
use Rattle.std.proofs.Common.{sym, ap, ap₂, ◌∙◌, add-zero, arith, length-append, get_or-drop, Fits, lt-ltb, le-leb}
use Rattle.std.proofs.lemmas.List.Edits.{sets}
use Rattle.std.specs.Int.{w64}
use Rattle.std.proofs.lemmas.Bool.{lt-leb}
use Rattle.laws.specs.Bools.{◌and◌, no_and}
use Rattle.laws.proofs.BoolLaws.{and_both, true_and}
use Rattle.laws.specs.ListLaws.{at_there}
use Rattle.words.specs.Words.{bytes, W}
use Rattle.layout.specs.Tables.{append}
use Rattle.layout.specs.UpTo.{is64_fits}
use Rattle.layout.specs.TableLaws.{held_rows, row_word, append_held}
use Rattle.checks_durability.specs.declared.replies.Reply.{Reply}
use Rattle.checks_durability.specs.Replies.{replies, Replied, appending_number, room_code, Appends, Reads}

-- ---- append

appended_length : (reply : Reply) (n : ℕ) (b : List ℕ) (x : List Reply) → Replied n b x → length (append reply x) ≡ n + 1
unfolding append
appended_length reply n b x h = length-append x (reply ∷ []) ∙ ap (λ (k : ℕ). k + 1) (held_rows h.held).count

module _ (reply : Reply) (n room : ℕ) (b : List ℕ) where
  pub append_full : room ≤ n → Appends reply n room None b b
  unfolding appending_number room_code
  append_full l = record {
    number = λ x h. rw (lt-leb (length (append reply x)) room (omega (arith, appended_length reply n b x h)));
    to = λ L C p q N x h. refl;
  }

  pub append_row : (b' : List ℕ) → 8 * (room * 5) ≤ length b → n < room
      → Fits w64 reply.sent.0 → Fits w64 reply.received.0 → Fits w64 reply.index.0 → Fits w64 reply.client
      → Fits w64 reply.seq
      → b' ≡ sets b (8 * (n * 5)) (bytes (reply.sent.0 ∷ reply.received.0 ∷ reply.index.0 ∷ reply.client ∷ reply.seq ∷ []))
      → Appends reply n room (Some (n + 1)) b b'
  unfolding appending_number room_code
  append_row b' m r f₁ f₂ f₃ f₄ f₅ e = record {
    number = λ x h. rw (le-leb (length (append reply x)) room (omega (arith, appended_length reply n b x h)));
    to = λ L C p q N x h.
        record {
          count = refl;
          held = append_held h (omega arith) reply b'
              (and_both _ _
              (and_both _ _ (is64_fits _ f₁)
              (and_both _ _ (is64_fits _ f₂) (and_both _ _ (is64_fits _ f₃) (and_both _ _ (is64_fits _ f₄) (is64_fits _ f₅)))))
              (and_both _ _ (le-leb reply.index.0 L p) (lt-ltb reply.client C q)))
              refl e;
        };
  }

pub ruleset appending = (append_full, append_row)

-- ---- read

-- any reply, for `get_or`
abbrev pub no_reply : Reply
no_reply = record { sent = record { 0 = 0 }; received = record { 0 = 0 }; index = record { 0 = 0 }; client = 0; seq = 0 }

pub read_is : (n k : ℕ) (b : List ℕ) (s t i c q : ℕ) → k < n → s ≡ get_or (W b) (k * 5) 0 → t ≡ get_or (W b) (k * 5 + 1) 0
    → i ≡ get_or (W b) (k * 5 + 2) 0 → c ≡ get_or (W b) (k * 5 + 3) 0
    → q ≡ get_or (W b) (k * 5 + 4) 0
    → Reads n k (record { sent = record { 0 = s }; received = record { 0 = t }; index = record { 0 = i }; client = c; seq = q }) b
read_is n k b s t i c q h es et ei ec eq = record {
  to = λ x h'.
      let held = h'.held in
      let a : Reply = get_or x k no_reply in
      let e₀ : s ≡ a.sent.0 = es ∙ ap (λ (j : ℕ). get_or (W b) j 0) (sym (add-zero (k * 5))) ∙ row_word held k 0 no_reply h (omega arith) in
      let e₁ : t ≡ a.received.0 = et ∙ row_word held k 1 no_reply h (omega arith) in
      let e₂ : i ≡ a.index.0 = ei ∙ row_word held k 2 no_reply h (omega arith) in
      let e₃ : c ≡ a.client = ec ∙ row_word held k 3 no_reply h (omega arith) in
      let e₄ : q ≡ a.seq = eq ∙ row_word held k 4 no_reply h (omega arith) in
      rw (e₀, e₁, e₂, e₃, e₄) (at_there x k no_reply (omega (arith, (held_rows held).count)));
}

-- ---- the test of a row: its index and its client

module _ (ws : List ℕ) (L C k x : ℕ) (ei : x ≡ get_or ws (k * 5 + 2) 0) where
  abbrev row : List ℕ
  row = drop (k * 5) ws

  row_is : (replies L C).row.ok row ≡ (leb x L and ltb (get_or ws (k * 5 + 3) 0) C)
  row_is =
      let i : ℕ = get_or (drop 1 (drop 1 row)) 0 0 in
      let c : ℕ = get_or (drop 1 (drop 1 (drop 1 row))) 0 0 in
      let ei' : i ≡ x = get_or-drop 1 (drop 1 row) 0 0 ∙ get_or-drop 1 row 1 0 ∙ get_or-drop (k * 5) ws 2 0 ∙ sym ei in
      let ec : c ≡ get_or ws (k * 5 + 3) 0 =
      get_or-drop 1 (drop 1 (drop 1 row)) 0 0 ∙ get_or-drop 1 (drop 1 row) 1 0 ∙ get_or-drop 1 row 2 0 ∙ get_or-drop (k * 5) ws 3 0 in
      let fine : (true and (true and (true and (true and true)))) ≡ true =
      and_both _ _ refl (and_both _ _ refl (and_both _ _ refl (and_both _ _ refl refl))) in
      ap (λ (b : Bool). b and (leb i L and ltb c C)) fine ∙ true_and (leb i L and ltb c C)
      ∙ ap₂ (λ (y z : ℕ). leb y L and ltb z C) ei' ec

  pub index_above : L < x → leb x L ≡ (replies L C).row.ok row
  index_above l = lt-leb x L l ∙ sym (row_is ∙ no_and _ _ (lt-leb x L l))

  pub client_tested : x ≤ L → (y : ℕ) → y ≡ get_or ws (k * 5 + 3) 0 → ltb y C ≡ (replies L C).row.ok row
  client_tested l y ey =
      ap (λ (j : ℕ). ltb j C) ey ∙ sym (row_is ∙ ap (λ (b : Bool). b and ltb (get_or ws (k * 5 + 3) 0) C) (le-leb x L l) ∙ true_and _)

pub ruleset reply_rows = (index_above, client_tested)
