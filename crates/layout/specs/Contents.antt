-- Contents of any code: decode and encode are each other's inverse, each value has one content, and a test of the words decides whether
-- bytes are a content. Assumes nothing.
use Rattle.std.specs.Prelude.{◌≡◌, refl, Bool, true, false, List, [], ◌++◌, ℕ, ◌*◌, ◌≤◌, length, take, drop}
use Rattle.std.proofs.Common.{sym, ap, ◌∙◌, subst, append-nil, arith, take-append-drop, take_at, take_all, length-take-le}
use Rattle.laws.specs.Decides.{Decides, false_true, decided}
use Rattle.words.specs.Words.{bytes, W, Bytes, Fit}
use Rattle.words.specs.Numbers.{each_take}
use Rattle.words.specs.Lift.{length_bytes, length_w, W-fit, W-bytes, W-whole}
use Rattle.layout.specs.Code.{Code}
use Rattle.layout.specs.Tables.{Holds, Content}

module _ {T : Type 0} {c : Code T} {b : List ℕ} {x : T} (h : Holds c b x) where
  pub holds_length : length b ≡ 8 * c.size
  holds_length = ap length h.is ∙ length_bytes (c.enc x) ∙ ap (λ (n : ℕ). 8 * n) (c.size_enc x h.good)

  pub holds_w : W b ≡ c.enc x
  holds_w = ap W h.is ∙ W-bytes (c.enc x) (c.fit_enc x h.good)

  pub holds_ok : c.ok (W b) ≡ true
  holds_ok = ap c.ok (holds_w ∙ sym (append-nil (c.enc x))) ∙ c.ok_enc x [] h.good

  -- decode after encode
  pub holds_parse : c.parse (W b) ≡ x
  holds_parse = ap c.parse (holds_w ∙ sym (append-nil (c.enc x))) ∙ c.parse_enc x [] h.good

-- no bytes are the content of two values, and no value has two contents
pub one_value : {T : Type 0} {c : Code T} {b : List ℕ} {x y : T} → Holds c b x → Holds c b y → x ≡ y
one_value h k = sym (holds_parse h) ∙ holds_parse k

pub one_content : {T : Type 0} {c : Code T} {b b' : List ℕ} {x : T} → Holds c b x → Holds c b' x → b ≡ b'
one_content h k = h.is ∙ sym k.is

-- so two contents are compared for two values
pub decides_same : {T : Type 0} {c : Code T} {b b' : List ℕ} {x y : T} {r : Bool} → Holds c b x → Holds c b' y → Decides r (b ≡ b') → Decides r (x ≡ y)
decides_same {T} {c} {b} {b'} {x} {y} h k d = record {
  yes = λ e. one_value (subst (λ (l : List ℕ). Holds c l x) (d.yes e) h) k;
  no = λ e q. d.no e (one_content (subst (Holds c b) q h) k);
}

module _ {T : Type 0} (c : Code T) where
  -- words that begin with a content are that content, and then the rest
  enc_take : (ws : List ℕ) → Fit ws → c.size ≤ length ws → c.ok ws ≡ true → c.enc (c.parse ws) ≡ take c.size ws
  enc_take ws f h k =
      sym (ap (take c.size) (sym (c.enc_parse ws f h k)) ∙ take_at (c.enc (c.parse ws)) (drop c.size ws) c.size (c.size_enc (c.parse ws) (c.good_parse ws f h k)))

  -- a code looks no further than its size
  pub ok_prefix : (ws : List ℕ) → Fit ws → c.size ≤ length ws → c.ok (take c.size ws) ≡ c.ok ws
  ok_prefix ws f h = by (c.ok (take c.size ws)) refl (c.ok ws) refl
    where
      long : c.size ≤ length (take c.size ws)
      long = omega (arith, length-take-le c.size ws h)

      fit : Fit (take c.size ws)
      fit = each_take c.size ws f

      up : c.ok (take c.size ws) ≡ true → c.ok ws ≡ true
      up e =
          let y : T = c.parse (take c.size ws) in
          ap c.ok (sym (take-append-drop c.size ws) ∙ ap (λ (l : List ℕ). l ++ drop c.size ws) (sym (enc_take (take c.size ws) fit long e ∙ whole)))
          ∙ c.ok_enc y (drop c.size ws) (c.good_parse (take c.size ws) fit long e)
        where
          whole : take c.size (take c.size ws) ≡ take c.size ws
          whole = take_all c.size (take c.size ws) (omega (arith, length-take-le c.size ws h))

      down : c.ok ws ≡ true → c.ok (take c.size ws) ≡ true
      down e = ap c.ok (sym (enc_take ws f h e) ∙ sym (append-nil (c.enc (c.parse ws)))) ∙ c.ok_enc (c.parse ws) [] (c.good_parse ws f h e)

      by : (p : Bool) → c.ok (take c.size ws) ≡ p → (q : Bool) → c.ok ws ≡ q → p ≡ q
      by true ep true eq = refl
      by true ep false eq = absurd (false_true (sym eq ∙ up ep))
      by false ep true eq = absurd (false_true (sym ep ∙ down eq))
      by false ep false eq = refl

  pub parse_prefix : (ws : List ℕ) → Fit ws → c.size ≤ length ws → c.ok ws ≡ true → c.parse (take c.size ws) ≡ c.parse ws
  parse_prefix ws f h k =
      ap c.parse (sym (enc_take ws f h k) ∙ sym (append-nil (c.enc (c.parse ws)))) ∙ c.parse_enc (c.parse ws) [] (c.good_parse ws f h k)

  module _ (b : List ℕ) (B : Bytes b) (l : length b ≡ 8 * c.size) where
    long : c.size ≤ length (W b)
    long = omega (arith, length_w b)

    -- encode after decode
    pub parse_holds : c.ok (W b) ≡ true → Holds c b (c.parse (W b))
    parse_holds k = record {
      good = c.good_parse (W b) (W-fit b B) long k;
      is = sym (ap bytes (enc_take (W b) (W-fit b B) long k ∙ take_all c.size (W b) (omega (arith, length_w b))) ∙ W-whole b c.size B l);
    }

    -- the test of the words decides
    pub decides_ok : (r : Bool) → r ≡ c.ok (W b) → Decides r (Content c b)
    decides_ok r e = record {
      yes = λ t. record { value = c.parse (W b); held = parse_holds (sym e ∙ t) };
      no = λ t k. false_true (sym t ∙ e ∙ holds_ok k.held);
    }

    pub ok_decides : (r : Bool) → Decides r (Content c b) → r ≡ c.ok (W b)
    ok_decides r d = decided r (c.ok (W b)) d (λ e. record { value = c.parse (W b); held = parse_holds e }) (λ k. holds_ok k.held)
