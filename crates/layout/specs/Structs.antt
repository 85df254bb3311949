-- The code of a struct of n words: its words as a literal list, and the struct read by place (`get_or ws 3 0`, as the program reads it). Assumes nothing.
use Rattle.std.specs.Prelude.{◌≡◌, refl, Bool, true, List, [], ◌∷◌, ◌++◌, ℕ, zero, suc, ◌≤◌, length, drop, get_or}
use Rattle.std.proofs.Common.{ap, ◌∙◌, arith, Fits}
use Rattle.std.specs.Int.{w64}
use Rattle.laws.specs.Bools.{◌and◌, every, and_left}
use Rattle.laws.proofs.BoolLaws.{and_right, and_both}
use Rattle.laws.specs.Lists.{same_list}
use Rattle.laws.proofs.ListLaws.{list_itself, list_equal}
use Rattle.words.specs.Words.{Fit}
use Rattle.layout.specs.Code.{Code}
use Rattle.layout.specs.UpTo.{is64, is64_fits, each_fit}

-- The first n words, by place.
abbrev pub firsts : ℕ → (ℕ → ℕ) → List ℕ
firsts zero f = []
firsts (suc n) f = f 0 ∷ firsts n (λ i. f (suc i))

pub firsts_back : (n : ℕ) (ws : List ℕ) → n ≤ length ws → firsts n (λ i. get_or ws i 0) ++ drop n ws ≡ ws
firsts_back zero ws h = refl
firsts_back (suc n) [] h = absurd (omega arith)
firsts_back (suc n) (w ∷ ws) h = ap (λ (l : List ℕ). w ∷ l) (firsts_back n ws (omega arith))

pub firsts_fit : (n : ℕ) (f : ℕ → ℕ) → ((i : ℕ) → Fits w64 (f i)) → every is64 (firsts n f) ≡ true
firsts_fit zero f h = refl
firsts_fit (suc n) f h = and_both _ _ (is64_fits (f 0) (h 0)) (firsts_fit n (λ i. f (suc i)) (λ i. h (suc i)))

-- A struct's words, the struct of words, the structs that fit, and the test of words.
pub record Struct {T : Type 0} (n : ℕ) (from : T → List ℕ) (to : List ℕ → T) (fits : T → Bool) (test : List ℕ → Bool) : Type 0 where
  pub long : (x : T) → length (from x) ≡ n
  pub words : (x : T) → fits x ≡ true → every is64 (from x) ≡ true
  pub tested : (x : T) (r : List ℕ) → fits x ≡ true → test (from x ++ r) ≡ true
  pub back : (x : T) (r : List ℕ) → fits x ≡ true → to (from x ++ r) ≡ x
  pub again : (ws : List ℕ) → test ws ≡ true → from (to ws) ≡ firsts n (λ i. get_or ws i 0)
  pub fitting : (ws : List ℕ) → Fit ws → test ws ≡ true → fits (to ws) ≡ true

module _ {T : Type 0} (n : ℕ) (from : T → List ℕ) (to : List ℕ → T) (fits : T → Bool) (test : List ℕ → Bool) (s : Struct n from to fits test) where
  -- A struct in n words.
  abbrev pub struct : Code T
  struct =
      record {
        size = n;
        enc = from;
        good = fits;
        ok = test;
        parse = to;
        size_enc = λ x h. s.long x;
        fit_enc = λ x h. each_fit (from x) (s.words x h);
        ok_enc = s.tested;
        parse_enc = s.back;
        enc_parse = λ ws f h k. ap (λ (l : List ℕ). l ++ drop n ws) (s.again ws k) ∙ firsts_back n ws h;
        good_parse = λ ws f h k. s.fitting ws f k;
      }

-- ---- a struct told by its numbers: words are tested by reading them and writing what was read

module _ {T : Type 0} (n : ℕ) (from : T → List ℕ) (to : List ℕ → T) (rule : T → Bool) where
  -- The structs that have a content: words of 64 bits, and the rule.
  abbrev pub fitting : T → Bool
  fitting x = every is64 (from x) and rule x

  -- Whether words begin with a struct: writing what was read gives them again, and the rule.
  abbrev pub tells : List ℕ → Bool
  tells ws = same_list (from (to ws)) (firsts n (λ i. get_or ws i 0)) and rule (to ws)

  module _ (long : (x : T) → length (from x) ≡ n) (heads : (x : T) (r : List ℕ) → firsts n (λ i. get_or (from x ++ r) i 0) ≡ from x) (back : (x : T) (r : List ℕ) → to (from x ++ r) ≡ x) where
    pub told : Struct n from to fitting tells
    told = record {
      long = long;
      words = λ x h. and_left _ _ h;
      tested = λ x r h. and_both _ _ (ap (λ (l : List ℕ). same_list l (firsts n (λ i. get_or (from x ++ r) i 0))) (ap from (back x r)) ∙ ap (same_list (from x)) (heads x r) ∙ list_itself (from x)) (ap rule (back x r) ∙ and_right _ _ h);
      back = λ x r h. back x r;
      again = λ ws h. list_equal _ _ (and_left _ _ h);
      fitting = λ ws f h. and_both _ _ (ap (every is64) (list_equal _ _ (and_left _ _ h)) ∙ firsts_fit n (λ i. get_or ws i 0) f) (and_right _ _ h);
    }
