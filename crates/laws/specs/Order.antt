-- Orders on keys, and lists in order: sets and maps as lists whose keys rise, and lists in which equal keys stand in order of arrival. Assumes nothing.
use Rattle.std.specs.Prelude.{◌≡◌, refl, Bool, true, false, not, List, [], ◌∷◌, ◌⊎◌, ℕ, ltb, Option, None, Some}
use Rattle.std.proofs.Common.{sym, subst, ◌∙◌, inl, inr, ⊎_elim, arith, ltb-true, ltb-false, lt-ltb, le-ltb}
use Rattle.laws.specs.Bools.{pick, ◌and◌}
use Rattle.laws.specs.Decides.{false_true}

-- ---- orders

-- A strict order in which of any two different keys one stands before the other.
pub record Order (K : Type 0) : Type 0 where
  pub before : K → K → Bool
  pub irreflexive : (a : K) → before a a ≡ false
  pub transitive : (a b c : K) → before a b ≡ true → before b c ≡ true → before a c ≡ true
  pub total : (a b : K) → before a b ≡ false → before b a ≡ false → a ≡ b

pub lt_irreflexive : (a : ℕ) → ltb a a ≡ false
lt_irreflexive a = le-ltb a a (omega arith)

pub lt_transitive : (a b c : ℕ) → ltb a b ≡ true → ltb b c ≡ true → ltb a c ≡ true
lt_transitive a b c h k = lt-ltb a c (omega (arith, ltb-true a b h, ltb-true b c k))

pub lt_total : (a b : ℕ) → ltb a b ≡ false → ltb b a ≡ false → a ≡ b
lt_total a b h k = omega (arith, ltb-false a b h, ltb-false b a k)

-- Numbers, the smaller before the greater.
abbrev pub numbers : Order ℕ
numbers = record { before = ltb; irreflexive = lt_irreflexive; transitive = lt_transitive; total = lt_total }

module _ {K L : Type 0} (O : Order K) (P : Order L) where
  -- Whether a pair stands before another: by the first parts; where neither is before the other, by the second.
  abbrev pub lex_before : K × L → K × L → Bool
  lex_before x y = pick (O.before x.0 y.0) true (pick (O.before y.0 x.0) false (P.before x.1 y.1))

  pub lex_irreflexive : (a : K × L) → lex_before a a ≡ false
  lex_irreflexive a = rw (O.irreflexive, P.irreflexive)

  lex_first : (x y : K × L) → O.before x.0 y.0 ≡ true → lex_before x y ≡ true
  lex_first x y h = rw h

  lex_second : (x y : K × L) → x.0 ≡ y.0 → P.before x.1 y.1 ≡ true → lex_before x y ≡ true
  lex_second x y e h = rw (e, O.irreflexive, h)

  lex_cases : (x y : K × L) → lex_before x y ≡ true → (O.before x.0 y.0 ≡ true) ⊎ ((x.0 ≡ y.0) × (P.before x.1 y.1 ≡ true))
  lex_cases x y h = by (O.before x.0 y.0) refl (O.before y.0 x.0) refl h
    where
      by : (a : Bool) → O.before x.0 y.0 ≡ a → (b : Bool) → O.before y.0 x.0 ≡ b → pick a true (pick b false (P.before x.1 y.1)) ≡ true
          → (O.before x.0 y.0 ≡ true) ⊎ ((x.0 ≡ y.0) × (P.before x.1 y.1 ≡ true))
      by true p b q h = inl p
      by false p true q h = absurd (false_true h)
      by false p false q h = inr (O.total x.0 y.0 p q, h)

  pub lex_transitive : (a b c : K × L) → lex_before a b ≡ true → lex_before b c ≡ true → lex_before a c ≡ true
  lex_transitive a b c h k =
      ⊎_elim
      (λ p. ⊎_elim (λ q. lex_first a c (O.transitive a.0 b.0 c.0 p q)) (λ q. lex_first a c (subst (λ (z : K). O.before a.0 z ≡ true) q.0 p)) (lex_cases b c k))
      (λ p. ⊎_elim (λ q. lex_first a c (subst (λ (z : K). O.before z c.0 ≡ true) (sym p.0) q)) (λ q. lex_second a c (p.0 ∙ q.0) (P.transitive a.1 b.1 c.1 p.1 q.1)) (lex_cases b c k))
      (lex_cases a b h)

  pub lex_total : (a b : K × L) → lex_before a b ≡ false → lex_before b a ≡ false → a ≡ b
  lex_total a b h k = by (O.before a.0 b.0) refl (O.before b.0 a.0) refl h k
    where
      by : (p : Bool) → O.before a.0 b.0 ≡ p → (q : Bool) → O.before b.0 a.0 ≡ q → pick p true (pick q false (P.before a.1 b.1)) ≡ false
          → pick q true (pick p false (P.before b.1 a.1)) ≡ false
          → a ≡ b
      by true e q f h k = absurd (false_true (sym h))
      by false e true f h k = absurd (false_true (sym k))
      by false e false f h k =
          let x : a.0 ≡ b.0 = O.total a.0 b.0 e f in
          let y : a.1 ≡ b.1 = P.total a.1 b.1 h k in
          λ i. (x i, y i)

  -- Pairs in that order.
  abbrev pub lexical : Order (K × L)
  lexical = record { before = lex_before; irreflexive = lex_irreflexive; transitive = lex_transitive; total = lex_total }

-- Pairs of numbers.
abbrev pub pairs : Order (ℕ × ℕ)
pairs = lexical numbers numbers

-- Whether b is above a. Shut, so that a law that is cited finds O and a.
unfoldable pub below : {K : Type 0} → Order K → K → K → Bool
below O a b = O.before a b

-- Whether b is not below a.
unfoldable pub not_below : {K : Type 0} → Order K → K → K → Bool
not_below O a b = not (O.before b a)

-- ---- lists in order

-- Whether an element is related to the first of a list, where there is one.
abbrev pub next : {K : Type 0} → (K → K → Bool) → K → List K → Bool
next r a [] = true
next r a (b ∷ ks) = r a b

-- Whether each element is related to the one after it.
unfoldable pub chain : {K : Type 0} → (K → K → Bool) → List K → Bool
chain r [] = true
chain r (a ∷ ks) = next r a ks and chain r ks

-- Whether each key is above the one before it.
abbrev pub rising : {K : Type 0} → Order K → List K → Bool
rising O ks = chain (below O) ks

-- Whether each key is not below the one before it.
abbrev pub sorted : {K : Type 0} → Order K → List K → Bool
sorted O ks = chain (not_below O) ks

-- A row put in where its key belongs, unless a row with its key is there.
unfoldable pub insert_by : {K T : Type 0} → Order K → (T → K) → T → List T → List T
insert_by O key a [] = a ∷ []
insert_by O key a (b ∷ x) = pick (O.before (key b) (key a)) (b ∷ insert_by O key a x) (pick (O.before (key a) (key b)) (a ∷ b ∷ x) (b ∷ x))

-- A row put in after all rows whose key is not above its own.
unfoldable pub push_by : {K T : Type 0} → Order K → (T → K) → T → List T → List T
push_by O key a [] = a ∷ []
push_by O key a (b ∷ x) = pick (O.before (key a) (key b)) (a ∷ b ∷ x) (b ∷ push_by O key a x)

-- The rows without that of key k.
unfoldable pub remove_by : {K T : Type 0} → Order K → (T → K) → K → List T → List T
remove_by O key k [] = []
remove_by O key k (b ∷ x) = pick (O.before (key b) k) (b ∷ remove_by O key k x) (pick (O.before k (key b)) (b ∷ x) x)

-- The rows of a list put one after another into a list in order.
unfoldable pub push_all : {K T : Type 0} → Order K → (T → K) → List T → List T → List T
push_all O key [] x = x
push_all O key (a ∷ rows) x = push_all O key rows (push_by O key a x)

-- Stable sort: rows of equal keys keep their order.
unfoldable pub sort_by : {K T : Type 0} → Order K → (T → K) → List T → List T
sort_by O key rows = push_all O key rows []

-- The row of key k among rows that rise, if there is one.
unfoldable pub lookup : {K T : Type 0} → Order K → (T → K) → K → List T → Option T
lookup O key k [] = None
lookup O key k (b ∷ x) = pick (O.before (key b) k) (lookup O key k x) (pick (O.before k (key b)) None (Some b))
