-- Keys in order: what the contracts of sorted tables cite, over the orders of `laws`. Assumes nothing.
use Rattle.std.specs.Prelude.{Bool, List, [], ◌∷◌, ℕ, zero, suc, get_or, drop, Result, Ok, Err}
use Rattle.laws.specs.Bools.{pick}
use Rattle.laws.specs.Order.{Order, below, not_below}

-- ---- places

-- The index of the first element that f takes, or the length.
unfoldable pub first : {A : Type 0} → (A → Bool) → List A → ℕ
first f [] = 0
first f (a ∷ x) = pick (f a) 0 (suc (first f x))

-- Where k is or would be: before the first key that is not below it.
abbrev pub place : {K : Type 0} → Order K → K → List K → ℕ
place O k ks = first (not_below O k) ks

-- Where k goes behind keys that are equal to it: before the first key that is above it.
abbrev pub last_place : {K : Type 0} → Order K → K → List K → ℕ
last_place O k ks = first (below O k) ks

-- One place further on.
abbrev pub later : Result ℕ ℕ → Result ℕ ℕ
later (Ok i) = Ok (suc i)
later (Err i) = Err (suc i)

-- The keys below k are passed; then k is there, or not.
unfoldable pub find : {K : Type 0} → Order K → K → List K → Result ℕ ℕ
find O k [] = Err 0
find O k (a ∷ ks) = pick (O.before a k) (later (find O k ks)) (pick (O.before k a) (Err 0) (Ok 0))

-- ---- the keys of n rows of w words, as the code reads them

-- The first word.
unfoldable pub one : List ℕ → ℕ
one ws = get_or ws 0 0

-- The first two words.
unfoldable pub two : List ℕ → ℕ × ℕ
two ws = (get_or ws 0 0, get_or ws 1 0)

-- What is read of the beginning of each of n rows of w words.
unfoldable pub heads : {K : Type 0} → (List ℕ → K) → ℕ → ℕ → List ℕ → List K
heads f w zero ws = []
heads f w (suc n) ws = f ws ∷ heads f w n (drop w ws)
