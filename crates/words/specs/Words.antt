-- Bytes, numbers and 64-bit words, the lowest byte first: what the contracts cite. Assumes nothing.
use Rattle.std.specs.Prelude.{Bool, List, [], ◌∷◌, ◌++◌, ℕ, zero, suc, ◌+◌, ◌*◌, ◌/◌, ◌%◌, eqb, length, get_or, take, drop}
use Rattle.std.specs.Int.{Width, w8, w64}
use Rattle.std.proofs.Common.{Fits}
use Rattle.laws.specs.Bools.{every}

-- The number that the bytes say.
unfoldable pub le : List ℕ → ℕ
le [] = 0
le (b ∷ bs) = b + 256 * le bs

-- The n lowest bytes of v.
unfoldable pub bytes_of : ℕ → ℕ → List ℕ
bytes_of zero v = []
bytes_of (suc n) v = v % 256 ∷ bytes_of n (v / 256)

-- The number in the n bytes of s from `at`.
abbrev pub le_at : ℕ → List ℕ → ℕ → ℕ
le_at n s at = le (take n (drop at s))

-- The bytes of a list of words.
unfoldable pub bytes : List ℕ → List ℕ
bytes [] = []
bytes (w ∷ ws) = bytes_of 8 w ++ bytes ws

-- The first n words of a list of bytes.
unfoldable pub words : ℕ → List ℕ → List ℕ
words zero bs = []
words (suc n) bs = le_at 8 bs 0 ∷ words n (drop 8 bs)

-- All the words of a list of bytes: up to seven bytes at its end are in none.
unfoldable pub W : List ℕ → List ℕ
W bs = words (length bs / 8) bs

-- Is every element zero?
unfoldable pub allz : List ℕ → Bool
allz l = every (λ x. eqb x 0) l

-- Each number of a list fits a width, in the very form in which a slice's rule says so (`c.shared-slice-known.given`).
abbrev pub Each : Width → List ℕ → Type 0
Each w l = (k : ℕ) → Fits w (get_or l k 0)

-- Each number of a list is a byte.
abbrev pub Bytes : List ℕ → Type 0
Bytes l = Each w8 l

-- Each number of a list is a 64-bit word.
abbrev pub Fit : List ℕ → Type 0
Fit l = Each w64 l
