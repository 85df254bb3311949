-- Bytes that are filled with words from the first on: what the contracts of the writers cite. Assumes nothing.
use Rattle.std.specs.Prelude.{◌≡◌, List, [], ◌++◌, ℕ, ◌-◌, ◌*◌, ◌≤◌, length, drop}
use Rattle.words.specs.Words.{bytes}
use Rattle.layout.specs.Code.{zeros}

-- The bytes are the words ws, zeros up to n bytes, and r behind them.
pub record Filled (b r : List ℕ) (n : ℕ) (ws : List ℕ) : Type 0 where
  pub room : 8 * length ws ≤ n
  pub is : b ≡ bytes ws ++ (zeros (n - 8 * length ws) ++ r)

-- The first n bytes are zero, and the others as they were.
pub record Clears (b b' : List ℕ) (n : ℕ) : Type 0 where
  pub filled : Filled b' (drop n b) n []

-- Whatever words up to word `at` the bytes b are filled with, b' are filled with those and then vs.
pub record Writes (b b' : List ℕ) (n at : ℕ) (vs : List ℕ) : Type 0 where
  pub to : (r ws : List ℕ) → Filled b r n ws → length ws ≡ at → Filled b' r n (ws ++ vs)
