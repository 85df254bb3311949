-- A recorded run, and the calls whose answers by the definitions are not those of the record. An answer is its numbers, in the order of the struct that C gets, and the bytes
-- that the call wrote to the lent buffer. Assumes nothing.
use Rattle.std.specs.Prelude.{Bool, List, [], ◌∷◌, ℕ, suc}
use Rattle.laws.specs.Bools.{pick, ◌and◌}
use Rattle.laws.specs.Lists.{same_list}
use Rattle.model.specs.State.{State}
use Rattle.model.specs.Fits.{state_fits}
use Rattle.model.specs.Outcome.{Call, Answer, after}
use Rattle.answers.specs.Numbers.{numbers_of, bytes_of}

-- A call, and what the Rust answered.
pub data Exchange : Type 0 where
  exchange : Call → (numbers bytes : List ℕ) → Exchange

-- Whether an answer has these numbers and these bytes.
unfoldable pub is : Answer → List ℕ → List ℕ → Bool
is answer numbers bytes = same_list (numbers_of answer) numbers and same_list (bytes_of answer) bytes

-- The places, the first of them i, of the exchanges whose answer by the definitions is another. Each call gets the state as the last one left it; question 10 asks `state_fits`.
unfoldable pub differs : ℕ → State → List Exchange → List ℕ
differs i s [] = []
differs i s (exchange call numbers bytes ∷ more) =
    let a = after state_fits s call in
    let rest = differs (suc i) a.state more in
    pick (is a.answer numbers bytes) rest (i ∷ rest)
