-- Answers to requests to confirm leadership (simulation.rs), and how they lie in a table: rows of 3 words. Assumes nothing.
use Rattle.std.specs.Prelude.{◌≡◌, refl, Bool, true, List, [], ◌∷◌, ◌++◌, ℕ, ◌+◌, eqb, length, get_or, Option, None, Some}
use Rattle.std.proofs.Common.{ap}
use Rattle.laws.specs.Bools.{pick}
use Rattle.laws.specs.Lists.{at}
use Rattle.units.specs.declared.LogIndex.{LogIndex}
use Rattle.layout.specs.Code.{Code}
use Rattle.layout.specs.Tables.{Table, Held, append}
use Rattle.checks_durability.specs.Replies.{appending_number, room_code}
use Rattle.layout.specs.Structs.{Struct, struct, fitting, tells, told}
use Rattle.clients.specs.Clients.{flag_of, number_of}
use Rattle.clients.specs.declared.confirmations.Numbers.{Numbers}
pub use Rattle.clients.specs.declared.confirmations.Confirmation.{Confirmation}

-- ---- a row: the request, 1 where leadership was confirmed, and the read index

-- The read index that two numbers tell.
unfoldable pub index_in : ℕ → ℕ → Option LogIndex
index_in flag i = pick (eqb flag 0) None (Some (record { 0 = i }))

pub index_back : (o : Option LogIndex) → index_in (flag_of o) (number_of (λ x. x.0) o) ≡ o
unfolding index_in
index_back None = refl
index_back (Some x) = refl

-- The words of a confirmation.
abbrev pub confirmation_words : Confirmation → List ℕ
confirmation_words c = c.request.0 ∷ flag_of c.read_index ∷ number_of (λ x. x.0) c.read_index ∷ []

-- The confirmation of words.
abbrev pub confirmation_in : List ℕ → Confirmation
confirmation_in ws = record { request = record { 0 = get_or ws 0 0 }; read_index = index_in (get_or ws 1 0) (get_or ws 2 0) }

pub confirmation_back : (c : Confirmation) (r : List ℕ) → confirmation_in (confirmation_words c ++ r) ≡ c
confirmation_back c r = ap (λ (o : Option LogIndex). record { request = c.request; read_index = o }) (index_back c.read_index)

-- Every confirmation is in range.
abbrev pub any_confirmation : Confirmation → Bool
any_confirmation c = true

pub confirmation_struct : Struct 3 confirmation_words confirmation_in (fitting 3 confirmation_words confirmation_in any_confirmation)
    (tells 3 confirmation_words confirmation_in any_confirmation)
confirmation_struct = told 3 confirmation_words confirmation_in any_confirmation (λ c. refl) (λ c r. refl) confirmation_back

-- The code of a confirmation.
abbrev pub confirmation_code : Code Confirmation
confirmation_code =
    struct 3 confirmation_words confirmation_in (fitting 3 confirmation_words confirmation_in any_confirmation)
    (tells 3 confirmation_words confirmation_in any_confirmation) confirmation_struct

-- Confirmations in order of arrival.
abbrev pub confirmations : Table Confirmation
confirmations = record { row = confirmation_code; rule = λ x. true }

-- ---- what the code passes and answers

-- The two words of a read index.
unfoldable pub numbers_of : Option LogIndex → Numbers
numbers_of o = record { flag = flag_of o; index = number_of (λ x. x.0) o }

-- Whether two words are those of a read index, or of none.
unfoldable pub tell_index : ℕ → ℕ → Bool
tell_index flag index = pick (eqb flag 0) (eqb index 0) (eqb flag 1)

-- Whatever n confirmations b holds, r is the one at place k.
pub record ReadsConfirmation (n k : ℕ) (r : Confirmation) (b : List ℕ) : Type 0 where
  pub to : (N : ℕ) (x : List Confirmation) → Held confirmations N n b x → at x k ≡ Some r

-- One was appended to n rows x: b' holds one more, and m is the new count.
pub record Grown (N n m : ℕ) (b' : List ℕ) (x : List Confirmation) (c : Confirmation) : Type 0 where
  pub count : m ≡ n + 1
  pub held : Held confirmations N m b' (append c x)

-- What an answer says of the bytes.
abbrev pub Outcome : Option ℕ → (N n : ℕ) (b b' : List ℕ) → List Confirmation → Confirmation → Type 0
Outcome (Some m) N n b b' x c = Grown N n m b' x c
Outcome None N n b b' x c = b' ≡ b

-- A confirmation was appended to b, whatever n rows it holds, in room for so many: the answer's number, and what it says of the bytes.
pub record AppendsConfirmation (c : Confirmation) (n room : ℕ) (r : Option ℕ) (b b' : List ℕ) : Type 0 where
  pub number : (N : ℕ) (x : List Confirmation) → Held confirmations N n b x
      → appending_number r ≡ room_code (length (append c x)) room
  pub to : (N : ℕ) (x : List Confirmation) → Held confirmations N n b x → Outcome r N n b b' x c
