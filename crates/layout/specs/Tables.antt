-- Contents and tables: what the contracts cite. A table is n rows side by side, then zeros up to its N words; the caller keeps n.
-- `Holds c b x`: the bytes b are the content of x. A writer's contract is `Becomes`, over every list of rows that the bytes may hold;
-- a reader speaks of the rows that the bytes say, `rows_in`, or `Gives`. Assumes nothing.
use Rattle.std.specs.Prelude.{◌≡◌, Bool, true, List, [], ◌∷◌, ◌++◌, ℕ, suc, ◌+◌, ◌-◌, ◌*◌, ◌/◌, ◌%◌, eqb, leb, length, take, drop, replicate}
use Rattle.std.proofs.lemmas.List.Edits.{sets}
use Rattle.laws.specs.Bools.{◌and◌}
use Rattle.words.specs.Words.{bytes, W, allz}
use Rattle.layout.specs.Code.{Code, such, rows, parse_n}

-- ---- contents

-- The bytes b are the content of x.
pub record Holds {T : Type 0} (c : Code T) (b : List ℕ) (x : T) : Type 0 where
  pub good : c.good x ≡ true
  pub is : b ≡ bytes (c.enc x)

-- The bytes b are a content.
pub record Content {T : Type 0} (c : Code T) (b : List ℕ) : Type 0 where
  pub value : T
  pub held : Holds c b value

-- ---- tables

-- A kind of table: how a row lies in words, and a test of the whole list of rows.
pub record Table (T : Type 0) : Type 1 where
  pub row : Code T
  pub rule : List T → Bool

-- The table whose rows are asked one more test.
abbrev pub such_table : {T : Type 0} → Table T → (T → Bool) → Table T
such_table t q = record { row = such t.row q; rule = t.rule }

-- The code of a table of n rows in N words.
abbrev pub content : {T : Type 0} → Table T → ℕ → ℕ → Code (List T)
content t N n = such (rows t.row N n) t.rule

-- The bytes b, N words, hold the n rows x. A record, so that its arguments are found from it.
pub record Held {T : Type 0} (t : Table T) (N n : ℕ) (b : List ℕ) (x : List T) : Type 0 where
  pub holds : Holds (content t N n) b x

-- The bytes b are a table of n rows.
pub record Tabled {T : Type 0} (t : Table T) (n : ℕ) (b : List ℕ) : Type 0 where
  pub words : ℕ
  pub value : List T
  pub held : Held t words n b value

-- Whatever n rows x the bytes b hold, the bytes b' hold the m rows `op x`.
pub record Becomes {T : Type 0} (t : Table T) (n m : ℕ) (b b' : List ℕ) (op : List T → List T) : Type 0 where
  pub to : (N : ℕ) (x : List T) → Held t N n b x → Held t N m b' (op x)

-- Whatever n rows x the bytes b hold, r is `f x`.
pub record Gives {T : Type 0} (t : Table T) (n : ℕ) (b : List ℕ) {R : Type 0} (r : R) (f : List T → R) : Type 0 where
  pub to : (N : ℕ) (x : List T) → Held t N n b x → r ≡ f x

-- The n rows that the bytes say.
unfoldable pub rows_in : {T : Type 0} → Code T → ℕ → List ℕ → List T
rows_in c n b = parse_n c n (W b)

-- ---- rows of a list, and of the bytes of a table of n rows of w words

-- The list with a put in before element i.
unfoldable pub insert_at : {T : Type 0} → ℕ → T → List T → List T
insert_at i a x = take i x ++ a ∷ drop i x

-- The list with a after its last element.
unfoldable pub append : {T : Type 0} → T → List T → List T
append a x = x ++ a ∷ []

-- The list without element i.
unfoldable pub remove_at : {T : Type 0} → ℕ → List T → List T
remove_at i x = take i x ++ drop (suc i) x

-- The list with z from element i on.
unfoldable pub fill_from : {T : Type 0} → ℕ → T → List T → List T
fill_from i z x = take i x ++ replicate (length x - i) z

-- The rows from row i on are moved up by one: what stands in row i is as it was.
unfoldable pub opened : ℕ → ℕ → ℕ → List ℕ → List ℕ
opened w n i b = sets b (8 * (i * w) + 8 * w) (take (8 * (n * w) - 8 * (i * w)) (drop (8 * (i * w)) b))

-- The rows after row i are moved down by one, and zeros stand in the place of the last.
unfoldable pub removed : ℕ → ℕ → ℕ → List ℕ → List ℕ
removed w n i b =
    sets (sets b (8 * (i * w)) (take (8 * (n * w) - (8 * (i * w) + 8 * w)) (drop (8 * (i * w) + 8 * w) b))) (8 * (n * w) - 8 * w) (replicate (8 * w) 0)

-- The bytes are whole words, n rows of w words have room in them, and what follows the rows is zero.
unfoldable pub padded : ℕ → ℕ → List ℕ → Bool
padded w n b = eqb (length b % 8) 0 and (leb (n * w) (length b / 8) and allz (drop (n * w) (W b)))
