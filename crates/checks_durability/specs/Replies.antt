-- Replies as a table (replies.rt): rows of when the command was sent, when its reply came, its index, client and sequence. Assumes nothing.
use Rattle.std.specs.Prelude.{◌≡◌, refl, true, List, ℕ, ◌+◌, ◌≤◌, ◌<◌, leb, ltb, length, Option, None, Some}
use Rattle.laws.specs.Bools.{pick, ◌and◌}
use Rattle.laws.specs.Lists.{at}
use Rattle.layout.specs.Code.{Code, word, pair, iso, such}
use Rattle.layout.specs.Tables.{Table, Held, append}
use Rattle.checks_durability.specs.declared.replies.Reply.{Reply}

-- The five numbers of a reply.
abbrev pub Five : Type 0
Five = ℕ × (ℕ × (ℕ × (ℕ × ℕ)))

-- The reply of five numbers.
abbrev pub reply_of : Five → Reply
reply_of x = record {
  sent = record { 0 = x.0 };
  received = record { 0 = x.1.0 };
  index = record { 0 = x.1.1.0 };
  client = x.1.1.1.0;
  seq = x.1.1.1.1;
}

-- And back.
abbrev pub numbers_of : Reply → Five
numbers_of r = (r.sent.0, (r.received.0, (r.index.0, (r.client, r.seq))))

-- A row: a word for each.
abbrev pub reply_row : Code Reply
reply_row = iso (pair word (pair word (pair word (pair word word)))) reply_of numbers_of (λ r. refl) (λ x h. refl)

-- Replies at indexes up to L, to clients below C, in any order.
abbrev pub replies : ℕ → ℕ → Table Reply
replies L C = record { row = such reply_row (λ r. leb r.index.0 L and ltb r.client C); rule = λ x. true }

-- ---- what the code answers

-- The bytes b hold the n replies x, in some ranges: what a reader asks.
pub record Replied (n : ℕ) (b : List ℕ) (x : List Reply) : Type 0 where
  pub indexes : ℕ
  pub clients : ℕ
  pub words : ℕ
  pub held : Held (replies indexes clients) words n b x

-- A reply was appended to n rows x: b' holds one more, and m is the new count.
pub record Grown (L C N n m : ℕ) (b' : List ℕ) (x : List Reply) (reply : Reply) : Type 0 where
  pub count : m ≡ n + 1
  pub held : Held (replies L C) N m b' (append reply x)

-- What an answer says of the bytes.
abbrev pub Outcome : Option ℕ → (L C N n : ℕ) (b b' : List ℕ) → List Reply → Reply → Type 0
Outcome (Some m) L C N n b b' x reply = Grown L C N n m b' x reply
Outcome None L C N n b b' x reply = b' ≡ b

-- Document 01's number for an answer.
unfoldable pub appending_number : Option ℕ → ℕ
appending_number (Some m) = 0
appending_number None = 10

-- Document 01's number for so many rows: 10 where there is no room for them.
unfoldable pub room_code : ℕ → ℕ → ℕ
room_code rows room = pick (leb rows room) 0 10

-- A reply in range was appended to b, whatever n rows it holds, in room for so many: the answer's number, and what it says of the bytes.
pub record Appends (reply : Reply) (n room : ℕ) (r : Option ℕ) (b b' : List ℕ) : Type 0 where
  pub number : (x : List Reply) → Replied n b x → appending_number r ≡ room_code (length (append reply x)) room
  pub to : (L C : ℕ) → reply.index.0 ≤ L → reply.client < C → (N : ℕ) (x : List Reply) → Held (replies L C) N n b x
      → Outcome r L C N n b b' x reply

-- Whatever n replies b holds, r is the one at place k.
pub record Reads (n k : ℕ) (r : Reply) (b : List ℕ) : Type 0 where
  pub to : (x : List Reply) → Replied n b x → at x k ≡ Some r
