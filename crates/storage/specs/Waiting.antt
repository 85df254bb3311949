-- How the writes not yet synced lie in words (waiting.rt), and what its functions leave and answer. Payloads are of up to p bytes. Assumes nothing.
use Rattle.std.specs.Prelude.{◌≡◌, refl, Bool, true, List, [], ◌∷◌, ℕ, zero, suc, ◌+◌, ◌-◌, ◌≤◌, eqb, leb, length, get_or, Option, None, Some}
use Rattle.std.proofs.Common.{sym, ap, arith, eqb-true}
use Rattle.laws.specs.Bools.{◌and◌, pick}
use Rattle.laws.proofs.BoolLaws.{and_right}
use Rattle.units.specs.Types.{Payload, noop, command, command_length}
pub use Rattle.units.specs.Types.{node_number as voteNumber}
use Rattle.units.specs.declared.LogIndex.{LogIndex}
use Rattle.units.specs.declared.PayloadShape.{PayloadShape}
use Rattle.units.specs.declared.PayloadShape.TheVariants.{Noop, Command}
use Rattle.layout.specs.Code.{Code, word, pair, such, iso, sized}
use Rattle.layout.specs.Tables.{Table, such_table, Becomes, Gives, append}
use Rattle.layout.specs.Marked.{words_for, Marking, marked}
use Rattle.raft_log.specs.Places.{entry_shape}
use Rattle.storage.specs.declared.waiting.Shape.{Shape}
use Rattle.storage.specs.Storage.{Write, write_hard_state, write_put, write_truncate}
use Rattle.units.specs.declared.NodeId.{NodeId}

-- ---- the row: a number that says the kind and the length, the bytes of a command, and two numbers

-- The kinds of a row.
pub data Kind : Type 0 where
  hard_state : Kind
  vote : Kind
  truncate : Kind
  put_noop : Kind
  put_command : List ℕ → Kind

-- A kind's number: 4 and the length for a command.
abbrev pub mark_of : Kind → ℕ
mark_of hard_state = 0
mark_of vote = 1
mark_of truncate = 2
mark_of put_noop = 3
mark_of (put_command bs) = 4 + length bs

-- A kind's bytes: those of a command.
abbrev pub body_of : Kind → List ℕ
body_of hard_state = []
body_of vote = []
body_of truncate = []
body_of put_noop = []
body_of (put_command bs) = bs

-- The kind of a number and bytes.
unfoldable pub kind_from : ℕ → List ℕ → Kind
kind_from zero d = hard_state
kind_from (suc zero) d = vote
kind_from (suc (suc zero)) d = truncate
kind_from (suc (suc (suc zero))) d = put_noop
kind_from (suc (suc (suc (suc k)))) d = put_command d

pub count_mark : (x : Kind) → length (body_of x) ≡ mark_of x - 4
count_mark hard_state = refl
count_mark vote = refl
count_mark truncate = refl
count_mark put_noop = refl
count_mark (put_command bs) = omega arith

pub make_mark : (x : Kind) → kind_from (mark_of x) (body_of x) ≡ x
unfolding kind_from
make_mark hard_state = refl
make_mark vote = refl
make_mark truncate = refl
make_mark put_noop = refl
make_mark (put_command bs) = ap (λ (k : ℕ). kind_from k bs) (let e : 4 + length bs ≡ suc (suc (suc (suc (length bs)))) = omega arith in e)

pub mark_make : (k : ℕ) (d : List ℕ) → true ≡ true → length d ≡ k - 4 → mark_of (kind_from k d) ≡ k
unfolding kind_from
mark_make zero d v l = refl
mark_make (suc zero) d v l = refl
mark_make (suc (suc zero)) d v l = refl
mark_make (suc (suc (suc zero))) d v l = refl
mark_make (suc (suc (suc (suc k)))) d v l = omega arith

empty : (d : List ℕ) → length d ≡ 0 → [] ≡ d
empty [] h = refl
empty (x ∷ d) h = absurd (omega arith)

pub body_make : (k : ℕ) (d : List ℕ) → true ≡ true → length d ≡ k - 4 → body_of (kind_from k d) ≡ d
unfolding kind_from
body_make zero d v l = empty d (omega arith)
body_make (suc zero) d v l = empty d (omega arith)
body_make (suc (suc zero)) d v l = empty d (omega arith)
body_make (suc (suc (suc zero))) d v l = empty d (omega arith)
body_make (suc (suc (suc (suc k)))) d v l = refl

-- A kind as a number and bytes.
abbrev pub kind_marking : Marking Kind
kind_marking =
    record {
      mark = mark_of;
      body = body_of;
      count = λ k. k - 4;
      valid = λ k. true;
      make = kind_from;
      count_mark = count_mark;
      valid_mark = λ x. refl;
      make_mark = make_mark;
      mark_make = mark_make;
      body_make = body_make;
    }

-- The write of a kind and two numbers: the term and the vote, the index from which a truncation removes, or a put's index and term.
abbrev pub write_from : Kind → ℕ → ℕ → Write
write_from hard_state a b = write_hard_state (record { term = record { 0 = a }; voted_for = None })
write_from vote a b = write_hard_state (record { term = record { 0 = a }; voted_for = Some (record { 0 = b }) })
write_from truncate a b = write_truncate (record { 0 = a })
write_from put_noop a b = write_put (record { 0 = a }) (record { term = record { 0 = b }; payload = noop })
write_from (put_command bs) a b = write_put (record { 0 = a }) (record { term = record { 0 = b }; payload = command bs })

-- The kind of a hard state, by its vote.
abbrev pub vote_kind : Option NodeId → Kind
vote_kind None = hard_state
vote_kind (Some id) = vote

-- The kind of a put, by its payload.
abbrev pub payload_kind : Payload → Kind
payload_kind noop = put_noop
payload_kind (command bs) = put_command bs

-- The kind of a write.
abbrev pub kind_of : Write → Kind
kind_of (write_hard_state h) = vote_kind h.voted_for
kind_of (write_put index e) = payload_kind e.payload
kind_of (write_truncate from) = truncate

-- A write's first number: a term, or an index.
abbrev pub first_of : Write → ℕ
first_of (write_hard_state h) = h.term.0
first_of (write_put index e) = index.0
first_of (write_truncate from) = from.0

-- A write's second number: a vote, or a put's term; 0 where there is none.
abbrev pub second_of : Write → ℕ
second_of (write_hard_state h) = voteNumber h.voted_for
second_of (write_put index e) = e.term.0
second_of (write_truncate from) = 0

-- A second number that says nothing is zero.
abbrev pub plain : Kind → ℕ → Bool
plain hard_state b = eqb b 0
plain vote b = true
plain truncate b = eqb b 0
plain put_noop b = true
plain (put_command bs) b = true

-- The same by the kind's number.
unfoldable pub plain_mark : ℕ → ℕ → Bool
plain_mark zero b = eqb b 0
plain_mark (suc zero) b = true
plain_mark (suc (suc zero)) b = eqb b 0
plain_mark (suc (suc (suc m))) b = true

-- The write of a row's parts.
abbrev pub to_write : Kind × (ℕ × ℕ) → Write
to_write x = write_from x.0 x.1.0 x.1.1

-- A row's parts of a write.
abbrev pub from_write : Write → Kind × (ℕ × ℕ)
from_write w = (kind_of w, (first_of w, second_of w))

pub write_back : (w : Write) → to_write (from_write w) ≡ w
write_back (write_hard_state h) = by h.voted_for
  where
    by : (v : Option NodeId) → write_from (vote_kind v) h.term.0 (voteNumber v) ≡ write_hard_state (record { term = h.term; voted_for = v })
    by None = refl
    by (Some id) = refl
write_back (write_put index e) = by e.payload
  where
    by : (y : Payload) → write_from (payload_kind y) index.0 e.term.0 ≡ write_put index (record { term = e.term; payload = y })
    by noop = refl
    by (command bs) = refl
write_back (write_truncate from) = refl

pub parts_back : (k : Kind) (a b : ℕ) → plain k b ≡ true → from_write (write_from k a b) ≡ (k, (a, b))
parts_back hard_state a b h = ap (λ (n : ℕ). (hard_state, (a, n))) (sym (eqb-true b 0 h))
parts_back vote a b h = refl
parts_back truncate a b h = ap (λ (n : ℕ). (truncate, (a, n))) (sym (eqb-true b 0 h))
parts_back put_noop a b h = refl
parts_back (put_command bs) a b h = refl

-- A row: the kind, and two numbers.
abbrev pub row_parts : ℕ → Code (Kind × (ℕ × ℕ))
row_parts p = such (pair (marked kind_marking p) (pair word word)) (λ x. plain x.0 x.1.1)

pub two_more : (k : ℕ) → 1 + k + 2 ≡ 3 + k
two_more k = omega arith

-- A write in 3 + ⌈p/8⌉ words.
abbrev pub write_code : ℕ → Code Write
write_code p = sized (iso (row_parts p) to_write from_write write_back (λ x h. parts_back x.0 x.1.0 x.1.1 (and_right _ _ h))) (3 + words_for p) (two_more (words_for p))

-- The waiting writes, in write order.
abbrev pub waiting : ℕ → Table Write
waiting p = record { row = write_code p; rule = λ x. true }

-- Whether a put's index is 1 to L; no other write has an index with a range.
abbrev pub put_within : ℕ → Write → Bool
put_within L (write_hard_state h) = true
put_within L (write_put index e) = leb 1 index.0 and leb index.0 L
put_within L (write_truncate from) = true

-- The same by the kind's number and the row's first number.
unfoldable pub within_mark : ℕ → ℕ → ℕ → Bool
within_mark L zero a = true
within_mark L (suc zero) a = true
within_mark L (suc (suc zero)) a = true
within_mark L (suc (suc (suc m))) a = leb 1 a and leb a L

-- The waiting writes to a log of L places.
abbrev pub waiting_in : ℕ → ℕ → Table Write
waiting_in L p = such_table (waiting p) (put_within L)

-- ---- answers

-- The mark, the bytes and the two numbers of a write are put in the row after the last.
pub record Pushes (p m mark : ℕ) (src : List ℕ) (a b : ℕ) (s s' : List ℕ) : Type 0 where
  pub to : (w : Write) → mark_of (kind_of w) ≡ mark → body_of (kind_of w) ≡ src → first_of w ≡ a → second_of w ≡ b → Becomes (waiting p) m (m + 1) s s' (append w)

-- A write without the bytes of its command.
abbrev pub shape_of : Write → Shape
shape_of (write_hard_state h) = Shape.HardState h
shape_of (write_put index e) = Shape.Put index (entry_shape e)
shape_of (write_truncate from) = Shape.Truncate from

-- The index of a put, or 0, where no entry is.
abbrev pub shape_index : Shape → LogIndex
shape_index (Shape.HardState h) = record { 0 = 0 }
shape_index (Shape.Put index e) = index
shape_index (Shape.Truncate from) = record { 0 = 0 }

-- The length of a put's command.
abbrev pub length_of : Shape → ℕ
length_of (Shape.HardState h) = 0
length_of (Shape.Put index e) = command_length e.payload
length_of (Shape.Truncate from) = 0

-- Any write, for a place at which there is none.
abbrev pub nothing : Write
nothing = write_truncate (record { 0 = 0 })

-- Write k, without the bytes of its command.
unfoldable pub shape_at : ℕ → List Write → Shape
shape_at k ws = shape_of (get_or ws k nothing)

-- The shape of the payload of a row that is a put, by its first word; a length past p is said of no content.
unfoldable pub payload_said : ℕ → ℕ → PayloadShape
payload_said p mark = pick (leb mark 3) Noop (Command (pick (leb (mark - 4) p) (mark - 4) 0))

-- What a row says by its first word and its last two.
unfoldable pub shaped : ℕ → ℕ → ℕ → ℕ → Shape
shaped p zero a b = Shape.HardState (record { term = record { 0 = a }; voted_for = None })
shaped p (suc zero) a b = Shape.HardState (record { term = record { 0 = a }; voted_for = Some (record { 0 = b }) })
shaped p (suc (suc zero)) a b = Shape.Truncate (record { 0 = a })
shaped p (suc (suc (suc m))) a b = Shape.Put (record { 0 = a }) (record { term = record { 0 = b }; payload = payload_said p (3 + m) })

-- r is what a row says; its command has at most p bytes.
pub record Shaped (p mark a b : ℕ) (r : Shape) : Type 0 where
  pub is : r ≡ shaped p mark a b
  pub most : length_of r ≤ p

-- Where s holds m writes, r is write k without the bytes of its command, which has at most p.
pub record Shows (p m k : ℕ) (r : Shape) (s : List ℕ) : Type 0 where
  pub is : Gives (waiting p) m s r (shape_at k)
  pub most : length_of r ≤ p

-- No write.
unfoldable pub emptied : List Write → List Write
emptied ws = []
