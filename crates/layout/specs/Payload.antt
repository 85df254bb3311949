-- Payloads (types.rs, `Payload`) and the bytes of a message, in words. Assumes nothing.
use Rattle.std.specs.Prelude.{◌≡◌, refl, Bool, true, false, List, [], ℕ, ◌+◌, ◌-◌, leb, eqb, length}
use Rattle.std.proofs.Common.{sym, ap, arith, drop_of_length-le, leb-true, le-leb, eqb-true, ne_eqb}
use Rattle.std.proofs.lemmas.Bool.{eqb-false}
use Rattle.laws.specs.Bools.{pick}
use Rattle.units.specs.Types.{Payload, noop, command}
use Rattle.layout.specs.Code.{Code}
use Rattle.layout.specs.Marked.{Marking, marked}

-- Kind and length in one number: 1 for a noop, 2 and the length for a command. 0 is left for a place that has no payload.
abbrev pub mark_of : Payload → ℕ
mark_of noop = 1
mark_of (command bs) = 2 + length bs

-- The bytes of a payload.
abbrev pub body_of : Payload → List ℕ
body_of noop = []
body_of (command bs) = bs

-- The payload of a mark and bytes.
unfoldable pub payload_from : ℕ → List ℕ → Payload
payload_from k d = pick (eqb k 1) noop (command d)

pub count_mark : (x : Payload) → length (body_of x) ≡ mark_of x - 2
count_mark noop = refl
count_mark (command bs) = omega arith

pub valid_mark : (x : Payload) → leb 1 (mark_of x) ≡ true
valid_mark noop = refl
valid_mark (command bs) = le-leb 1 (2 + length bs) (omega arith)

pub make_mark : (x : Payload) → payload_from (mark_of x) (body_of x) ≡ x
unfolding payload_from
make_mark noop = refl
make_mark (command bs) = ap (λ (b : Bool). pick b noop (command bs)) (ne_eqb (2 + length bs) 1 (omega arith))

pub mark_make : (k : ℕ) (d : List ℕ) → leb 1 k ≡ true → length d ≡ k - 2 → mark_of (payload_from k d) ≡ k
unfolding payload_from
mark_make k d v l = by (eqb k 1) refl
  where
    by : (b : Bool) → eqb k 1 ≡ b → mark_of (pick b noop (command d)) ≡ k
    by true e = sym (eqb-true k 1 e)
    by false e = omega (arith, leb-true 1 k v, eqb-false k 1 e)

pub body_make : (k : ℕ) (d : List ℕ) → leb 1 k ≡ true → length d ≡ k - 2 → body_of (payload_from k d) ≡ d
unfolding payload_from
body_make k d v l = by (eqb k 1) refl
  where
    by : (b : Bool) → eqb k 1 ≡ b → body_of (pick b noop (command d)) ≡ d
    by true e = sym (drop_of_length-le d {i = 0} (omega (arith, eqb-true k 1 e)))
    by false e = refl

-- A payload as a number and bytes: 1 for a noop, 2 and the length for a command.
abbrev pub payload_marking : Marking Payload
payload_marking =
    record {
      mark = mark_of;
      body = body_of;
      count = λ k. k - 2;
      valid = λ k. leb 1 k;
      make = payload_from;
      count_mark = count_mark;
      valid_mark = valid_mark;
      make_mark = make_mark;
      mark_make = mark_make;
      body_make = body_make;
    }

-- The code of payloads of up to p bytes.
abbrev pub payload : ℕ → Code Payload
payload p = marked payload_marking p

-- The bytes of a message, under their length.
abbrev pub message_marking : Marking (List ℕ)
message_marking =
    record {
      mark = length;
      body = λ bs. bs;
      count = λ k. k;
      valid = λ k. true;
      make = λ k d. d;
      count_mark = λ bs. refl;
      valid_mark = λ bs. refl;
      make_mark = λ bs. refl;
      mark_make = λ k d v l. l;
      body_make = λ k d v l. refl;
    }

-- The code of messages of up to m bytes.
abbrev pub message : ℕ → Code (List ℕ)
message m = marked message_marking m
