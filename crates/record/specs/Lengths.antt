-- The lengths of records: a varint's from the number of its bits, a record's from those of its parts. Assumes nothing.
use Rattle.std.specs.Prelude.{◌≡◌, refl, Bool, true, false, [], ◌∷◌, ℕ, zero, suc, ◌+◌, ◌-◌, ◌*◌, ◌/◌, ◌%◌, ◌^◌, ◌≤◌, ◌<◌, ltb, length, Option, None, Some}
use Rattle.std.proofs.Common.{sym, ap, ◌∙◌, lt_of_not-le, not-le_of_lt, arith, Fits, pow_mono, pow-add, length-append, ltb-true, ltb-false}
use Rattle.std.specs.Int.{w64}
use Rattle.std.specs.Int.Count.{count_leading_zeros}
use Rattle.std.proofs.lemmas.Nat.{leading_length}
use Rattle.std.proofs.lemmas.List.{length-replicate}
use Rattle.laws.specs.Bools.{pick}
use Rattle.units.specs.declared.NodeId.{NodeId}
use Rattle.units.specs.declared.Term.{Term}
use Rattle.units.specs.declared.LogIndex.{LogIndex}
use Rattle.units.specs.Types.{Payload, noop, command, Entry}
use Rattle.units.specs.declared.PayloadShape.{PayloadShape}
use Rattle.units.specs.declared.PayloadShape.TheVariants.{Noop, Command}
use Rattle.record.specs.Postcard.{varint_in, varint, option, payload, shape_of, zeros, hard_state_record, put_record, truncate_record, framed, record_bytes, put_bytes}

-- the bytes of a number of so many bits: 7 bits a byte, at least one byte
abbrev pub bytes_of : ℕ → ℕ
bytes_of bits = 1 + (bits - 1) / 7

-- the number n has m bits
record Bits (n m : ℕ) : Type 0 where
  below : n < 2 ^ m
  above : 2 ^ m ≤ 2 * n + 1

exponent : (i j : ℕ) → 2 ^ i < 2 ^ j → i < j
exponent i j h = lt_of_not-le (λ k. not-le_of_lt h (pow_mono k))

at_most_7 : (n m : ℕ) → Bits n m → n < 128 → m ≤ 7
at_most_7 n m b h = let k : m < 8 = exponent m 8 (omega arith) in omega arith

over_7 : (n m : ℕ) → Bits n m → 128 ≤ n → 7 < m
over_7 n m b h = exponent 7 m (omega arith)

without_7 : (n m : ℕ) → Bits n m → 7 < m → Bits (n / 128) (m - 7)
without_7 n m b h =
    let e : m - 7 + 7 ≡ m = omega arith in
    let p : 2 ^ m ≡ 2 ^ (m - 7) * 128 = ap (λ (k : ℕ). 2 ^ k) (sym e) ∙ pow-add 2 (m - 7) 7 in
    record { below = omega (arith, b.below, p); above = omega (arith, b.above, p) }

-- the first byte, and the length of the rest
step : (bytes n m : ℕ) → Bits n m → (7 < m → length (varint_in bytes (n / 128)) ≡ bytes_of (m - 7)) → length (varint_in (suc bytes) n) ≡ bytes_of m
unfolding varint_in
step bytes n m b rest = by (ltb n 128) refl
  where
    by : (t : Bool) → ltb n 128 ≡ t → length (pick t (n ∷ []) ((128 + n % 128) ∷ varint_in bytes (n / 128))) ≡ bytes_of m
    by true e = omega (arith, at_most_7 n m b (ltb-true n 128 e))
    by false e =
        let long = over_7 n m b (ltb-false n 128 e) in
        omega (arith, long, rest long)

-- a number of m bits has as many bytes as they ask, where so many are allowed
varint_in_lem : (bytes n m : ℕ) → Bits n m → m ≤ 7 * suc bytes → length (varint_in (suc bytes) n) ≡ bytes_of m
unfolding varint_in
varint_in_lem zero n m b room = step zero n m b (λ h. absurd (omega arith))
varint_in_lem (suc bytes) n m b room = step (suc bytes) n m b (λ h. varint_in_lem bytes (n / 128) (m - 7) (without_7 n m b h) (omega arith))

-- the varint of a 64-bit number: its bits are 64 less the leading zeros
pub varint_length : (n : ℕ) → Fits w64 n → length (varint n) ≡ bytes_of (64 - count_leading_zeros 64 n)
unfolding varint
varint_length n h =
    let (m, zeros, below, above) = leading_length 64 n h.fits in
    let bits : 64 - count_leading_zeros 64 n ≡ m = omega (arith, zeros) in
    rw bits (varint_in_lem 9 n m (record { below = below; above = above }) (omega (arith, zeros)))

-- a number of at most 7 bits, as a variant's is, has one byte
pub one_byte : (n : ℕ) → ltb n 128 ≡ true → length (varint n) ≡ 1
unfolding varint_in varint
one_byte n e = rw e

-- an id that may be absent
pub none_length : (id : Option NodeId) → id ≡ None → 1 ≡ length (option id)
unfolding option
none_length id e = rw (e, one_byte 0 refl)

pub some_length : (id : Option NodeId) (node : NodeId) (a : ℕ) → id ≡ Some node → a ≡ length (varint node.0) → 1 + a ≡ length (option id)
unfolding option
some_length id node a e p = rw (e, p, length-append, one_byte 1 refl)

-- a payload
pub noop_length : (s : PayloadShape) → s ≡ Noop → 1 ≡ length (payload (zeros s))
unfolding payload
noop_length s e = rw (e, one_byte 0 refl)

pub command_length_lem : (s : PayloadShape) (n a : ℕ) → s ≡ Command n → a ≡ length (varint n) → 1 + a + n ≡ length (payload (zeros s))
unfolding payload
command_length_lem s n a e p = rw (e, p) (simp (length-append, one_byte 1 refl, length-replicate) (omega arith))

-- the three records
pub hard_state_bytes : (term : Term) (vote : Option NodeId) (a b r : ℕ) → a ≡ length (varint term.0) → b ≡ length (option vote) → r ≡ framed (1 + a + b)
    → r ≡ record_bytes (hard_state_record term vote)
unfolding record_bytes hard_state_record
hard_state_bytes term vote a b r p q e = e ∙ ap framed (rw (p, q) (simp (length-append, one_byte 0 refl) (omega arith)))

pub put_bytes_lem : (index : LogIndex) (term : Term) (shape : PayloadShape) (a b c r : ℕ)
    → a ≡ length (varint index.0) → b ≡ length (varint term.0) → c ≡ length (payload (zeros shape)) → r ≡ framed (1 + a + b + c)
    → r ≡ put_bytes index term shape
unfolding record_bytes put_record put_bytes
put_bytes_lem index term shape a b c r p q s e = e ∙ ap framed (rw (p, q, s) (simp (length-append, one_byte 1 refl) (omega arith)))

pub truncate_bytes : (from : LogIndex) (a r : ℕ) → a ≡ length (varint from.0) → r ≡ framed (1 + a) → r ≡ record_bytes (truncate_record from)
unfolding record_bytes truncate_record
truncate_bytes from a r p e = e ∙ ap framed (rw p (simp (length-append, one_byte 2 refl)))

-- payloads of one shape have one length, so a put's size is that of every entry of the shape
shape_length : (p : Payload) → length (payload (zeros (shape_of p))) ≡ length (payload p)
unfolding payload
shape_length noop = refl
shape_length (command bytes) = simp (length-append, length-replicate)

pub put_bytes_is : (index : LogIndex) (entry : Entry) → put_bytes index entry.term (shape_of entry.payload) ≡ record_bytes (put_record index entry)
unfolding record_bytes put_record put_bytes
put_bytes_is index entry = simp (length-append, shape_length)
