-- What the proofs of client's functions cite, and that a command decodes to its key. Assumes nothing.
use Rattle.std.specs.Prelude.{◌≡◌, refl, List, [], ◌++◌, ℕ, ◌+◌, ◌-◌, ◌^◌, ◌≤◌, ◌<◌, max, length, drop, replicate, Some}
use Rattle.std.proofs.Common.{sym, ap, ◌∙◌, append_assoc, arith, length-append, le-ltb}
use Rattle.std.proofs.lemmas.List.{length-replicate}
use Rattle.std.proofs.lemmas.List.Edits.{sets, sets-eq}
use Rattle.words.specs.Words.{bytes_of, le_at}
use Rattle.words.specs.Sets.{sets_append}
use Rattle.words.specs.Numbers.{length_bytes_of, le_at_at}
use Rattle.client.specs.Key.{encode, decode}

-- a command is never under 12 bytes
pub encode_length : (client seq size : ℕ) → length (encode client seq size) ≡ max size 12
unfolding encode
encode_length client seq size = simp (length-append, length_bytes_of, length-replicate) (omega arith)

pub length_is : (client seq size n : ℕ) → n ≡ max size 12 → n ≡ length (encode client seq size)
length_is client seq size n e = e ∙ sym (encode_length client seq size)

-- a run of stores at the front
front : (vs l : List ℕ) (n : ℕ) → length vs ≡ n → n ≤ length l → sets l 0 vs ≡ vs ++ drop n l
front vs l n e h =
    let m : 0 + length vs ≡ n = omega arith in
    sets-eq vs l 0 (omega arith) ∙ ap (λ (k : ℕ). vs ++ drop k l) m

-- the three runs of stores are one
pub encoded : (client seq size n : ℕ) (b b₁ b₂ b₃ : List ℕ) → 12 ≤ length b → size ≤ length b → n ≡ max size 12
    → b₁ ≡ sets b 0 (bytes_of 4 client) → b₂ ≡ sets b₁ 4 (bytes_of 8 seq) → b₃ ≡ sets b₂ 12 (replicate (n - 12) 0)
    → b₃ ≡ encode client seq size ++ drop n b
unfolding encode
encoded client seq size n b b₁ b₂ b₃ h k e p q s =
    let both = bytes_of 4 client ++ bytes_of 8 seq in
    let four : 0 + length (bytes_of 4 client) ≡ 4 = omega (arith, length_bytes_of 4 client) in
    let twelve : 0 + length both ≡ 12 = simp (length-append, length_bytes_of) in
    let zeros : n - 12 ≡ size - 12 = omega arith in
    rw (s, q, p, sets_append (bytes_of 4 client) b (bytes_of 8 seq) 0 4 four, sets_append both b (replicate (n - 12) 0) 0 12 twelve, append_assoc, zeros)
    (front (encode client seq size) b n (encode_length client seq size ∙ sym e) (omega arith))

-- the key of a command of at least 12 bytes
pub key : (command : List ℕ) (client seq : ℕ) → 12 ≤ length command → client ≡ le_at 4 command 0 → seq ≡ le_at 8 command 4
    → Some (record { client = client; seq = seq }) ≡ decode command
unfolding decode
key command client seq h p q = rw (le-ltb _ _ h, p, q)

-- a command decodes to its key
pub decode_encode : (client seq size : ℕ) → client < 2 ^ 32 → seq < 2 ^ 64 → decode (encode client seq size) ≡ Some (record { client = client; seq = seq })
unfolding encode
decode_encode client seq size h k =
    sym (key (encode client seq size) client seq (omega (arith, encode_length client seq size))
    (sym (le_at_at 4 [] (bytes_of 8 seq ++ replicate (size - 12) 0) client 0 refl h))
    (sym (le_at_at 8 (bytes_of 4 client) (replicate (size - 12) 0) seq 4 (length_bytes_of 4 client) k)))
