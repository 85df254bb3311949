-- What the proofs of acknowledged.rt cite. Assumes nothing.
use Rattle.std.specs.Prelude.{◌≡◌, refl, Bool, false, List, [], ◌++◌, ℕ, zero, suc, ◌+◌, ◌-◌, ◌*◌, ◌/◌, ◌%◌, ◌≤◌, ◌<◌, max, length, get_or, take, drop, replicate, Option}
use Rattle.std.proofs.Common.{sym, ap₂, ◌∙◌, append-nil, append_assoc, arith, length-append, length-drop, drop_of_length-le, length-take-le, take_all}
use Rattle.std.proofs.Math.Path.{ap}
use Rattle.std.proofs.lemmas.List.{length-replicate}
use Rattle.std.proofs.lemmas.List.Edits.{sets}
use Rattle.laws.specs.Decides.{Decides}
use Rattle.laws.specs.Lists.{at}
use Rattle.laws.specs.ListLaws.{at_there, at_none}
use Rattle.words.specs.Words.{bytes_of, Bytes}
use Rattle.words.specs.Sets.{sets_at}
use Rattle.words.specs.Numbers.{length_bytes_of, bytes_of_each, each_append, each_zeros}
use Rattle.units.specs.Types.{Payload, noop, command}
use Rattle.client.specs.Key.{encode}
use Rattle.client.specs.Laws.{encode_length}
use Rattle.layout.specs.Tables.{Holds, Gives}
use Rattle.layout.specs.TableLaws.{held_rows}
use Rattle.layout.specs.Parts.{lent_row, row_lent}
use Rattle.layout.specs.Marked.{words_for, sounds}
use Rattle.layout.specs.Payload.{payload, payload_marking}
use Rattle.layout.specs.MarkedCalls.{laid, Puts}
use Rattle.layout.specs.MarkedLaws.{puts, payloads_same}
use Rattle.layout.specs.Applied.{applied}
use Rattle.checks.specs.Checks.{is_payload}
use Rattle.checks_durability.specs.declared.replies.Reply.{Reply}
use Rattle.checks_durability.specs.Acknowledged.{rebuilt, Encodes, IsCommand, place_of, is_applied}

-- ---- the command rebuilt

-- what a multiple of 256 above a number leaves of its bytes
over : (n v x : ℕ) → bytes_of n (v / 256 + x) ≡ bytes_of n (v / 256) → bytes_of (suc n) (v + 256 * x) ≡ bytes_of (suc n) v
unfolding bytes_of
over n v x h =
    let e : (v + 256 * x) % 256 ≡ v % 256 = omega arith in
    let f : (v + 256 * x) / 256 ≡ v / 256 + x = omega arith in
    rw (e, f, h)

-- the four bytes of a client are those of its low half
low_four : (v : ℕ) → bytes_of 4 (v % 4294967296) ≡ bytes_of 4 v
unfolding bytes_of
low_four v =
    let q : ℕ = v / 4294967296 in
    let r : ℕ = v % 4294967296 in
    let e : v ≡ r + 256 * (256 * (256 * (256 * q))) = omega arith in
    sym (ap (bytes_of 4) e ∙ over 3 r (256 * (256 * (256 * q)))
    (over 2 (r / 256) (256 * (256 * q)) (over 1 (r / 256 / 256) (256 * q) (over 0 (r / 256 / 256 / 256) q refl))))

encode_low : (client seq size : ℕ) → encode (client % 4294967296) seq size ≡ encode client seq size
unfolding encode
encode_low client seq size = ap (λ (l : List ℕ). l ++ (bytes_of 8 seq ++ replicate (size - 12) 0)) (low_four client)

encode_each : (client seq size : ℕ) → Bytes (encode client seq size)
unfolding encode
encode_each client seq size =
    each_append (bytes_of 4 client) _ (bytes_of_each 4 client) (each_append (bytes_of 8 seq) _ (bytes_of_each 8 seq) (each_zeros (size - 12)))

-- the call of `encode`
pub encodes : (reply : Reply) (size n : ℕ) (b b' : List ℕ) → 12 ≤ length b → size ≤ length b
    → n ≡ length (encode (reply.client % 4294967296) reply.seq size)
    → b' ≡ encode (reply.client % 4294967296) reply.seq size ++ drop n b
    → Encodes size reply n b b'
encodes reply size n b b' h l en e =
    let low : encode (reply.client % 4294967296) reply.seq size ≡ encode reply.client reply.seq size =
    encode_low reply.client reply.seq size in
    record {
      count = en ∙ ap length low;
      is = e ∙ ap (λ (d : List ℕ). d ++ drop n b) low;
      within = omega (arith, encode_length (reply.client % 4294967296) reply.seq size);
    }

-- the calls of `rebuild`: the bytes, the mark before them, and zeros after them
pub rebuilds : (reply : Reply) (size n : ℕ) (b ys b₂ b₃ : List ℕ) → 20 ≤ length b → Encodes size reply n (take (length b - 8) (drop 8 b)) ys
    → b₂ ≡ sets (take 8 b ++ (ys ++ drop (length b - 8) (drop 8 b))) 0 (bytes_of 8 (2 + n))
    → b₃ ≡ sets b₂ (8 + n) (replicate (length b - (8 + n)) 0)
    → Puts payload_marking (rebuilt size reply) b b₃
unfolding laid
rebuilds reply size n b ys b₂ b₃ h en e₂ e₃ =
    let d : List ℕ = encode reply.client reply.seq size in
    let nd : n ≡ length d = en.count in
    let m : List ℕ = bytes_of 8 (2 + n) in
    let rest : List ℕ = drop n (take (length b - 8) (drop 8 b)) in
    let whole : take (length b - 8) (drop 8 b) ≡ drop 8 b = take_all (length b - 8) (drop 8 b) (omega (arith, length-drop 8 b)) in
    let lr : length rest ≡ length b - (8 + n) =
    length-drop n (take (length b - 8) (drop 8 b))
    ∙ (let e : length (take (length b - 8) (drop 8 b)) - n ≡ length b - (8 + n) = omega (arith, ap length whole, length-drop 8 b) in e) in
    let none : drop (length b - 8) (drop 8 b) ≡ [] = drop_of_length-le (drop 8 b) {i = length b - 8} (omega (arith, length-drop 8 b)) in
    let s₁ : take 8 b ++ (ys ++ drop (length b - 8) (drop 8 b)) ≡ take 8 b ++ (d ++ rest) =
    ap₂ (λ (u v : List ℕ). take 8 b ++ (u ++ v)) en.is none ∙ ap (λ (q : List ℕ). take 8 b ++ q) (append-nil (d ++ rest)) in
    let s₂ : b₂ ≡ m ++ (d ++ rest) =
    e₂ ∙ ap (λ (q : List ℕ). sets q 0 m) s₁
    ∙ sets_at [] (take 8 b) (d ++ rest) m 0 refl (length_bytes_of 8 (2 + n) ∙ sym (length-take-le 8 b (omega arith))) in
    let z : List ℕ = replicate (length b - (8 + n)) 0 in
    let s₃ : b₃ ≡ m ++ (d ++ z) =
    e₃ ∙ ap (λ (q : List ℕ). sets q (8 + n) z)
    (s₂ ∙ sym (append_assoc m d rest) ∙ ap (λ (q : List ℕ). (m ++ d) ++ q) (sym (append-nil rest)))
    ∙ sets_at (m ++ d) rest [] z (8 + n) (length-append m d ∙ ap₂ (λ (u v : ℕ). u + v) (length_bytes_of 8 (2 + n)) (sym nd))
    (length-replicate (length b - (8 + n)) zero ∙ sym lr)
    ∙ ap (λ (q : List ℕ). (m ++ d) ++ q) (append-nil z) ∙ append_assoc m d z in
    puts payload_marking (rebuilt size reply) b b₃ (s₃ ∙ ap (λ (k : ℕ). bytes_of 8 (2 + k) ++ (d ++ replicate (length b - (8 + k)) 0)) nd)

-- ---- compared with the payload applied there

pub command_compared : (reply : Reply) (p size : ℕ) (b content content' : List ℕ) (r : Bool) → 12 ≤ p → p ≤ 256 → size ≤ p
    → length content ≡ 8 * (1 + words_for p)
    → Puts payload_marking (rebuilt size reply) content content' → Decides r (b ≡ content')
    → IsCommand p size reply r b
command_compared reply p size b content content' r h₁ h₂ h₃ len put d = record {
  to = λ x h.
      let y : List ℕ = encode reply.client reply.seq size in
      let long : length y ≡ max size 12 = encode_length reply.client reply.seq size in
      let k : Holds (payload p) content' (command y) =
      put.to p len (sounds payload_marking p (command y)
      (record { marked = omega arith; short = omega arith; each = encode_each reply.client reply.seq size })) in
      payloads_same p b content' x (command y) r h k d;
}

module _ (reply : Reply) (p m size : ℕ) (a : List ℕ) (place : ℕ) (e : place ≡ place_of reply.index) where
  pub none_applied : m ≤ place → Gives (applied p) m a false (is_applied size reply)
  unfolding is_applied
  none_applied l = record {
    to = λ N x h. ap (λ (o : Option Payload). is_payload o (rebuilt size reply))
        (sym (ap (at x) (sym e) ∙ at_none x place (omega (arith, (held_rows h).count))));
  }

  pub row_compared : (o : ℕ) (q : Bool) → place < m → o ≡ place * (1 + words_for p) → IsCommand p size reply q (lent_row o (1 + words_for p) a)
      → Gives (applied p) m a q (is_applied size reply)
  unfolding is_applied
  row_compared o q l eo k = record {
    to = λ N x h.
        k.to (get_or x place noop) (row_lent h place o noop l eo)
        ∙ ap (λ (v : Option Payload). is_payload v (rebuilt size reply))
        (sym (ap (at x) (sym e) ∙ at_there x place noop (omega (arith, (held_rows h).count))));
  }

pub ruleset compared = (none_applied, row_compared)
