-- Pending client commands as a table (keys.rt): rows of client and sequence number, rising. Assumes nothing.
use Rattle.std.specs.Prelude.{◌≡◌, refl, List, map, ℕ, ◌<◌, leb, ltb, length, Result, Ok, Err}
use Rattle.laws.specs.Bools.{pick}
use Rattle.laws.specs.Order.{pairs, rising, insert_by, remove_by}
use Rattle.client.specs.Key.{key_of}
use Rattle.client.specs.declared.ClientKey.{ClientKey}
use Rattle.layout.specs.declared.keys.Full.{Full}
use Rattle.layout.specs.Code.{Code, word, pair, iso, such}
use Rattle.layout.specs.Tables.{Table, Held, Becomes}

-- A row: the client, then the sequence number.
abbrev pub key_row : Code ClientKey
key_row = iso (pair word word) (λ x. record { client = x.0; seq = x.1 }) (λ k. (k.client, k.seq)) (λ k. refl) (λ x h. refl)

-- The keys of clients below c, rising by client and sequence number.
abbrev pub keys : ℕ → Table ClientKey
keys c = record { row = such key_row (λ k. ltb k.client c); rule = λ x. rising pairs (map key_of x) }

-- Document 01's number for what putting a key in answers: 0, or question 10's.
abbrev pub inserting_number : Result ℕ Full → ℕ
inserting_number (Ok m) = 0
inserting_number (Err full) = 10

-- How many keys there are after an answer.
abbrev pub keys_after : ℕ → Result ℕ Full → ℕ
keys_after n (Ok m) = m
keys_after n (Err full) = n

-- Whatever n keys b holds, the answer is 10 exactly where they are more than `room` with k among them, and then nothing changed; else b' holds them.
pub record Inserts (k : ClientKey) (n room : ℕ) (r : Result ℕ Full) (b b' : List ℕ) : Type 0 where
  pub told : (c N : ℕ) (x : List ClientKey) → Held (keys c) N n b x → inserting_number r ≡ pick (leb (length (insert_by pairs key_of k x)) room) 0 10
  pub to : inserting_number r ≡ 0 → (c : ℕ) → k.client < c → Becomes (keys c) n (keys_after n r) b b' (insert_by pairs key_of k)
  pub kept : inserting_number r ≡ 10 → b' ≡ b

-- The n keys that b holds have become r keys, without k. Whatever the clients are below.
pub record Removes (k : ClientKey) (n r : ℕ) (b b' : List ℕ) : Type 0 where
  pub to : (c : ℕ) → Becomes (keys c) n r b b' (remove_by pairs key_of (key_of k))
