-- How long the parts of an area are and where they begin, in words of 8 bytes, by its counts. Assumes nothing.
use Rattle.std.specs.Prelude.{◌≡◌, List, [], ◌∷◌, ℕ, ◌+◌, ◌-◌, ◌*◌, ◌≤◌}
use Rattle.layout.specs.Marked.{words_for}
use Rattle.config.specs.Limits.{area_length, InLimits}
use Rattle.state.specs.declared.Capacity.{Capacity}

module _ (F : Capacity) where
  -- ---- a server's block

  -- A log: L places of a payload and a term.
  abbrev pub log_words : ℕ
  log_words = F.limits.log_indexes * (2 + words_for F.limits.payload)

  -- W waiting writes.
  abbrev pub waiting_words : ℕ
  waiting_words = F.limits.writes * (3 + words_for F.limits.payload)

  -- H pending keys.
  abbrev pub pending_words : ℕ
  pending_words = F.limits.history * 2

  -- What of a server has a length by the limits.
  abbrev pub table_words : ℕ
  table_words = log_words + (log_words + (waiting_words + pending_words))

  -- A server's block: 64 words of fixed size, its current and its durable log, its waiting writes, its pending keys.
  abbrev pub block_words : ℕ
  block_words = 64 + table_words

  -- ---- tables

  -- Q events.
  abbrev pub queue_words : ℕ
  queue_words = F.limits.events * (7 + words_for F.limits.message)

  -- H entries seen.
  abbrev pub seen_words : ℕ
  seen_words = F.limits.history * (3 + words_for F.limits.payload)

  -- L applied payloads.
  abbrev pub applied_words : ℕ
  applied_words = F.limits.log_indexes * (1 + words_for F.limits.payload)

  -- ---- where they begin

  -- The queue, behind the header's 512 words and the servers.
  abbrev pub queue_at : ℕ
  queue_at = 512 + F.servers * block_words

  -- The entries seen.
  abbrev pub seen_at : ℕ
  seen_at = queue_at + queue_words

  -- The leaders, two words each.
  abbrev pub leaders_at : ℕ
  leaders_at = seen_at + seen_words

  -- The replies, five words each.
  abbrev pub replies_at : ℕ
  replies_at = leaders_at + F.limits.history * 2

  -- The confirmations, three words each.
  abbrev pub confirmations_at : ℕ
  confirmations_at = replies_at + F.limits.history * 5

  -- The applied payloads.
  abbrev pub applied_at : ℕ
  applied_at = confirmations_at + F.limits.history * 3

  -- The clients, eight words each.
  abbrev pub clients_at : ℕ
  clients_at = applied_at + applied_words

  -- The words of all parts.
  abbrev pub whole_words : ℕ
  whole_words = clients_at + F.clients * 8

  -- The area's length in bytes, by document 01's formula; what it leaves over lies at the end.
  abbrev pub bytes_of : ℕ
  bytes_of = area_length F.servers F.clients F.limits

  -- The header's offsets, in bytes: the servers, the bytes of a server's block, the tables, the bytes left over, the area's length.
  abbrev pub offsets : List ℕ
  offsets =
      4096 ∷ 8 * block_words ∷ 8 * queue_at ∷ 8 * seen_at ∷ 8 * leaders_at ∷ 8 * replies_at ∷ 8 * confirmations_at ∷ 8 * applied_at ∷ 8 * clients_at
      ∷ 8 * whole_words ∷ bytes_of ∷ []

  -- The lengths of the area's parts in bytes: the header's nine, the servers, the tables, and what is left over.
  abbrev pub sizes : List ℕ
  sizes =
      152 ∷ 96 ∷ 48 ∷ 40 ∷ 248 ∷ 80 ∷ 64 ∷ 1320 ∷ 2048
      ∷ 8 * (F.servers * block_words) ∷ 8 * queue_words ∷ 8 * seen_words ∷ 8 * (F.limits.history * 2) ∷ 8 * (F.limits.history * 5)
      ∷ 8 * (F.limits.history * 3) ∷ 8 * applied_words ∷ 8 * (F.clients * 8)
      ∷ (bytes_of - 8 * whole_words) ∷ []

-- ---- what functions of the counts ask and answer

-- The counts are within document 01's limits.
pub record Within (F : Capacity) : Type 0 where
  pub limits : InLimits F.servers F.clients F.limits

-- The product of a count of rows and their words, each in its range.
pub record Product (n z r : ℕ) : Type 0 where
  pub is : r ≡ n * z
  pub small : r ≤ 65536 * 60116480

-- A number of words: no area has more than 60,116,480.
pub record Counted (r n : ℕ) : Type 0 where
  pub is : r ≡ n
  pub small : r ≤ 60116480

-- The word at which the block of the server at a place begins, which ends where the queue begins or before.
pub record BlockAt (F : Capacity) (slot r : ℕ) : Type 0 where
  pub is : r ≡ 512 + slot * block_words F
  pub ends : r + block_words F ≤ queue_at F
  pub small : queue_at F ≤ 60116480
