-- The regions of an area as they are lent to be read, and those of a server's block. Assumes nothing.
use Rattle.std.specs.Prelude.{◌≡◌, refl, List, [], ℕ, ◌+◌, ◌-◌, ◌*◌, ◌≤◌, ◌<◌, length, get_or, drop, take}
use Rattle.std.proofs.Common.{sym, ap, ap₂, subst, ◌∙◌, arith}
use Rattle.layout.specs.Code.{Code}
use Rattle.layout.specs.Tables.{Holds, Held}
use Rattle.layout.specs.Parts.{lent_row, row_lent}
use Rattle.layout.specs.Rows.{row_end}
use Rattle.layout.specs.Cuts.{cut, total, region, part_part}
use Rattle.layout.specs.Applied.{applied}
use Rattle.raft_log.specs.Places.{places}
use Rattle.storage.specs.Waiting.{waiting_in}
use Rattle.checks.specs.Leaders.{leaders}
use Rattle.checks.specs.Entries.{seen_in}
use Rattle.checks_durability.specs.Replies.{replies}
use Rattle.model.specs.State.{State, Server, new_server, server_at}
use Rattle.state.specs.declared.Capacity.{Capacity}
use Rattle.state.specs.Sizes.{sizes, block_words, log_words, waiting_words, seen_words, applied_words, seen_at, leaders_at, replies_at, applied_at}
use Rattle.state.specs.Server.{server_code, state_of_server, storage_of_server}
use Rattle.state.specs.Block.{Serves, block, block_sizes, serves}
use Rattle.state.specs.Parts.{settings_code, server_state_code, storage_state_code}
use Rattle.state.specs.Area.{Area, capacity_of, servers}

-- ---- words from a word on

-- w words at a word are the bytes from its first
pub lent_is : (at w : ℕ) (b : List ℕ) → lent_row at w b ≡ take (8 * w) (drop (8 * at) b)
lent_is at w b = let e : 8 * (at + w) - 8 * at ≡ 8 * w = omega arith in ap (λ (n : ℕ). take n (drop (8 * at) b)) e

-- words of lent words
pub lent_lent : (at z c w : ℕ) (b : List ℕ) → c + w ≤ z → lent_row (at + c) w b ≡ take (8 * w) (drop (8 * c) (lent_row at z b))
lent_lent at z c w b h =
    let e : 8 * (at + c) ≡ 8 * at + 8 * c = omega arith in
    lent_is (at + c) w b ∙ ap (λ (n : ℕ). take (8 * w) (drop n b)) e ∙ part_part (8 * at) (8 * z) (8 * c) (8 * w) b (omega arith)
    ∙ ap (λ (l : List ℕ). take (8 * w) (drop (8 * c) l)) (sym (lent_is at z b))

-- region i of lengths ns, at its word
cut_lent : {A : Type 0} {c : Code A} {x : A} (ns b : List ℕ) (i at w : ℕ) → i < length ns → 8 * at ≡ total (take i ns) → 8 * w ≡ get_or ns i 0
    → Holds c (get_or (cut ns b) i []) x → Holds c (lent_row at w b) x
cut_lent ns b i at w k ea ew h = record {
  good = h.good;
  is = lent_is at w b ∙ ap₂ (λ (n m : ℕ). take n (drop m b)) ew ea ∙ region ns b i k ∙ h.is;
}

-- ---- the tables of an area

module _ {b : List ℕ} {s : State} (h : Area b s) where
  abbrev F : Capacity
  F = capacity_of s

  pub settings_lent : Holds (settings_code F) (take (248 - 152) (drop 152 b)) s.config
  settings_lent = record { good = h.laid.settings.good; is = region (sizes F) b 1 (omega arith) ∙ h.laid.settings.is }

  pub seen_lent : (at w : ℕ) → at ≡ seen_at F → w ≡ seen_words F
      → Held (seen_in F.limits.log_indexes F.limits.payload) (seen_words F) (length s.checker.entries) (lent_row at w b)
      s.checker.entries
  seen_lent at w ea ew =
      record { holds = cut_lent (sizes F) b 11 at w (omega arith) (omega (arith, ea)) (omega (arith, ew)) h.laid.seen }

  pub leaders_lent : (at w : ℕ) → at ≡ leaders_at F → w ≡ F.limits.history * 2
      → Held (leaders F.servers) (F.limits.history * 2) (length s.checker.leaders) (lent_row at w b) s.checker.leaders
  leaders_lent at w ea ew =
      record { holds = cut_lent (sizes F) b 12 at w (omega arith) (omega (arith, ea)) (omega (arith, ew)) h.laid.leaders }

  pub replies_lent : (at w : ℕ) → at ≡ replies_at F → w ≡ F.limits.history * 5
      → Held (replies F.limits.log_indexes F.clients) (F.limits.history * 5) (length s.replies) (lent_row at w b) s.replies
  replies_lent at w ea ew =
      record { holds = cut_lent (sizes F) b 13 at w (omega arith) (omega (arith, ea)) (omega (arith, ew)) h.laid.replies }

  pub applied_lent : (at w : ℕ) → at ≡ applied_at F → w ≡ applied_words F
      → Held (applied F.limits.payload) (applied_words F) (length s.checker.applied) (lent_row at w b) s.checker.applied
  applied_lent at w ea ew =
      record { holds = cut_lent (sizes F) b 15 at w (omega arith) (omega (arith, ea)) (omega (arith, ew)) h.laid.applied }

  -- ---- a server's block

  module _ (k : ℕ) (i : k < F.servers) (at : ℕ) (ea : at ≡ 512 + k * block_words F) where
    abbrev Z : ℕ
    Z = block_words F

    abbrev v : Server
    v = server_at s k

    block_lent : Holds (server_code F) (lent_row at Z b) v
    block_lent =
        let n : ℕ = F.servers * Z in
        let held : Held (servers F) n F.servers (lent_row 512 n b) s.servers =
        record { holds = cut_lent (sizes F) b 9 512 n (omega arith) (omega arith) refl h.laid.servers } in
        let e : lent_row at Z b ≡ lent_row (k * Z) Z (lent_row 512 n b) =
        ap (λ (a : ℕ). lent_row a Z b) ea ∙ lent_lent 512 n (k * Z) Z b (row_end k F.servers Z i)
        ∙ sym (lent_is (k * Z) Z (lent_row 512 n b)) in
        let r = row_lent held k (k * Z) (new_server 0) i refl in
        record { good = r.good; is = e ∙ r.is }

    block_serves : Serves F (block F (lent_row at Z b)) v
    block_serves = serves F v (lent_row at Z b) block_lent

    -- region i of the block, at its word
    part_lent : {A : Type 0} {c : Code A} {x : A} (j o w : ℕ) → j < 7 → 8 * o ≡ total (take j (block_sizes F))
        → 8 * w ≡ get_or (block_sizes F) j 0 → o + w ≤ Z
        → Holds c (get_or (cut (block_sizes F) (lent_row at Z b)) j []) x → Holds c (lent_row (at + o) w b) x
    part_lent j o w l eo ew m p =
        let q = cut_lent (block_sizes F) (lent_row at Z b) j o w l eo ew p in
        record { good = q.good; is = lent_lent at Z o w b m ∙ sym (lent_is o w (lent_row at Z b)) ∙ q.is }

    pub state_lent : Holds (server_state_code F.limits.log_indexes) (lent_row (at + 8) 14 b) (state_of_server v)
    state_lent = part_lent 1 8 14 (omega arith) (omega arith) (omega arith) (omega arith) block_serves.state

    pub storage_lent : Holds storage_state_code (lent_row at 8 b) (storage_of_server v)
    storage_lent =
        let e : at + 0 ≡ at = omega arith in
        subst (λ (n : ℕ). Holds storage_state_code (lent_row n 8 b) (storage_of_server v)) e
        (part_lent 0 0 8 (omega arith) (omega arith) (omega arith) (omega arith) block_serves.disk)

    pub log_lent : (w : ℕ) → w ≡ log_words F → Held (places F.limits.payload) (log_words F) F.limits.log_indexes
        (lent_row (at + 64) w b) v.storage.current.log
    log_lent w ew = record {
      holds = part_lent 3 64 w (omega arith) (omega arith) (omega (arith, ew)) (omega (arith, ew))
          block_serves.current.holds;
    }

    pub waiting_lent : (l w : ℕ) → l ≡ log_words F → w ≡ waiting_words F
        → Held (waiting_in F.limits.log_indexes F.limits.payload) (waiting_words F) (length v.storage.waiting)
        (lent_row (at + (64 + 2 * l)) w b) v.storage.waiting
    waiting_lent l w el ew =
        record {
          holds = part_lent 5 (64 + 2 * l) w (omega arith) (omega (arith, el)) (omega (arith, ew)) (omega (arith, el, ew))
              block_serves.waiting.holds;
        }
