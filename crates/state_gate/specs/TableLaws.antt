-- What the proofs of tables.rt cite: each region lies inside the area, and its module's answer is its test. Assumes nothing.
use Rattle.std.specs.Prelude.{◌≡◌, Bool, true, ◌&&◌, ℕ, ◌+◌, ◌-◌, ◌*◌, ◌≤◌, ◌<◌, length, get_or, take, drop}
use Rattle.std.proofs.Math.Path.{refl, ap}
use Rattle.std.proofs.Common.{ap₂, ◌∙◌, arith, length-drop, length-take-le}
use mathlib.Core.List.{List, []}
use Rattle.laws.specs.Bools.{◌and◌, and_assoc, and_true}
use Rattle.laws.proofs.BoolLaws.{code_and}
use Rattle.laws.specs.Decides.{Decides}
use Rattle.words.specs.Words.{W, Bytes, allz}
use Rattle.layout.specs.Cuts.{cut, total}
use Rattle.layout.specs.Tables.{Table, Tabled, content}
use Rattle.layout.specs.Applied.{applied}
use Rattle.queue.specs.Table.{events}
use Rattle.checks.specs.Entries.{seen_in}
use Rattle.checks.specs.Leaders.{leaders}
use Rattle.checks_durability.specs.Replies.{replies}
use Rattle.clients.specs.Clients.{clients}
use Rattle.clients.specs.Confirmations.{confirmations}
use Rattle.state.specs.declared.Capacity.{Capacity}
use Rattle.state.specs.Sizes.{block_words, queue_words, seen_words, applied_words, queue_at, seen_at, leaders_at, replies_at, confirmations_at, applied_at, clients_at, whole_words, bytes_of, sizes, Counted}
use Rattle.state.specs.SizeLaws.{room}
use Rattle.state.specs.Changes.{Inside}
use Rattle.state_gate_blocks.specs.Blocks.{servers_ok}
use Rattle.state_gate_header.specs.Regions.{region_ok, regions_ok}
use Rattle.state_gate_header.specs.RegionLaws.{region_lent, region_table}

module _ (F : Capacity) (b : List ℕ) (h : Inside b F) where
  -- ---- a region ends inside the area

  -- words that the area's parts have
  inside : (x : ℕ) → x ≤ whole_words F → 8 * x ≤ length b
  inside x k = omega (arith, room F, h.long)

  pub queue_begins : (x : ℕ) → Counted x (queue_at F) → 8 * x ≤ length b
  queue_begins x p = inside x (omega (arith, p.is))

  pub seen_begins : (x : ℕ) → Counted x (seen_at F) → 8 * x ≤ length b
  seen_begins x p = inside x (omega (arith, p.is))

  pub leaders_begin : (x : ℕ) → Counted x (leaders_at F) → 8 * x ≤ length b
  leaders_begin x p = inside x (omega (arith, p.is))

  pub replies_begin : (x : ℕ) → Counted x (replies_at F) → 8 * x ≤ length b
  replies_begin x p = inside x (omega (arith, p.is))

  pub confirmations_begin : (x : ℕ) → Counted x (confirmations_at F) → 8 * x ≤ length b
  confirmations_begin x p = inside x (omega (arith, p.is))

  pub applied_begins : (x : ℕ) → Counted x (applied_at F) → 8 * x ≤ length b
  applied_begins x p = inside x (omega (arith, p.is))

  pub clients_begin : (x : ℕ) → Counted x (clients_at F) → 8 * x ≤ length b
  clients_begin x p = inside x (omega (arith, p.is))

  pub whole_ends : (x : ℕ) → Counted x (whole_words F) → 8 * x ≤ length b
  whole_ends x p = inside x (omega (arith, p.is))

  pub spare_from : (x n : ℕ) → Counted x (whole_words F) → n ≡ bytes_of F → 8 * x ≤ n
  spare_from x n p e = omega (arith, room F, p.is)

  pub spare_to : (n : ℕ) → n ≡ bytes_of F → n ≤ length b
  spare_to n e = omega (arith, h.long)

  -- ---- the servers

  pub servers_long : (x : ℕ) → Counted x (queue_at F) → length (take (8 * x - 4096) (drop 4096 b)) ≡ 8 * (F.servers * block_words F)
  servers_long x p =
      let l : 8 * x ≤ length b = queue_begins x p in
      length-take-le (8 * x - 4096) (drop 4096 b) (omega (arith, length-drop 4096 b)) ∙ (let d : 8 * x - 4096 ≡ 8 * (F.servers * block_words F) = omega (arith, p.is) in d)

  pub servers_ok_lem : (x : ℕ) (r : Bool) → Counted x (queue_at F) → r ≡ servers_ok F (W (take (8 * x - 4096) (drop 4096 b))) → r ≡ region_ok F b 9
  unfolding region_ok servers_ok
  servers_ok_lem x r p e = e ∙ ap (λ (l : List ℕ). servers_ok F (W l)) (region_lent F b 9 4096 (8 * x) (omega arith) refl (omega (arith, p.is)))

  -- ---- the tables

  module _ (B : Bytes b) where
    -- a table in region i, of as many rows as word j of the counts says
    table_ok : {T : Type 0} (t : Table T) (N : ℕ) (i j : ℕ) (n x y : ℕ) (r : Bool) → i < 18 → 8 * x ≡ total (take i (sizes F)) → 8 * y ≡ 8 * x + get_or (sizes F) i 0 → get_or (sizes F) i 0 ≡ 8 * N → 8 * y ≤ length b
        → n ≡ get_or (W (take (728 - 664) (drop 664 b))) j 0 → Decides r (Tabled t n (take (8 * y - 8 * x) (drop (8 * x) b)))
        → r ≡ (content t N (get_or (W (get_or (cut (sizes F) b) 6 [])) j 0)).ok (W (get_or (cut (sizes F) b) i []))
    table_ok t N i j n x y r k p q s l e d =
        region_table F b i (8 * x) (8 * y) k p q B l t N n r s d
        ∙ ap (λ (m : ℕ). (content t N m).ok (W (get_or (cut (sizes F) b) i []))) (e ∙ ap (λ (l : List ℕ). get_or (W l) j 0) (region_lent F b 6 664 728 (omega arith) refl refl))

    pub queue_ok : (n x y : ℕ) (r : Bool) → n ≡ get_or (W (take (728 - 664) (drop 664 b))) 0 0 → Counted x (queue_at F) → Counted y (seen_at F) → Decides r (Tabled (events F.servers F.clients F.limits.log_indexes F.limits.message) n (take (8 * y - 8 * x) (drop (8 * x) b))) → r ≡ region_ok F b 10
    unfolding region_ok
    queue_ok n x y r e p q d =
        table_ok (events F.servers F.clients F.limits.log_indexes F.limits.message) (queue_words F) 10 0 n x y r (omega arith) (omega (arith, p.is)) (omega (arith, p.is, q.is)) refl (seen_begins y q) e d

    pub seen_ok : (n x y : ℕ) (r : Bool) → n ≡ get_or (W (take (728 - 664) (drop 664 b))) 1 0 → Counted x (seen_at F) → Counted y (leaders_at F) → Decides r (Tabled (seen_in F.limits.log_indexes F.limits.payload) n (take (8 * y - 8 * x) (drop (8 * x) b))) → r ≡ region_ok F b 11
    unfolding region_ok
    seen_ok n x y r e p q d =
        table_ok (seen_in F.limits.log_indexes F.limits.payload) (seen_words F) 11 1 n x y r (omega arith) (omega (arith, p.is)) (omega (arith, p.is, q.is)) refl (leaders_begin y q) e d

    pub leaders_ok : (n x y : ℕ) (r : Bool) → n ≡ get_or (W (take (728 - 664) (drop 664 b))) 2 0 → Counted x (leaders_at F) → Counted y (replies_at F) → Decides r (Tabled (leaders F.servers) n (take (8 * y - 8 * x) (drop (8 * x) b))) → r ≡ region_ok F b 12
    unfolding region_ok
    leaders_ok n x y r e p q d =
        table_ok (leaders F.servers) (F.limits.history * 2) 12 2 n x y r (omega arith) (omega (arith, p.is)) (omega (arith, p.is, q.is)) refl (replies_begin y q) e d

    pub replies_ok : (n x y : ℕ) (r : Bool) → n ≡ get_or (W (take (728 - 664) (drop 664 b))) 3 0 → Counted x (replies_at F) → Counted y (confirmations_at F) → Decides r (Tabled (replies F.limits.log_indexes F.clients) n (take (8 * y - 8 * x) (drop (8 * x) b))) → r ≡ region_ok F b 13
    unfolding region_ok
    replies_ok n x y r e p q d =
        table_ok (replies F.limits.log_indexes F.clients) (F.limits.history * 5) 13 3 n x y r (omega arith) (omega (arith, p.is)) (omega (arith, p.is, q.is)) refl (confirmations_begin y q) e d

    pub confirmations_ok : (n x y : ℕ) (r : Bool) → n ≡ get_or (W (take (728 - 664) (drop 664 b))) 4 0 → Counted x (confirmations_at F) → Counted y (applied_at F) → Decides r (Tabled (confirmations) n (take (8 * y - 8 * x) (drop (8 * x) b))) → r ≡ region_ok F b 14
    unfolding region_ok
    confirmations_ok n x y r e p q d =
        table_ok (confirmations) (F.limits.history * 3) 14 4 n x y r (omega arith) (omega (arith, p.is)) (omega (arith, p.is, q.is)) refl (applied_begins y q) e d

    pub applied_ok : (n x y : ℕ) (r : Bool) → n ≡ get_or (W (take (728 - 664) (drop 664 b))) 5 0 → Counted x (applied_at F) → Counted y (clients_at F) → Decides r (Tabled (applied F.limits.payload) n (take (8 * y - 8 * x) (drop (8 * x) b))) → r ≡ region_ok F b 15
    unfolding region_ok
    applied_ok n x y r e p q d =
        table_ok (applied F.limits.payload) (applied_words F) 15 5 n x y r (omega arith) (omega (arith, p.is)) (omega (arith, p.is, q.is)) refl (clients_begin y q) e d

    pub clients_ok : (x y : ℕ) (r : Bool) → Counted x (clients_at F) → Counted y (whole_words F) → Decides r (Tabled (clients F.servers) F.clients (take (8 * y - 8 * x) (drop (8 * x) b))) → r ≡ region_ok F b 16
    unfolding region_ok
    clients_ok x y r p q d =
        region_table F b 16 (8 * x) (8 * y) (omega arith) (omega (arith, p.is)) (omega (arith, p.is, q.is)) B (whole_ends y q) (clients F.servers) (F.clients * 8) F.clients r refl d

  pub spare_ok : (x n : ℕ) (r : Bool) → Counted x (whole_words F) → n ≡ bytes_of F → r ≡ allz (take (n - 8 * x) (drop (8 * x) b)) → r ≡ region_ok F b 17
  unfolding region_ok
  spare_ok x n r p e t = t ∙ ap allz (region_lent F b 17 (8 * x) n (omega arith) (omega (arith, p.is)) (omega (arith, room F, p.is)))

-- the tables behind the servers
pub tables_ok : (F : Capacity) (b : List ℕ) (r₀ r₁ r₂ r₃ r₄ r₅ r₆ : Bool) → r₀ ≡ region_ok F b 10 → r₁ ≡ region_ok F b 11 → r₂ ≡ region_ok F b 12 → r₃ ≡ region_ok F b 13 → r₄ ≡ region_ok F b 14 → r₅ ≡ region_ok F b 15 → r₆ ≡ region_ok F b 16
    → ((((((r₀ && r₁) && r₂) && r₃) && r₄) && r₅) && r₆) ≡ regions_ok F b 10 7
unfolding region_ok regions_ok
tables_ok F b r₀ r₁ r₂ r₃ r₄ r₅ r₆ e₀ e₁ e₂ e₃ e₄ e₅ e₆ =
    seven r₀ r₁ r₂ r₃ r₄ r₅ r₆
    ∙ ap₂ (λ (s t : Bool). s and t) e₀ (ap₂ (λ (s t : Bool). s and t) e₁ (ap₂ (λ (s t : Bool). s and t) e₂ (ap₂ (λ (s t : Bool). s and t) e₃ (ap₂ (λ (s t : Bool). s and t) e₄ (ap₂ (λ (s t : Bool). s and t) e₅ (ap (λ (s : Bool). s and true) e₆))))))
  where
    seven : (a c d e f g h : Bool) → ((((((a && c) && d) && e) && f) && g) && h) ≡ (a and (c and (d and (e and (f and (g and (h and true)))))))
    seven a c d e f g h = simp (code_and, and_assoc, and_true)

pub ruleset ends = (queue_begins, seen_begins, leaders_begin, replies_begin, confirmations_begin, applied_begins, clients_begin, whole_ends, spare_from, spare_to)
