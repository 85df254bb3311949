-- What the proofs of an entry of a server's log cite. Assumes nothing.
use Rattle.std.specs.Prelude.{◌≡◌, Bool, false, length, get_or, take, drop, ltb, Option, None, Some}
use Rattle.std.proofs.Math.Path.{refl, subst}
use Rattle.std.proofs.Common.{sym, ap, ap₂, ◌∙◌, arith, lt-ltb}
use Rattle.std.proofs.Math.Bool.{true}
use mathlib.Core.List.{List, [], append-nil}
use Prim.Native.Nat.{ℕ, zero, suc, ◌+◌, ◌-◌, ◌*◌, ◌≤◌, ◌<◌}
use Rattle.std.proofs.Math.ListN.{get_or-eq_default}
use Rattle.std.proofs.lemmas.List.Edits.{sets}
use Rattle.laws.specs.Decides.{false_true}
use Rattle.laws.specs.Lists.{is_some}
use Rattle.units.specs.Types.{Entry}
use Rattle.units.specs.declared.LogIndex.{LogIndex}
use Rattle.units.specs.declared.Term.{Term}
use Rattle.words.specs.Words.{W}
use Rattle.words.specs.Sets.{sets_all}
use Rattle.layout.specs.Code.{zeros}
use Rattle.layout.specs.Tables.{Holds, Held}
use Rattle.layout.specs.Contents.{holds_w}
use Rattle.layout.specs.TableLaws.{held_rows}
use Rattle.layout.specs.Parts.{lent_row, row_lent, length_lent_row}
use Rattle.layout.specs.Rows.{row_end}
use Rattle.layout.specs.Marked.{words_for}
use Rattle.layout.specs.Payload.{payload}
use Rattle.layout.specs.Cuts.{cut, total, region, part_part}
use Rattle.raft_log.specs.Log.{Log, entry_at}
use Rattle.raft_log.specs.Places.{places}
use Rattle.raft_log.specs.Payloads.{payload_in, payload_code, payload_marked, entry_place, place_start, payload_held, entry_held}
use Rattle.model.specs.State.{State, new_server, server_at}
use Rattle.model.specs.Fits.{state_fits}
use Rattle.state.specs.declared.Capacity.{Capacity}
use Rattle.state.specs.Sizes.{block_words, log_words, sizes, Counted, BlockAt}
use Rattle.state.specs.SizeLaws.{room}
use Rattle.state.specs.Server.{server_code}
use Rattle.state.specs.Block.{block_sizes, serves}
use Rattle.state.specs.Area.{Area, capacity_of, servers}
use Rattle.state.specs.Changes.{Inside, AreaOf, Changes}
use Rattle.state_checks.specs.Checked.{entry_of, seen_if, seen_maybe, seen_of_if, Sees, CopiesRow, CopiesEntry}
use Rattle.state_checks.specs.TestLaws.{is_none}

-- ---- a log as it is lent

-- w words at a word are the bytes from its first
lent_is : (at w : ℕ) (b : List ℕ) → lent_row at w b ≡ take (8 * w) (drop (8 * at) b)
lent_is at w b = let e : 8 * (at + w) - 8 * at ≡ 8 * w = omega arith in ap (λ (n : ℕ). take n (drop (8 * at) b)) e

-- words of lent words
lent_lent : (at z c w : ℕ) (b : List ℕ) → c + w ≤ z → lent_row (at + c) w b ≡ lent_row c w (lent_row at z b)
lent_lent at z c w b h =
    let e : 8 * (at + c) ≡ 8 * at + 8 * c = omega arith in
    lent_is (at + c) w b ∙ ap (λ (n : ℕ). take (8 * w) (drop n b)) e ∙ part_part (8 * at) (8 * z) (8 * c) (8 * w) b (omega arith)
    ∙ ap (λ (l : List ℕ). take (8 * w) (drop (8 * c) l)) (sym (lent_is at z b)) ∙ sym (lent_is c w (lent_row at z b))

-- region i of lengths ns, at its word
region_lent : (ns b : List ℕ) (i at w : ℕ) → i < length ns → 8 * at ≡ total (take i ns) → 8 * w ≡ get_or ns i 0
    → lent_row at w b ≡ get_or (cut ns b) i []
region_lent ns b i at w k ea ew = lent_is at w b ∙ ap₂ (λ (n m : ℕ). take n (drop m b)) ew ea ∙ region ns b i k

module _ {b : List ℕ} {s : State} (h : Area b s) (k : ℕ) (i : k < s.config.servers) where
  -- The state's counts.
  abbrev F : Capacity
  F = capacity_of s

  -- The words of a server's block.
  abbrev Z : ℕ
  Z = block_words F

  -- the block of a server, and its current log
  block_lent : Holds (server_code F) (lent_row (512 + k * Z) Z b) (server_at s k)
  block_lent =
      let n : ℕ = F.servers * Z in
      let held : Held (servers F) n F.servers (lent_row 512 n b) s.servers =
      record {
        holds = record
            { good = h.laid.servers.good; is = region_lent (sizes F) b 9 512 n (omega arith) refl refl ∙ h.laid.servers.is };
      } in
      let r = row_lent held k (k * Z) (new_server 0) i refl in
      record { good = r.good; is = lent_lent 512 n (k * Z) Z b (row_end k F.servers Z i) ∙ r.is }

  log_lent : (at w : ℕ) → at ≡ 512 + k * Z → w ≡ log_words F
      → Held (places s.limits.payload) (log_words F) s.limits.log_indexes (lent_row (at + 64) w b)
      (server_at s k).storage.current.log
  log_lent at w ea ew =
      let q = (serves F (server_at s k) (lent_row (512 + k * Z) Z b) block_lent).current.holds in
      let e : lent_row (at + 64) w b ≡ get_or (cut (block_sizes F) (lent_row (512 + k * Z) Z b)) 3 [] =
      ap₂ (λ (a n : ℕ). lent_row (a + 64) n b) ea ew ∙ lent_lent (512 + k * Z) Z 64 (log_words F) b (omega arith)
      ∙ region_lent (block_sizes F) (lent_row (512 + k * Z) Z b) 3 64 (log_words F) (omega arith) (omega arith) refl in
      record { holds = record { good = q.good; is = e ∙ q.is } }

-- the log lies in the area
pub log_inside : (b : List ℕ) (F : Capacity) (k at w : ℕ) → Inside b F → BlockAt F k at → Counted w (log_words F)
    → 8 * (at + 64 + w) ≤ length b
log_inside b F k at w i p q = omega (arith, room F, i.long, p.ends, q.is)

pub log_room : (b : List ℕ) (F : Capacity) (k at w : ℕ) → Inside b F → BlockAt F k at → Counted w (log_words F)
    → 8 * (F.limits.log_indexes * (2 + words_for F.limits.payload)) ≤ length (lent_row (at + 64) w b)
log_room b F k at w i p q = omega (arith, q.is, length_lent_row (at + 64) w b (log_inside b F k at w i p q))

-- ---- the payload of an entry, copied

zero_word : (n : ℕ) → get_or (zeros n) 0 0 ≡ 0
zero_word zero = refl
zero_word (suc n) = refl

-- the first word of a payload that may be absent
first_word : (p : ℕ) (row : List ℕ) (o : Option Entry) → Holds (payload_code p) row (payload_in o) → ltb 0 (get_or (W row) 0 0) ≡ is_some o
first_word p row None h = ap (λ (ws : List ℕ). ltb 0 (get_or ws 0 0)) (holds_w h) ∙ ap (ltb 0) (zero_word (1 + words_for p))
first_word p row (Some e) h =
    let m : 0 < get_or ((payload p).enc e.payload) 0 0 =
    subst (λ (ws : List ℕ). 0 < get_or ws 0 0) (append-nil ((payload p).enc e.payload)) (payload_marked p e.payload [] h.good) in
    ap (λ (ws : List ℕ). ltb 0 (get_or ws 0 0)) (holds_w h) ∙ lt-ltb 0 (get_or ((payload p).enc e.payload) 0 0) m

no_entry : (x : Log) (l i : ℕ) → length x ≡ l → l < i → entry_at x i ≡ None
unfolding entry_at
no_entry x l zero e h = absurd (omega arith)
no_entry x l (suc i) e h = get_or-eq_default x None {n = i} (omega arith)

none_some : (e : Entry) → None ≡ Some e → ⊥
none_some e q = let z : ◌≡◌ {A = ℕ} 0 1 = cc in absurd (omega arith)

module _ (p l i : ℕ) (b row : List ℕ) where
  -- no place has that index
  nothing : ((N : ℕ) (log : Log) → Held (places p) N l b log → entry_at log i ≡ None) → CopiesRow p l i false b row
  nothing f = record {
    there = λ N log h. sym (ap is_some (f N log h));
    held = λ N log h e q. absurd (none_some e (sym (f N log h) ∙ q));
  }

  pub copies_zero : i < 1 → CopiesRow p l i false b row
  unfolding entry_at
  copies_zero h = nothing (λ N log q. by i h log)
    where
      by : (j : ℕ) → j < 1 → (log : Log) → entry_at log j ≡ None
      by zero m log = refl
      by (suc j) m log = absurd (omega arith)

  pub copies_past : l < i → CopiesRow p l i false b row
  copies_past h = nothing (λ N log q. no_entry log l i (held_rows q).count h)

  pub copies_row : (at m : ℕ) (row' : List ℕ) → length row ≡ 8 * (1 + words_for p) → 8 * (l * (2 + words_for p)) ≤ length b → 1 ≤ i → i ≤ l
      → at ≡ (i - 1) * (1 + words_for p + 1)
      → row' ≡ sets row 0 (lent_row at (1 + words_for p) b) → m ≡ get_or (W row') 0 0 → CopiesRow p l i (ltb 0 m) b row'
  copies_row at m row' n r lo hi ea e em =
      let j : i - 1 < l = omega arith in
      let start : at ≡ (i - 1) * (2 + words_for p) = place_start p (i - 1) at ea in
      let inside : 8 * (at + (1 + words_for p)) ≤ length b = omega (arith, row_end (i - 1) l (2 + words_for p) j, start) in
      let whole : row' ≡ lent_row at (1 + words_for p) b =
      e ∙ sets_all row (lent_row at (1 + words_for p) b) (length_lent_row at (1 + words_for p) b inside ∙ sym n) in
      record {
        there = λ N log h.
            ap (ltb 0) em
            ∙ first_word p row' (get_or log (i - 1) None)
            (subst (λ (u : List ℕ). Holds (payload_code p) u (payload_in (get_or log (i - 1) None))) (sym whole)
            (payload_held p l h (i - 1) at j start))
            ∙ ap is_some (sym (entry_place log i lo));
        held = λ N log h d q. subst (λ (u : List ℕ). Holds (payload p) u d.payload) (sym whole)
            (entry_held p l h (i - 1) at j start d (sym (entry_place log i lo) ∙ q));
      }

pub ruleset copying = (copies_zero, copies_past, copies_row)

-- of a server's log
pub copies_entry : (b : List ℕ) (F : Capacity) (k at w : ℕ) (index : LogIndex) (r : Bool) (row : List ℕ) → Inside b F → k < F.servers
    → BlockAt F k at → Counted w (log_words F)
    → CopiesRow F.limits.payload F.limits.log_indexes index.0 r (lent_row (at + 64) w b) row → CopiesEntry b F k index r row
unfolding entry_of
copies_entry b F k at w index r row o j p q c = record {
  there = λ s h ef. c.there (log_words (capacity_of s)) (log s) (lent s h ef);
  held = λ s h ef. c.held (log_words (capacity_of s)) (log s) (lent s h ef);
}
  where
    log : State → Log
    log s = (server_at s k).storage.current.log

    lent : (s : State) → Area b s → F ≡ capacity_of s
        → Held (places F.limits.payload) (log_words (capacity_of s)) F.limits.log_indexes (lent_row (at + 64) w b)
        (server_at s k).storage.current.log
    lent s h ef =
        let below : k < s.config.servers = subst (λ (G : Capacity). k < G.servers) ef j in
        let g = log_lent h k below at w (p.is ∙ ap (λ (G : Capacity). 512 + k * block_words G) ef) (q.is ∙ ap log_words ef) in
        subst (λ (G : Capacity). Held (places G.limits.payload) (log_words (capacity_of s)) G.limits.log_indexes
        (lent_row (at + 64) w b) (server_at s k).storage.current.log) (sym ef) g

-- ---- an entry of a server's log, seen

module _ (b : List ℕ) (F : Capacity) (k : ℕ) (index : LogIndex) (term : Term) where
  module _ (q : Bool) (row : List ℕ) (c : CopiesEntry b F k index q row) where
    pub absent_seen : q ≡ false → Changes b b F (seen_of_if true k index term)
    unfolding seen_of_if
    absent_seen t = record {
      to = λ s r h u.
          subst (λ (o : Option Entry). AreaOf b r F (seen_maybe o true index term s))
          (sym (is_none (entry_of k index s) (sym (c.there s h.area h.capacity) ∙ t))) h;
    }

    pub entry_seen : (b₂ : List ℕ) → q ≡ true → Sees b b₂ row F true index term → Changes b b₂ F (seen_of_if true k index term)
    unfolding seen_of_if
    entry_seen b₂ t g = record {
      to = λ s r h u. by s r h (entry_of k index s) refl (sym (c.there s h.area h.capacity) ∙ t) u;
    }
      where
        by : (s : State) (r : List ℕ) → AreaOf b r F s → (o : Option Entry) → entry_of k index s ≡ o → is_some o ≡ true
            → state_fits (seen_maybe o true index term s) ≡ true → AreaOf b₂ r F (seen_maybe o true index term s)
        by s r h None e y u = absurd (false_true y)
        by s r h (Some x) e y u = (g.to x.payload (c.held s h.area h.capacity x e)).to s r h u

  -- where it is due
  module _ (due : Bool) where
    pub not_due : due ≡ false → Changes b b F (seen_of_if due k index term)
    unfolding seen_of_if seen_if
    not_due t = record { to = λ s r h u. by s r h (entry_of k index s) }
      where
        by : (s : State) (r : List ℕ) → AreaOf b r F s → (o : Option Entry) → AreaOf b r F (seen_maybe o due index term s)
        by s r h None = h
        by s r h (Some e) = subst (λ (d : Bool). AreaOf b r F (seen_if d index term e.payload s)) (sym t) h

    pub is_due : (b₂ : List ℕ) → due ≡ true → Changes b b₂ F (seen_of_if true k index term) → Changes b b₂ F (seen_of_if due k index term)
    is_due b₂ t g = subst (λ (d : Bool). Changes b b₂ F (seen_of_if d k index term)) (sym t) g

pub ruleset entries_seen = (absent_seen, entry_seen)

pub ruleset due_seen = (not_due, is_due)
