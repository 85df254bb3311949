-- What the proofs of lib.rt cite. Assumes nothing.
use Rattle.std.specs.Prelude.{◌≡◌, refl, Bool, not, ◌&&◌, ltb, length, get_or, take, drop, Option, None, Some}
use Rattle.std.proofs.Math.Path.{sym, ap, ap₂}
use Rattle.std.proofs.Common.{subst, ◌∙◌, arith, length-drop, drop-drop, get_or-drop, length-take-le}
use Rattle.std.proofs.Math.Bool.{true, false}
use mathlib.Core.List.{List, [], ◌∷◌}
use Prim.Native.Nat.{ℕ, zero, suc, ◌+◌, ◌-◌, ◌*◌, ◌^◌, ◌≤◌, ◌<◌}
use Rattle.std.proofs.Math.Dec.{eqb, leb, eqb-suc-suc}
use borrow.Author.Tests.{eq-eqb, ne_eqb, eqb-true, lt-leb, le-leb}
use Rattle.laws.specs.Bools.{pick, ◌and◌, cases, and_assoc, and_true, no_and}
use Rattle.laws.proofs.BoolLaws.{true_and, and_no, code_and}
use Rattle.laws.specs.Lists.{same_list}
use Rattle.laws.specs.Decides.{Decides}
use Rattle.protocol.specs.Numbers.{role_number}
use Rattle.words.specs.Words.{W, Bytes, bytes, allz}
use Rattle.words.specs.Numbers.{each_take, each_drop}
use Rattle.layout.specs.Code.{Code, ok_n}
use Rattle.layout.specs.Tables.{Table, Tabled, Held, Content, content}
use Rattle.layout.specs.TableLaws.{held_length, Rowed, rowed_start, rowed_done}
use Rattle.layout.specs.Contents.{ok_decides}
use Rattle.layout.specs.Parts.{part_ok, lent_row, lent_fine, lent_fails}
use Rattle.layout.specs.Structs.{firsts}
use Rattle.layout.specs.Keys.{keys}
use Rattle.raft_log.specs.Places.{places}
use Rattle.storage.specs.Waiting.{waiting_in}
use Rattle.state.specs.declared.Capacity.{Capacity}
use Rattle.state.specs.Sizes.{log_words, waiting_words, pending_words, block_words, Within, Counted, BlockAt}
use Rattle.state.specs.Server.{server_code}
use Rattle.state.specs.Parts.{node_flag, node_number, node_in, term_flag, term_number, term_in, bool_number, bool_in, role_in, status_in, status_flag, status_role, status_term, status_leader, status_commit, status_words, server_state_in, storage_state_code, storage_state_in, storage_state_words, server_state_code}
use Rattle.state_gate_blocks.specs.Tests.{eqb_sym, same, tabled_ok}
use Rattle.state_gate_blocks.specs.Blocks.{flagged, status_told, storage_state_ok, server_state_ok, fixed_ok, server_ok, servers_ok}
use Rattle.units.specs.declared.NodeId.{NodeId}
use Rattle.units.specs.declared.Term.{Term}
use Rattle.protocol.specs.declared.Status.{Status}

-- ---- a flag and its number

pub flag_none : (f n : ℕ) → f ≡ 0 → eqb n 0 ≡ flagged f n
unfolding flagged
flag_none f n e = sym (ap (λ (t : Bool). pick t (eqb n 0) (eqb f 1)) (eq-eqb f 0 e))

pub flag_some : (f n : ℕ) → (f ≡ 0 → ⊥) → eqb f 1 ≡ flagged f n
unfolding flagged
flag_some f n e = sym (ap (λ (t : Bool). pick t (eqb n 0) (eqb f 1)) (ne_eqb f 0 e))

-- the words of a vote or a leader are those that say it
node_told : (f n : ℕ) → (eqb (node_flag (node_in f n)) f and eqb (node_number (node_in f n)) n) ≡ flagged f n
unfolding flagged node_in
node_told f n =
    cases (eqb f 0)
    (λ e. rw e (ap₂ (λ (t u : Bool). t and u) (eqb_sym 0 f ∙ e) (eqb_sym 0 n) ∙ true_and (eqb n 0)))
    (λ e. rw e (ap₂ (λ (t u : Bool). t and u) (eqb_sym 1 f) (same n) ∙ and_true (eqb f 1)))

-- and those of a led term
term_told : (f n : ℕ) → (eqb (term_flag (term_in f n)) f and eqb (term_number (term_in f n)) n) ≡ flagged f n
unfolding flagged term_in
term_told f n =
    cases (eqb f 0)
    (λ e. rw e (ap₂ (λ (t u : Bool). t and u) (eqb_sym 0 f ∙ e) (eqb_sym 0 n) ∙ true_and (eqb n 0)))
    (λ e. rw e (ap₂ (λ (t u : Bool). t and u) (eqb_sym 1 f) (same n) ∙ and_true (eqb f 1)))

bool_told : (n : ℕ) → eqb (bool_number (bool_in n)) n ≡ leb n 1
unfolding bool_in
bool_told zero = refl
bool_told (suc zero) = refl
bool_told (suc (suc n)) = ap (λ (t : Bool). eqb (bool_number t) (suc (suc n))) (ne_eqb (suc (suc n)) 1 (omega arith)) ∙ ne_eqb 0 (suc (suc n)) (omega arith) ∙ sym (lt-leb (suc (suc n)) 1 (omega arith))

role_told : (n : ℕ) → eqb (role_number (role_in n)) n ≡ leb n 2
unfolding role_in
role_told zero = refl
role_told (suc zero) = refl
role_told (suc (suc zero)) = refl
role_told (suc (suc (suc n))) = ne_eqb 0 (suc (suc (suc n))) (omega arith) ∙ sym (lt-leb (suc (suc (suc n))) 2 (omega arith))

-- ---- the fixed part of a storage

pub storage_told : (b : List ℕ) (f n g m : ℕ) (r q : Bool) → f ≡ get_or (W b) 1 0 → n ≡ get_or (W b) 2 0 → r ≡ flagged f n → g ≡ get_or (W b) 4 0 → m ≡ get_or (W b) 5 0 → q ≡ flagged g m → (r && q) ≡ storage_state_ok (W b)
unfolding storage_state_ok same_list
storage_told b f n g m r q ef en er eg em eq =
    code_and r q ∙ rw (er, eq, ef, en, eg, em, ← node_told (get_or (W b) 1 0) (get_or (W b) 2 0), ← node_told (get_or (W b) 4 0) (get_or (W b) 5 0))
    (simp (same, true_and, and_true, and_assoc))

-- ---- a status

module _ (b : List ℕ) (f r t k l c : ℕ) (ef : f ≡ get_or (W b) 0 0) (er : r ≡ get_or (W b) 1 0) (et : t ≡ get_or (W b) 2 0) (ek : k ≡ get_or (W b) 3 0) (el : l ≡ get_or (W b) 4 0) (ec : c ≡ get_or (W b) 5 0) where
  -- the words by place
  told_by : same_list (status_words (status_in f r t (node_in k l) c)) (f ∷ r ∷ t ∷ k ∷ l ∷ c ∷ []) ≡ status_told (W b)
  unfolding status_told
  told_by = rw (ef, er, et, ek, el, ec)

  pub no_status : f ≡ 0 → (((((eqb r 0 && eqb t 0) && eqb k 0) && eqb l 0) && eqb c 0)) ≡ status_told (W b)
  unfolding status_in same_list
  no_status e =
      let z : eqb f 0 ≡ true = eq-eqb f 0 e in
      let w : (((((eqb r 0 && eqb t 0) && eqb k 0) && eqb l 0) && eqb c 0)) ≡ same_list (status_words (status_in f r t (node_in k l) c)) (f ∷ r ∷ t ∷ k ∷ l ∷ c ∷ []) =
      rw z (simp (code_and, and_assoc, eqb_sym 0, z, true_and, and_true)) in
      w ∙ told_by

  pub some_status : (h : Bool) → (f ≡ 0 → ⊥) → h ≡ flagged k l → ((eqb f 1 && leb r 2) && h) ≡ status_told (W b)
  unfolding status_in same_list
  some_status h e eh =
      let z : eqb f 0 ≡ false = ne_eqb f 0 e in
      let w : ((eqb f 1 && leb r 2) && h) ≡ same_list (status_words (status_in f r t (node_in k l) c)) (f ∷ r ∷ t ∷ k ∷ l ∷ c ∷ []) =
      rw (eh, ← node_told k l, z) (simp (code_and, same, eqb_sym 1, role_told, true_and, and_true, and_assoc)) in
      w ∙ told_by

-- ---- the rest of a server's fixed part

-- the words of a server are those of its status, and then the others
pub server_told : (L : ℕ) (b : List ℕ) (i c n f m : ℕ) (s l : Bool) → s ≡ status_told (W b) → i ≡ get_or (W b) 6 0 → c ≡ get_or (W b) 9 0 → n ≡ get_or (W b) 10 0 → f ≡ get_or (W b) 12 0 → m ≡ get_or (W b) 13 0 → l ≡ flagged f m
    → (((((s && leb c 1) && l) && ltb i 4294967296) && leb 1 n) && leb n (L + 1)) ≡ server_state_ok L (W b)
unfolding server_state_ok status_told same_list
server_told L b i c n f m s l es ei ec en ef em el =
    rw (es, el, ei, ec, en, ef, em, ← term_told (get_or (W b) 12 0) (get_or (W b) 13 0), ← bool_told (get_or (W b) 9 0)) (simp (code_and, same, true_and, and_true, and_assoc))

-- ---- the fixed part: storage, the rest, and zeros

pub fixed_told : (F : Capacity) (b : List ℕ) (r q u : Bool) → Bytes b → 512 ≤ length b → r ≡ storage_state_ok (W b) → q ≡ server_state_ok F.limits.log_indexes (W (take (176 - 64) (drop 64 b))) → u ≡ allz (take (64 - 22) (drop 22 (W b)))
    → ((r && q) && u) ≡ fixed_ok F (W b)
unfolding storage_state_ok server_state_ok fixed_ok
fixed_told F b r q u B h er eq eu =
    let L : ℕ = F.limits.log_indexes in
    let e : q ≡ (server_state_code L).ok (drop 8 (W b)) = eq ∙ part_ok (server_state_code L) b 8 22 B refl (omega arith) in
    code_and (r && q) u ∙ ap (λ (t : Bool). t and u) (code_and r q) ∙ and_assoc r q u
    ∙ ap₂ (λ (x y : Bool). x and y) er (ap₂ (λ (x y : Bool). x and y) e (eu ∙ ap (λ (l : List ℕ). allz (take 42 l)) (sym (drop-drop 14 8 (W b)))))

-- ---- a block

-- a table in a part of bytes, tested by its own module
table_part : {T : Type 0} (t : Table T) (N n : ℕ) (b : List ℕ) (a e : ℕ) (r : Bool) → Bytes b → e ≡ a + N → 8 * e ≤ length b → Decides r (Tabled t n (take (8 * e - 8 * a) (drop (8 * a) b))) → r ≡ (content t N n).ok (drop a (W b))
table_part t N n b a e r B q h d =
    tabled_ok t N n _ r (each_take (8 * e - 8 * a) (drop (8 * a) b) (each_drop (8 * a) b B)) (length-take-le (8 * e - 8 * a) (drop (8 * a) b) (omega (arith, length-drop (8 * a) b)) ∙ (let k : 8 * e - 8 * a ≡ 8 * N = omega arith in k)) d
    ∙ part_ok (content t N n) b a e B q h

module _ (F : Capacity) (b : List ℕ) (l : length b ≡ 8 * block_words F) (B : Bytes b) where
  abbrev L : ℕ
  L = F.limits.log_indexes

  abbrev P : ℕ
  P = F.limits.payload

  -- the regions of a server's tables, by the words before them
  module _ (x y : ℕ) (p : Counted x (log_words F)) (q : Counted y (waiting_words F)) where
    current_ok : (r : Bool) → Decides r (Tabled (places P) L (take (8 * (64 + x) - 512) (drop 512 b))) → r ≡ (content (places P) (log_words F) L).ok (drop 64 (W b))
    current_ok r d = table_part (places P) (log_words F) L b 64 (64 + x) r B (omega (arith, p.is)) (omega (arith, l, p.is)) d

    durable_ok : (r : Bool) → Decides r (Tabled (places P) L (take (8 * (64 + x + x) - 8 * (64 + x)) (drop (8 * (64 + x)) b))) → r ≡ (content (places P) (log_words F) L).ok (drop (log_words F) (drop 64 (W b)))
    durable_ok r d =
        table_part (places P) (log_words F) L b (64 + x) (64 + x + x) r B (omega (arith, p.is)) (omega (arith, l, p.is)) d
        ∙ ap (content (places P) (log_words F) L).ok (ap (λ (m : ℕ). drop (64 + m) (W b)) p.is ∙ sym (drop-drop (log_words F) 64 (W b)))

    waiting_ok : (n : ℕ) (r : Bool) → Decides r (Tabled (waiting_in L P) n (take (8 * (64 + x + x + y) - 8 * (64 + x + x)) (drop (8 * (64 + x + x)) b)))
        → r ≡ (content (waiting_in L P) (waiting_words F) n).ok (drop (log_words F) (drop (log_words F) (drop 64 (W b))))
    waiting_ok n r d =
        table_part (waiting_in L P) (waiting_words F) n b (64 + x + x) (64 + x + x + y) r B (omega (arith, p.is, q.is)) (omega (arith, l, p.is, q.is)) d
        ∙ ap (content (waiting_in L P) (waiting_words F) n).ok (ap (λ (m : ℕ). drop (64 + m + m) (W b)) p.is ∙ sym (ap (drop (log_words F)) (drop-drop (log_words F) 64 (W b)) ∙ drop-drop (log_words F) (64 + log_words F) (W b)))

    pending_ok : (n : ℕ) (r : Bool) → Decides r (Tabled (keys F.clients) n (take (length b - 8 * (64 + x + x + y)) (drop (8 * (64 + x + x + y)) b)))
        → r ≡ (content (keys F.clients) (pending_words F) n).ok (drop (waiting_words F) (drop (log_words F) (drop (log_words F) (drop 64 (W b)))))
    pending_ok n r d =
        table_part (keys F.clients) (pending_words F) n b (64 + x + x + y) (block_words F) r B (omega (arith, p.is, q.is)) (omega (arith, l))
        (subst (λ (m : ℕ). Decides r (Tabled (keys F.clients) n (take (m - 8 * (64 + x + x + y)) (drop (8 * (64 + x + x + y)) b)))) l d)
        ∙ ap (content (keys F.clients) (pending_words F) n).ok (ap₂ (λ (m k : ℕ). drop (64 + m + m + k) (W b)) p.is q.is
        ∙ sym (ap (drop (waiting_words F)) (ap (drop (log_words F)) (drop-drop (log_words F) 64 (W b)) ∙ drop-drop (log_words F) (64 + log_words F) (W b)) ∙ drop-drop (waiting_words F) (64 + log_words F + log_words F) (W b)))

    -- all of a block
    pub block_told : (n k : ℕ) (r₁ r₂ r₃ r₄ r₅ : Bool) → n ≡ get_or (W b) 6 0 → k ≡ get_or (W b) 19 0 → r₁ ≡ fixed_ok F (W b)
        → Decides r₂ (Tabled (places P) L (take (8 * (64 + x) - 512) (drop 512 b)))
        → Decides r₃ (Tabled (places P) L (take (8 * (64 + x + x) - 8 * (64 + x)) (drop (8 * (64 + x)) b)))
        → Decides r₄ (Tabled (waiting_in L P) n (take (8 * (64 + x + x + y) - 8 * (64 + x + x)) (drop (8 * (64 + x + x)) b)))
        → Decides r₅ (Tabled (keys F.clients) k (take (length b - 8 * (64 + x + x + y)) (drop (8 * (64 + x + x + y)) b)))
        → ((((r₁ && r₂) && r₃) && r₄) && r₅) ≡ server_ok F (W b)
    unfolding fixed_ok server_ok
    block_told n k r₁ r₂ r₃ r₄ r₅ en ek e₁ d₂ d₃ d₄ d₅ =
        let ws : List ℕ = W b in
        let e₄ : r₄ ≡ (content (waiting_in L P) (waiting_words F) (get_or ws 6 0)).ok (drop (log_words F) (drop (log_words F) (drop 64 ws))) =
        waiting_ok n r₄ d₄ ∙ ap (λ (m : ℕ). (content (waiting_in L P) (waiting_words F) m).ok (drop (log_words F) (drop (log_words F) (drop 64 ws)))) en in
        let e₅ : r₅ ≡ (content (keys F.clients) (pending_words F) (get_or (drop 8 ws) 11 0)).ok (drop (waiting_words F) (drop (log_words F) (drop (log_words F) (drop 64 ws)))) =
        pending_ok k r₅ d₅ ∙ ap (λ (m : ℕ). (content (keys F.clients) (pending_words F) m).ok (drop (waiting_words F) (drop (log_words F) (drop (log_words F) (drop 64 ws))))) (ek ∙ sym (get_or-drop 8 ws 11 0)) in
        five r₁ r₂ r₃ r₄ r₅
        ∙ ap₂ (λ (s t : Bool). s and t) e₁ (ap₂ (λ (s t : Bool). s and t) (current_ok r₂ d₂) (ap₂ (λ (s t : Bool). s and t) (durable_ok r₃ d₃) (ap₂ (λ (s t : Bool). s and t) e₄ e₅)))
      where
        five : (a c d e f : Bool) → ((((a && c) && d) && e) && f) ≡ (a and (c and (d and (e and f))))
        five a c d e f = simp (code_and, and_assoc)

-- ---- the blocks

-- the loop's test is the code's: there is no room behind the blocks
all_blocks : (F : Capacity) (ws : List ℕ) → ok_n (server_code F) F.servers ws ≡ servers_ok F ws
unfolding servers_ok allz
all_blocks F ws =
    let n : ℕ = F.servers * block_words F in
    let z : n - n ≡ 0 = omega arith in
    sym (ap₂ (λ (t : Bool) (m : ℕ). (t and (ok_n (server_code F) F.servers ws and allz (take m (drop n ws)))) and true) (le-leb n n (omega arith)) z ∙ alone (ok_n (server_code F) F.servers ws))
  where
    alone : (t : Bool) → ((true and (t and true)) and true) ≡ t
    alone t = simp (true_and, and_true)

-- The blocks before block i are contents.
pub record Checked (F : Capacity) (s : List ℕ) (i : ℕ) : Type 0 where
  pub rowed : Rowed (server_code F) F.servers (W s) i

pub blocks_start : (F : Capacity) (s : List ℕ) → Checked F s 0
blocks_start F s = record { rowed = rowed_start (server_code F) F.servers (W s) }

module _ (F : Capacity) (s : List ℕ) (w i : ℕ) (p : Counted w (block_words F)) (k : Checked F s i) where
  pub blocks_done : F.servers ≤ i → true ≡ servers_ok F (W s)
  blocks_done h = rowed_done (server_code F) F.servers (W s) i k.rowed h ∙ all_blocks F (W s)

  module _ (x : ℕ) (q : Bool) (l : length s ≡ 8 * (F.servers * block_words F)) (h : i < F.servers) (B : Bytes s) (e : BlockAt F i x)
      (t : q ≡ server_ok F (W (take (8 * (x - 512 + w) - 8 * (x - 512)) (drop (8 * (x - 512)) s)))) where
    here : q ≡ (server_code F).ok (W (lent_row (x - 512) (block_words F) s))
    unfolding server_ok
    here = t ∙ ap (λ (m : ℕ). (server_code F).ok (W (lent_row (x - 512) m s))) p.is

    there : x - 512 ≡ i * block_words F
    there = omega (arith, e.is)

    pub block_fine : not q ≡ false → Checked F s (i + 1)
    block_fine f = record { rowed = lent_fine (server_code F) F.servers s i (x - 512) q k.rowed h B there (omega (arith, l)) here f }

    pub block_fails : not q ≡ true → false ≡ servers_ok F (W s)
    block_fails f = lent_fails (server_code F) F.servers s i (x - 512) q k.rowed h B there (omega (arith, l)) here f ∙ all_blocks F (W s)
