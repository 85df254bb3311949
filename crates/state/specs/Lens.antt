-- One server of an area: the regions of its block as they are lent, and the area when they are back. Assumes nothing.
use Rattle.std.specs.Prelude.{◌≡◌, refl, true, List, [], ◌∷◌, ◌++◌, map, ℕ, zero, suc, ◌+◌, ◌-◌, ◌*◌, ◌≤◌, ◌<◌, length, get_or, set, drop, take}
use Rattle.std.proofs.Common.{sym, ap, ap₂, subst, ◌∙◌, append_assoc, append-nil, arith, length-append, length-drop, length-set, take-append-drop, drop_of_length-le, length-take-le, get_or-set_same, take_at, drop_at}
use Rattle.laws.specs.Bools.{◌and◌, every, and_left}
use Rattle.laws.proofs.BoolLaws.{every_get, every_set, and_right}
use Rattle.laws.specs.Lists.{modify}
use Rattle.metrics.specs.Laws.{modify_set}
use Rattle.config.specs.declared.SimConfig.{SimConfig}
use Rattle.config.specs.declared.Limits.{Limits}
use Rattle.client.specs.declared.ClientKey.{ClientKey}
use Rattle.words.specs.Words.{bytes}
use Rattle.words.specs.Lift.{bytes_append, length_bytes, bytes_zeros}
use Rattle.words.specs.Sets.{part_part}
use Rattle.layout.specs.Code.{zeros}
use Rattle.layout.specs.Tables.{Holds, Held, content}
use Rattle.layout.specs.TableLaws.{held_length, row_held, such_plain, such_tested}
use Rattle.layout.specs.Contents.{holds_length}
use Rattle.layout.specs.Parts.{put_lent}
use Rattle.layout.specs.Rows.{row_end}
use Rattle.layout.specs.Cuts.{cut, total, joined, put, joined_cut, cut_joined, cut_put, put_put, region, length_put}
use Rattle.layout.specs.Keys.{keys}
use Rattle.raft_log.specs.Log.{Log}
use Rattle.raft_log.specs.Places.{places}
use Rattle.storage.specs.Storage.{Storage}
use Rattle.storage.specs.Waiting.{waiting, waiting_in, put_within}
use Rattle.storage.specs.Stores.{disk_bytes, Stores}
use Rattle.storage.specs.PartLaws.{lent, back}
use Rattle.model.specs.State.{State, Server, new_server, server_at}
use Rattle.model.specs.Fields.{with_servers}
use Rattle.model.specs.Simulation.{on_server}
use Rattle.model.specs.Fits.{state_fits, server_fits}
use Rattle.state.specs.declared.Capacity.{Capacity}
use Rattle.state.specs.Sizes.{log_words, waiting_words, pending_words, block_words, bytes_of, sizes}
use Rattle.state.specs.SizeLaws.{room}
use Rattle.state.specs.Parts.{storage_state_code, storage_state_words, server_state_code, server_state_words}
use Rattle.state.specs.Server.{server_code, server_good, storage_of_server, state_of_server}
use Rattle.state.specs.Area.{Area, capacity_of, servers, servers_code}
use Rattle.state.specs.Encode.{contents}
use Rattle.state.specs.ServerFits.{server_good_lem}
use Rattle.state.specs.Fitting.{laid_limits, area_fits}
use Rattle.state.specs.FitsBy.{fits_test, server_count, fits_server}
use Rattle.state.specs.Changes.{AreaOf}
use Rattle.state.specs.Puts.{one_put}

-- ---- a server's block by the regions that functions lend

-- The lengths of the regions of a block: the storage's fixed part, the rest of the fixed part, what is unused, the disk (both logs and the waiting writes),
-- the pending keys.
abbrev pub block_parts : Capacity → List ℕ
block_parts F = 64 ∷ 112 ∷ 336 ∷ disk_bytes F.limits.payload F.limits.log_indexes F.limits.writes ∷ 8 * pending_words F ∷ []

-- The bytes of a log.
abbrev pub log_content : Capacity → Log → List ℕ
log_content F x = bytes ((content (places F.limits.payload) (log_words F) F.limits.log_indexes).enc x)

-- The bytes of a disk: the current log, the durable log, the waiting writes.
abbrev pub disk_content : Capacity → Storage → List ℕ
disk_content F x =
    log_content F x.current.log ++ (log_content F x.durable.log
    ++ bytes ((content (waiting_in F.limits.log_indexes F.limits.payload) (waiting_words F) (length x.waiting)).enc x.waiting))

-- The bytes of the pending keys.
abbrev pub pending_content : Capacity → List ClientKey → List ℕ
pending_content F ks = bytes ((content (keys F.clients) (pending_words F) (length ks)).enc ks)

-- The bytes of each region of a server's block.
abbrev pub server_contents : Capacity → Server → List (List ℕ)
server_contents F v =
    bytes (storage_state_words (storage_of_server v)) ∷ bytes (server_state_words (state_of_server v)) ∷ zeros 336 ∷ disk_content F v.storage ∷ pending_content F v.pending ∷ []

-- What is known of a server that has a content: what each region holds, and that each waiting put is to a place of the log.
pub record ServerHeld (F : Capacity) (v : Server) : Type 0 where
  pub storage : Holds storage_state_code (bytes (storage_state_words (storage_of_server v))) (storage_of_server v)
  pub state : Holds (server_state_code F.limits.log_indexes) (bytes (server_state_words (state_of_server v))) (state_of_server v)
  pub disk : Stores F.limits.payload F.limits.log_indexes F.limits.writes (storage_of_server v) (disk_content F v.storage) v.storage
  pub within : every (put_within F.limits.log_indexes) v.storage.waiting ≡ true
  pub pending : Held (keys F.clients) (pending_words F) (length v.pending) (pending_content F v.pending) v.pending

module _ (F : Capacity) (v : Server) where
  abbrev L : ℕ
  L = F.limits.log_indexes

  abbrev P : ℕ
  P = F.limits.payload

  pub server_held : server_good F v ≡ true → ServerHeld F v
  server_held h =
      let f = and_left _ _ h in
      let g₁ = and_right _ _ h in
      let g₂ = and_right _ _ g₁ in
      let g₃ = and_right _ _ g₂ in
      let ws : Held (waiting_in L P) (waiting_words F) (length v.storage.waiting) (bytes ((content (waiting_in L P) (waiting_words F) (length v.storage.waiting)).enc v.storage.waiting)) v.storage.waiting =
      record { holds = record { good = and_left _ _ g₃; is = refl } } in
      record {
        storage = record { good = and_left _ _ f; is = refl };
        state = record { good = and_left _ _ (and_right _ _ f); is = refl };
        disk = record {
          parts = record {
            first = log_content F v.storage.current.log;
            second = log_content F v.storage.durable.log;
            third = bytes ((content (waiting_in L P) (waiting_words F) (length v.storage.waiting)).enc v.storage.waiting);
            side = refl;
            current = record { holds = record { good = and_left _ _ g₁; is = refl } };
            durable = record { holds = record { good = and_left _ _ g₂; is = refl } };
            writes = such_plain (waiting P) (put_within L) ws;
          };
          current = refl;
          durable = refl;
          discarded = refl;
        };
        within = such_tested (waiting P) (put_within L) ws;
        pending = record { holds = record { good = and_right _ _ g₃; is = refl } };
      }

  side : (a b c d e f g : List ℕ) → bytes ((a ++ (b ++ c)) ++ (d ++ (e ++ (f ++ g)))) ≡ joined (bytes a ∷ bytes b ∷ bytes c ∷ (bytes d ++ (bytes e ++ bytes f)) ∷ bytes g ∷ [])
  side a b c d e f g = simp (bytes_append, append_assoc, append-nil)

  content_is : bytes ((server_code F).enc v) ≡ joined (server_contents F v)
  content_is =
      let u : List ℕ = storage_state_words (storage_of_server v) in
      let w : List ℕ = server_state_words (state_of_server v) in
      side u w (zeros 42) ((content (places P) (log_words F) L).enc v.storage.current.log) ((content (places P) (log_words F) L).enc v.storage.durable.log)
      ((content (waiting_in L P) (waiting_words F) (length v.storage.waiting)).enc v.storage.waiting) ((content (keys F.clients) (pending_words F) (length v.pending)).enc v.pending)
      ∙ ap (λ (z : List ℕ). joined (bytes u ∷ bytes w ∷ z ∷ disk_content F v.storage ∷ pending_content F v.pending ∷ [])) (bytes_zeros 42)

  five : {a a' b b' c c' d d' e e' : ℕ} → a ≡ a' → b ≡ b' → c ≡ c' → d ≡ d' → e ≡ e' → (a ∷ b ∷ c ∷ d ∷ e ∷ []) ≡ (a' ∷ b' ∷ c' ∷ d' ∷ e' ∷ [])
  five e₁ e₂ e₃ e₄ e₅ = cc

  lengths : ServerHeld F v → map length (server_contents F v) ≡ block_parts F
  lengths h =
      let p = h.disk.parts in
      let d : length (disk_content F v.storage) ≡ 8 * (log_words F + (log_words F + waiting_words F)) =
      omega (arith, ap length p.side, length-append p.first (p.second ++ p.third), length-append p.second p.third, held_length p.current, held_length p.durable, held_length p.writes) in
      five (length_bytes (storage_state_words (storage_of_server v))) (length_bytes (server_state_words (state_of_server v))) refl d (held_length h.pending)

  -- the block of a server, cut
  pub block_cut : (b : List ℕ) → Holds (server_code F) b v → cut (block_parts F) b ≡ server_contents F v
  block_cut b h =
      ap (cut (block_parts F)) (h.is ∙ content_is ∙ sym (append-nil (joined (server_contents F v)))) ∙ ap (λ (ns : List ℕ). cut ns (joined (server_contents F v) ++ [])) (sym (lengths (server_held h.good)))
      ∙ cut_joined (server_contents F v) []

  -- regions that are a server's are its block
  pub cut_block : (b : List ℕ) → server_good F v ≡ true → cut (block_parts F) b ≡ server_contents F v → length b ≡ 8 * block_words F → Holds (server_code F) b v
  cut_block b g e l = record {
    good = g;
    is = sym (joined_cut (block_parts F) b) ∙ ap₂ (λ (xs : List (List ℕ)) (r : List ℕ). joined xs ++ r) e (drop_of_length-le b {i = total (block_parts F)} (omega (arith, l)))
        ∙ append-nil (joined (server_contents F v)) ∙ sym content_is;
  }

-- ---- one server changed

modify_twice : {A : Type 0} (f g : A → A) (k : ℕ) (xs : List A) → modify k g (modify k f xs) ≡ modify k (λ x. g (f x)) xs
unfolding modify
modify_twice f g k [] = refl
modify_twice f g zero (x ∷ xs) = refl
modify_twice f g (suc k) (x ∷ xs) = ap (λ (l : List _). x ∷ l) (modify_twice f g k xs)

-- one server changed twice
pub server_twice : (s : State) (k : ℕ) (f g : Server → Server) → on_server (on_server s k f) k g ≡ on_server s k (λ v. g (f v))
server_twice s k f g = ap (with_servers s) (modify_twice f g k s.servers)

-- two changes that make the same of the server at k
pub server_same : (s : State) (k : ℕ) (f g : Server → Server) → f (server_at s k) ≡ g (server_at s k) → on_server s k f ≡ on_server s k g
server_same s k f g e =
    ap (with_servers s) (modify_set f (new_server 0) k s.servers ∙ ap (set s.servers k) e ∙ sym (modify_set g (new_server 0) k s.servers))

module _ (s : State) (k : ℕ) (f : Server → Server) where
  -- the server after its change
  pub server_after : k < length s.servers → server_at (on_server s k f) k ≡ f (server_at s k)
  server_after i = ap (λ (l : List Server). get_or l k (new_server 0)) (modify_set f (new_server 0) k s.servers) ∙ get_or-set_same s.servers k (f (server_at s k)) (new_server 0) i

  -- where the state fits then, the server is in range
  pub server_in_range : k < length s.servers → state_fits (on_server s k f) ≡ true → server_fits s.config s.limits (f (server_at s k)) ≡ true
  server_in_range i t =
      let n : length (modify k f s.servers) ≡ length s.servers = ap length (modify_set f (new_server 0) k s.servers) ∙ length-set s.servers k (f (server_at s k)) in
      subst (λ (x : Server). server_fits s.config s.limits x ≡ true) (server_after i)
      (every_get (server_fits s.config s.limits) (modify k f s.servers) k (new_server 0) (omega (arith, n)) (fits_test (on_server s k f) t 5))

-- The servers are as many as the settings say, and each is in range.
pub record ServersIn (config : SimConfig) (limits : Limits) (vs : List Server) : Type 0 where
  pub count : length vs ≡ config.servers
  pub each : every (server_fits config limits) vs ≡ true

-- The servers of a state fit.
abbrev pub ServersFit : State → Type 0
ServersFit s = ServersIn s.config s.limits s.servers

-- those of a state that fits do
pub servers_fit_lem : (s : State) → state_fits s ≡ true → ServersFit s
servers_fit_lem s t = record { count = server_count s t; each = fits_test s t 5 }

module _ (s : State) (k : ℕ) (h : ServersFit s) (i : k < s.config.servers) where
  -- each of servers that fit is in range
  pub server_fine : server_fits s.config s.limits (server_at s k) ≡ true
  server_fine = every_get (server_fits s.config s.limits) s.servers k (new_server 0) (rw h.count i) h.each

  -- question 10 of a change of one server: that server's tests, and all tests that were before
  pub fits_on_server : (f : Server → Server) → state_fits (on_server s k f) ≡ (server_fits s.config s.limits (f (server_at s k)) and state_fits s)
  fits_on_server f =
      ap (λ (l : List Server). state_fits (with_servers s l)) (modify_set f (new_server 0) k s.servers) ∙ fits_server s k (f (server_at s k)) h.count i h.each

  -- and where that server is in range, the servers fit after the change
  pub servers_kept : (f : Server → Server) → server_fits s.config s.limits (f (server_at s k)) ≡ true → ServersFit (on_server s k f)
  servers_kept f t =
      subst (ServersIn s.config s.limits) (sym (modify_set f (new_server 0) k s.servers))
      (record { count = length-set s.servers k (f (server_at s k)) ∙ h.count; each = every_set (server_fits s.config s.limits) s.servers k (f (server_at s k)) h.each t })

-- ---- the block in the area

-- by the counts of the state itself
module _ {b r : List ℕ} {s : State} (h : AreaOf b r (capacity_of s) s) (k : ℕ) (i : k < s.config.servers) where
  abbrev F : Capacity
  F = capacity_of s

  abbrev Z : ℕ
  Z = block_words F

  -- the servers' region
  abbrev all : List ℕ
  all = take (8 * (s.config.servers * Z)) (drop 4096 b)

  held : Held (servers F) (s.config.servers * Z) s.config.servers all s.servers
  held = record { holds = subst (λ (l : List ℕ). Holds (servers_code F) l s.servers) (sym (region (sizes F) b 9 (omega arith))) h.area.laid.servers }

  inside : k * Z + Z ≤ s.config.servers * Z
  inside = row_end k s.config.servers Z i

  within : 8 * (512 + s.config.servers * Z) ≤ length b
  within = omega (arith, h.area.long, room F)

  here : take (8 * Z) (drop (8 * (512 + k * Z)) b) ≡ take (8 * Z) (drop (8 * (k * Z)) all)
  here =
      let o : 8 * (512 + k * Z) ≡ 4096 + 8 * (k * Z) = omega arith in
      ap (λ (j : ℕ). take (8 * Z) (drop j b)) o ∙ sym (part_part b 4096 (8 * (s.config.servers * Z)) (8 * (k * Z)) (8 * Z) (omega (arith, inside)))

  block_lent : Holds (server_code F) (take (8 * Z) (drop (8 * (512 + k * Z)) b)) (server_at s k)
  block_lent = let q = row_held held k (new_server 0) i in record { good = q.good; is = here ∙ q.is }

  module _ (ys : List ℕ) (v : Server) (y : Holds (server_code F) ys v) where
    abbrev after : List ℕ
    after = put (8 * (k * Z)) (8 * Z) all ys

    all_long : length all ≡ 8 * (s.config.servers * Z)
    all_long = length-take-le (8 * (s.config.servers * Z)) (drop 4096 b) (omega (arith, length-drop 4096 b, within))

    rows : Held (servers F) (s.config.servers * Z) s.config.servers after (set s.servers k v)
    rows =
        let e : 8 * (k * Z + Z) - 8 * (k * Z) ≡ 8 * Z = omega arith in
        subst (λ (n : ℕ). Held (servers F) (s.config.servers * Z) s.config.servers (put (8 * (k * Z)) n all ys) (set s.servers k v)) e
        ((put_lent (servers F) s.config.servers all ys v y k i (omega (arith, all_long)) (λ x t. refl)).to (s.config.servers * Z) s.servers held)

    same : put (8 * (512 + k * Z)) (8 * Z) b ys ≡ put 4096 (8 * (s.config.servers * Z)) b after
    same =
        let o : 8 * (512 + k * Z) ≡ 4096 + 8 * (k * Z) = omega arith in
        ap (λ (j : ℕ). put j (8 * Z) b ys) o ∙ put_put 4096 (8 * (s.config.servers * Z)) (8 * (k * Z)) (8 * Z) b ys (omega (arith, within)) (omega (arith, inside))

    block_back : state_fits (with_servers s (set s.servers k v)) ≡ true → AreaOf (put (8 * (512 + k * Z)) (8 * Z) b ys) r F (with_servers s (set s.servers k v))
    block_back t =
        subst (λ (l : List ℕ). AreaOf l r F (with_servers s (set s.servers k v))) (sym same)
        (one_put h (with_servers s (set s.servers k v)) 9 after (omega arith) refl (ap (λ (l : List ℕ). set (contents s) 9 l) rows.holds.is) t)

module _ {b r : List ℕ} {F : Capacity} {s : State} (h : AreaOf b r F s) (k : ℕ) (i : k < F.servers) where
  -- the block of the server at k as it is lent
  pub server_lent : Holds (server_code F) (take (8 * block_words F) (drop (8 * (512 + k * block_words F)) b)) (server_at s k)
  server_lent =
      subst (λ (G : Capacity). k < G.servers → drop (bytes_of G) b ≡ r → Holds (server_code G) (take (8 * block_words G) (drop (8 * (512 + k * block_words G)) b)) (server_at s k)) (sym h.capacity)
      (λ j e. block_lent (record { capacity = refl; area = h.area; rest = e }) k j) i h.rest

  -- the block put back as that of a server v
  pub server_put : (ys : List ℕ) (v : Server) → Holds (server_code F) ys v → state_fits (with_servers s (set s.servers k v)) ≡ true
      → AreaOf (put (8 * (512 + k * block_words F)) (8 * block_words F) b ys) r F (with_servers s (set s.servers k v))
  server_put ys v y t =
      subst
      (λ (G : Capacity). k < G.servers → drop (bytes_of G) b ≡ r → Holds (server_code G) ys v → AreaOf (put (8 * (512 + k * block_words G)) (8 * block_words G) b ys) r G (with_servers s (set s.servers k v)))
      (sym h.capacity) (λ j e q. block_back (record { capacity = refl; area = h.area; rest = e }) k j ys v q t) i h.rest y

  -- the server at k has a content
  pub server_at_held : ServerHeld F (server_at s k)
  server_at_held = server_held F (server_at s k) server_lent.good

-- an area as it stands
pub area_of : {b : List ℕ} {F : Capacity} {s : State} → Area b s → F ≡ capacity_of s → AreaOf b (drop (bytes_of F) b) F s
area_of h e = record { capacity = e; area = h; rest = refl }

-- ---- regions of the block, one after another

-- The bytes are an area of s but for the block of the server at k, which is the regions xs; r lies behind.
pub record ServerCut (b r : List ℕ) (F : Capacity) (s : State) (k : ℕ) (xs : List (List ℕ)) : Type 0 where
  pub before : List ℕ
  pub area : AreaOf before r F s
  pub below : k < F.servers
  pub block : List ℕ
  pub long : length block ≡ 8 * block_words F
  pub cuts : cut (block_parts F) block ≡ xs
  pub side : b ≡ put (8 * (512 + k * block_words F)) (8 * block_words F) before block

-- what is put in the place of what was put
put_over : (a n : ℕ) (b x y : List ℕ) → a + n ≤ length b → length x ≡ n → put a n (put a n b x) y ≡ put a n b y
put_over a n b x y h l =
    let q : length (take a b) ≡ a = length-take-le a b (omega arith) in
    ap₂ (λ (u w : List ℕ). u ++ (y ++ drop n w)) (take_at (take a b) (x ++ drop n (drop a b)) a q) (drop_at (take a b) (x ++ drop n (drop a b)) a q)
    ∙ ap (λ (w : List ℕ). take a b ++ (y ++ w)) (drop_at x (drop n (drop a b)) n l)

put_there : (a n : ℕ) (b x : List ℕ) → a + n ≤ length b → length x ≡ n → take n (drop a (put a n b x)) ≡ x
put_there a n b x h l =
    ap (take n) (drop_at (take a b) (x ++ drop n (drop a b)) a (length-take-le a b (omega arith))) ∙ take_at x (drop n (drop a b)) n l

up_to : (ns : List ℕ) (j : ℕ) → j < length ns → total (take j ns) + get_or ns j 0 ≤ total ns
up_to [] j h = absurd (omega arith)
up_to (n ∷ ns) zero h = omega arith
up_to (n ∷ ns) (suc j) h = omega (arith, up_to ns j (omega arith))

-- what was lent put back as it was
pub put_same : (a n : ℕ) (b : List ℕ) → put a n b (take n (drop a b)) ≡ b
put_same a n b = ap (λ (l : List ℕ). take a b ++ l) (take-append-drop n (drop a b)) ∙ take-append-drop a b

-- an area, with the block of the server at k cut
pub server_cut : {b r : List ℕ} {F : Capacity} {s : State} → AreaOf b r F s → (k : ℕ) → k < F.servers → ServerCut b r F s k (server_contents F (server_at s k))
server_cut {b} {r} {F} {s} h k i = record {
  before = b;
  area = h;
  below = i;
  block = take (8 * block_words F) (drop (8 * (512 + k * block_words F)) b);
  long = holds_length (server_lent h k i);
  cuts = block_cut F (server_at s k) (take (8 * block_words F) (drop (8 * (512 + k * block_words F)) b)) (server_lent h k i);
  side = sym (put_same (8 * (512 + k * block_words F)) (8 * block_words F) b);
}

module _ {b r : List ℕ} {F : Capacity} {s : State} {k : ℕ} {xs : List (List ℕ)} (c : ServerCut b r F s k xs) where
  abbrev A : ℕ
  A = 8 * (512 + k * block_words F)

  abbrev N : ℕ
  N = 8 * block_words F

  fits : A + N ≤ length c.before
  fits =
      let l : bytes_of F ≤ length c.before = subst (λ (G : Capacity). bytes_of G ≤ length c.before) (sym c.area.capacity) c.area.area.long in
      omega (arith, l, room F, row_end k F.servers (block_words F) c.below)

  pub cut_long : length b ≡ length c.before
  cut_long = ap length c.side ∙ length_put A N c.before c.block fits c.long

  module _ (i : ℕ) (j : i < 5) (a e : ℕ) (ea : a ≡ A + total (take i (block_parts F))) (ee : e ≡ a + get_or (block_parts F) i 0) where
    abbrev o : ℕ
    o = total (take i (block_parts F))

    abbrev m : ℕ
    m = get_or (block_parts F) i 0

    ends : o + m ≤ N
    ends = omega (arith, up_to (block_parts F) i j)

    wide : e - a ≡ m
    wide = omega arith

    -- region i as it is lent
    pub part_lent : lent a e b ≡ get_or xs i []
    part_lent =
        ap₂ (λ (u w : ℕ). take u (drop w b)) wide ea ∙ sym (part_part b A N o m ends) ∙ ap (λ (l : List ℕ). take m (drop o (take N (drop A l)))) c.side
        ∙ ap (λ (l : List ℕ). take m (drop o l)) (put_there A N c.before c.block fits c.long) ∙ region (block_parts F) c.block i j ∙ ap (λ (l : List (List ℕ)). get_or l i []) c.cuts

    -- region i put back
    pub part_put : (ys : List ℕ) → length ys ≡ get_or (block_parts F) i 0 → ServerCut (back a e b ys) r F s k (set xs i ys)
    part_put ys l = record {
      before = c.before;
      area = c.area;
      below = c.below;
      block = put o m c.block ys;
      long = length_put o m c.block ys (omega (arith, ends, c.long)) l ∙ c.long;
      cuts = cut_put (block_parts F) c.block ys i j (omega (arith, c.long)) l ∙ ap (λ (z : List (List ℕ)). set z i ys) c.cuts;
      side = ap₂ (λ (u w : ℕ). put w u b ys) wide ea ∙ put_put A N o m b ys (omega (arith, fits, cut_long)) ends
          ∙ ap (λ (l : List ℕ). put A N l (put o m (take N (drop A l)) ys)) c.side
          ∙ ap (λ (l : List ℕ). put A N (put A N c.before c.block) (put o m l ys)) (put_there A N c.before c.block fits c.long)
          ∙ put_over A N c.before c.block (put o m c.block ys) fits c.long;
    }

  -- the regions are those of the server changed by f: the bytes hold the state with that server
  pub cut_server : (f : Server → Server) → xs ≡ server_contents F (f (server_at s k)) → state_fits (on_server s k f) ≡ true → AreaOf b r F (on_server s k f)
  cut_server f x t =
      let v : Server = f (server_at s k) in
      let is : modify k f s.servers ≡ set s.servers k v = modify_set f (new_server 0) k s.servers in
      let j : k < length s.servers = omega (arith, c.below, server_count s (area_fits c.area.area), ap (λ (G : Capacity). G.servers) c.area.capacity) in
      let g : server_good F v ≡ true =
      subst (λ (G : Capacity). server_good G v ≡ true) (sym c.area.capacity) (server_good_lem s.config s.limits (laid_limits c.area.area.laid) v (server_in_range s k f j t)) in
      subst (λ (l : List Server). AreaOf b r F (with_servers s l)) (sym is)
      (subst (λ (l : List ℕ). AreaOf l r F (with_servers s (set s.servers k v))) (sym c.side)
      (server_put c.area k c.below c.block v (cut_block F v c.block g (c.cuts ∙ x) c.long) (subst (λ (l : List Server). state_fits (with_servers s l) ≡ true) is t)))
