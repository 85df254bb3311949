-- The content of a new state is its words and zeros. Assumes nothing.
use Rattle.std.specs.Prelude.{◌≡◌, refl, ℕ, zero, suc, ◌+◌, ◌-◌, ◌*◌, length, set, replicate, None}
use Rattle.std.proofs.Common.{sym, ◌∙◌, zero-mul, suc-mul}
use Rattle.std.proofs.Math.Path.{ap, ap₂}
use mathlib.Core.List.{List, [], ◌∷◌, ◌++◌, map, append_assoc, append-nil}
use native.Mathlib.Omega.{arith}
use Rattle.std.proofs.Math.ListN.{length-append}
use Rattle.std.proofs.lemmas.List.{length-replicate}
use Rattle.words.specs.Words.{bytes}
use Rattle.words.specs.Lift.{bytes_append, bytes_zeros}
use Rattle.layout.specs.Code.{Code, zeros, flat, lay}
use Rattle.layout.specs.Cuts.{joined}
use Rattle.layout.specs.Marked.{words_for}
use Rattle.rng.specs.Rng.{under}
use Rattle.rng.specs.declared.Rng.{Rng}
use Rattle.seeds.specs.Seeds.{stream_rng}
use Rattle.seeds.specs.declared.Stream.TheVariants.{Workload}
use Rattle.config.specs.declared.SimConfig.{SimConfig}
use Rattle.config.specs.declared.Limits.{Limits}
use Rattle.raft_log.specs.Places.{place}
use Rattle.layout.specs.Keys.{keys}
use Rattle.layout.specs.Applied.{applied}
use Rattle.storage.specs.Waiting.{waiting_in}
use Rattle.queue.specs.Table.{events}
use Rattle.checks.specs.Leaders.{leaders}
use Rattle.checks.specs.Entries.{seen_in}
use Rattle.checks.specs.Violations.{violations}
use Rattle.checks_durability.specs.Replies.{replies}
use Rattle.clients.specs.Confirmations.{confirmations}
use Rattle.network_words.specs.NetworkCode.{network_code}
use Rattle.network_words.specs.Links.{from_bits}
use Rattle.metrics_words.specs.MetricsCode.{metrics_code}
use Rattle.clients.specs.Clients.{client_words}
use Rattle.clients.specs.declared.Client.{Client}
use Rattle.model.specs.State.{State, new_server}
use Rattle.model.specs.Simulation.{draw_targets, new_servers, unstarted}
use Rattle.model.specs.Fits.{phase_fits}
use Rattle.state.specs.declared.Capacity.{Capacity}
use Rattle.state.specs.Sizes.{log_words, waiting_words, pending_words, block_words, queue_words, seen_words, applied_words, whole_words, bytes_of}
use Rattle.state.specs.Parts.{capacity_code, settings_code, run_code, counts_code, phase_code}
use Rattle.state.specs.Area.{run_of, counts_of, servers_code, queue_code, seen_code, leaders_code, replies_code, confirmations_code, applied_code, clients_code, violations_code}
use Rattle.state.specs.Encode.{encode, contents}
use Rattle.state.specs.Server.{server_code}
use Rattle.sim_start.specs.Start.{counts_for, undrawn, first_words, header_words, new_server_words, clients_words}
use Rattle.sim_start.specs.FillLaws.{zeros_add, zeros_then}

-- ---- a server that has never started

-- a log without entries
empty_places : (p n : ℕ) → flat (place p).enc (replicate n None) ≡ zeros (n * (2 + words_for p))
empty_places p zero = ap zeros (sym (zero-mul (2 + words_for p)))
empty_places p (suc n) =
    ap (λ (l : List ℕ). zeros (2 + words_for p) ++ l) (empty_places p n)
    ∙ sym (zeros_add (2 + words_for p) (n * (2 + words_for p)))
    ∙ ap zeros (let e : 2 + words_for p + n * (2 + words_for p) ≡ suc n * (2 + words_for p) = omega (arith, suc-mul n (2 + words_for p)) in e)

-- zeros behind rows that fill their words
no_more : (xs : List ℕ) (n m : ℕ) → n ≡ m → xs ++ zeros (n - m) ≡ xs
no_more xs n m e = ap (λ (k : ℕ). xs ++ zeros k) (let z : n - m ≡ 0 = omega arith in z) ∙ append-nil xs

-- a table without rows
no_rows : {A : Type 0} (c : Code A) (n : ℕ) → lay c n [] ≡ zeros n
no_rows c n = ap zeros (let e : n - 0 * c.size ≡ n = omega (arith, zero-mul c.size) in e)

module _ (F : Capacity) where
  abbrev L : ℕ
  L = F.limits.log_indexes

  abbrev P : ℕ
  P = F.limits.payload

  log_zeros : lay (place P) (log_words F) (replicate L None) ≡ zeros (log_words F)
  log_zeros =
      no_more (flat (place P).enc (replicate L None)) (log_words F) (length (replicate L None) * (2 + words_for P))
      (ap (λ (n : ℕ). n * (2 + words_for P)) (sym (length-replicate L None)))
      ∙ empty_places P L

  -- the words of a new server: its next index to apply is 1, and all else is zero
  pub new_server_words_lem : (server_code F).enc (new_server L) ≡ zeros 18 ++ ((1 ∷ []) ++ zeros (block_words F - 19))
  new_server_words_lem =
      let a : ℕ = log_words F in
      let w : ℕ = waiting_words F in
      let p : ℕ = pending_words F in
      ap (λ (l : List ℕ). zeros 18 ++ ((1 ∷ zeros 45) ++ l))
      (ap₂ (λ (x y : List ℕ). x ++ (x ++ y)) log_zeros (ap₂ (λ (x y : List ℕ). x ++ y) (no_rows (waiting_in L P).row w) (no_rows (keys F.clients).row p) ∙ sym (zeros_add w p))
      ∙ ap (λ (l : List ℕ). zeros a ++ l) (sym (zeros_add a (w + p))) ∙ sym (zeros_add a (a + (w + p))))
      ∙ ap (λ (l : List ℕ). zeros 18 ++ (1 ∷ l)) (sym (zeros_add 45 (a + (a + (w + p)))) ∙ ap zeros (let e : 45 + (a + (a + (w + p))) ≡ block_words F - 19 = omega arith in e))

-- ---- lengths

pub length_new_servers : (n indexes : ℕ) → length (new_servers n indexes) ≡ n
unfolding new_servers
length_new_servers zero indexes = refl
length_new_servers (suc n) indexes = ap suc (length_new_servers n indexes)

pub length_targets : (servers n : ℕ) (g : Rng) → length (draw_targets servers n g).clients ≡ n
unfolding draw_targets
length_targets servers zero g = refl
length_targets servers (suc n) g = ap suc (length_targets servers n (under g servers).next)

pub length_new_words : (F : Capacity) (n : ℕ) → length (new_server_words F n) ≡ n * block_words F
unfolding new_server_words new_servers
length_new_words F zero = sym (zero-mul (block_words F))
length_new_words F (suc n) =
    let one : length ((server_code F).enc (new_server F.limits.log_indexes)) ≡ block_words F =
    ap length (new_server_words_lem F) ∙ length-append (zeros 18) ((1 ∷ []) ++ zeros (block_words F - 19))
    ∙ ap (λ (k : ℕ). 18 + suc k) (length-replicate {A = ℕ} (block_words F - 19) 0)
    ∙ (let e : 18 + suc (block_words F - 19) ≡ block_words F = omega arith in e) in
    length-append ((server_code F).enc (new_server F.limits.log_indexes)) (new_server_words F n)
    ∙ ap₂ (λ (j k : ℕ). j + k) one (length_new_words F n)
    ∙ (let e : block_words F + n * block_words F ≡ suc n * block_words F = omega (arith, suc-mul n (block_words F)) in e)

pub length_clients_words : (cs : List Client) → length (clients_words cs) ≡ length cs * 8
unfolding clients_words
length_clients_words [] = refl
length_clients_words (c ∷ cs) =
    length-append (client_words c) (clients_words cs) ∙ ap (λ (k : ℕ). 8 + k) (length_clients_words cs)
    ∙ (let e : 8 + length cs * 8 ≡ suc (length cs) * 8 = omega arith in e)

-- ---- the content

-- regions of words, and bytes behind them
joined_bytes : (parts : List (List ℕ)) (t : List ℕ) → joined (map bytes parts ++ (t ∷ [])) ≡ bytes (joined parts) ++ t
unfolding bytes
joined_bytes [] t = append-nil t
joined_bytes (a ∷ parts) t =
    ap (λ (l : List ℕ). bytes a ++ l) (joined_bytes parts t) ∙ sym (append_assoc (bytes a) (bytes (joined parts)) t)
    ∙ ap (λ (l : List ℕ). l ++ t) (sym (bytes_append a (joined parts)))

-- The words of the regions.
abbrev region_words : (cap set first v sv q s l r c a cl : List ℕ) → List ℕ
region_words cap set first v sv q s l r c a cl =
    cap ++ (set ++ (first ++ (zeros 31 ++ (zeros 10 ++ (zeros 8 ++ (zeros 165 ++ (v ++ (sv ++ (q ++ (s ++ (l ++ (r ++ (c ++ (a ++ (cl ++ [])))))))))))))))

same_regions : (cap set first : List ℕ) {v v' sv sv' q q' s s' l l' r r' c c' a a' cl cl' : List ℕ}
    → v ≡ v' → sv ≡ sv' → q ≡ q' → s ≡ s' → l ≡ l' → r ≡ r' → c ≡ c' → a ≡ a' → cl ≡ cl'
    → region_words cap set first v sv q s l r c a cl ≡ region_words cap set first v' sv' q' s' l' r' c' a' cl'
same_regions cap set first e₁ e₂ e₃ e₄ e₅ e₆ e₇ e₈ e₉ = cc

-- zeros side by side are zeros
region_zeros : (cap set first sv cl : List ℕ) (q s l r c a : ℕ)
    → region_words cap set first (zeros 256) sv (zeros q) (zeros s) (zeros l) (zeros r) (zeros c) (zeros a) cl
    ≡ (cap ++ (set ++ first)) ++ (zeros 470 ++ (sv ++ (zeros (q + (s + (l + (r + (c + a))))) ++ cl)))
region_zeros cap set first sv cl q s l r c a =
    let tail : zeros q ++ (zeros s ++ (zeros l ++ (zeros r ++ (zeros c ++ (zeros a ++ (cl ++ [])))))) ≡ zeros (q + (s + (l + (r + (c + a))))) ++ cl =
    ap (λ (x : List ℕ). zeros q ++ (zeros s ++ (zeros l ++ (zeros r ++ (zeros c ++ (zeros a ++ x)))))) (append-nil cl)
    ∙ ap (λ (x : List ℕ). zeros q ++ (zeros s ++ (zeros l ++ (zeros r ++ x)))) (zeros_then c a cl)
    ∙ ap (λ (x : List ℕ). zeros q ++ (zeros s ++ (zeros l ++ x))) (zeros_then r (c + a) cl)
    ∙ ap (λ (x : List ℕ). zeros q ++ (zeros s ++ x)) (zeros_then l (r + (c + a)) cl)
    ∙ ap (λ (x : List ℕ). zeros q ++ x) (zeros_then s (l + (r + (c + a))) cl)
    ∙ zeros_then q (s + (l + (r + (c + a)))) cl in
    let middle : (x : List ℕ) → zeros 31 ++ (zeros 10 ++ (zeros 8 ++ (zeros 165 ++ (zeros 256 ++ x)))) ≡ zeros 470 ++ x =
    λ x. ap (λ (y : List ℕ). zeros 31 ++ (zeros 10 ++ (zeros 8 ++ y))) (zeros_then 165 256 x) ∙ ap (λ (y : List ℕ). zeros 31 ++ (zeros 10 ++ y)) (zeros_then 8 421 x)
    ∙ ap (λ (y : List ℕ). zeros 31 ++ y) (zeros_then 10 429 x) ∙ zeros_then 31 439 x in
    ap (λ (x : List ℕ). cap ++ (set ++ (first ++ (zeros 31 ++ (zeros 10 ++ (zeros 8 ++ (zeros 165 ++ (zeros 256 ++ (sv ++ x))))))))) tail
    ∙ ap (λ (x : List ℕ). cap ++ (set ++ (first ++ x))) (middle (sv ++ (zeros (q + (s + (l + (r + (c + a))))) ++ cl)))
    ∙ ap (λ (x : List ℕ). cap ++ x) (sym (append_assoc set first (zeros 470 ++ (sv ++ (zeros (q + (s + (l + (r + (c + a))))) ++ cl)))))
    ∙ sym (append_assoc cap (set ++ first) (zeros 470 ++ (sv ++ (zeros (q + (s + (l + (r + (c + a))))) ++ cl))))

module _ (config : SimConfig) (limits : Limits) (seed : ℕ) where
  abbrev F : Capacity
  F = counts_for config limits

  -- The clients' targets.
  abbrev targets : List Client
  targets = (draw_targets config.servers config.clients (stream_rng seed Workload)).clients

  -- The words between the servers and the clients.
  abbrev pub between : ℕ
  between = queue_words F + (seen_words F + (limits.history * 2 + (limits.history * 5 + (limits.history * 3 + applied_words F))))

  -- The words of the new state, up to its clients.
  abbrev pub words_of : List ℕ
  words_of = header_words F config seed ++ (zeros 470 ++ (new_server_words F config.servers ++ (zeros between ++ clients_words targets)))

  pub length_words_of : length words_of ≡ whole_words F
  unfolding header_words first_words
  length_words_of =
      length-append (header_words F config seed) (zeros 470 ++ (new_server_words F config.servers ++ (zeros between ++ clients_words targets)))
      ∙ ap (λ (k : ℕ). 42 + k) (length-append (zeros 470) (new_server_words F config.servers ++ (zeros between ++ clients_words targets))
      ∙ ap (λ (k : ℕ). 470 + k) (length-append (new_server_words F config.servers) (zeros between ++ clients_words targets)
      ∙ ap₂ (λ (j k : ℕ). j + k) (length_new_words F config.servers) (length-append (zeros between) (clients_words targets)
      ∙ ap₂ (λ (j k : ℕ). j + k) (length-replicate {A = ℕ} between 0) (length_clients_words targets
      ∙ ap (λ (k : ℕ). k * 8) (length_targets config.servers config.clients (stream_rng seed Workload))))))
      ∙ (let e : 42 + (470 + (config.servers * block_words F + (between + config.clients * 8))) ≡ whole_words F = omega arith in e)

  -- the content of the new state
  pub encode_undrawn : encode (undrawn config limits seed) ≡ bytes words_of ++ zeros (bytes_of F - 8 * whole_words F)
  unfolding encode undrawn unstarted header_words first_words new_server_words clients_words from_bits
  encode_undrawn =
      let G : Capacity = F in
      let s : State = undrawn config limits seed in
      let n = counts_of s in
      let parts : List (List ℕ) =
      capacity_code.enc G ∷ (settings_code G).enc config ∷ (run_code.enc (run_of s)) ∷ (network_code config.servers config.one_way_delay.0).enc s.network ∷ (metrics_code config.servers).enc s.metrics
      ∷ (phase_code (phase_fits config limits)).enc s.phase ∷ counts_code.enc n ∷ zeros 165 ∷ (violations_code G n).enc [] ∷ (servers_code G).enc s.servers ∷ (queue_code G n).enc [] ∷ (seen_code G n).enc []
      ∷ (leaders_code G n).enc [] ∷ (replies_code G n).enc [] ∷ (confirmations_code G n).enc [] ∷ (applied_code G n).enc [] ∷ (clients_code G).enc s.clients ∷ [] in
      ap (λ (z : List ℕ). joined (set (contents s) 7 z)) (sym (bytes_zeros 165))
      ∙ joined_bytes parts (zeros (bytes_of G - 8 * whole_words G))
      ∙ ap (λ (ws : List ℕ). bytes ws ++ zeros (bytes_of G - 8 * whole_words G))
      (same_regions (capacity_code.enc G) ((settings_code G).enc config) (first_words seed) (no_rows violations.row 256)
      (no_more (flat (server_code G).enc (new_servers config.servers limits.log_indexes)) (config.servers * block_words G) (length (new_servers config.servers limits.log_indexes) * block_words G)
      (ap (λ (k : ℕ). k * block_words G) (sym (length_new_servers config.servers limits.log_indexes))))
      (no_rows (events config.servers config.clients limits.log_indexes limits.message).row (queue_words G)) (no_rows (seen_in limits.log_indexes limits.payload).row (seen_words G))
      (no_rows (leaders config.servers).row (limits.history * 2)) (no_rows (replies limits.log_indexes config.clients).row (limits.history * 5)) (no_rows confirmations.row (limits.history * 3))
      (no_rows (applied limits.payload).row (applied_words G))
      (no_more (flat client_words targets) (config.clients * 8) (length targets * 8) (ap (λ (k : ℕ). k * 8) (sym (length_targets config.servers config.clients (stream_rng seed Workload)))))
      ∙ region_zeros (capacity_code.enc G) ((settings_code G).enc config) (first_words seed) (new_server_words G config.servers) (clients_words targets) (queue_words G) (seen_words G) (limits.history * 2) (limits.history * 5)
      (limits.history * 3) (applied_words G))
