-- What the proofs of content.rt cite. Assumes nothing.
use Rattle.std.specs.Prelude.{◌≡◌, true, drop, None}
use Rattle.std.proofs.Math.Path.{refl, sym, ap, ap₂, subst}
use Rattle.std.proofs.Common.{◌∙◌, add-one}
use mathlib.Core.List.{List, [], ◌∷◌, ◌++◌, append_assoc, append-nil}
use Prim.Native.Nat.{ℕ, zero, suc, ◌+◌, ◌-◌, ◌*◌, ◌≤◌, ◌<◌}
use native.Mathlib.Omega.{arith}
use Rattle.std.proofs.Math.ListN.{length, length-append}
use Rattle.std.proofs.lemmas.List.{length-replicate}
use Rattle.std.proofs.Math.Seq.{sets, length-sets, drop_at}
use Rattle.laws.proofs.BoolLaws.{and_both}
use Rattle.words.specs.Words.{bytes, bytes_of as bytesOfNumber}
use Rattle.words.specs.Lift.{bytes_one, length_bytes}
use Rattle.layout.specs.Code.{zeros}
use Rattle.rng.specs.Rng.{under}
use Rattle.rng.specs.declared.Rng.{Rng}
use Rattle.rng.specs.declared.Drawn.{Drawn}
use Rattle.seeds.specs.Seeds.{stream_rng}
use Rattle.seeds.specs.declared.Stream.TheVariants.{Workload, Network}
use Rattle.config.specs.declared.SimConfig.{SimConfig}
use Rattle.config.specs.declared.Limits.{Limits}
use Rattle.config.specs.Limits.{area_length}
use Rattle.clients.specs.Clients.{client_words}
use Rattle.clients.specs.declared.Client.{Client}
use Rattle.model.specs.State.{State, new_server}
use Rattle.model.specs.Simulation.{draw_targets, new_servers, unstarted}
use Rattle.model.specs.Fits.{state_fits}
use Rattle.state.specs.declared.Capacity.{Capacity}
use Rattle.state.specs.Sizes.{block_words, queue_at, seen_at, leaders_at, replies_at, confirmations_at, applied_at, clients_at, whole_words, bytes_of, Counted, BlockAt}
use Rattle.state.specs.SizeLaws.{room}
use Rattle.state.specs.Parts.{settings_words}
use Rattle.state.specs.Server.{server_code}
use Rattle.state.specs.Area.{Area}
use Rattle.state.specs.Encode.{encode}
use Rattle.state.specs.EncodeLaws.{at_least}
use Rattle.state.specs.Exists.{fits_area}
use Rattle.state.specs.FitsBy.{fits_test}
use Rattle.state.specs.Changes.{Inside, AreaOf, Changes}
use Rattle.state.specs.Exits.{inside_after}
use Rattle.state_header.specs.Header.{workload_set}
use Rattle.state_header.specs.Laws.{fits_workload}
use Rattle.sim_start.specs.Fill.{Filled, Clears, Writes}
use Rattle.sim_start.specs.FillLaws.{cleared, stored_words, writes_zeros, writes_both}
use Rattle.sim_start.specs.Start.{counts_for, count_words, first_offsets, last_offsets, first_words, header_words, new_server_words, clients_words, Draws, undrawn, LaysUndrawn, Lays}
use Rattle.sim_start.specs.Words.{new_server_words_lem, length_new_words, length_clients_words, between, words_of, length_words_of, encode_undrawn}
use Rattle.sim_start.specs.Fits.{stream_word}

-- ---- the header

pub clear_stored : (b b' : List ℕ) (F : Capacity) (n : ℕ) → Inside b F
    → (n ≡ area_length F.servers F.clients F.limits) × (n ≤ 480931840)
    → b' ≡ sets b 0 (zeros (n - 0)) → Clears b b' (bytes_of F)
clear_stored b b' F n i q e = subst (Clears b b') q.0 (cleared b b' n (omega (arith, i.long, q.0)) e)

module _ (b b' : List ℕ) (F : Capacity) where
  in_header : (k : ℕ) → k ≤ 512 → 8 * k ≤ bytes_of F
  in_header k h = omega (arith, at_least F)

  pub counts_stored : b' ≡ sets b (8 * 0) (bytes (F.servers ∷ F.clients ∷ F.limits.log_indexes ∷ F.limits.payload ∷ F.limits.message ∷ F.limits.events ∷ F.limits.writes ∷ F.limits.history ∷ []))
      → Writes b b' (bytes_of F) 0 (count_words F)
  unfolding count_words
  counts_stored e = stored_words b b' (bytes_of F) 0 (count_words F) (in_header 8 (omega arith)) e

  pub first_offsets_stored : (z q s l r : ℕ) → Counted z (block_words F) → Counted q (queue_at F) → Counted s (seen_at F)
      → Counted l (leaders_at F) → Counted r (replies_at F)
      → b' ≡ sets b (8 * 8) (bytes (4096 ∷ 8 * z ∷ 8 * q ∷ 8 * s ∷ 8 * l ∷ 8 * r ∷ [])) → Writes b b' (bytes_of F) 8 (first_offsets F)
  unfolding first_offsets
  first_offsets_stored z q s l r ez eq es el er e =
      stored_words b b' (bytes_of F) 8 (first_offsets F) (in_header 14 (omega arith)) (e ∙ rw (ez.is, eq.is, es.is, el.is, er.is))

  pub last_offsets_stored : (c a k w n : ℕ) → Counted c (confirmations_at F) → Counted a (applied_at F) → Counted k (clients_at F)
      → Counted w (whole_words F)
      → (n ≡ area_length F.servers F.clients F.limits) × (n ≤ 480931840)
      → b' ≡ sets b (8 * 14) (bytes (8 * c ∷ 8 * a ∷ 8 * k ∷ 8 * w ∷ n ∷ [])) → Writes b b' (bytes_of F) 14 (last_offsets F)
  unfolding last_offsets
  last_offsets_stored c a k w n ec ea ek ew en e =
      stored_words b b' (bytes_of F) 14 (last_offsets F) (in_header 19 (omega arith)) (e ∙ rw (ec.is, ea.is, ek.is, ew.is, en.0))

  pub settings_stored : (config : SimConfig) → b' ≡ sets b (8 * 19) (bytes (settings_words config))
      → Writes b b' (bytes_of F) 19 (settings_words config)
  settings_stored config e = stored_words b b' (bytes_of F) 19 (settings_words config) (in_header 31 (omega arith)) e

  pub first_stored : (seed : ℕ) (w n : Rng) → w ≡ stream_rng seed Workload → n ≡ stream_rng seed Network
      → b' ≡ sets b (8 * 31) (bytes (seed ∷ 0 ∷ w.state ∷ 0 ∷ 0 ∷ 0 ∷ 0 ∷ 0 ∷ 1 ∷ 0 ∷ n.state ∷ []))
      → Writes b b' (bytes_of F) 31 (first_words seed)
  unfolding first_words
  first_stored seed w n ew en e =
      stored_words b b' (bytes_of F) 31 (first_words seed) (in_header 42 (omega arith))
      (e ∙ ap₂ (λ (x y : Rng). sets b 248 (bytes (seed ∷ 0 ∷ x.state ∷ 0 ∷ 0 ∷ 0 ∷ 0 ∷ 0 ∷ 1 ∷ 0 ∷ y.state ∷ []))) ew en)

pub header_stored : {b b₁ b₂ b₃ b₄ b₅ : List ℕ} (F : Capacity) (config : SimConfig) (seed : ℕ) → Writes b b₁ (bytes_of F) 0 (count_words F)
    → Writes b₁ b₂ (bytes_of F) 8 (first_offsets F)
    → Writes b₂ b₃ (bytes_of F) 14 (last_offsets F) → Writes b₃ b₄ (bytes_of F) 19 (settings_words config)
    → Writes b₄ b₅ (bytes_of F) 31 (first_words seed)
    → Writes b b₅ (bytes_of F) 0 (header_words F config seed)
unfolding count_words first_offsets last_offsets first_words header_words
header_stored F config seed p₁ p₂ p₃ p₄ p₅ = writes_both p₁ (writes_both p₂ (writes_both p₃ (writes_both p₄ p₅ refl) refl) refl) refl

-- ---- the servers

-- one more new server
new_more : (F : Capacity) (n : ℕ)
    → new_server_words F (n + 1) ≡ new_server_words F n ++ (server_code F).enc (new_server F.limits.log_indexes)
unfolding new_server_words new_servers
new_more F n = ap (new_server_words F) (add-one n) ∙ sym (by n)
  where
    by : (n : ℕ) → new_server_words F n ++ (server_code F).enc (new_server F.limits.log_indexes) ≡ new_server_words F (suc n)
    by zero = sym (append-nil ((server_code F).enc (new_server F.limits.log_indexes)))
    by (suc n) =
        append_assoc ((server_code F).enc (new_server F.limits.log_indexes)) (new_server_words F n) ((server_code F).enc (new_server F.limits.log_indexes))
        ∙ ap (λ (l : List ℕ). (server_code F).enc (new_server F.limits.log_indexes) ++ l) (by n)

-- The servers before a place were written.
pub record Serving (b : List ℕ) (F : Capacity) (b' : List ℕ) (slot : ℕ) : Type 0 where
  pub inside : Inside b' F
  pub long : length b' ≡ length b
  pub few : slot ≤ F.servers
  pub writes : Writes b b' (bytes_of F) 512 (new_server_words F slot)

module _ (b : List ℕ) (F : Capacity) where
  pub serving_start : Inside b F → Serving b F b 0
  unfolding new_server_words new_servers
  serving_start i = record { inside = i; long = refl; few = omega arith; writes = record { to = λ r ws h l. subst (Filled b r (bytes_of F)) (sym (append-nil ws)) h } }

  module _ (b₁ : List ℕ) (slot : ℕ) (p : Serving b F b₁ slot) where
    -- the word of the next server's next index lies in the area
    pub serving_room : (at : ℕ) → BlockAt F slot at → 8 * (at + 18) + 8 ≤ length b₁
    serving_room at q = omega (arith, q.ends, room F, p.inside.long)

    pub serving_turn : (at : ℕ) (b₂ : List ℕ) → slot < F.servers → BlockAt F slot at → b₂ ≡ sets b₁ (8 * (at + 18)) (bytesOfNumber 8 1)
        → Serving b F b₂ (slot + 1)
    serving_turn at b₂ k q e =
        let n : ℕ = bytes_of F in
        let Z : ℕ = block_words F in
        let end : 8 * (at + Z) ≤ n = omega (arith, q.ends, room F) in
        let l : length b₂ ≡ length b₁ = ap length e ∙ length-sets b₁ (8 * (at + 18)) (bytesOfNumber 8 1) in
        let one : Writes b₁ b₂ n (at + 18) (1 ∷ []) =
        stored_words b₁ b₂ n (at + 18) (1 ∷ []) (omega arith) (e ∙ ap (sets b₁ (8 * (at + 18))) (sym (bytes_one 1))) in
        let row : Writes b₁ b₂ n at (zeros 18 ++ ((1 ∷ []) ++ zeros (Z - 19))) =
        writes_both (writes_zeros b₁ n at 18 (omega arith)) (writes_both one (writes_zeros b₂ n (at + 19) (Z - 19) (omega arith)) (let o : at + 18 + 1 ≡ at + 19 = omega arith in o)) refl in
        record {
          inside = inside_after b₁ b₂ F p.inside l;
          long = l ∙ p.long;
          few = omega arith;
          writes =
              subst (Writes b b₂ n 512) (ap (λ (x : List ℕ). new_server_words F slot ++ x) (sym (new_server_words_lem F)) ∙ sym (new_more F slot))
              (writes_both p.writes row (ap (λ (j : ℕ). 512 + j) (length_new_words F slot) ∙ sym q.is));
        }

    pub serving_done : F.servers ≤ slot → Writes b b₁ (bytes_of F) 512 (new_server_words F F.servers)
    serving_done k = subst (λ (m : ℕ). Writes b b₁ (bytes_of F) 512 (new_server_words F m)) (let e : slot ≡ F.servers = omega (arith, p.few) in e) p.writes

-- ---- the clients

-- A client that has sent nothing, with its target.
abbrev new_client : ℕ → Client
new_client target = record { target = target; next_seq = 0; attempt = 0; outstanding = None }

clients_more : (cs : List Client) (c : Client) → clients_words (cs ++ c ∷ []) ≡ clients_words cs ++ client_words c
unfolding clients_words
clients_more [] c = refl
clients_more (x ∷ cs) c = ap (λ (l : List ℕ). client_words x ++ l) (clients_more cs c) ∙ sym (append_assoc (client_words x) (clients_words cs) (client_words c))

-- The targets of the clients before c were drawn and written, and `next` is the generator for those that are left.
pub record Drawing (b : List ℕ) (F : Capacity) (g : Rng) (at : ℕ) (b' : List ℕ) (next : Rng) (c : ℕ) : Type 0 where
  pub inside : Inside b' F
  pub begins : Counted at (clients_at F)
  pub long : length b' ≡ length b
  pub few : c ≤ F.clients
  pub drawn : List Client
  pub count : length drawn ≡ c
  pub writes : Writes b b' (bytes_of F) (clients_at F) (clients_words drawn)
  pub rest : drawn ++ (draw_targets F.servers (F.clients - c) next).clients ≡ (draw_targets F.servers F.clients g).clients
  pub last : (draw_targets F.servers (F.clients - c) next).next ≡ (draw_targets F.servers F.clients g).next

module _ (b : List ℕ) (F : Capacity) (g : Rng) (at : ℕ) where
  pub drawing_start : Inside b F → Counted at (clients_at F) → Drawing b F g at b g 0
  unfolding clients_words
  drawing_start i q =
      let z : F.clients - 0 ≡ F.clients = omega arith in
      record {
        inside = i;
        begins = q;
        long = refl;
        few = omega arith;
        drawn = [];
        count = refl;
        writes = record { to = λ r ws h l. subst (Filled b r (bytes_of F)) (sym (append-nil ws)) h };
        rest = ap (λ (n : ℕ). (draw_targets F.servers n g).clients) z;
        last = ap (λ (n : ℕ). (draw_targets F.servers n g).next) z;
      }

  module _ (b₁ : List ℕ) (next : Rng) (c : ℕ) (p : Drawing b F g at b₁ next c) where
    -- the word of the next client's target lies in the area
    pub drawing_room : c < F.clients → 8 * (at + c * 8) + 8 ≤ length b₁
    drawing_room k = omega (arith, p.begins.is, room F, p.inside.long)

    pub drawing_turn : (d : Drawn) (b₂ : List ℕ) → c < F.clients → (d ≡ under next F.servers) × (d.value < F.servers)
        → b₂ ≡ sets b₁ (8 * (at + c * 8)) (bytesOfNumber 8 d.value) → Drawing b F g at b₂ d.next (c + 1)
    unfolding draw_targets
    drawing_turn d b₂ k ed e =
        let q : Counted at (clients_at F) = p.begins in
        let n : ℕ = bytes_of F in
        let S : ℕ = F.servers in
        let x : Client = new_client d.value in
        let left : ℕ = F.clients - (c + 1) in
        let more : F.clients - c ≡ suc left = omega arith in
        let l : length b₂ ≡ length b₁ = ap length e ∙ length-sets b₁ (8 * (at + c * 8)) (bytesOfNumber 8 d.value) in
        let end : 8 * (at + c * 8 + 8) ≤ n = omega (arith, q.is, room F) in
        let one : Writes b₁ b₂ n (at + c * 8) (d.value ∷ []) =
        stored_words b₁ b₂ n (at + c * 8) (d.value ∷ []) (omega arith) (e ∙ ap (sets b₁ (8 * (at + c * 8))) (sym (bytes_one d.value))) in
        let row : Writes b₁ b₂ n (at + c * 8) (client_words x) =
        writes_both one (writes_zeros b₂ n (at + c * 8 + 1) 7 (omega arith)) refl in
        let here : clients_at F + length (clients_words p.drawn) ≡ at + c * 8 =
        omega (arith, length_clients_words p.drawn, p.count, q.is) in
        let first : (draw_targets S (F.clients - c) next).clients ≡ x ∷ (draw_targets S left d.next).clients =
        ap (λ (m : ℕ). (draw_targets S m next).clients) more
        ∙ ap (λ (y : Drawn). new_client y.value ∷ (draw_targets S left y.next).clients) (sym ed.0) in
        record {
          inside = inside_after b₁ b₂ F p.inside l;
          begins = q;
          long = l ∙ p.long;
          few = omega arith;
          drawn = p.drawn ++ x ∷ [];
          count = length-append p.drawn (x ∷ []) ∙ ap (λ (m : ℕ). m + 1) p.count;
          writes = subst (Writes b b₂ n (clients_at F)) (sym (clients_more p.drawn x)) (writes_both p.writes row here);
          rest = append_assoc p.drawn (x ∷ []) (draw_targets S left d.next).clients ∙ ap (λ (z : List Client). p.drawn ++ z) (sym first) ∙ p.rest;
          last = ap (λ (y : Drawn). (draw_targets S left y.next).next) ed.0 ∙ ap (λ (m : ℕ). (draw_targets S m next).next) (sym more) ∙ p.last;
        }

    pub drawing_done : F.clients ≤ c → Draws b b₁ F g next
    unfolding draw_targets
    drawing_done k =
        let z : F.clients - c ≡ 0 = omega arith in
        let whole : p.drawn ≡ (draw_targets F.servers F.clients g).clients =
        sym (append-nil p.drawn) ∙ ap (λ (m : ℕ). p.drawn ++ (draw_targets F.servers m next).clients) (sym z) ∙ p.rest in
        record {
          writes = subst (λ (cs : List Client). Writes b b₁ (bytes_of F) (clients_at F) (clients_words cs)) whole p.writes;
          next = ap (λ (m : ℕ). (draw_targets F.servers m next).next) (sym z) ∙ p.last;
        }

-- ---- the whole

-- the bytes that are filled with the words of the new state hold it
module _ (config : SimConfig) (limits : Limits) (seed : ℕ) where
  abbrev F : Capacity
  F = counts_for config limits

  abbrev g : Rng
  g = stream_rng seed Workload

  filled_area : {b r : List ℕ} → Filled b r (bytes_of F) (words_of config limits seed) → state_fits (undrawn config limits seed) ≡ true
      → AreaOf b r F (undrawn config limits seed)
  unfolding undrawn unstarted
  filled_area {b} {r} h t =
      let n : ℕ = bytes_of F in
      let w : ℕ = whole_words F in
      let ws : List ℕ = words_of config limits seed in
      let s : State = undrawn config limits seed in
      let long : length ws ≡ w = length_words_of config limits seed in
      let is : b ≡ encode s ++ r =
      h.is ∙ ap (λ (k : ℕ). bytes ws ++ (zeros (n - 8 * k) ++ r)) long ∙ sym (append_assoc (bytes ws) (zeros (n - 8 * w)) r)
      ∙ ap (λ (l : List ℕ). l ++ r) (sym (encode_undrawn config limits seed)) in
      let size : length (encode s) ≡ n =
      ap length (encode_undrawn config limits seed) ∙ length-append (bytes ws) (zeros (n - 8 * w))
      ∙ ap₂ (λ (j k : ℕ). j + k) (length_bytes ws ∙ ap (λ (k : ℕ). 8 * k) long) (length-replicate {A = ℕ} (n - 8 * w) 0)
      ∙ (let e : 8 * w + (n - 8 * w) ≡ n = omega (arith, room F) in e) in
      record { capacity = refl; area = subst (λ (l : List ℕ). Area l s) (sym is) (fits_area s t r); rest = ap (drop n) is ∙ drop_at (encode s) r n size }

  laid : {b b₁ b₂ b₃ b₄ : List ℕ} → Clears b b₁ (bytes_of F) → Writes b₁ b₂ (bytes_of F) 0 (header_words F config seed)
      → Writes b₂ b₃ (bytes_of F) 512 (new_server_words F config.servers)
      → Writes b₃ b₄ (bytes_of F) (clients_at F) (clients_words (draw_targets config.servers config.clients g).clients)
      → state_fits (undrawn config limits seed) ≡ true
      → AreaOf b₄ (drop (bytes_of F) b) F (undrawn config limits seed)
  unfolding header_words first_words
  laid {b} {b₁} {b₂} {b₃} {b₄} c p₁ p₂ p₃ t =
      let n : ℕ = bytes_of F in
      let sv : List ℕ = new_server_words F config.servers in
      let gap : ℕ = between config limits seed in
      let tail : Writes b₃ b₄ n (queue_at F) (zeros gap ++ clients_words (draw_targets config.servers config.clients g).clients) =
      writes_both (writes_zeros b₃ n (queue_at F) gap (omega (arith, room F))) p₃ (ap (λ (k : ℕ). queue_at F + k) (length-replicate {A = ℕ} gap 0) ∙ (let e : queue_at F + gap ≡ clients_at F = omega arith in e)) in
      let servers : Writes b₂ b₄ n 512 (sv ++ (zeros gap ++ clients_words (draw_targets config.servers config.clients g).clients)) =
      writes_both p₂ tail (ap (λ (k : ℕ). 512 + k) (length_new_words F config.servers)) in
      let all : Writes b₁ b₄ n 0 (words_of config limits seed) =
      writes_both p₁ (writes_both (writes_zeros b₂ n 42 470 (omega (arith, at_least F))) servers refl) refl in
      filled_area (all.to (drop n b) [] c.filled refl) t

pub tables_laid : {b b₁ b₂ b₃ b₄ : List ℕ} (F : Capacity) (config : SimConfig) (seed : ℕ) {g r : Rng} → Clears b b₁ (bytes_of F)
    → Writes b₁ b₂ (bytes_of F) 0 (header_words F config seed)
    → Writes b₂ b₃ (bytes_of F) 512 (new_server_words F F.servers) → g ≡ stream_rng seed Workload → Draws b₃ b₄ F g r
    → LaysUndrawn b b₄ F config seed r
unfolding unstarted
tables_laid {b} {b₁} {b₂} {b₃} {b₄} F config seed {g} {r} c p₁ p₂ eg d = record {
  to = λ e t.
      subst
      (λ (G : Capacity). Clears b b₁ (bytes_of G) → Writes b₁ b₂ (bytes_of G) 0 (header_words G config seed) → Writes b₂ b₃ (bytes_of G) 512 (new_server_words G G.servers)
      → Writes b₃ b₄ (bytes_of G) (clients_at G) (clients_words (draw_targets G.servers G.clients (stream_rng seed Workload)).clients)
      → AreaOf b₄ (drop (bytes_of G) b) G (undrawn config F.limits seed))
      (sym e) (λ c' q₁ q₂ q₃. laid config F.limits seed c' q₁ q₂ q₃ t) c p₁ p₂
      (subst (λ (x : Rng). Writes b₃ b₄ (bytes_of F) (clients_at F) (clients_words (draw_targets F.servers F.clients x).clients)) eg d.writes);
  next = λ e. d.next ∙ ap₂ (λ (G : Capacity) (x : Rng). (draw_targets G.servers G.clients x).next) e eg;
}

pub content_laid : {b b₁ b₂ : List ℕ} {F : Capacity} {config : SimConfig} {seed : ℕ} {g : Rng} → LaysUndrawn b b₁ F config seed g
    → Changes b₁ b₂ F (workload_set g) → Lays b b₂ F config seed
unfolding undrawn workload_set unstarted
content_laid {b} {b₁} {b₂} {F} {config} {seed} {g} h k = record {
  to = λ e t.
      let s : State = unstarted config F.limits seed in
      let first : state_fits (undrawn config F.limits seed) ≡ true =
      fits_workload s (stream_rng seed Workload) (fits_test s t 11) ∙ and_both _ _ (stream_word seed Workload) t in
      let same : workload_set g (undrawn config F.limits seed) ≡ s = ap (λ (x : Rng). workload_set x (undrawn config F.limits seed)) (h.next e) in
      subst (AreaOf b₂ (drop (bytes_of F) b) F) same (k.to (undrawn config F.limits seed) (drop (bytes_of F) b) (h.to e first) (ap state_fits same ∙ t));
}
