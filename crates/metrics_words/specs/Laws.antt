-- What the proofs cite. Assumes nothing.
use Rattle.std.specs.Prelude.{◌≡◌, refl, Bool, false, List, [], ◌∷◌, ◌++◌, ℕ, zero, suc, ◌+◌, ◌-◌, ◌*◌, ◌≤◌, ◌<◌, length, get_or, take, drop}
use Rattle.std.proofs.Math.Path.{sym, ap}
use Rattle.std.proofs.Common.{ap₂, ◌∙◌, append_assoc, add-zero, add-one, length-append, length-take-le, take_all, take-suc, get_or-drop, drop-drop}
use native.Mathlib.Omega.{arith}
use Rattle.std.proofs.Math.ListN.{length-drop}
use Rattle.std.proofs.lemmas.List.Edits.{sets}
use Rattle.std.proofs.Math.Seq.{length-sets}
use Rattle.laws.specs.Bools.{◌and◌, every, and_assoc}
use Rattle.laws.specs.Decides.{Decides, fails}
use Rattle.laws.specs.Lists.{list_from}
use Rattle.words.specs.Words.{bytes, W, allz, Bytes}
use Rattle.words.specs.Sets.{sets_append}
use Rattle.words.specs.Lift.{bytes_append, length_bytes, length_w}
use Rattle.layout.specs.Code.{flat, parse_n}
use Rattle.layout.specs.Tables.{Content}
use Rattle.layout.specs.Regions.{Loads, Stores, store_whole}
use Rattle.layout.specs.Contents.{holds_length, holds_parse, decides_ok}
use Rattle.layout.specs.Rows.{flat_append}
use Rattle.metrics.specs.declared.Counts.{Counts}
use Rattle.metrics.specs.declared.Metrics.{Metrics}
use Rattle.metrics.specs.Metrics.{no_counts, none_counted, metrics_fit}
use Rattle.metrics_words.specs.MetricsCode.{counts_code, counts_at, metrics_code}

-- ---- load

-- what the code reads is what the words say
parse_at : (ws : List ℕ) (i : ℕ) → counts_code.parse (drop i ws) ≡ counts_at ws i
unfolding counts_at
parse_at ws i =
    let e : i + 1 + 1 ≡ i + 2 = omega arith in
    simp (get_or-drop, drop-drop, add-zero, e)

-- the totals of the senders, place by place
senders_from : (ws : List ℕ) (i n : ℕ) → list_from i n (λ k. counts_at ws (3 + k * 3)) ≡ parse_n counts_code n (drop (3 + i * 3) ws)
unfolding list_from
senders_from ws i zero = refl
senders_from ws i (suc n) =
    let m : 3 + i * 3 + 3 ≡ 3 + suc i * 3 = omega arith in
    ap₂ (λ (x : Counts) (xs : List Counts). x ∷ xs) (sym (parse_at ws (3 + i * 3)))
    (senders_from ws (suc i) n ∙ ap (parse_n counts_code n) (sym (drop-drop 3 (3 + i * 3) ws ∙ ap (λ (j : ℕ). drop j ws) m)))

pub senders_at : (ws : List ℕ) → list_from 0 8 (λ k. counts_at ws (3 + k * 3)) ≡ parse_n counts_code 8 (drop 3 ws)
senders_at ws = senders_from ws 0 8

pub loads_metrics : (b : List ℕ) (sent : Counts) (senders : List Counts) (e f s c : ℕ)
    → sent ≡ counts_at (W b) 0 → senders ≡ parse_n counts_code 8 (drop 3 (W b))
    → e ≡ get_or (W b) 27 0 → f ≡ get_or (W b) 28 0 → s ≡ get_or (W b) 29 0 → c ≡ get_or (W b) 30 0
    → Loads metrics_code b (record { sent = sent; by_sender = senders; entries_to_leaders = e; fsyncs = f; storage_bytes = s; client_replies = c })
loads_metrics b sent senders e f s c e₀ e₁ e₂ e₃ e₄ e₅ =
    let p : sent ≡ counts_code.parse (W b) = e₀ ∙ sym (parse_at (W b) 0) in
    record { to = λ S x h. rw (p, e₁, e₂, e₃, e₄, e₅) (simp (get_or-drop, drop-drop)) ∙ holds_parse h }

-- ---- store

length_counts : (xs : List Counts) → length (flat counts_code.enc xs) ≡ length xs * 3
length_counts [] = refl
length_counts (x ∷ xs) = omega (arith, length_counts xs)

-- the loop of `store_senders`: the first k totals are stored in d, which gave s
pub record Written (d : List ℕ) (senders : List Counts) (s : List ℕ) (k : ℕ) : Type 0 where
  pub is : s ≡ sets d (8 * 3) (bytes (flat counts_code.enc (take k senders)))
  pub long : length s ≡ 248
  pub count : length senders ≡ 8
  pub upto : k ≤ 8

pub written_start : {d : List ℕ} {senders : List Counts} → length d ≡ 248 → length senders ≡ 8 → Written d senders d 0
unfolding bytes
written_start l n = record { is = refl; long = l; count = n; upto = omega arith }

module _ {d : List ℕ} {senders : List Counts} {s : List ℕ} {k : ℕ} (w : Written d senders s k) where
  pub written_turn : (t : List ℕ) → k < 8 → t ≡ sets s (8 * (3 + k * 3)) (bytes (counts_code.enc (get_or senders k no_counts))) → Written d senders t (k + 1)
  written_turn t h e =
      let c : Counts = get_or senders k no_counts in
      let p : List ℕ = flat counts_code.enc (take k senders) in
      let n : length (take k senders) ≡ k = length-take-le k senders (omega (arith, w.count)) in
      let q : flat counts_code.enc (take (suc k) senders) ≡ p ++ counts_code.enc c =
      ap (flat counts_code.enc) (take-suc senders k no_counts (omega (arith, w.count))) ∙ flat_append counts_code.enc (take k senders) (c ∷ []) in
      rw add-one (record {
        is = e ∙ ap (λ (l : List ℕ). sets l (8 * (3 + k * 3)) (bytes (counts_code.enc c))) w.is
            ∙ sets_append (bytes p) d (bytes (counts_code.enc c)) (8 * 3) (8 * (3 + k * 3)) (omega (arith, length_bytes p, length_counts (take k senders)))
            ∙ ap (sets d (8 * 3)) (sym (bytes_append p (counts_code.enc c)) ∙ ap bytes (sym q));
        long = ap length e ∙ length-sets s (8 * (3 + k * 3)) (bytes (counts_code.enc c)) ∙ w.long;
        count = w.count;
        upto = omega arith;
      })

  pub written_done : 8 ≤ k → s ≡ sets d (8 * 3) (bytes (flat counts_code.enc senders))
  written_done h = w.is ∙ ap (λ (l : List Counts). sets d (8 * 3) (bytes (flat counts_code.enc l))) (take_all k senders (omega (arith, w.count)))

pub ruleset writing = (written_start, written_turn, written_done)

pub stores_metrics : (m : Metrics) (b b₁ b₂ b₃ : List ℕ) → length b ≡ 248 → length m.by_sender ≡ 8
    → b₁ ≡ sets b (8 * 0) (bytes (counts_code.enc m.sent))
    → b₂ ≡ sets b₁ (8 * 3) (bytes (flat counts_code.enc m.by_sender))
    → b₃ ≡ sets b₂ (8 * 27) (bytes (m.entries_to_leaders ∷ m.fsyncs ∷ m.storage_bytes ∷ m.client_replies ∷ []))
    → Stores metrics_code metrics_fit m b₃
stores_metrics m b b₁ b₂ b₃ l n e₁ e₂ e₃ =
    let u : List ℕ = counts_code.enc m.sent in
    let v : List ℕ = flat counts_code.enc m.by_sender in
    let w : List ℕ = m.entries_to_leaders ∷ m.fsyncs ∷ m.storage_bytes ∷ m.client_replies ∷ [] in
    let lv : length v ≡ 24 = omega (arith, length_counts m.by_sender) in
    record {
      to = λ S g. record {
        good = g;
        is = e₃ ∙ ap (λ (y : List ℕ). sets y (8 * 27) (bytes w)) (e₂ ∙ ap (λ (y : List ℕ). sets y (8 * 3) (bytes v)) e₁)
            ∙ ap (λ (y : List ℕ). sets y (8 * 27) (bytes w)) (sets_append (bytes u) b (bytes v) 0 24 (omega (arith, length_bytes u))
            ∙ ap (sets b 0) (sym (bytes_append u v)))
            ∙ sets_append (bytes (u ++ v)) b (bytes w) 0 216 (omega (arith, length_bytes (u ++ v), length-append u v))
            ∙ ap (sets b 0) (sym (bytes_append (u ++ v) w) ∙ ap bytes (append_assoc u v w))
            ∙ store_whole b (u ++ (v ++ w)) (omega (arith, length-append v w));
      };
    }

-- ---- check

-- totals of which nothing is counted are zero words
none_zero : (n : ℕ) (ws : List ℕ) → n * 3 ≤ length ws → every none_counted (parse_n counts_code n ws) ≡ allz (take (n * 3) ws)
unfolding none_counted allz
none_zero zero ws h = refl
none_zero (suc n) [] h = absurd (omega arith)
none_zero (suc n) (a ∷ []) h = absurd (omega arith)
none_zero (suc n) (a ∷ b ∷ []) h = absurd (omega arith)
none_zero (suc n) (a ∷ b ∷ c ∷ ws) h =
    let e : suc n * 3 ≡ suc (suc (suc (n * 3))) = omega arith in
    rw e (simp (and_assoc, none_zero n ws (omega arith)))

drop_parse : (k n : ℕ) (ws : List ℕ) → drop k (parse_n counts_code (k + n) ws) ≡ parse_n counts_code n (drop (3 * k) ws)
drop_parse zero n ws =
    let e : 0 + n ≡ n = omega arith in
    let z : 3 * 0 ≡ 0 = omega arith in
    ap (λ (j : ℕ). parse_n counts_code j ws) e ∙ ap (λ (j : ℕ). parse_n counts_code n (drop j ws)) (sym z)
drop_parse (suc k) n ws =
    let e : suc k + n ≡ suc (k + n) = omega arith in
    let d : 3 + 3 * k ≡ 3 * suc k = omega arith in
    ap (λ (j : ℕ). drop (suc k) (parse_n counts_code j ws)) e
    ∙ drop_parse k n (drop 3 ws) ∙ ap (parse_n counts_code n) (drop-drop (3 * k) 3 ws ∙ ap (λ (j : ℕ). drop j ws) d)

module _ (S : ℕ) (b : List ℕ) where
  pub not_all : (length b ≡ 248 → ⊥) → Decides false (Content (metrics_code S) b)
  not_all f = fails (λ k. f (holds_length k.held))

  pub unused_decide : (t : Bool) → S ≤ 8 → length b ≡ 248 → Bytes b → t ≡ allz (take (27 - (3 + 3 * S)) (drop (3 + 3 * S) (W b)))
      → Decides t (Content (metrics_code S) b)
  unfolding ◌and◌
  unused_decide t h l B e =
      let n : 8 ≡ S + (8 - S) = omega arith in
      let m : (8 - S) * 3 ≡ 27 - (3 + 3 * S) = omega arith in
      let z : every none_counted (drop S (parse_n counts_code 8 (drop 3 (W b)))) ≡ allz (take (27 - (3 + 3 * S)) (drop (3 + 3 * S) (W b))) =
      ap (λ (j : ℕ). every none_counted (drop S (parse_n counts_code j (drop 3 (W b))))) n
      ∙ ap (every none_counted) (drop_parse S (8 - S) (drop 3 (W b)) ∙ ap (parse_n counts_code (8 - S)) (drop-drop (3 * S) 3 (W b)))
      ∙ none_zero (8 - S) (drop (3 + 3 * S) (W b)) (omega (arith, length-drop (3 + 3 * S) (W b), length_w b))
      ∙ ap (λ (j : ℕ). allz (take j (drop (3 + 3 * S) (W b)))) m in
      decides_ok (metrics_code S) b B l t (e ∙ sym z)
