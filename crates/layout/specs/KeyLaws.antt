-- What the proofs of keys.rt cite. Assumes nothing.
use Rattle.std.specs.Prelude.{◌≡◌, refl, Bool, false, List, [], ◌∷◌, ℕ, ◌+◌, ◌-◌, ◌*◌, ◌^◌, ◌≤◌, ◌<◌, leb, ltb, length, get_or, drop, Result, Ok, Err}
use Rattle.std.proofs.Common.{sym, ap, ◌∙◌, add-zero, arith, get_or-drop, Fits, lt-ltb, le-ltb, le-leb}
use Rattle.std.proofs.lemmas.List.Edits.{sets}
use Rattle.std.specs.Int.{w64}
use Rattle.std.proofs.lemmas.Bool.{lt-leb}
use Rattle.laws.specs.Bools.{pick}
use Rattle.laws.proofs.BoolLaws.{and_both, and_no}
use Rattle.laws.specs.Order.{pairs, rising}
use Rattle.words.specs.Words.{bytes, W}
use Rattle.client.specs.declared.ClientKey.{ClientKey}
use Rattle.layout.specs.declared.keys.Full.{Full}
use Rattle.layout.specs.Code.{ok_n}
use Rattle.layout.specs.Tables.{opened, removed, rows_in}
use Rattle.layout.specs.TableLaws.{Rowed, rowed_start, rowed_turn, rowed_fail, rowed_done}
use Rattle.layout.specs.Order.{find, two, heads}
use Rattle.layout.specs.RowLaws.{heads_are}
use Rattle.layout.specs.SortedTables.{Keyed, keyed_insert, keyed_inserted, keyed_known, keyed_more, keyed_remove, keyed_removed}
use Rattle.client.specs.Key.{key_of}
use Rattle.layout.specs.Keys.{key_row, keys, Inserts, Removes}

-- the key of a row is its first two words
pub key_read : (ws : List ℕ) → two ws ≡ key_of (key_row.parse ws)
unfolding two
key_read ws = simp get_or-drop

keyed : (c : ℕ) → Keyed (keys c) pairs key_of two
keyed c = record { rule = λ x. refl; read = key_read }

-- any row, for `get_or`
abbrev pub no_key : ClientKey
no_key = record { client = 0; seq = 0 }

-- ---- insert and remove: f is what the search said

-- the number of an answer, by the count that the keys come to
told_room : (m room : ℕ) → m ≤ room → ◌≡◌ {A = ℕ} 0 (pick (leb m room) 0 10)
told_room m room h = rw (le-leb m room h) refl

told_full : (m room : ℕ) → room < m → ◌≡◌ {A = ℕ} 10 (pick (leb m room) 0 10)
told_full m room h = rw (lt-leb m room h) refl

module _ (n : ℕ) (b : List ℕ) (k : ClientKey) (f : Result ℕ ℕ) (e : f ≡ find pairs (k.client, k.seq) (heads two 2 n (W b))) (i : ℕ) where
  pub key_there : (room : ℕ) → n ≤ room → f ≡ Ok i → Inserts k n room (Ok n) b b
  key_there room l t = record {
    told = λ c N x h. told_room _ room (let m = keyed_known (keyed c) n b k f e h i t in omega arith);
    to = λ z c h. keyed_inserted (keyed c) n b k f e i t;
    kept = λ z. absurd (omega arith);
  }

  pub key_full : (room : ℕ) (full : Full) → f ≡ Err i → room ≤ n → Inserts k n room (Err full) b b
  key_full room full t l = record {
    told = λ c N x h. told_full _ room (let m = keyed_more (keyed c) n b k f e h i t in omega arith);
    to = λ z c h. absurd (omega arith);
    kept = λ z. refl;
  }

  pub key_new : (room at : ℕ) (b₁ b₂ : List ℕ) → 8 * (room * 2) ≤ length b → Fits w64 k.client → Fits w64 k.seq → f ≡ Err i → n < room → at ≡ i * 2
      → b₁ ≡ opened 2 n i b → b₂ ≡ sets b₁ (8 * at) (bytes (k.client ∷ k.seq ∷ []))
      → Inserts k n room (Ok (n + 1)) b b₂
  key_new room at b₁ b₂ r p q t l a e₁ e₂ = record {
    told = λ c N x h. told_room _ room (let m = keyed_more (keyed c) n b k f e h i t in omega arith);
    to = λ z c h. keyed_insert (keyed c) n b k f e i b₁ b₂ (omega arith)
        (and_both _ _ (and_both _ _ (lt-ltb k.client (2 ^ 64) p.fits) (lt-ltb k.seq (2 ^ 64) q.fits)) (lt-ltb k.client c h)) t e₁
        (e₂ ∙ ap (λ (j : ℕ). sets b₁ (8 * j) (bytes (k.client ∷ k.seq ∷ []))) a);
    kept = λ z. absurd (omega arith);
  }

  pub key_gone : (b' : List ℕ) → f ≡ Ok i → b' ≡ removed 2 n i b → Removes k n (n - 1) b b'
  key_gone b' t e' = record { to = λ c. keyed_remove (keyed c) n b (key_of k) f e i no_key b' t e' }

  pub key_not_there : f ≡ Err i → Removes k n n b b
  key_not_there t = record { to = λ c. keyed_removed (keyed c) n b (key_of k) f e i t }

pub ruleset key = (key_there, key_full, key_new, key_gone, key_not_there)

-- ---- the test of each row

module _ (n : ℕ) (ws : List ℕ) (c i x : ℕ) (r : Rowed (keys c).row n ws i) (h : i < n) (e : x ≡ get_or ws (i * 2) 0) where
  client_at_lem : get_or (drop (i * 2) ws) 0 0 ≡ x
  client_at_lem = get_or-drop (i * 2) ws 0 0 ∙ ap (λ (k : ℕ). get_or ws k 0) (add-zero (i * 2)) ∙ sym e

  pub client_fine : x < c → Rowed (keys c).row n ws (i + 1)
  client_fine l = rowed_turn (keys c).row n ws i r h (and_both _ _ (and_both _ _ refl refl) (ap (λ (y : ℕ). ltb y c) client_at_lem ∙ lt-ltb x c l))

  pub client_above : c ≤ x → false ≡ ok_n (keys c).row n ws
  client_above l = rowed_fail (keys c).row n ws i r h (and_no _ _ (ap (λ (y : ℕ). ltb y c) client_at_lem ∙ le-ltb x c l))

pub ruleset client_rows = (rowed_start, client_fine, client_above, rowed_done)

-- ---- check: the order of the words is that of the rows

pub keys_rising : (c n : ℕ) (b : List ℕ) (r : Bool) → r ≡ rising pairs (heads two 2 n (W b)) → r ≡ (keys c).rule (rows_in (keys c).row n b)
keys_rising c n b r e = e ∙ ap (rising pairs) (heads_are (keys c).row two key_of key_read n b)
