-- A row put in at the place of its key, in a table that has no row of that key. Assumes nothing.
use Rattle.std.specs.Prelude.{◌≡◌, refl, Bool, true, false, List, [], ◌∷◌, ℕ, suc, ◌+◌, ◌*◌, ◌≤◌, length, get_or, None, Some, Result, Ok, Err}
use Rattle.std.proofs.Common.{sym, ap, ◌∙◌, arith}
use Rattle.std.proofs.lemmas.List.Edits.{sets}
use Rattle.laws.specs.Bools.{pick}
use Rattle.laws.specs.Order.{Order, lookup, insert_by}
use Rattle.words.specs.Words.{bytes, W}
use Rattle.layout.specs.Tables.{Table, Held, opened, rows_in}
use Rattle.layout.specs.TableLaws.{rows_are}
use Rattle.layout.specs.Order.{find, place, heads}
use Rattle.layout.specs.Sorted.{find_absent}
use Rattle.layout.specs.SortedTables.{Keyed, keyed_insert, found_row}

-- one row more
pub insert_length : {K T : Type 0} (O : Order K) (key : T → K) (a : T) (x : List T) → lookup O key (key a) x ≡ None
    → length (insert_by O key a x) ≡ length x + 1
unfolding lookup insert_by
insert_length O key a [] u = refl
insert_length {K} {T} O key a (b ∷ x) u = by (O.before (key b) (key a)) (O.before (key a) (key b)) (λ v. insert_length O key a x v) u
  where
    by : (p q : Bool) → (lookup O key (key a) x ≡ None → length (insert_by O key a x) ≡ length x + 1)
        → pick p (lookup O key (key a) x) (pick q None (Some b)) ≡ None
        → length (pick p (b ∷ insert_by O key a x) (pick q (a ∷ b ∷ x) (b ∷ x))) ≡ suc (length x) + 1
    by true q f v = omega (arith, f v)
    by false true f v = omega arith
    by false false f v = absurd cc

-- what is found is what is looked up
module _ {K T : Type 0} {t : Table T} {O : Order K} {key : T → K} {g : List ℕ → K} (q : Keyed t O key g) (n : ℕ) (b : List ℕ) (a : T) where
  abbrev keys : List K
  keys = heads g t.row.size n (W b)

  absent_at : (N : ℕ) (x : List T) → Held t N n b x → lookup O key (key a) x ≡ None → (f : Result ℕ ℕ) → f ≡ find O (key a) keys
      → find O (key a) keys ≡ Err (place O (key a) keys)
  absent_at N x h u (Ok i) e =
      let there : Some (get_or (rows_in t.row n b) i a) ≡ None =
      sym (found_row O (key a) g t.row key n b (Ok i) i q.read e a refl) ∙ ap (lookup O key (key a)) (rows_are h) ∙ u in
      absurd cc
  absent_at N x h u (Err i) e = sym e ∙ ap Err (find_absent O (key a) keys i (sym e)).place

  pub place_insert : (i : ℕ) (b₁ b₂ : List ℕ) → 8 * (n * t.row.size + t.row.size) ≤ length b → t.row.good a ≡ true
      → i ≡ place O (key a) keys
      → b₁ ≡ opened t.row.size n i b → b₂ ≡ sets b₁ (8 * (i * t.row.size)) (bytes (t.row.enc a))
      → (N : ℕ) (x : List T) → Held t N n b x → lookup O key (key a) x ≡ None → Held t N (n + 1) b₂ (insert_by O key a x)
  place_insert i b₁ b₂ r y e e₁ e₂ N x h u =
      (keyed_insert q n b a (find O (key a) keys) refl i b₁ b₂ r y (absent_at N x h u (find O (key a) keys) refl
      ∙ ap Err (sym e)) e₁ e₂).to N x h
