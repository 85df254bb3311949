-- A value of fixed size in a region of its own: what its load answers and its store leaves, which the contracts cite, in a cluster of any size S, on which the
-- code's ranges depend; and what a store of all words of a region leaves. Assumes nothing.
use Rattle.std.specs.Prelude.{◌≡◌, refl, Bool, true, List, [], ℕ, ◌*◌, length}
use Rattle.std.proofs.Common.{sym, ap, ◌∙◌, append-nil}
use Rattle.std.proofs.lemmas.List.Edits.{sets}
use Rattle.words.specs.Words.{bytes}
use Rattle.words.specs.Sets.{sets_at}
use Rattle.words.specs.Lift.{length_bytes}
use Rattle.layout.specs.Code.{Code}
use Rattle.layout.specs.Tables.{Holds}

-- Whatever the cluster's size, and whatever value the bytes b hold, r is that value.
pub record Loads {T : Type 0} (code : ℕ → Code T) (b : List ℕ) (r : T) : Type 0 where
  pub to : (S : ℕ) (x : T) → Holds (code S) b x → r ≡ x

-- The bytes b hold x, whatever the cluster's size in which x is in range.
pub record Stores {T : Type 0} (code : ℕ → Code T) (in_range : ℕ → T → Bool) (x : T) (b : List ℕ) : Type 0 where
  pub to : (S : ℕ) → in_range S x ≡ true → Holds (code S) b x

-- words that are as many as the region's are all of it
pub store_whole : (b ws : List ℕ) → length b ≡ 8 * length ws → sets b 0 (bytes ws) ≡ bytes ws
store_whole b ws l =
    ap (λ (y : List ℕ). sets y 0 (bytes ws)) (sym (append-nil b)) ∙ sets_at [] b [] (bytes ws) 0 refl (length_bytes ws ∙ sym l) ∙ append-nil (bytes ws)
