-- A table of an area as it is lent, and the counts of rows, for the tables of this crate. Assumes nothing.
use Rattle.std.specs.Prelude.{◌≡◌, Bool, List, [], ℕ, ◌-◌, ◌≤◌, get_or, drop, take}
use Rattle.std.proofs.Common.{sym, ap, subst, ◌∙◌, arith, le-leb}
use Rattle.laws.specs.Bools.{pick}
use Rattle.words.specs.Words.{W}
use Rattle.layout.specs.Code.{Code}
use Rattle.layout.specs.Tables.{Holds}
use Rattle.layout.specs.Contents.{holds_w}
use Rattle.layout.specs.Parts.{lent_row}
use Rattle.layout.specs.Cuts.{cut, region}
use Rattle.checks_durability.specs.Replies.{room_code}
use Rattle.model.specs.State.{State}
use Rattle.state.specs.declared.Capacity.{Capacity}
use Rattle.state.specs.Sizes.{sizes}
use Rattle.state.specs.Parts.{counts_words}
use Rattle.state.specs.Area.{Area, capacity_of, counts_of}
use Rattle.state.specs.Tables.{Spans, table_lent}

-- a table of as many words from a word on, by other numbers
pub spans_is : {F : Capacity} {i at at' w w' : ℕ} → at ≡ at' → w ≡ w' → Spans F i at' w' → Spans F i at w
spans_is {F} {i} {at} {at'} {w} {w'} e f p = subst (λ (a : ℕ). Spans F i a w) (sym e) (subst (Spans F i at') (sym f) p)

-- what region i of a state's area holds is held as it is lent
pub lent_holds : {F : Capacity} {i at w : ℕ} → Spans F i at w → {A : Type 0} (c : Code A) (b : List ℕ) (s : State) (x : A)
    → F ≡ capacity_of s → Holds c (get_or (cut (sizes (capacity_of s)) b) i []) x → Holds c (lent_row at w b) x
lent_holds {F} {i} p c b s x e h = table_lent p c b x (subst (λ (G : Capacity). Holds c (get_or (cut (sizes G) b) i []) x) (sym e) h)

-- word j of the counts, as it is loaded
pub counted : {b : List ℕ} {s : State} → Area b s → (j : ℕ)
    → get_or (W (take (728 - 664) (drop 664 b))) j 0 ≡ get_or (counts_words (counts_of s)) j 0
counted {b} {s} h j =
    ap (λ (l : List ℕ). get_or (W l) j 0) (region (sizes (capacity_of s)) b 6 (omega arith))
    ∙ ap (λ (ws : List ℕ). get_or ws j 0) (holds_w h.laid.counts)

-- counts that are equal have equal histories
pub history_is : {F G : Capacity} → F ≡ G → F.limits.history ≡ G.limits.history
history_is e = ap (λ (G : Capacity). G.limits.history) e

-- a table that was said to be full has no room
pub no_room : (rows most : ℕ) → ◌≡◌ {A = ℕ} 10 (room_code rows most) → rows ≤ most → ⊥
unfolding room_code
no_room rows most e k = let z : ◌≡◌ {A = ℕ} 10 0 = e ∙ ap (λ (t : Bool). pick t 0 10) (le-leb rows most k) in omega arith
