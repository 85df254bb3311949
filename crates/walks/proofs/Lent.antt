-- A lent plain struct, `s: &mut S`, within a walk: what lies behind the reference is one cell.
--     opens_plain      the borrow is opened: the cell holds the struct as it is now, with its `Ok` in hand
--     closes_plain     the borrow is closed: the cell holds another value, of which `Ok` is shown
-- Assumes `Logic`.
use mathlib.Core.Path.{sym, ap}
use Prim.Native.Nat.{ℕ}
use mathlib.Core.List.{List, [], ◌∷◌}
use seplogic.Ra.Ura.{Ura}
use base.Fraction.{full_share}
use mir.Raw.{raw as raw_ty}
use base.Stored.{Gv}
use base.Fml.{GName, Lft, Share, flft, fobs, fauth, fbor, fobor, fat}
use types.Logic.{Logic, sem}
use types.Kit.{Item, ‵, Goal, Soaks, Seq, Step, step, ◌$◌, move, recast}
use types.SemTy.{Body}
use denote.Laws.{Is, shows}
use denote.Memory.{mem}
use denote.Steps.{opens, closes, facts, owned}
use denote.Struct.Steps.{spelt}
use Rattle.walks.proofs.Plain.{Plain, Of, Ok, cell}

module _ {M : Type 1} {𝓤 : Ura M} {𝓛 : Logic 𝓤} {K : Type 0} {Γ : List (Item 𝓤)} {G : Goal 𝓤 𝓛.H} (t : K) (z : Soaks G) (S : Plain) {κ : Lft} {q : Share} {γ : GName} where
  pub opens_plain : {h : Of S} (b o : ℕ)
      → (Ok S h → Seq K 𝓛 (‵ (fat full_share (raw_ty S.ty) b o (S.val h)) ∷ ‵ (fobor κ q (Body (mem S.row) b o γ)) ∷ ‵ (fobs γ (S.row.coded.code h)) ∷ ‵ (fauth γ (S.row.coded.code h)) ∷ Γ) G)
      → Seq K 𝓛 (‵ (fobs γ (S.row.coded.code h)) ∷ ‵ (fbor κ (Body (mem S.row) b o γ)) ∷ ‵ (flft κ q) ∷ Γ) G
  opens_plain {h} b o k =
      opens t z S.row {h = h} b o (λ vs. spelt t S.row (Is S.row) (shows 𝓛 S.row) (λ x. S.val x ∷ []) S.tells full_share h vs b o $ move t (1 ∷ []) $
      facts t S.row (Is S.row) (shows 𝓛 S.row) h (S.val h ∷ []) (λ ok. recast 𝓛 (‵ (fat full_share (raw_ty S.ty) b o (S.val h))) (ap (sem 𝓛) (cell S full_share (S.val h) b o)) $ k ok))

  pub closes_plain : {u v : Gv} (h : Of S) → Ok S h → (b o : ℕ)
      → Step K 𝓛 (‵ (fobs γ (S.row.coded.code h)) ∷ ‵ (fbor κ (Body (mem S.row) b o γ)) ∷ ‵ (flft κ q) ∷ Γ) G
      (‵ (fat full_share (raw_ty S.ty) b o (S.val h)) ∷ ‵ (fobor κ q (Body (mem S.row) b o γ)) ∷ ‵ (fobs γ u) ∷ ‵ (fauth γ v) ∷ Γ) G
  closes_plain h ok b o = step (λ s. recast 𝓛 (‵ _) (ap (sem 𝓛) (sym (cell S full_share (S.val h) b o))) $
      owned t S.row (Is S.row) (S.makes 𝓛) h (S.val h ∷ []) ok $ move t (1 ∷ 0 ∷ []) $ closes t z S.row h (S.val h ∷ []) b o $ s)
