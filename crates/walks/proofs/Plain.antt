-- Plain types: unsigned integers, and structs and enums of plain types. Owning a value of one is a fact about the value alone, so a walk of a
-- function's code carries no ownership of such values: it has the fact, `Ok`, and makes the ownership where a callee or the exit asks for it.
--     Plain                    a type's row with its one MIR type, its values' machine values, and its laws
--     Ok P x                   x's machine value represents x
--     uint_plain               an unsigned integer
--     struct_plain, enum_plain a declared type T, from the generated modules T and T.Laws (T'): struct_plain T.the_type T'.the_laws T'.the_plain
--                              T'.the_copy T'.mir refl, and for an enum a `tt` before `T'.mir`
--     typed                    a value has its MIR type, which each store asks
--     cell                     what lies behind a reference to a plain type is one cell
--     last, silent             at a function's exit a plain parameter is as it was passed
--     Ins, Oks, slots, kepts   the same of a list of plain types, as the parameters of a signature
-- The laws assume `Logic`.
use mathlib.Core.Path.{◌≡◌, refl, sym, subst}
use Prim.Native.Nat.{ℕ}
use mathlib.Core.List.{List, [], ◌∷◌}
use seplogic.Ra.Ura.{Ura}
use lib.Dec.{T}
use mir.Syntax.{Ty, Width, ty_int}
use mir.Raw.{raw}
use mir.Val.{Val, WT, has_ty, vint}
use base.Fml.{Share, ftrue, fat}
use types.Logic.{Logic}
use denote.RattleType.{RattleType, RowLaws}
use denote.Laws.{Is, Tells, Makes, Lawful, Copy, Typed}
use denote.Memory.{cell_at}
use denote.Plain.{UInt, uint_Tells, uint_Lawful, uint_Makes, uint_copy, uint_row_laws}
use denote.Copied.{Copied, uint_Copied}
use denote.Exit.{Kept, yes, Exit, unchanged, Last, left}
use denote.Signature.{Slot, plain}
use denote.Triple.End.{Kepts}
use denote.Struct.Struct.{Plains, Struct, Struct-row_laws}
use denote.Struct.Recorded.{Recorded-row_laws}
use denote.Struct.Declared as SD
use denote.Struct.Laws as SL
use denote.Enum.Enum.{Plainss, Few, Enum, Enum-row_laws}
use denote.Enum.Declared as ED
use denote.Enum.Laws as EL

pub record Plain : Type 2 where
  pub row : RattleType
  pub ty : Ty
  pub val : row.Denot → Val
  pub one : row.mir ≡ ty ∷ []
  pub tells : Tells row (Is row) (λ x. val x ∷ [])
  pub lawful : {M : Type 1} {𝓤 : Ura M} (𝓛 : Logic 𝓤) → Lawful 𝓛 row
  pub makes : {M : Type 1} {𝓤 : Ura M} (𝓛 : Logic 𝓤) → Makes 𝓛 row (Is row)
  pub copies : {M : Type 1} {𝓤 : Ura M} (𝓛 : Logic 𝓤) → Copy 𝓛 row
  pub copied : {M : Type 1} {𝓤 : Ura M} (𝓛 : Logic 𝓤) → Copied 𝓛 row
  pub row_laws : RowLaws row
  pub still : (k : Kept) → row.exit k ≡ unchanged

abbrev pub Of : Plain → Type 0
Of P = P.row.Denot

abbrev pub Ok : (P : Plain) → Of P → Type 0
Ok P x = Is P.row x (P.val x ∷ [])

abbrev pub uint_plain : Width → Plain
uint_plain w = record {
  row = UInt w;
  ty = ty_int w;
  val = vint w;
  one = refl;
  tells = uint_Tells w;
  lawful = λ 𝓛. uint_Lawful 𝓛 w;
  makes = λ 𝓛. uint_Makes 𝓛 w;
  copies = λ 𝓛. uint_copy 𝓛 w;
  copied = λ 𝓛. uint_Copied 𝓛 w;
  row_laws = uint_row_laws w;
  still = λ k. refl;
}

abbrev pub struct_plain : (D : SD.Declared) (L : SL.Laws D) → Plains (SD.fields D) → SL.Copyables D.parts → (τ : Ty) → (SD.row D).mir ≡ τ ∷ [] → Plain
struct_plain D L pl cs τ e = record {
  row = SD.row D;
  ty = τ;
  val = SL.val D L;
  one = e;
  tells = SL.tells D L;
  lawful = λ 𝓛. SL.lawful D L 𝓛;
  makes = λ 𝓛. SL.makes D pl 𝓛;
  copies = λ 𝓛. SL.copy D cs 𝓛;
  copied = λ 𝓛. SL.copied D cs 𝓛;
  row_laws = Recorded-row_laws (Struct (SD.shape D)) D.D D.to D.to_one (Struct-row_laws (SD.shape D) (SL.copy_row_laws D.parts cs));
  still = SL.still D cs;
}

abbrev pub enum_plain : (D : ED.Declared) (L : EL.Laws D) → Plainss (ED.variants D) → EL.Copyabless D.parts → Few (ED.shape D) → (τ : Ty) → (ED.row D).mir ≡ τ ∷ [] → Plain
enum_plain D L pl cs few τ e = record {
  row = ED.row D;
  ty = τ;
  val = EL.val D L;
  one = e;
  tells = EL.tells D L;
  lawful = λ 𝓛. EL.lawful D L 𝓛 few;
  makes = λ 𝓛. EL.makes D pl 𝓛;
  copies = λ 𝓛. EL.copy D cs 𝓛;
  copied = λ 𝓛. EL.copied D cs 𝓛;
  row_laws = Recorded-row_laws (Enum (ED.shape D)) D.D D.to D.to_one (Enum-row_laws (ED.shape D) (EL.copy_row_lawss D.parts cs));
  still = EL.still D cs;
}

pub typed : {M : Type 1} {𝓤 : Ura M} (𝓛 : Logic 𝓤) (P : Plain) (x : Of P) → Ok P x → T (has_ty P.ty (P.val x)) × WT (P.val x)
typed {𝓤 = 𝓤} 𝓛 P x ok = (subst (λ (τs : List Ty). Typed τs (P.val x ∷ [])) P.one ((P.lawful 𝓛).typed x (P.val x ∷ []) ok)).0

pub cell : (P : Plain) (q : Share) (v : Val) (b o : ℕ) → cell_at q P.row.mir (v ∷ []) b o ≡ fat q (raw P.ty) b o v
cell P q v b o = λ i. cell_at q (P.one i) (v ∷ []) b o

-- at a function's exit a plain value is as it was passed: nothing is bound for it, and nothing is said
abbrev pub last : (P : Plain) (k : Kept) (x : Of P) → Last (P.row.exit k) x
last P k x = subst (λ (e : Exit (Of P)). Last e x) (sym (P.still k)) tt

pub silent : (P : Plain) (k : Kept) (x : Of P) (f : Last (P.row.exit k) x) → left (P.row.exit k) x f ≡ ftrue
silent P k x = subst (λ (e : Exit (Of P)). (f : Last e x) → left e x f ≡ ftrue) (sym (P.still k)) (λ f. refl)

-- a list of plain types, as the parameters of a signature with no lifetime
abbrev pub Ins : List Plain → Type 0
Ins [] = Unit {0}
Ins (P ∷ Ps) = Of P × Ins Ps

abbrev pub Oks : (Ps : List Plain) → Ins Ps → Type 0
Oks [] a = Unit {0}
Oks (P ∷ Ps) a = Ok P a.0 × Oks Ps a.1

abbrev pub slots : List Plain → List (Slot 0)
slots [] = []
slots (P ∷ Ps) = plain (λ _. P.row) ∷ slots Ps

abbrev pub kepts : (Ps : List Plain) → Kepts (slots Ps)
kepts [] = tt
kepts (P ∷ Ps) = (yes, kepts Ps)
