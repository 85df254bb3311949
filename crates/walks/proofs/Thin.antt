-- A thin function over a struct that the caller lends, `fn f(s: &mut S) -> N { let r = g(*s); *s = r.next; r.value }`, alone or with a plain value
-- beside the struct, `fn f(s: &mut S, x: X) -> N { let r = g(*s, x); *s = r.next; r.value }`. g takes the struct by value and returns a struct of
-- two fields, the value first and the next state second. One walk of the MIR for each of the two serves every S, N, X and g.
--     Paired S N       what g returns: a struct D of a value and a next state, with what a walk asks of its two fields
--     paired           it, of a declared struct: all but the last argument are `refl`
--     thin0, thin1     the function's MIR, which the generated `function` computes to
--     Ended0, Ended1   its signature, with the parameters kept
--     thin0_proved, thin1_proved    the function's theorem, from: φ, what g asks, which the `requires` shows; what g gives; and the `ensures` at g's value and next state
-- A comment in brackets is the context at its place; a local stands there with what frees it right after.
-- Assumes `Logic` through `𝓛`.
use mathlib.Core.Path.{◌≡◌, refl, subst}
use Prim.Native.Nat.{ℕ, zero}
use mathlib.Core.Option.{some}
use mathlib.Core.List.{List, [], ◌∷◌}
use seplogic.Ra.Ura.{Ura}
use base.Fraction.{full_share}
use lib.Dec.{T}
use mir.Syntax.{Callee, Sym, Ty, Tys, ty_struct, ty_ref, named, mut, Fn, local, value_local, place, deref, field, copy, rv_opd, seq, assign, call, return}
use mir.Val.{Val, vptr, vstruct, vnil, vcons, has_ty, WT}
use base.Logic.{SProp, ent, emp}
use base.Fml.{GName, Lft, Share, ftrue, flft, fobs, fbor, fat}
use prog.Memory.{field_at}
use prog.Model.{Model}
use prog.Routine.{Env}
use prog.Wp.{Calls, Loops, WpFn, Closed}
use types.Logic.{Logic}
use sound.WpLaws.{FmC}
use contract.Lifetimes.{Lfts}
use contract.Monad.{fact}
use contract.Running.{Running, tables, tables_of}
use types.Kit.{‵, ⋆, ◌⊛◌, ◌$◌, ◌∵◌, !, qed, by, move, keep, drop, split, join, rewrite, fsplit, fsplit3, fjoin, fjoin3, feq_i, suffices, frame, done}
use types.Run.{look, look_raw, init, store_raw, forget, stop, hop, fld, from, load, of_opd, and_then, no_more, assigns, land, returns, enter, alloc1, alloc0, params1, pass1, pass0, free1, free0}
use types.Part.{whole, sub, look_in}
use types.SemTy.{Body}
use denote.RattleType.{owns}
use denote.Laws.{Is}
use denote.Memory.{mem, pointee}
use denote.Ref.{MutBor, MutRef, mut_vals, mut_Tells}
use denote.Exit.{yes}
use denote.Signature.{plain, mut_ref_to}
use denote.Steps.{owned, nothing}
use denote.Triple.Entry.{Args, on_entry}
use denote.Triple.Statement.{Triple}
use denote.Triple.Spec.{triple_of}
use denote.Triple.Clauses.{Clauses, Ended, at_exit, closing}
use denote.Triple.Walked.{Stays, stay_ref, stay_none, Goes-ref, Goes-none, walk_of, ends_at}
use Rattle.walks.proofs.Plain.{Plain, Of, Ok, typed, last, silent}
use Rattle.walks.proofs.Call.{Gives, calls_plain}
use Rattle.walks.proofs.Lent.{opens_plain, closes_plain}
use Rattle.walks.proofs.Close.{𝓣, framed, proved, states, asks}

pub record Paired (S N : Plain) : Type 2 where
  pub D : Plain
  pub name : Sym
  pub tys : Tys
  pub value : Of D → Of N
  pub next : Of D → Of S
  pub at₀ : ℕ
  pub at₁ : ℕ
  pub is_struct : D.ty ≡ ty_struct name tys
  pub field₀ : field_at zero tys 0 ≡ some (N.ty, at₀)
  pub field₁ : field_at zero tys 1 ≡ some (S.ty, at₁)
  pub two : (y : Of D) → D.val y ≡ vstruct (vcons (N.val (value y)) (vcons (S.val (next y)) vnil))
  pub oks : (y : Of D) → Ok D y → Ok N (value y) × Ok S (next y)

abbrev pub paired : {S N : Plain} (D : Plain) (value : Of D → Of N) (next : Of D → Of S) {ν : Sym} {τs : Tys} {d₀ d₁ : ℕ} → D.ty ≡ ty_struct ν τs → field_at zero τs 0 ≡ some (N.ty, d₀) → field_at zero τs 1 ≡ some (S.ty, d₁)
    → ((y : Of D) → D.val y ≡ vstruct (vcons (N.val (value y)) (vcons (S.val (next y)) vnil))) → ((y : Of D) → Ok D y → Ok N (value y) × Ok S (next y)) → Paired S N
paired D value next {ν} {τs} {d₀} {d₁} e f₀ f₁ w oks = record { D = D; name = ν; tys = τs; value = value; next = next; at₀ = d₀; at₁ = d₁; is_struct = e; field₀ = f₀; field₁ = f₁; two = w; oks = oks }

module _ (S N : Plain) (P : Paired S N) where
  abbrev ref : Ty
  ref = ty_ref (named 0) mut (pointee S.row.written)

  abbrev pair : Ty
  pair = ty_struct P.name P.tys

  abbrev lent : ℕ → ℕ → GName → Of S → MutBor (Of S)
  lent b o γ h = record { ref_ptr = (b, o); ghost_name = γ; now = h }

  typed_pair : {M : Type 1} {𝓤 : Ura M} (𝓛 : Logic 𝓤) (y : Of P.D) → Ok P.D y → T (has_ty pair (P.D.val y)) × WT (P.D.val y)
  typed_pair 𝓛 y ok = subst (λ (τ : Ty). T (has_ty τ (P.D.val y)) × WT (P.D.val y)) P.is_struct (typed 𝓛 P.D y ok)

  -- the struct alone
  abbrev pub thin0 : Callee → Fn
  thin0 g = record {
    lifetimes = 1;
    outlives = [];
    ty_params = [];
    givens = 0;
    params = 1;
    locals = local N.ty value_local ∷ local ref value_local ∷ local pair value_local ∷ local S.ty value_local ∷ local S.ty value_local ∷ [];
    body = seq (assign (place 3 []) (rv_opd (copy (place 1 (deref S.ty ∷ [])))))
        (seq (call g (copy (place 3 []) ∷ []) (place 2 []))
        (seq (assign (place 4 []) (rv_opd (copy (place 2 (field 1 ∷ [])))))
        (seq (assign (place 1 (deref S.ty ∷ [])) (rv_opd (copy (place 4 []))))
        (seq (assign (place 0 []) (rv_opd (copy (place 2 (field 0 ∷ []))))) return))));
  }

  abbrev pub Ended0 : Ended
  Ended0 = record { signature = record { lifetimes = 1; outlives = []; params = mut_ref_to (0 ∷ []) tt (plain (λ _. S.row)) ∷ []; result = plain (λ _. N.row) }; kept = (yes, tt) }

  abbrev pub stayed0 : Stays Ended0.signature.params Ended0.kept
  stayed0 = (stay_ref (0 ∷ []) tt (plain (λ _. S.row)), tt)

  module _ {M : Type 1} {𝓤 : Ura M} (𝓛 : Logic 𝓤) (κ : Lft) (q : Share) (b o : ℕ) (γ : GName) where
    open 𝓛 use {H}

    abbrev x : Of S → MutBor (Of S)
    x = lent b o γ

    module _ (c : Clauses 𝓤 Ended0) (h : Of S) (g : (c (κ, tt) (x h, tt)).ghost) (y : Of P.D) where
      abbrev Post : Val → SProp 𝓤
      Post = (walk_of 𝓛 Ended0 stayed0 c).post (((κ, tt), (q, tt), tt, (x h, tt), (vptr b o ∷ [], tt)), g)

      module _ (says : ent 𝓤 (emp 𝓤) ((c (κ, tt) (x h, tt)).ensures g (P.value y) (at_exit Ended0 (κ, tt) (x h, tt) (P.next y, tt)))) where
        exits : Ok N (P.value y) → ent 𝓤 (⋆ 𝓛 (‵ (fobs γ (S.row.coded.code (P.next y))) ∷ ‵ (fbor κ (Body (mem S.row) b o γ)) ∷ ‵ (flft κ q) ∷ [])) (Post (N.val (P.value y)))
        exits ok =
            qed 𝓛 (‵ (fobs γ (S.row.coded.code (P.next y))) ∷ ‵ (fbor κ (Body (mem S.row) b o γ)) ∷ ‵ (flft κ q) ∷ []) ∵
            suffices ! _ (ends_at 𝓛 Ended0 stayed0 c (((κ, tt), (q, tt), tt, (x h, tt), (vptr b o ∷ [], tt)), g) (N.val (P.value y)) (P.value y) (P.next y, tt) (tt, tt)) $ states ! says $
            nothing ! $ move ! (3 ∷ 0 ∷ []) $ join ! $ frame ! $ feq_i ! (List Val) (vptr b o ∷ []) (vptr b o ∷ []) refl $ fjoin3 ! $ nothing ! $ move ! (1 ∷ 0 ∷ []) $ fjoin ! $
            owned ! N.row (Is N.row) (N.makes 𝓛) (P.value y) _ ok $ move ! (1 ∷ 0 ∷ []) $ done !

        module _ (C : Calls 𝓤 H) (Λ : Loops 𝓤 H) (fm : FmC 𝓤 H 𝓛.laws C) (f : Callee) (gives : Ok S h → Gives 𝓛 (C f) (S.val h ∷ []) P.D y) where
          walk : ent 𝓤 (on_entry 𝓛 Ended0.signature (κ, tt) (q, tt) (x h, tt) (vptr b o ∷ [], tt)) (WpFn 𝓤 H C Λ (thin0 f) (vptr b o ∷ []) Post)
          walk =
              qed 𝓛 ((‵ (flft κ q) ⊛ ‵ ftrue) ∷ ‵ (owns (MutRef (named 0) κ S.row ∷ []) (x h, tt) (vptr b o ∷ [], tt)) ∷ []) ∵ split ! $ move ! (2 ∷ []) $ fsplit ! $ fsplit3 ! $ drop ! $ keep ! (0 ∷ 1 ∷ 3 ∷ []) $
              -- [obs; the borrow; the token]
              enter ! C Λ (thin0 f) (vptr b o ∷ []) _ $
              alloc1 ! (λ l₀. alloc1 ! (λ l₁. alloc1 ! (λ l₂. alloc1 ! (λ l₃. alloc1 ! (λ l₄. alloc0 ! $ params1 ! $ pass1 ! (init ! 6 refl (tt, tt)) $ pass0 ! $
              move ! (10 ∷ 11 ∷ 12 ∷ []) $ opens_plain ! tt S {h = h} b o (λ ok.
              -- [the struct's cell; the open borrow; obs; auth; 4 _4; …; 6 _3; …; 8 _2; …; 10 _1; …; 12 _0; …]
              assigns ! (of_opd ! (load ! (from ! (hop ! (look ! 10 refl) (stop !))) (look_raw ! 0 refl))) (from ! (stop !)) (init ! 6 refl (typed 𝓛 S h ok)) $
              calls_plain ! fm P.D y (gives ok) (and_then ! (load ! (from ! (stop !)) (look ! 6 refl)) (no_more !)) (λ ok_d.
              land ! (from ! (stop !)) (init ! 8 refl (typed_pair 𝓛 y ok_d)) $ rewrite ! 8 (λ (v : Val). ‵ (fat full_share pair l₂ 0 v)) (P.two y) refl $
              assigns ! (of_opd ! (load ! (from ! (fld ! P.field₁ (stop !))) (look_in ! 8 (sub ! 1 P.field₁ (whole !))))) (from ! (stop !)) (init ! 4 refl (typed 𝓛 S (P.next y) (P.oks y ok_d).1)) $
              assigns ! (of_opd ! (load ! (from ! (stop !)) (look ! 4 refl))) (from ! (hop ! (look ! 10 refl) (stop !))) (store_raw ! 0 refl (typed 𝓛 S (P.next y) (P.oks y ok_d).1)) $
              assigns ! (of_opd ! (load ! (from ! (fld ! P.field₀ (stop !))) (look_in ! 8 (sub ! 0 P.field₀ (whole !))))) (from ! (stop !)) (init ! 12 refl (typed 𝓛 N (P.value y) (P.oks y ok_d).0)) $
              closes_plain ! tt S (P.next y) (P.oks y ok_d).1 b o $
              -- [obs; the borrow; the token; 3 _4; …; 5 _3; …; 7 _2; …; 9 _1; …; 11 _0; …]
              returns ! (look ! 11 refl) $ forget ! 3 refl $ forget ! 5 refl $ forget ! 7 refl $ forget ! 9 refl $ forget ! 11 refl $
              move ! (11 ∷ 12 ∷ []) $ free1 ! $ move ! (9 ∷ 10 ∷ []) $ free1 ! $ move ! (7 ∷ 8 ∷ []) $ free1 ! $ move ! (5 ∷ 6 ∷ []) $ free1 ! $ move ! (3 ∷ 4 ∷ []) $ free1 ! $ free0 ! $ by ! (exits (P.oks y ok_d).0))))))))

  module _ {M : Type 1} {𝓤 : Ura M} (𝓛 : Logic 𝓤) (𝓜 : Model 𝓤 𝓛.H) (𝓡 : Running 𝓤 𝓛.H 𝓜) (env : Env) (key f : Callee) where
    open 𝓛 use {H}

    pub thin0_proved : (c : Clauses 𝓤 Ended0) → Closed 𝓤 H (tables 𝓤 H 𝓜 𝓡 env).C (tables 𝓤 H 𝓜 𝓡 env).Λ key (thin0 f)
        → (φ : Of S → Type 0) → ((κs : Lfts 1) (a : Args Ended0.signature κs) (g : (c κs a).ghost) → ent 𝓤 ((c κs a).requires g) (fact 𝓤 (φ a.0.now)))
        → (F : Of S → Of P.D) → ((h : Of S) → φ h → Ok S h → Gives 𝓛 ((tables 𝓤 H 𝓜 𝓡 env).C f) (S.val h ∷ []) P.D (F h))
        → ((κs : Lfts 1) (a : Args Ended0.signature κs) (g : (c κs a).ghost) → ent 𝓤 (emp 𝓤) ((c κs a).ensures g (P.value (F a.0.now)) (at_exit Ended0 κs a (P.next (F a.0.now), tt))))
        → Triple 𝓤 ((tables 𝓤 H 𝓜 𝓡 env).C key) (triple_of 𝓛 Ended0.signature (closing 𝓛 Ended0 c))
    unfolding tables_of
    thin0_proved c unfolded φ req F gives ens =
        proved 𝓛 𝓜 𝓡 env Ended0 stayed0 c key (thin0 f) (Goes-ref 𝓛 1 0 tt (plain (λ _. S.row)), tt) unfolded (λ κs. (mut_vals, tt)) (λ κs. (mut_Tells (named 0) κs.0 S.row, tt))
        (λ κs qs bounds a g are. asks 𝓤 (φ a.0.now) (req κs a g) (λ p.
        walk 𝓛 κs.0 qs.0 a.0.ref_ptr.0 a.0.ref_ptr.1 a.0.ghost_name c a.0.now g (F a.0.now) (ens κs a g) (𝓣 𝓛 𝓜 𝓡 env).C (𝓣 𝓛 𝓜 𝓡 env).Λ (framed 𝓛 𝓜 𝓡 env) f (gives a.0.now p)))

  -- the struct and a plain value
  module _ (X : Plain) where
    abbrev pub thin1 : Callee → Fn
    thin1 g = record {
      lifetimes = 1;
      outlives = [];
      ty_params = [];
      givens = 0;
      params = 2;
      locals = local N.ty value_local ∷ local ref value_local ∷ local X.ty value_local ∷ local pair value_local ∷ local S.ty value_local ∷ local S.ty value_local ∷ [];
      body = seq (assign (place 4 []) (rv_opd (copy (place 1 (deref S.ty ∷ [])))))
          (seq (call g (copy (place 4 []) ∷ copy (place 2 []) ∷ []) (place 3 []))
          (seq (assign (place 5 []) (rv_opd (copy (place 3 (field 1 ∷ [])))))
          (seq (assign (place 1 (deref S.ty ∷ [])) (rv_opd (copy (place 5 []))))
          (seq (assign (place 0 []) (rv_opd (copy (place 3 (field 0 ∷ []))))) return))));
    }

    abbrev pub Ended1 : Ended
    Ended1 = record { signature = record { lifetimes = 1; outlives = []; params = mut_ref_to (0 ∷ []) tt (plain (λ _. S.row)) ∷ plain (λ _. X.row) ∷ []; result = plain (λ _. N.row) }; kept = (yes, (yes, tt)) }

    abbrev pub stayed1 : Stays Ended1.signature.params Ended1.kept
    stayed1 = (stay_ref (0 ∷ []) tt (plain (λ _. S.row)), (stay_none (λ _. X.row) yes, tt))

    module _ {M : Type 1} {𝓤 : Ura M} (𝓛 : Logic 𝓤) (κ : Lft) (q : Share) (b o : ℕ) (γ : GName) (n : Of X) (okn : Ok X n) where
      open 𝓛 use {H}

      abbrev x1 : Of S → MutBor (Of S)
      x1 = lent b o γ

      module _ (c : Clauses 𝓤 Ended1) (h : Of S) (g : (c (κ, tt) (x1 h, (n, tt))).ghost) (y : Of P.D) where
        abbrev Post1 : Val → SProp 𝓤
        Post1 = (walk_of 𝓛 Ended1 stayed1 c).post (((κ, tt), (q, tt), tt, (x1 h, (n, tt)), (vptr b o ∷ [], (X.val n ∷ [], tt))), g)

        module _ (says : ent 𝓤 (emp 𝓤) ((c (κ, tt) (x1 h, (n, tt))).ensures g (P.value y) (at_exit Ended1 (κ, tt) (x1 h, (n, tt)) (P.next y, (last X yes n, tt))))) where
          exits1 : Ok N (P.value y) → ent 𝓤 (⋆ 𝓛 (‵ (fobs γ (S.row.coded.code (P.next y))) ∷ ‵ (fbor κ (Body (mem S.row) b o γ)) ∷ ‵ (flft κ q) ∷ [])) (Post1 (N.val (P.value y)))
          exits1 ok =
              qed 𝓛 (‵ (fobs γ (S.row.coded.code (P.next y))) ∷ ‵ (fbor κ (Body (mem S.row) b o γ)) ∷ ‵ (flft κ q) ∷ []) ∵
              suffices ! _ (ends_at 𝓛 Ended1 stayed1 c (((κ, tt), (q, tt), tt, (x1 h, (n, tt)), (vptr b o ∷ [], (X.val n ∷ [], tt))), g) (N.val (P.value y)) (P.value y) (P.next y, (last X yes n, tt)) (tt, (tt, tt))) $ states ! says $
              nothing ! $ move ! (3 ∷ 0 ∷ []) $ join ! $ frame ! $ feq_i ! (List Val) (vptr b o ∷ []) (vptr b o ∷ []) refl $ fjoin3 ! $ nothing ! $ owned ! X.row (Is X.row) (X.makes 𝓛) n _ okn $ fjoin ! $ move ! (1 ∷ 0 ∷ []) $ fjoin ! $
              owned ! N.row (Is N.row) (N.makes 𝓛) (P.value y) _ ok $ move ! (1 ∷ 0 ∷ []) $ done !

          module _ (C : Calls 𝓤 H) (Λ : Loops 𝓤 H) (fm : FmC 𝓤 H 𝓛.laws C) (f : Callee) (gives : Ok S h → Gives 𝓛 (C f) (S.val h ∷ X.val n ∷ []) P.D y) where
            walk1 : ent 𝓤 (on_entry 𝓛 Ended1.signature (κ, tt) (q, tt) (x1 h, (n, tt)) (vptr b o ∷ [], (X.val n ∷ [], tt))) (WpFn 𝓤 H C Λ (thin1 f) (vptr b o ∷ X.val n ∷ []) Post1)
            walk1 =
                qed 𝓛 ((‵ (flft κ q) ⊛ ‵ ftrue) ∷ ‵ (owns (MutRef (named 0) κ S.row ∷ X.row ∷ []) (x1 h, (n, tt)) (vptr b o ∷ [], (X.val n ∷ [], tt))) ∷ []) ∵ split ! $ move ! (2 ∷ []) $ fsplit ! $ fsplit3 ! $ drop ! $ keep ! (0 ∷ 1 ∷ 3 ∷ []) $
                -- [obs; the borrow; the token]
                enter ! C Λ (thin1 f) (vptr b o ∷ X.val n ∷ []) _ $
                alloc1 ! (λ l₀. alloc1 ! (λ l₁. alloc1 ! (λ l₂. alloc1 ! (λ l₃. alloc1 ! (λ l₄. alloc1 ! (λ l₅. alloc0 ! $ params1 ! $ pass1 ! (init ! 8 refl (tt, tt)) $ pass1 ! (init ! 6 refl (typed 𝓛 X n okn)) $ pass0 ! $
                move ! (12 ∷ 13 ∷ 14 ∷ []) $ opens_plain ! tt S {h = h} b o (λ ok.
                -- [the struct's cell; the open borrow; obs; auth; 4 _5; …; 6 _4; …; 8 _3; …; 10 _2; …; 12 _1; …; 14 _0; …]
                assigns ! (of_opd ! (load ! (from ! (hop ! (look ! 12 refl) (stop !))) (look_raw ! 0 refl))) (from ! (stop !)) (init ! 6 refl (typed 𝓛 S h ok)) $
                calls_plain ! fm P.D y (gives ok) (and_then ! (load ! (from ! (stop !)) (look ! 6 refl)) (and_then ! (load ! (from ! (stop !)) (look ! 10 refl)) (no_more !))) (λ ok_d.
                land ! (from ! (stop !)) (init ! 8 refl (typed_pair 𝓛 y ok_d)) $ rewrite ! 8 (λ (v : Val). ‵ (fat full_share pair l₃ 0 v)) (P.two y) refl $
                assigns ! (of_opd ! (load ! (from ! (fld ! P.field₁ (stop !))) (look_in ! 8 (sub ! 1 P.field₁ (whole !))))) (from ! (stop !)) (init ! 4 refl (typed 𝓛 S (P.next y) (P.oks y ok_d).1)) $
                assigns ! (of_opd ! (load ! (from ! (stop !)) (look ! 4 refl))) (from ! (hop ! (look ! 12 refl) (stop !))) (store_raw ! 0 refl (typed 𝓛 S (P.next y) (P.oks y ok_d).1)) $
                assigns ! (of_opd ! (load ! (from ! (fld ! P.field₀ (stop !))) (look_in ! 8 (sub ! 0 P.field₀ (whole !))))) (from ! (stop !)) (init ! 14 refl (typed 𝓛 N (P.value y) (P.oks y ok_d).0)) $
                closes_plain ! tt S (P.next y) (P.oks y ok_d).1 b o $
                -- [obs; the borrow; the token; 3 _5; …; 5 _4; …; 7 _3; …; 9 _2; …; 11 _1; …; 13 _0; …]
                returns ! (look ! 13 refl) $ forget ! 3 refl $ forget ! 5 refl $ forget ! 7 refl $ forget ! 9 refl $ forget ! 11 refl $ forget ! 13 refl $
                move ! (13 ∷ 14 ∷ []) $ free1 ! $ move ! (11 ∷ 12 ∷ []) $ free1 ! $ move ! (9 ∷ 10 ∷ []) $ free1 ! $ move ! (7 ∷ 8 ∷ []) $ free1 ! $ move ! (5 ∷ 6 ∷ []) $ free1 ! $ move ! (3 ∷ 4 ∷ []) $ free1 ! $ free0 ! $ by ! (exits1 (P.oks y ok_d).0)))))))))

    module _ {M : Type 1} {𝓤 : Ura M} (𝓛 : Logic 𝓤) (𝓜 : Model 𝓤 𝓛.H) (𝓡 : Running 𝓤 𝓛.H 𝓜) (env : Env) (key f : Callee) where
      open 𝓛 use {H}

      pub thin1_proved : (c : Clauses 𝓤 Ended1) → Closed 𝓤 H (tables 𝓤 H 𝓜 𝓡 env).C (tables 𝓤 H 𝓜 𝓡 env).Λ key (thin1 f)
          → (φ : Of S → Of X → Type 0) → ((κs : Lfts 1) (a : Args Ended1.signature κs) (g : (c κs a).ghost) → ent 𝓤 ((c κs a).requires g) (fact 𝓤 (φ a.0.now a.1.0)))
          → (F : Of S → Of X → Of P.D) → ((h : Of S) (n : Of X) → φ h n → Ok S h → Ok X n → Gives 𝓛 ((tables 𝓤 H 𝓜 𝓡 env).C f) (S.val h ∷ X.val n ∷ []) P.D (F h n))
          → ((κs : Lfts 1) (a : Args Ended1.signature κs) (g : (c κs a).ghost) → ent 𝓤 (emp 𝓤) ((c κs a).ensures g (P.value (F a.0.now a.1.0)) (at_exit Ended1 κs a (P.next (F a.0.now a.1.0), (last X yes a.1.0, tt)))))
          → Triple 𝓤 ((tables 𝓤 H 𝓜 𝓡 env).C key) (triple_of 𝓛 Ended1.signature (closing 𝓛 Ended1 c))
      unfolding tables_of
      thin1_proved c unfolded φ req F gives ens =
          proved 𝓛 𝓜 𝓡 env Ended1 stayed1 c key (thin1 f) (Goes-ref 𝓛 1 0 tt (plain (λ _. S.row)), (Goes-none 𝓛 1 (λ _. X.row) yes (λ κs x f. silent X yes x f), tt)) unfolded (λ κs. (mut_vals, ((λ n. X.val n ∷ []), tt))) (λ κs. (mut_Tells (named 0) κs.0 S.row, (X.tells, tt)))
          (λ κs qs bounds a g are. asks 𝓤 (φ a.0.now a.1.0) (req κs a g) (λ p.
          walk1 𝓛 κs.0 qs.0 a.0.ref_ptr.0 a.0.ref_ptr.1 a.0.ghost_name a.1.0 are.1.0 c a.0.now g (F a.0.now a.1.0) (ens κs a g) (𝓣 𝓛 𝓜 𝓡 env).C (𝓣 𝓛 𝓜 𝓡 env).Λ (framed 𝓛 𝓜 𝓡 env) f (λ ok. gives a.0.now a.1.0 p ok are.1.0)))
