-- A loop over a slice of structs that the caller lends, `fn f(s: &[S]) -> F { let mut f = f₀; let mut i: usize = 0;
-- while i < s.len() { let m = s[i]; f = g(f, m); i += 1; } f }`. g takes by value what is found so far and one element, and asks nothing.
-- One walk of the MIR serves every S, F, f₀ and g.
--     fold             the function's MIR, which the generated `function` computes to; rv is the right side that makes f₀
--     EndedF           its signature, with the parameter kept
--     fold_proved      the function's theorem, from: total, the definition on lists that the `ensures` cites, with its two laws; f₀ and how rv makes it;
--                      any element, for what stands past the end; what g gives; and the `ensures` at `total f₀` of the slice's list
-- The slice is looked into before the loop and shut after it. A comment in brackets is the context at its place; a local stands there with
-- what frees it right after.
-- Assumes `Logic` through `𝓛`.
use mathlib.Core.Path.{◌≡◌, refl, sym, ◌∙◌, ap, subst}
use Prim.Native.Nat.{ℕ, ◌+◌, ◌-◌, ◌*◌, ◌≤◌, ◌<◌, ◌^◌, zero-le}
use native.Mathlib.Nat.{le_of_lt, lt_of_le_of_lt, lt_of_lt_of_le, mul-le-mul_right}
use native.Mathlib.Numerals.{add-one, add-one-le, add-one-dec}
use mathlib.Core.WellFounded.InvImage
use mathlib.Core.WellFounded.{WellFounded}
use mathlib.Core.List.{List, [], ◌∷◌}
use lib.ListN.{length, drop, get_or, drop_of_length-le}
use lib.Seq.{drop-cons}
use lib.WfN.{lt-wf_rel}
use seplogic.Ra.Ura.{Ura}
use base.Fraction.{full_share}
use lib.Dec.{T, ltb, ltb→lt, nltb→le, lit<}
use mir.Syntax.{Callee, Ty, Fn, Body as Code, Rv as RValue, ty_int, ty_bool, ty_ptr, ty_ref, named, imm, w64, unsigned, local, value_local, place, deref, field, copy, int, rv_opd, op2, add, mul, lt, offset, seq, assign, call, cond, exit, block, loop, return, skip as skipᴹ}
use mir.Raw.{raw as raw_ty}
use mir.Val.{Val, vint, vptr}
use base.Logic.{SProp, ent, emp, via, fst∗}
use base.Fml.{Lft, Share, Fml, ftrue, flft, fat, froom, fdies}
use prog.Model.{Model}
use prog.Routine.{Env as Names}
use prog.Wp.{Out, Env, Calls, Loops, Wp, WpFn, Closed, Tables, after_seq, after_block, after_turn, at_return}
use types.Logic.{Logic, sem}
use sound.WpLaws.{fm_of}
use contract.Lifetimes.{Lfts}
use contract.Running.{Running, tables, tables_of}
use types.Kit.{Go, Item, ‵, ⋆, ◌⊛◌, Sq, runs, any_q, at_ret, ◌$◌, ◌∵◌, !, qed, by, move, keep, drop as drops, use1, recast, split, join, rewrite, fsplit, fjoin, suffices, frame, done}
use types.Run.{Rv, look, look_raw, init, store, forget, stop, hop, fld, from, load, lit, of_opd, bin, and_then, no_more, assigns, assigns_last, land, first, skips, jumps, blocks, branches, returns, enter, alloc1, alloc0, params1, pass1, pass0, free1, free0, exec, Below, again, loops}
use types.Part.{whole, sub, look_in}
use denote.RattleType.{RattleType, owns}
use denote.Laws.{Is, shows}
use denote.Memory.{mem, pointee}
use denote.Ref.{Bor}
use denote.Slice.{slice_ty, slice_val, ShrSlice, Room, shr_slice_vals, shr_slice_Tells, shr_slice_copy}
use denote.Index.{place_is, row, elem_out, elem_back, looks_slice, shuts_slice}
use denote.Opens.{Shut}
use denote.Exit.{yes}
use denote.Signature.{plain, shr_slice_of}
use denote.Steps.{owned, nothing}
use denote.Triple.Entry.{Args, on_entry}
use denote.Triple.Statement.{Triple}
use denote.Triple.Spec.{triple_of}
use denote.Triple.Clauses.{Clauses, Ended, at_exit, closing}
use denote.Triple.Walked.{Stays, stay_none_slice, Goes-none_slice, walk_of, ends_at}
use Rattle.walks.proofs.Plain.{Plain, Of, Ok, typed, cell}
use Rattle.walks.proofs.Call.{Gives, calls_plain}
use Rattle.walks.proofs.Close.{𝓣, proved, states}

module _ (S F : Plain) where
  abbrev word : Ty
  word = ty_int w64

  abbrev slice : Ty
  slice = slice_ty (ty_ref (named 0) imm (pointee S.row.written))

  abbrev more : Callee → Code
  more g = seq (assign (place 5 []) (op2 (mul unsigned) (copy (place 3 [])) (int w64 (mem S.row).size)))
      (seq (assign (place 7 []) (op2 offset (copy (place 1 (field 0 ∷ []))) (copy (place 5 []))))
      (seq (assign (place 8 []) (rv_opd (copy (place 7 (deref S.ty ∷ [])))))
      (seq (assign (place 4 []) (rv_opd (copy (place 8 []))))
      (seq (call g (copy (place 2 []) ∷ copy (place 4 []) ∷ []) (place 2 []))
      (assign (place 3 []) (op2 (add unsigned) (copy (place 3 [])) (int w64 1)))))))

  abbrev turn : Callee → Code
  turn g = seq (assign (place 5 []) (rv_opd (copy (place 1 (field 1 ∷ [])))))
      (seq (assign (place 6 []) (op2 (lt unsigned) (copy (place 3 [])) (copy (place 5 []))))
      (seq (cond (copy (place 6 [])) skipᴹ (exit 1)) (more g)))

  abbrev rest : Code
  rest = seq (assign (place 0 []) (rv_opd (copy (place 2 [])))) return

  abbrev pub fold : RValue → Callee → Fn
  fold rv g = record {
    lifetimes = 1;
    outlives = [];
    ty_params = [];
    givens = 0;
    params = 1;
    locals = local F.ty value_local ∷ local slice value_local ∷ local F.ty value_local ∷ local word value_local ∷ local S.ty value_local ∷ local word value_local ∷ local ty_bool value_local ∷ local ty_ptr value_local ∷ local S.ty value_local ∷ [];
    body = seq (assign (place 2 []) rv) (seq (assign (place 3 []) (rv_opd (int w64 0))) (seq (block (loop (turn g))) rest));
  }

  abbrev pub EndedF : Ended
  EndedF = record { signature = record { lifetimes = 1; outlives = []; params = shr_slice_of (0 ∷ []) tt (plain (λ _. S.row)) ∷ []; result = plain (λ _. F.row) }; kept = (yes, tt) }

  abbrev pub stayed_f : Stays EndedF.signature.params EndedF.kept
  stayed_f = (stay_none_slice (0 ∷ []) tt (plain (λ _. S.row)) yes, tt)

  module _ (step : Of F → Of S → Of F) (total : Of F → List (Of S) → Of F) (total-nil : (f : Of F) → total f [] ≡ f) (total-cons : (f : Of F) (m : Of S) (ms : List (Of S)) → total f (m ∷ ms) ≡ total (step f m) ms)
      (f₀ : Of F) (ok₀ : Ok F f₀) (d₀ : Of S) (small : T (ltb (mem S.row).size (2 ^ 64))) (ys : List (Of S)) where
    -- where the loop stands: at place i, with f found so far
    record Turn : Type 0 where
      i : ℕ
      f : Of F
      upto : i ≤ length ys
      found : total f (drop i ys) ≡ total f₀ ys
      ok : Ok F f

    abbrev Nearer : Turn → Turn → Type 0
    Nearer t s = length ys - t.i < length ys - s.i

    Nearer-wf : WellFounded Nearer
    Nearer-wf = InvImage.wf (λ (t : Turn). length ys - t.i) lt-wf_rel.wf

    abbrev begins : Turn
    begins = record { i = 0; f = f₀; upto = zero-le; found = refl; ok = ok₀ }

    abbrev goes_on : (t : Turn) → t.i < length ys → Ok F (step t.f (get_or ys t.i d₀)) → Turn
    goes_on t l ok = record {
      i = t.i + 1;
      f = step t.f (get_or ys t.i d₀);
      upto = add-one-le l;
      found = sym (total-cons t.f (get_or ys t.i d₀) (drop (t.i + 1) ys)) ∙ rw (add-one t.i, ← drop-cons ys t.i d₀ l) t.found;
      ok = ok;
    }

    at_end : (t : Turn) → length ys ≤ t.i → t.f ≡ total f₀ ys
    at_end t le = sym (total-nil t.f) ∙ ap (total t.f) (sym (drop_of_length-le ys le)) ∙ t.found

    module _ {M : Type 1} {𝓤 : Ura M} (𝓛 : Logic 𝓤) (κ : Lft) (q : Share) (b o : ℕ) where
      open 𝓛 use {H}

      abbrev R : RattleType
      R = S.row

      abbrev x : Bor (List (Of S))
      x = record { ref_ptr = (b, o); now = ys }

      abbrev v : Val
      v = slice_val (b, o) (length ys)

      abbrev Own : Fml
      Own = (ShrSlice (named 0) κ R).own_val x (v ∷ [])

      module _ (c : Clauses 𝓤 EndedF) (g : (c (κ, tt) (x, tt)).ghost) (says : ent 𝓤 (emp 𝓤) ((c (κ, tt) (x, tt)).ensures g (total f₀ ys) (at_exit EndedF (κ, tt) (x, tt) (tt, tt)))) where
        abbrev Post : Val → SProp 𝓤
        Post = (walk_of 𝓛 EndedF stayed_f c).post (((κ, tt), (q, tt), tt, (x, tt), (v ∷ [], tt)), g)

        exits : (f : Of F) → Ok F f → f ≡ total f₀ ys → ent 𝓤 (⋆ 𝓛 (‵ (flft κ q) ∷ ‵ Own ∷ [])) (Post (F.val f))
        exits f ok e =
            qed 𝓛 (‵ (flft κ q) ∷ ‵ Own ∷ []) ∵
            suffices ! _ (ends_at 𝓛 EndedF stayed_f c (((κ, tt), (q, tt), tt, (x, tt), (v ∷ [], tt)), g) (F.val f) f (tt, tt) (tt, tt)) $
            states ! (subst (λ (z : Of F). ent 𝓤 (emp 𝓤) ((c (κ, tt) (x, tt)).ensures g z (at_exit EndedF (κ, tt) (x, tt) (tt, tt)))) (sym e) says) $
            nothing ! $ move ! (1 ∷ 0 ∷ []) $ join ! $ frame ! $ nothing ! $ move ! (1 ∷ 0 ∷ []) $ fjoin ! $ frame ! $ owned ! F.row (Is F.row) (F.makes 𝓛) f _ ok $ done !

        module _ (𝓣' : Tables 𝓤 H) (k : Callee) (gives : (f : Of F) (m : Of S) → Ok F f → Ok S m → Gives 𝓛 (𝓣'.C k) (F.val f ∷ S.val m ∷ []) F (step f m)) (room : Room R (length ys)) where
          abbrev C : Calls 𝓤 H
          C = 𝓣'.C

          abbrev Λ : Loops 𝓤 H
          Λ = 𝓣'.Λ

          module _ (q' : Share) (l₀ l₁ l₂ l₃ l₄ l₅ l₆ l₇ l₈ : ℕ) where
            abbrev En : Env 𝓤 H
            En = (F.ty, l₀) ∷ (slice, l₁) ∷ (F.ty, l₂) ∷ (word, l₃) ∷ (S.ty, l₄) ∷ (word, l₅) ∷ (ty_bool, l₆) ∷ (ty_ptr, l₇) ∷ (S.ty, l₈) ∷ []

            -- [the slice's elements; what shuts the slice; 2 _8; …; 4 _7; …; 6 _6; …; 8 _5; …; 10 _4; …; 12 _3, i; …; 14 _2, f; …; 16 _1; …; 18 _0; …; 20 what the slice owns]
            abbrev At : Turn → List (Item 𝓤)
            At t = ‵ (row R q' ys b o) ∷ Shut 𝓛 κ q (row R q' ys b o)
                ∷ ‵ (froom S.ty l₈ 0) ∷ ‵ (fdies S.ty l₈) ∷ ‵ (froom ty_ptr l₇ 0) ∷ ‵ (fdies ty_ptr l₇) ∷ ‵ (froom ty_bool l₆ 0) ∷ ‵ (fdies ty_bool l₆) ∷ ‵ (froom word l₅ 0) ∷ ‵ (fdies word l₅) ∷ ‵ (froom S.ty l₄ 0) ∷ ‵ (fdies S.ty l₄)
                ∷ ‵ (fat full_share word l₃ 0 (vint w64 t.i)) ∷ ‵ (fdies word l₃) ∷ ‵ (fat full_share F.ty l₂ 0 (F.val t.f)) ∷ ‵ (fdies F.ty l₂) ∷ ‵ (fat full_share slice l₁ 0 v) ∷ ‵ (fdies slice l₁) ∷ ‵ (froom F.ty l₀ 0) ∷ ‵ (fdies F.ty l₀) ∷ ‵ Own ∷ []

            abbrev Turned : Turn → Out → SProp 𝓤
            Turned t = after_turn 𝓤 H (Below 𝓛 Nearer At t) (after_block 𝓤 H (after_seq 𝓤 H (Wp 𝓤 H C Λ En rest (at_return 𝓤 H En Post)) (at_return 𝓤 H En Post)))

            turns : (t : Turn) → Sq 𝓛 (At t) (runs C Λ En (turn k) (any_q (Turned t)))
            unfolding after_turn
            turns t =
                assigns ! (of_opd ! (load ! (from ! (fld ! refl (stop !))) (look_in ! 16 (sub ! 1 refl (whole !))))) (from ! (stop !)) (init ! 8 refl (tt, record { fits = room.0 })) $
                assigns ! (bin ! (load ! (from ! (stop !)) (look ! 12 refl)) (load ! (from ! (stop !)) (look ! 8 refl)) tt) (from ! (stop !)) (init ! 6 refl (tt, tt)) $
                first ! $ branches ! (load ! (from ! (stop !)) (look ! 6 refl))
                (λ less. skips ! $ exec ! C Λ En (more k) (any_q (Turned t)) $
                assigns ! (bin ! (load ! (from ! (stop !)) (look ! 12 refl)) (lit ! small) (record { fits = offset_fits (within less) })) (from ! (stop !)) (store ! 8 refl (tt, record { fits = offset_fits (within less) })) $
                assigns ! (bin ! (load ! (from ! (fld ! refl (stop !))) (look_in ! 16 (sub ! 0 refl (whole !)))) (load ! (from ! (stop !)) (look ! 8 refl)) tt) (from ! (stop !)) (init ! 4 refl (tt, tt)) $
                rewrite ! 4 (λ (p : ℕ). ‵ (fat full_share ty_ptr l₇ 0 (vptr b p))) (sym (place_is (mem R).size o t.i)) refl $
                elem_out ! R (Is R) (shows 𝓛 R) (λ z. S.val z ∷ []) S.tells q' ys t.i d₀ b o (within less) (λ okm. recast 𝓛 (‵ (fat q' (raw_ty S.ty) b _ (S.val m))) (ap (sem 𝓛) (cell S q' (S.val m) b _)) $
                -- [the element's cell; what it owns; the others; what shuts the slice; 4 _8; …; 6 _7; …; 8 _6; …; 10 _5; …; 12 _4; …; 14 _3; …]
                assigns ! (of_opd ! (load ! (from ! (hop ! (look ! 6 refl) (stop !))) (look_raw ! 0 refl))) (from ! (stop !)) (init ! 4 refl (typed 𝓛 S m okm)) $
                assigns ! (of_opd ! (load ! (from ! (stop !)) (look ! 4 refl))) (from ! (stop !)) (init ! 12 refl (typed 𝓛 S m okm)) $
                recast 𝓛 (‵ _) (ap (sem 𝓛) (sym (cell S q' (S.val m) b _))) $ elem_back ! R q' ys t.i d₀ (S.val m ∷ []) b o (within less) $
                calls_plain ! (fm_of 𝓤 H 𝓛.laws 𝓣') F (step t.f m) (gives t.f m t.ok okm) (and_then ! (load ! (from ! (stop !)) (look ! 14 refl)) (and_then ! (load ! (from ! (stop !)) (look ! 10 refl)) (no_more !))) (λ okf.
                land ! (from ! (stop !)) (store ! 14 refl (typed 𝓛 F (step t.f m) okf)) $
                assigns_last ! (bin ! (load ! (from ! (stop !)) (look ! 12 refl)) (lit ! tt) (record { fits = next_fits (within less) })) (from ! (stop !)) (store ! 12 refl (tt, record { fits = next_fits (within less) })) $
                forget ! 2 refl $ forget ! 4 refl $ forget ! 6 refl $ forget ! 8 refl $ forget ! 10 refl $ again ! Nearer At t (goes_on t (within less) okf) (add-one-dec (length ys) t.i (within less)))))
                (λ over. jumps ! $ exec ! C Λ En rest (at_ret En Post) $
                assigns ! (of_opd ! (load ! (from ! (stop !)) (look ! 14 refl))) (from ! (stop !)) (init ! 18 refl (typed 𝓛 F t.f t.ok)) $ shuts_slice ! tt R q' ys b o $
                -- [the token; 1 _8; …; 3 _7; …; 5 _6; …; 7 _5; …; 9 _4; …; 11 _3; …; 13 _2; …; 15 _1; …; 17 _0; …; what the slice owns]
                returns ! (look ! 17 refl) $ forget ! 5 refl $ forget ! 7 refl $ forget ! 11 refl $ forget ! 13 refl $ forget ! 15 refl $ forget ! 17 refl $
                move ! (17 ∷ 18 ∷ []) $ free1 ! $ move ! (15 ∷ 16 ∷ []) $ free1 ! $ move ! (13 ∷ 14 ∷ []) $ free1 ! $ move ! (11 ∷ 12 ∷ []) $ free1 ! $ move ! (9 ∷ 10 ∷ []) $ free1 ! $ move ! (7 ∷ 8 ∷ []) $ free1 ! $ move ! (5 ∷ 6 ∷ []) $ free1 ! $ move ! (3 ∷ 4 ∷ []) $ free1 ! $ move ! (1 ∷ 2 ∷ []) $ free1 ! $ free0 ! $
                by ! (exits t.f t.ok (at_end t (nltb→le t.i (length ys) over))))
              where
                m : Of S
                m = get_or ys t.i d₀

                within : T (ltb t.i (length ys)) → t.i < length ys
                within less = ltb→lt t.i (length ys) less

                offset_fits : t.i < length ys → t.i * (mem R).size < 2 ^ 64
                offset_fits l = lt_of_lt_of_le (lt_of_le_of_lt (mul-le-mul_right (mem R).size (le_of_lt l)) room.1) (le_of_lt (lit< tt))

                next_fits : t.i < length ys → t.i + 1 < 2 ^ 64
                next_fits l = lt_of_le_of_lt (add-one-le l) room.0

          walk : (rv : RValue) → ((Γ : List (Item 𝓤)) (E : Env 𝓤 H) → Rv (Go {0}) 𝓛 Γ E rv (F.val f₀)) → ent 𝓤 (on_entry 𝓛 EndedF.signature (κ, tt) (q, tt) (x, tt) (v ∷ [], tt)) (WpFn 𝓤 H C Λ (fold rv k) (v ∷ []) Post)
          walk rv made =
              qed 𝓛 ((‵ (flft κ q) ⊛ ‵ ftrue) ∷ ‵ (owns (ShrSlice (named 0) κ R ∷ []) (x, tt) (v ∷ [], tt)) ∷ []) ∵ split ! $ move ! (2 ∷ []) $ fsplit ! $
              -- a `&[S]` is Copy: one copy of what it owns is kept for the exit, and of the other what it holds of its elements is taken
              use1 𝓛 (‵ Own ⊛ ‵ Own) ((shr_slice_copy 𝓛 (named 0) κ R S.row_laws).twice x (v ∷ [])) $ split ! $ fsplit ! $ drops ! $ keep ! (0 ∷ 3 ∷ 1 ∷ []) $
              enter ! C Λ (fold rv k) (v ∷ []) _ $
              alloc1 ! (λ l₀. alloc1 ! (λ l₁. alloc1 ! (λ l₂. alloc1 ! (λ l₃. alloc1 ! (λ l₄. alloc1 ! (λ l₅. alloc1 ! (λ l₆. alloc1 ! (λ l₇. alloc1 ! (λ l₈. alloc0 ! $ params1 ! $ pass1 ! (init ! 14 refl (tt, (tt, (record { fits = room.0 }, tt)))) $ pass0 ! $
              assigns ! (made _ _) (from ! (stop !)) (init ! 12 refl (typed 𝓛 F f₀ ok₀)) $ assigns ! (of_opd ! (lit ! tt)) (from ! (stop !)) (init ! 10 refl (tt, record { fits = lit< tt })) $
              move ! (18 ∷ 19 ∷ []) $ looks_slice ! tt R (S.copied 𝓛) ys b o (λ q'. move ! (2 ∷ []) $ drops ! $
              first ! $ blocks ! $ loops ! 𝓣' Nearer Nearer-wf (At q' l₀ l₁ l₂ l₃ l₄ l₅ l₆ l₇ l₈) (turns q' l₀ l₁ l₂ l₃ l₄ l₅ l₆ l₇ l₈) begins))))))))))

  module _ {M : Type 1} {𝓤 : Ura M} (𝓛 : Logic 𝓤) (𝓜 : Model 𝓤 𝓛.H) (𝓡 : Running 𝓤 𝓛.H 𝓜) (env : Names) (key k : Callee) (rv : RValue) where
    open 𝓛 use {H}

    pub fold_proved : (c : Clauses 𝓤 EndedF) → Closed 𝓤 H (tables 𝓤 H 𝓜 𝓡 env).C (tables 𝓤 H 𝓜 𝓡 env).Λ key (fold rv k)
        → (step : Of F → Of S → Of F) (total : Of F → List (Of S) → Of F) → ((f : Of F) → total f [] ≡ f) → ((f : Of F) (m : Of S) (ms : List (Of S)) → total f (m ∷ ms) ≡ total (step f m) ms)
        → (f₀ : Of F) → Ok F f₀ → ((Γ : List (Item 𝓤)) (E : Env 𝓤 H) → Rv (Go {0}) 𝓛 Γ E rv (F.val f₀)) → Of S → T (ltb (mem S.row).size (2 ^ 64))
        → ((f : Of F) (m : Of S) → Ok F f → Ok S m → Gives 𝓛 ((tables 𝓤 H 𝓜 𝓡 env).C k) (F.val f ∷ S.val m ∷ []) F (step f m))
        → ((κs : Lfts 1) (a : Args EndedF.signature κs) (g : (c κs a).ghost) → ent 𝓤 (emp 𝓤) ((c κs a).ensures g (total f₀ a.0.now) (at_exit EndedF κs a (tt, tt))))
        → Triple 𝓤 ((tables 𝓤 H 𝓜 𝓡 env).C key) (triple_of 𝓛 EndedF.signature (closing 𝓛 EndedF c))
    unfolding tables_of
    fold_proved c unfolded step total nil cons f₀ ok₀ made d₀ small gives ens =
        proved 𝓛 𝓜 𝓡 env EndedF stayed_f c key (fold rv k) (Goes-none_slice 𝓛 1 (0 ∷ []) tt (plain (λ _. S.row)) yes, tt) unfolded (λ κs. (shr_slice_vals, tt)) (λ κs. (shr_slice_Tells (named 0) κs.0 S.row, tt))
        (λ κs qs bounds a g are. via 𝓤 _ (fst∗ 𝓤 _ ((c κs a).requires g))
        (walk step total nil cons f₀ ok₀ d₀ small a.0.now 𝓛 κs.0 qs.0 a.0.ref_ptr.0 a.0.ref_ptr.1 c g (ens κs a g) (𝓣 𝓛 𝓜 𝓡 env) k gives are.0.0.1 rv made))
