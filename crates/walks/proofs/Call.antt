-- A call, within a walk, of a function that takes and returns plain values and whose `ensures` says which value it returns.
--     ended Ps P           the signature of such a function, of parameters Ps and result P, as its own generated `ended` computes to
--     Gives run vs P y     run, at the machine values vs, returns the value y of the type P
--     gives_of             it follows from the function's theorem: the `requires` is shown, and the `ensures` says r ≡ y
--     calls_plain          the call: the context stays as it is, and what lands is y's machine value, with `Ok P y` in hand
-- Operands are read at their positions in the context; nothing is put in front of it.
-- Assumes `Logic`, and that the table of calls is monotone under a frame, as every `Tables` is.
use mathlib.Core.Path.{◌≡◌, sym, ap, subst}
use mathlib.Core.List.{List, [], ◌∷◌}
use seplogic.Ra.Ura.{Ura}
use mir.Syntax.{Callee, Place, Opd as Operand, Body, seq, call}
use mir.Val.{Val}
use base.Logic.{SProp, ent, sep, emp, via, mono_l, fst∗, snd∗, emp∗, ex_e}
use base.Fml.{ftrue}
use prog.Wp.{Env, Calls, Loops, eval_opds}
use types.Logic.{Logic, sem}
use sound.Laws.{∗emp}
use sound.WpLaws.{FmC}
use contract.Monad.{Fun, fact, fact_i}
use types.Kit.{Item, ‵, raw, ◌⊛◌, later, ⋆, push, Post, Goal, runs, lands, aim, Seq, ◌$◌, ◌∵◌, !, qed, by, move, use0, use1, drop, split, join, await, done}
use types.Run.{Opds}
use denote.RattleType.{RattleType, Denots, Valss, flat, owns}
use denote.Laws.{Is, shows, Are, Ises, Makess, owns_make}
use denote.Signature.{plain, types_at}
use denote.Steps.{only, facts, heard, nothing}
use denote.Triple.Statement.{Triple, FmF}
use denote.Triple.Spec.{triple_of}
use denote.Triple.Clauses.{Clauses, Ended, AtExit, at_exit, lasts, ensured, closing}
use Rattle.walks.proofs.Plain.{Plain, Of, Ok, Ins, slots, kepts, Oks}

abbrev pub ended : List Plain → Plain → Ended
ended Ps P = record { signature = record { lifetimes = 0; outlives = []; params = slots Ps; result = plain (λ _. P.row) }; kept = kepts Ps }

-- plain values as parameters: the values, their machine values, and what is owned
abbrev rows : List Plain → List RattleType
rows Ps = types_at (slots Ps) tt

abbrev pub passed : (Ps : List Plain) → Ins Ps → Denots (rows Ps)
passed [] a = tt
passed (P ∷ Ps) a = (a.0, passed Ps a.1)

abbrev pub spelled : (Ps : List Plain) → Ins Ps → Valss (rows Ps)
spelled [] a = tt
spelled (P ∷ Ps) a = (P.val a.0 ∷ [], spelled Ps a.1)

abbrev pub flats : (Ps : List Plain) → Ins Ps → List Val
flats Ps a = flat (rows Ps) (spelled Ps a)

ares : (Ps : List Plain) (a : Ins Ps) → Oks Ps a → Are (rows Ps) (Ises (rows Ps)) (passed Ps a) (spelled Ps a)
ares [] a oks = tt
ares (P ∷ Ps) a oks = (oks.0, ares Ps a.1 oks.1)

module _ {M : Type 1} {𝓤 : Ura M} (𝓛 : Logic 𝓤) where
  makess : (Ps : List Plain) → Makess 𝓛 (rows Ps) (Ises (rows Ps))
  makess [] = tt
  makess (P ∷ Ps) = (P.makes 𝓛, makess Ps)

  owned_all : (Ps : List Plain) (a : Ins Ps) → Oks Ps a → ent 𝓤 (emp 𝓤) (sem 𝓛 (owns (rows Ps) (passed Ps a) (spelled Ps a)))
  owned_all Ps a oks = owns_make 𝓛 (rows Ps) (Ises (rows Ps)) (makess Ps) (passed Ps a) (spelled Ps a) (ares Ps a oks)

module _ {M : Type 1} {𝓤 : Ura M} (𝓛 : Logic 𝓤) where
  open 𝓛 use {H}

  abbrev pub Gives : Fun 𝓤 → List Val → (P : Plain) → Of P → Type 1
  Gives run vs P y = ent 𝓤 (emp 𝓤) (run vs (λ v. H.⇛ (fact 𝓤 ((v ≡ P.val y) × Ok P y))))

  module _ where
    module _ (Ps : List Plain) (P : Plain) (c : Clauses 𝓤 (ended Ps P)) (a : Ins Ps) (g : (c tt (passed Ps a)).ghost) (y : Of P) (ens : (r : Of P) (e : AtExit (ended Ps P) tt) → ent 𝓤 ((c tt (passed Ps a)).ensures g r e) (fact 𝓤 (r ≡ y))) where
      enters : Oks Ps a → ent 𝓤 (emp 𝓤) ((c tt (passed Ps a)).requires g) → ent 𝓤 (emp 𝓤) ((triple_of 𝓛 (ended Ps P).signature (closing 𝓛 (ended Ps P) c)).pre ((tt, tt, tt, passed Ps a, spelled Ps a), g))
      enters oks req = qed 𝓛 [] ∵ use0 𝓛 (raw ((c tt (passed Ps a)).requires g)) req $ use0 𝓛 (‵ (owns (rows Ps) (passed Ps a) (spelled Ps a))) (owned_all 𝓛 Ps a oks) $
          nothing ! $ join ! $ done !

      told : (v : Val) → (r : Of P) → r ≡ y → Is P.row r (v ∷ []) → (v ≡ P.val y) × Ok P y
      told v r e is =
          let is' : Is P.row y (v ∷ []) = subst (λ (z : Of P). Is P.row z (v ∷ [])) e is in
          (ap only (P.tells y (v ∷ []) is'), subst (λ (us : List Val). Is P.row y us) (P.tells y (v ∷ []) is') is')

      leaves : (v : Val) (r : Of P) → ent 𝓤 (sep 𝓤 (sep 𝓤 (emp 𝓤) (sem 𝓛 (P.row.own_val r (v ∷ [])))) (ensured 𝓛 (ended Ps P) c tt (passed Ps a) g r)) (fact 𝓤 ((v ≡ P.val y) × Ok P y))
      leaves v r = qed 𝓛 ((‵ ftrue ⊛ ‵ (P.row.own_val r (v ∷ []))) ∷ raw (ensured 𝓛 (ended Ps P) c tt (passed Ps a) g r) ∷ []) ∵ move ! (1 ∷ []) $
          use1 𝓛 (raw (fact 𝓤 (r ≡ y))) (ex_e 𝓤 _ (λ ws. via 𝓤 ((c tt (passed Ps a)).ensures g r (at_exit (ended Ps P) tt (passed Ps a) ws)) (snd∗ 𝓤 (sem 𝓛 (lasts (ended Ps P) tt (passed Ps a) ws)) ((c tt (passed Ps a)).ensures g r (at_exit (ended Ps P) tt (passed Ps a) ws))) (ens r (at_exit (ended Ps P) tt (passed Ps a) ws)))) $ heard ! (r ≡ y) (λ e. split ! $ drop ! $
          facts ! P.row (Is P.row) (shows 𝓛 P.row) r (v ∷ []) (λ is. by ! (fact_i 𝓤 ((v ≡ P.val y) × Ok P y) (emp 𝓤) (told v r e is))))

      pub gives_of : (run : Fun 𝓤) → FmF 𝓤 run → Triple 𝓤 run (triple_of 𝓛 (ended Ps P).signature (closing 𝓛 (ended Ps P) c)) → Oks Ps a → ent 𝓤 (emp 𝓤) ((c tt (passed Ps a)).requires g) → Gives run (flats Ps a) P y
      gives_of run fm known oks req =
          let Q : Val → SProp 𝓤 = (triple_of 𝓛 (ended Ps P).signature (closing 𝓛 (ended Ps P) c)).post ((tt, tt, tt, passed Ps a, spelled Ps a), g) in
          let Q' : Val → SProp 𝓤 = λ v. H.⇛ (fact 𝓤 ((v ≡ P.val y) × Ok P y)) in
          via 𝓤 (run (flats Ps a) Q) (via 𝓤 _ (enters oks req) (known ((tt, tt, tt, passed Ps a, spelled Ps a), g)))
          (via 𝓤 (sep 𝓤 (run (flats Ps a) Q) (emp 𝓤)) (∗emp 𝓤 (run (flats Ps a) Q)) (fm (flats Ps a) Q Q' (emp 𝓤) (λ v. via 𝓤 (Q v) (fst∗ 𝓤 (Q v) (emp 𝓤)) (𝓛.laws.⇛_mono _ _ (ex_e 𝓤 _ (leaves v))))))

module _ {M : Type 1} {𝓤 : Ura M} {𝓛 : Logic 𝓤} {K : Type 0} {Γ : List (Item 𝓤)} {E : Env 𝓤 𝓛.H} {C : Calls 𝓤 𝓛.H} {Λ : Loops 𝓤 𝓛.H} {q : Post 𝓤 𝓛.H} {f : Callee} {xs : List Operand} {d : Place} {rest : Body} where
  open 𝓛 use {H}

  pub calls_plain : K → FmC 𝓤 H 𝓛.laws C → {vs : List Val} (P : Plain) (y : Of P) → Gives 𝓛 (C f) vs P y → Opds K 𝓛 Γ E xs vs
      → (Ok P y → Seq K 𝓛 Γ (lands C Λ E d (P.val y) rest q)) → Seq K 𝓛 Γ (runs C Λ E (seq (call f xs d) rest) q)
  calls_plain t fm {vs} P y gives operands k =
      let φ : Val → Type 0 = λ v. (v ≡ P.val y) × Ok P y in
      let Q : Val → SProp 𝓤 = λ v. H.⇛ (fact 𝓤 (φ v)) in
      let after : Val → Goal 𝓤 H = λ v. lands C Λ E d v rest q in
      record {
        prf = via 𝓤 (eval_opds 𝓤 H E xs (λ us. C f us (λ r. aim 𝓤 H (after r))))
            (operands.go (λ us. C f us (λ r. aim 𝓤 H (after r)))
            (via 𝓤 (sep 𝓤 (C f vs Q) (⋆ 𝓛 Γ)) (via 𝓤 (sep 𝓤 (emp 𝓤) (⋆ 𝓛 Γ)) (emp∗ 𝓤 (⋆ 𝓛 Γ)) (mono_l 𝓤 (⋆ 𝓛 Γ) gives))
            (fm f vs Q (λ r. aim 𝓤 H (after r)) (⋆ 𝓛 Γ) (λ v. via 𝓤 (⋆ 𝓛 (later (raw (fact 𝓤 (φ v))) ∷ Γ)) (push 𝓛 (later (raw (fact 𝓤 (φ v)))) Γ)
            (await t tt $ heard t (φ v) (λ p. subst (λ (u : Val). Seq K 𝓛 Γ (after u)) (sym p.0) (k p.1))).prf))))
            (𝓛.laws.⇛_intro _);
      }
