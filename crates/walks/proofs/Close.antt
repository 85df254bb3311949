-- From a walk to the statement of a function: the lines that end every proof by a walk.
--     proved           the walk at each choice of lifetimes, shares, arguments and ghost value, with the parameters' relations in hand, makes the theorem
--     gives            what a callee of plain values gives (`Gives` of Call), from its theorem, at the key by which the code calls it
--     framed           what a rule for a call asks of the table of calls
--     states           a goal P ∗ X, where X has a proof from nothing, as a fact that holds has: P is left
--     asks             P ∗ X as a hypothesis, where X shows φ, as a `requires` does: φ is learned, and P is left
-- Assumes `Logic` through `𝓛`.
use mathlib.Core.Path.{◌≡◌}
use mathlib.Core.List.{List}
use seplogic.Ra.Ura.{Ura}
use mir.Syntax.{Callee, Fn}
use base.Logic.{SProp, ent, sep, emp, via, comm∗, mono_l, fst∗, snd∗, emp∗}
use prog.Model.{Model}
use prog.Routine.{Env, Routine}
use prog.Wp.{WpFn, Closed, Tables}
use types.Logic.{Logic}
use sound.WpLaws.{FmC, fm_of, WpFn-mono}
use contract.Lifetimes.{Lfts, Shares, AllOutlive}
use contract.Monad.{fact, fact_use}
use contract.Running.{Running, tables, tables_of}
use types.Kit.{Item, prop, Step, step}
use denote.RattleType.{flat}
use denote.Laws.{Are, Ises, Spells, valss, Tellss}
use denote.Signature.{types_at}
use denote.Triple.Entry.{Args, on_entry}
use denote.Triple.Statement.{Triple}
use denote.Triple.Spec.{triple_of}
use denote.Triple.Clauses.{Clauses, Ended, AtExit, closing}
use denote.Triple.Table.{entered, cited}
use denote.Triple.Walked.{Stays, AllGo, walk_of, walked, walk_Meets}
use Rattle.walks.proofs.Plain.{Plain, Of, Ins, Oks}
use Rattle.walks.proofs.Call.{Gives, ended, passed, flats, gives_of}

pub states : {M : Type 1} {𝓤 : Ura M} {𝓛 : Logic 𝓤} {K : Type 0} {Γ : List (Item 𝓤)} → K → {P X : SProp 𝓤} → ent 𝓤 (emp 𝓤) X → Step K 𝓛 Γ (prop P) Γ (prop (sep 𝓤 P X))
states {𝓤 = 𝓤} t {P} {X} h = step (λ s. record { prf = via 𝓤 P s.prf (via 𝓤 (sep 𝓤 (emp 𝓤) P) (emp∗ 𝓤 P) (via 𝓤 (sep 𝓤 X P) (mono_l 𝓤 P h) (comm∗ 𝓤 X P))) })

pub asks : {M : Type 1} (𝓤 : Ura M) (φ : Type 0) {P X Q : SProp 𝓤} → ent 𝓤 X (fact 𝓤 φ) → (φ → ent 𝓤 P Q) → ent 𝓤 (sep 𝓤 P X) Q
asks 𝓤 φ {P} {X} h k = fact_use 𝓤 φ (via 𝓤 X (snd∗ 𝓤 P X) h) (λ p. via 𝓤 P (fst∗ 𝓤 P X) (k p))

module _ {M : Type 1} {𝓤 : Ura M} (𝓛 : Logic 𝓤) (𝓜 : Model 𝓤 𝓛.H) (𝓡 : Running 𝓤 𝓛.H 𝓜) (env : Env) where
  open 𝓛 use {H}

  abbrev pub 𝓣 : Tables 𝓤 H
  𝓣 = tables_of 𝓤 H 𝓜 (tables 𝓤 H 𝓜 𝓡 env)

  module _ (T : Ended) (hs : Stays T.signature.params T.kept) (c : Clauses 𝓤 T) (key : Callee) (e : Fn) where
    pub proved : AllGo 𝓛 T.signature.lifetimes T.signature.params T.kept hs
        → Closed 𝓤 H (tables 𝓤 H 𝓜 𝓡 env).C (tables 𝓤 H 𝓜 𝓡 env).Λ key e
        → (sp : (κs : Lfts T.signature.lifetimes) → Spells (types_at T.signature.params κs))
        → ((κs : Lfts T.signature.lifetimes) → Tellss (types_at T.signature.params κs) (Ises (types_at T.signature.params κs)) (sp κs))
        → ((κs : Lfts T.signature.lifetimes) (qs : Shares T.signature.lifetimes) (bounds : AllOutlive T.signature.lifetimes T.signature.outlives κs) (a : Args T.signature κs) (g : (c κs a).ghost)
        → Are (types_at T.signature.params κs) (Ises (types_at T.signature.params κs)) a (valss (types_at T.signature.params κs) (sp κs) a)
        → ent 𝓤 (sep 𝓤 (on_entry 𝓛 T.signature κs qs a (valss (types_at T.signature.params κs) (sp κs) a)) ((c κs a).requires g))
        (WpFn 𝓤 H 𝓣.C 𝓣.Λ e (flat (types_at T.signature.params κs) (valss (types_at T.signature.params κs) (sp κs) a)) ((walk_of 𝓛 T hs c).post ((κs, qs, bounds, a, valss (types_at T.signature.params κs) (sp κs) a), g))))
        → Triple 𝓤 ((tables 𝓤 H 𝓜 𝓡 env).C key) (triple_of 𝓛 T.signature (closing 𝓛 T c))
    unfolding tables_of
    proved goes unfolded sp tl k =
        entered 𝓤 H (triple_of 𝓛 T.signature (closing 𝓛 T c)) (tables 𝓤 H 𝓜 𝓡 env).C (tables 𝓤 H 𝓜 𝓡 env).Λ key e unfolded
        (walk_Meets 𝓛 T hs goes c (WpFn 𝓤 H 𝓣.C 𝓣.Λ e) (WpFn-mono 𝓤 H 𝓛.laws 𝓣 e) (walked 𝓛 T hs c (WpFn 𝓤 H 𝓣.C 𝓣.Λ e) sp tl k))

  pub framed : FmC 𝓤 H 𝓛.laws 𝓣.C
  framed = fm_of 𝓤 H 𝓛.laws 𝓣

  pub gives : (Ps : List Plain) (P : Plain) (c : Clauses 𝓤 (ended Ps P)) (k : Callee) (r : Routine) → env k ≡ r → Triple 𝓤 (𝓡.run r) (triple_of 𝓛 (ended Ps P).signature (closing 𝓛 (ended Ps P) c))
      → (a : Ins Ps) (g : (c tt (passed Ps a)).ghost) (y : Of P) → ((x : Of P) (e : AtExit (ended Ps P) tt) → ent 𝓤 ((c tt (passed Ps a)).ensures g x e) (fact 𝓤 (x ≡ y))) → Oks Ps a → ent 𝓤 (emp 𝓤) ((c tt (passed Ps a)).requires g)
      → Gives 𝓛 ((tables 𝓤 H 𝓜 𝓡 env).C k) (flats Ps a) P y
  unfolding tables_of
  gives Ps P c k r p met a g y ens oks req =
      gives_of 𝓛 Ps P c a g y ens ((tables 𝓤 H 𝓜 𝓡 env).C k) (framed k)
      (cited 𝓤 H (triple_of 𝓛 (ended Ps P).signature (closing 𝓛 (ended Ps P) c)) 𝓜 𝓡 env k r p met) oks req
