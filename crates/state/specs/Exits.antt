-- The exits of every call that is gate, plan and act. Assumes nothing.
use Rattle.std.proofs.Math.Path.{◌≡◌, refl, sym, ap, subst}
use Rattle.std.proofs.Common.{◌∙◌}
use Rattle.std.specs.Prelude.{Bool, ℕ, ◌≤◌, ◌<◌, length}
use Rattle.std.proofs.Math.Bool.{true, false}
use mathlib.Core.List.{List, ◌++◌}
use native.Mathlib.Omega.{arith}
use Rattle.std.proofs.Math.Dec.{eqb}
use Rattle.std.proofs.Math.ListN.{drop}
use borrow.Author.Tests.{eq-eqb, ne_eqb}
use Rattle.laws.specs.Bools.{pick, cases}
use Rattle.words.specs.Words.{Bytes}
use Rattle.model.specs.State.{State}
use Rattle.model.specs.Calls.{Out, refused, done}
use Rattle.model.specs.Fits.{state_fits}
use Rattle.state.specs.declared.Capacity.{Capacity}
use Rattle.state.specs.declared.Gate.{Gate}
use Rattle.state.specs.Sizes.{bytes_of}
use Rattle.state.specs.Area.{Area, capacity_of}
use Rattle.state.specs.Decode.{gate, decode}
use Rattle.state.specs.Encode.{encode}
use Rattle.state.specs.EncodeLaws.{area_is}
use Rattle.state.specs.Changes.{Inside, Gated, AreaOf, Changes, Reads, Planned, judged}
use Rattle.state.specs.Call.{finish, call, reading}

-- ---- numbers of an area that was let through

pub inside_of : (b : List ℕ) (g : Gate) → Gated b g → g.refusal ≤ 0 → Inside b g.capacity
inside_of b g q y = q.inside (let z : g.refusal ≡ 0 = omega arith in z)

pub inside_after : (b b' : List ℕ) (F : Capacity) → Inside b F → length b' ≡ length b → Inside b' F
inside_after b b' F i e = record { within = i.within; head = omega (arith, i.head); long = omega (arith, i.long) }

module _ {A R : Type 0} (no : ℕ → R) (say : A → R) (b : List ℕ) (f : State → Out A) where
  shut : (k : ℕ) → k ≡ gate b → (k ≡ 0 → ⊥) → (no k, b) ≡ call no say b f
  unfolding call
  shut k e n = ap (λ (j : ℕ). (no j, b)) e ∙ sym (ap (λ (t : Bool). pick t (finish no say b (f (decode b))) (no (gate b), b)) (ne_eqb (gate b) 0 (λ z. n (e ∙ z))))

  module _ (k : ℕ) (e : k ≡ gate b) (z : k ≡ 0) where
    enter : finish no say b (f (decode b)) ≡ call no say b f
    unfolding call
    enter = sym (ap (λ (t : Bool). pick t (finish no say b (f (decode b))) (no (gate b), b)) (eq-eqb (gate b) 0 (sym e ∙ z)))

    refuses : (n : ℕ) → f (decode b) ≡ refused n → (no n, b) ≡ call no say b f
    unfolding finish
    refuses n q = sym (ap (finish no say b) q) ∙ enter

    no_room : (a : A) (s : State) → f (decode b) ≡ done a s → state_fits s ≡ false → (no 10, b) ≡ call no say b f
    unfolding finish
    no_room a s q t = sym (ap (finish no say b) q ∙ ap (λ (u : Bool). pick u (say a, encode s ++ drop (bytes_of (capacity_of s)) b) (no 10, b)) t) ∙ enter

    acts : (a : A) (s : State) (b' : List ℕ) → f (decode b) ≡ done a s → state_fits s ≡ true → Area b' s → drop (bytes_of (capacity_of s)) b' ≡ drop (bytes_of (capacity_of s)) b → (say a, b') ≡ call no say b f
    unfolding finish
    acts a s b' q t h r =
        ap (λ (l : List ℕ). (say a, l)) (area_is h ∙ ap (λ (l : List ℕ). encode s ++ l) r)
        ∙ sym (ap (finish no say b) q ∙ ap (λ (u : Bool). pick u (say a, encode s ++ drop (bytes_of (capacity_of s)) b) (no 10, b)) t) ∙ enter

  module _ (g : Gate) (q : Gated b g) where
    -- a call that only reads: shut out by the gate, refused, or answered
    pub read_shut : (r : R) → 0 < g.refusal → r ≡ no g.refusal → r ≡ reading no say b f
    unfolding reading
    read_shut r n e =
        let nonzero : eqb (gate b) 0 ≡ false = ne_eqb (gate b) 0 (λ w. let o : 0 < 0 = subst (λ (m : ℕ). 0 < m) (q.code ∙ w) n in omega arith) in
        e ∙ ap no q.code ∙ rw nonzero refl

    pub read_refused : g.refusal ≤ 0 → (r : R) (n : ℕ) → f (decode b) ≡ refused n → r ≡ no n → r ≡ reading no say b f
    unfolding reading
    read_refused y r n e er = er ∙ rw (eq-eqb (gate b) 0 (sym q.code ∙ (let z : g.refusal ≡ 0 = omega arith in z)), e) refl

    pub read_answered : g.refusal ≤ 0 → (r : R) (a : A) (s : State) → f (decode b) ≡ done a s → r ≡ say a → r ≡ reading no say b f
    unfolding reading
    read_answered y r a s e er = er ∙ rw (eq-eqb (gate b) 0 (sym q.code ∙ (let z : g.refusal ≡ 0 = omega arith in z)), e) refl

    -- the gate refused
    pub call_shut : (r : R) → 0 < g.refusal → r ≡ no g.refusal → (r, b) ≡ call no say b f
    call_shut r n e = ap (λ (x : R). (x, b)) e ∙ shut g.refusal q.code (λ z. let o : 0 < 0 = subst (λ (m : ℕ). 0 < m) z n in omega arith)

    module _ (y : g.refusal ≤ 0) where
      z : g.refusal ≡ 0
      z = omega arith

      -- the plan refused, or the act is done
      module _ (c : ℕ) (a : A) (op : State → State) (p : Planned b g.capacity c f a op) where
        pub call_refused : (r : R) → 0 < c → r ≡ no c → (r, b) ≡ call no say b f
        unfolding judged
        call_refused r n e = ap (λ (x : R). (x, b)) e ∙ by (f (decode b)) refl (p.code (decode b) (q.area z) (q.capacity z))
          where
            by : (o : Out A) → f (decode b) ≡ o → c ≡ judged o → (no c, b) ≡ call no say b f
            by (refused m) eo ec = ap (λ (k : ℕ). (no k, b)) ec ∙ refuses g.refusal q.code z m eo
            by (done v s) eo ec =
                cases (state_fits s)
                (λ t. let w : c ≡ 0 = ec ∙ ap (λ (u : Bool). pick u 0 10) t in absurd (omega arith))
                (λ t. ap (λ (k : ℕ). (no k, b)) (ec ∙ ap (λ (u : Bool). pick u 0 10) t) ∙ no_room g.refusal q.code z v s eo t)

        pub call_done : (b' : List ℕ) (r : R) → c ≤ 0 → Changes b b' g.capacity op → r ≡ say a → (r, b') ≡ call no say b f
        unfolding judged
        call_done b' r n k e =
            let s : State = decode b in
            let ec : c ≡ 0 = omega arith in
            let gives : f s ≡ done a (op s) = p.gives s (q.area z) (q.capacity z) ec in
            let code : ◌≡◌ {A = ℕ} (pick (state_fits (op s)) 0 10) 0 = sym (p.code s (q.area z) (q.capacity z) ∙ ap judged gives) ∙ ec in
            let t : state_fits (op s) ≡ true = cases (state_fits (op s)) (λ u. u) (λ u. let w : ◌≡◌ {A = ℕ} 10 0 = ap (λ (v : Bool). pick v 0 10) (sym u) ∙ code in absurd (omega arith)) in
            let h : AreaOf b' (drop (bytes_of g.capacity) b) g.capacity (op s) = k.to s (drop (bytes_of g.capacity) b) (record { capacity = q.capacity z; area = q.area z; rest = refl }) t in
            ap (λ (x : R). (x, b')) e ∙ acts g.refusal q.code z a (op s) b' gives t h.area (subst (λ (F : Capacity). drop (bytes_of F) b' ≡ drop (bytes_of F) b) h.capacity h.rest)
