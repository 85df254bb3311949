-- A claim about every list of calls: what is noted of the calls so far, and what is right of the next one by these notes. One induction serves every claim, and every
-- machine that makes the calls. Assumes nothing.
use Rattle.std.specs.Prelude.{◌≡◌, Bool, true, false, ℕ}
use mathlib.Core.List.{List, [], ◌∷◌}
use Rattle.config.specs.declared.SimConfig.{SimConfig}
use Rattle.config.specs.declared.Limits.{Limits}
use Rattle.model.specs.State.{State}
use Rattle.model.specs.Calls.{Out, done}
use Rattle.model.specs.Outcome.{Call, start, Answer, no, acted, opened, stepped, asked, sealed, got, outcome}

-- Whether an answer accepts its call.
abbrev pub accepted : Answer → Bool
accepted (no number) = false
accepted acted = true
accepted (opened next) = true
accepted (stepped s) = true
accepted (asked a) = true
accepted (sealed s) = true
accepted (got x) = true

-- What is noted, and what is right, told of each call its arguments, its answer, and the states before and after it.
pub record Claim : Type 1 where
  pub Notes : Type 0
  pub note : Notes → State → Call → Answer → State → Notes
  pub Right : Notes → State → Call → Answer → State → Type 0

-- What a call does: it is refused and nothing changes, or it does what its definition gives, and that fits.
pub data Does (fits : State → Bool) (s : State) (c : Call) : Answer → State → Type 0 where
  refuses : (number : ℕ) → Does fits s c (no number) s
  gives : {a : Answer} {t : State} → outcome c s ≡ done a t → fits t ≡ true → Does fits s c a t

-- What proves a claim: something that holds of the notes and the state from an accepted start on, and makes each call right.
pub record Proof (fits : State → Bool) (k : Claim) : Type 1 where
  pub Holds : k.Notes → State → Type 0
  pub begins : (n : k.Notes) (s t : State) (config : SimConfig) (limits : Limits) (seed : ℕ) (a : Answer)
      → outcome (start config limits seed) s ≡ done a t → fits t ≡ true
      → k.Right n s (start config limits seed) a t × Holds (k.note n s (start config limits seed) a t) t
  pub goes : (n : k.Notes) (s t : State) (c : Call) (a : Answer) → Holds n s → fits s ≡ true → Does fits s c a t → k.Right n s c a t × Holds (k.note n s c a t) t

-- What makes calls, one after the other, on something that holds a state: on a state itself, or on an area's bytes.
pub record Machine (fits : State → Bool) : Type 1 where
  pub On : Type 0
  pub state : On → State
  pub answer : On → Call → Answer
  pub next : On → Call → On
  -- what holds of it from an accepted start on
  pub Sound : On → Type 0
  pub fit : (x : On) → Sound x → fits (state x) ≡ true
  pub does : (x : On) (c : Call) → Sound x → Does fits (state x) c (answer x c) (state (next x c)) × Sound (next x c)
  pub starts : (x : On) (config : SimConfig) (limits : Limits) (seed : ℕ) → accepted (answer x (start config limits seed)) ≡ true
      → (outcome (start config limits seed) (state x) ≡ done (answer x (start config limits seed)) (state (next x (start config limits seed))))
      × Sound (next x (start config limits seed))

module _ {fits : State → Bool} (m : Machine fits) (k : Claim) where
  -- Every call of a list is right by the notes up to it, each call getting what the last one left.
  unfoldable pub Kept : k.Notes → m.On → List Call → Type 0
  Kept n x [] = Unit {0}
  Kept n x (c ∷ cs) =
      k.Right n (m.state x) c (m.answer x c) (m.state (m.next x c))
      × Kept (k.note n (m.state x) c (m.answer x c) (m.state (m.next x c))) (m.next x c) cs

  module _ (p : Proof fits k) where
    kept : (n : k.Notes) (x : m.On) (cs : List Call) → p.Holds n (m.state x) → m.Sound x → Kept n x cs
    unfolding Kept
    kept n x [] h g = tt
    kept n x (c ∷ cs) h g =
        let d = m.does x c g in
        let r = p.goes n (m.state x) (m.state (m.next x c)) c (m.answer x c) h (m.fit x g) d.0 in
        (r.0, kept (k.note n (m.state x) c (m.answer x c) (m.state (m.next x c))) (m.next x c) cs r.1 d.1)

    -- Every list that begins with an accepted start, whatever was before and whatever was noted.
    pub claimed : (n : k.Notes) (x : m.On) (config : SimConfig) (limits : Limits) (seed : ℕ) (cs : List Call)
        → accepted (m.answer x (start config limits seed)) ≡ true → Kept n x (start config limits seed ∷ cs)
    unfolding Kept
    claimed n x config limits seed cs e =
        let c : Call = start config limits seed in
        let d = m.starts x config limits seed e in
        let r = p.begins n (m.state x) (m.state (m.next x c)) config limits seed (m.answer x c) d.0 (m.fit (m.next x c) d.1) in
        (r.0, kept (k.note n (m.state x) c (m.answer x c) (m.state (m.next x c))) (m.next x c) cs r.1 d.1)
