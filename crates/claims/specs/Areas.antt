-- The machine whose calls are made on an area's bytes. All that it needs of the layout is that the state of a content is found in it again. Assumes nothing.
use Rattle.std.specs.Prelude.{◌≡◌, refl, Bool, true, false, List, [], ◌∷◌, ◌++◌, ℕ, eqb, ltb, length, drop}
use Rattle.std.proofs.Common.{sym, ap, subst, ◌∙◌, eq-eqb}
use Rattle.laws.specs.Bools.{pick, cases}
use Rattle.laws.specs.Decides.{false_true}
use Rattle.config.specs.declared.SimConfig.{SimConfig}
use Rattle.config.specs.declared.Limits.{Limits}
use Rattle.model.specs.State.{State}
use Rattle.model.specs.Calls.{Out, refused, done}
use Rattle.model.specs.Calls as model
use Rattle.model.specs.Fits.{state_fits}
use Rattle.model.specs.Outcome.{Call, start, step, propose, fire_timer, confirm_leadership, schedule, write, seal, output, end, check_log_matching, check_durability, read, ReadCall, Answer, no, opened, given, outcome}
use Rattle.state.specs.Sizes.{bytes_of}
use Rattle.state.specs.Area.{Area, capacity_of}
use Rattle.state.specs.Decode.{gate, decode}
use Rattle.state.specs.Encode.{encode}
use Rattle.state.specs.EncodeLaws.{area_gate, area_decode}
use Rattle.state.specs.Exists.{fits_area}
use Rattle.state.specs.Fitting.{area_fits}
use Rattle.state.specs.Call.{finish, call, answered, reading, starting}
use Rattle.claims.specs.Claim.{accepted, Does, refuses, gives, Machine}
use Rattle.claims.specs.OnArea.{on_area, same}
use Rattle.claims.specs.States.{read_same}

-- The bytes hold the state that is decoded from them.
abbrev pub Laid : List ℕ → Type 0
Laid b = Area b (decode b)

-- what a call does to bytes that hold a state, and that they hold one after it
abbrev Lifts : List ℕ → Call → Answer × List ℕ → Type 0
Lifts b c x = Does state_fits (decode b) c x.0 (decode x.1) × Laid x.1

-- a state that fits lies in its content
laid_content : (s : State) (r : List ℕ) → state_fits s ≡ true → (decode (encode s ++ r) ≡ s) × Laid (encode s ++ r)
laid_content s r f =
    let e : decode (encode s ++ r) ≡ s = area_decode (fits_area s f r) in
    (e, subst (λ (t : State). Area (encode s ++ r) t) (sym e) (fits_area s f r))

module _ (b : List ℕ) (c : Call) (h : Laid b) where
  refused_lifts : (number : ℕ) → Lifts b c (no number, b)
  refused_lifts number = (refuses number, h)

  finish_lifts : (o : Out Answer) → outcome c (decode b) ≡ o → Lifts b c (finish no same b o)
  unfolding finish
  finish_lifts (refused number) e = refused_lifts number
  finish_lifts (done a t) e =
      cases (state_fits t)
      (λ f.
      let l = laid_content t (drop (bytes_of (capacity_of t)) b) f in
      rw f (subst (λ (u : State). Does state_fits (decode b) c a u) (sym l.0) (gives e f), l.1))
      (λ f. rw f (refused_lifts 10))

  call_lifts : Lifts b c (call no same b (outcome c))
  unfolding call
  call_lifts = rw (eq-eqb (gate b) 0 (area_gate h)) (finish_lifts (outcome c (decode b)) refl)

-- a read leaves the bytes
read_lifts : (b : List ℕ) (r : ReadCall) → Laid b → Lifts b (read r) (reading no same b (outcome (read r)), b)
unfolding reading
read_lifts b r h = rw (eq-eqb (gate b) 0 (area_gate h)) (by (outcome (read r) (decode b)) refl)
  where
    by : (o : Out Answer) → outcome (read r) (decode b) ≡ o → Lifts b (read r) (answered no same o, b)
    by (refused number) e = refused_lifts b (read r) h number
    by (done a t) e = (subst (λ (u : State). Does state_fits (decode b) (read r) a u) (read_same r (decode b) t a e) (gives e (ap state_fits (read_same r (decode b) t a e) ∙ area_fits h)), h)

-- a start on bytes that hold a state
start_lifts : (b : List ℕ) (config : SimConfig) (limits : Limits) (seed : ℕ) → Laid b
    → Lifts b (start config limits seed) (starting no same b (given opened (model.start config limits seed)))
unfolding starting outcome
start_lifts b config limits seed h = by (given opened (model.start config limits seed)) refl
  where
    by : (o : Out Answer) → given opened (model.start config limits seed) ≡ o → Lifts b (start config limits seed) (starting no same b o)
    by (refused number) e = refused_lifts b (start config limits seed) h number
    by (done a t) e =
        cases (ltb (length b) (bytes_of (capacity_of t)))
        (λ l. rw l (refused_lifts b (start config limits seed) h 4))
        (λ l. rw l (finish_lifts b (start config limits seed) h (done a t) e))

start_begins : (b : List ℕ) (config : SimConfig) (limits : Limits) (seed : ℕ) → (let x = starting no same b (given opened (model.start config limits seed)) in
    accepted x.0 ≡ true → (outcome (start config limits seed) (decode b) ≡ done x.0 (decode x.1)) × Laid x.1)
unfolding starting finish outcome
start_begins b config limits seed = by (given opened (model.start config limits seed)) refl
  where
    by : (o : Out Answer) → given opened (model.start config limits seed) ≡ o → accepted (starting no same b o).0 ≡ true
        → (o ≡ done (starting no same b o).0 (decode (starting no same b o).1)) × Laid (starting no same b o).1
    by (refused number) e k = absurd (false_true k)
    by (done a t) e k =
        cases (ltb (length b) (bytes_of (capacity_of t)))
        (λ l. absurd (false_true (rw l at k)))
        (λ l. cases (state_fits t)
        (λ f. let c = laid_content t (drop (bytes_of (capacity_of t)) b) f in rw (l, f) (ap (done a) (sym c.0), c.1))
        (λ f. absurd (false_true (rw (l, f) at k))))

-- a call on bytes that hold a state
pub lifts : (b : List ℕ) (c : Call) → Laid b → Lifts b c (on_area b c)
unfolding on_area
lifts b (start config limits seed) h = start_lifts b config limits seed h
lifts b (step deadline buffer) h = call_lifts b (step deadline buffer) h
lifts b (propose server) h = call_lifts b (propose server) h
lifts b (fire_timer server timer) h = call_lifts b (fire_timer server timer) h
lifts b (confirm_leadership server request) h = call_lifts b (confirm_leadership server request) h
lifts b (schedule time kind first second groups) h = call_lifts b (schedule time kind first second groups) h
lifts b (write w) h = call_lifts b (write w) h
lifts b (seal refusal present leader) h = call_lifts b (seal refusal present leader) h
lifts b (output o) h = call_lifts b (output o) h
lifts b (end role term present leader commit) h = call_lifts b (end role term present leader commit) h
lifts b check_log_matching h = call_lifts b check_log_matching h
lifts b check_durability h = call_lifts b check_durability h
lifts b (read r) h = read_lifts b r h

-- an accepted start on any bytes
pub begins : (b : List ℕ) (config : SimConfig) (limits : Limits) (seed : ℕ) → accepted (on_area b (start config limits seed)).0 ≡ true
    → (outcome (start config limits seed) (decode b) ≡ done (on_area b (start config limits seed)).0 (decode (on_area b (start config limits seed)).1))
    × Laid (on_area b (start config limits seed)).1
unfolding on_area
begins b config limits seed h = start_begins b config limits seed h

-- The calls on an area's bytes, with the layout's own test for question 10.
abbrev pub areas : Machine state_fits
areas = record {
  On = List ℕ;
  state = decode;
  answer = λ b c. (on_area b c).0;
  next = λ b c. (on_area b c).1;
  Sound = Laid;
  fit = λ b h. area_fits h;
  does = lifts;
  starts = begins;
}
