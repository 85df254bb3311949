-- What the proofs of config's functions cite. Assumes nothing.
use Rattle.std.specs.Prelude.{◌≡◌, Bool, not, ◌||◌, List, ◌∷◌, ℕ, ◌+◌, ◌*◌, ◌≤◌, ltb, leb, eqb, Result, Ok, Err}
use Rattle.std.proofs.Math.Path.{refl}
use Rattle.std.proofs.Common.{sym, ap, ◌∙◌, mul-le-mul_right, mul-le-mul, arith, lt-ltb, le-ltb, le-leb, leb-true, leb-false, eqb-true, Fits}
use Rattle.std.proofs.Math.Bool.{true, false}
use Rattle.std.proofs.lemmas.Bool.{lt-leb, eqb-false, not-true, not-false}
use Rattle.laws.specs.Bools.{◌and◌, no_and, and_left, and_assoc, and_true}
use Rattle.laws.proofs.BoolLaws.{and_both, and_no, and_right, code_and}
use Rattle.config.specs.declared.Config.{Config}
use Rattle.config.specs.declared.SimConfig.{SimConfig}
use Rattle.config.specs.declared.Limits.{Limits}
use Rattle.config.specs.declared.ConfigError.{ConfigError}
use Rattle.units.specs.declared.refusal.Refusal.{Refusal}
use Rattle.units.specs.declared.refusal.Refusal.TheVariants.{Servers, Consensus, Settings}
use Rattle.config.specs.Config.{validate, accepts}
use Rattle.config.specs.Limits.{within, servers_fit, limits_fit, counts_fit, settings_fit, judge, area_length, InLimits}
use Rattle.config.specs.Questions.{first_no}

-- questions that are put in order
module _ {A : Type 0} (accepted : A) where
  -- where all is accepted, each question was answered yes
  pub was_yes : (b : Bool) (n : A) (qs : List (Bool × A)) → (n ≡ accepted → ⊥) → first_no accepted ((b, n) ∷ qs) ≡ accepted → b ≡ true
  unfolding first_no
  was_yes true n qs h e = refl
  was_yes false n qs h e = absurd (h e)

  pub rest_yes : (b : Bool) (n : A) (qs : List (Bool × A)) → (n ≡ accepted → ⊥) → first_no accepted ((b, n) ∷ qs) ≡ accepted → first_no accepted qs ≡ accepted
  unfolding first_no
  rest_yes true n qs h e = e
  rest_yes false n qs h e = absurd (h e)

-- the code's tests against 0
pub zero_positive : (n : ℕ) → n ≡ 0 → ltb 0 n ≡ false
zero_positive n h = le-ltb 0 n (omega arith)

pub not_zero_positive : (n : ℕ) → (n ≡ 0 → ⊥) → ltb 0 n ≡ true
not_zero_positive n h = lt-ltb 0 n (omega arith)

-- a positive number below m is neither 0 nor m or more
range : (n m : ℕ) → (ltb 0 n and ltb n m) ≡ not (eqb n 0 || leb m n)
range n m = by (eqb n 0) refl (leb m n) refl
  where
    by : (z : Bool) → eqb n 0 ≡ z → (o : Bool) → leb m n ≡ o → (ltb 0 n and ltb n m) ≡ not (z || o)
    by true p o q = no_and _ _ (zero_positive n (eqb-true n 0 p))
    by false p true q = and_no _ _ (le-ltb n m (leb-true m n q))
    by false p false q = and_both _ _ (not_zero_positive n (eqb-false n 0 p)) (lt-ltb n m (leb-false m n q))

pub out_of_range : (n m : ℕ) → (eqb n 0 || leb m n) ≡ true → (ltb 0 n and ltb n m) ≡ false
out_of_range n m h = range n m ∙ ap not h

pub in_range_lem : (n m : ℕ) → (eqb n 0 || leb m n) ≡ false → (ltb 0 n and ltb n m) ≡ true
in_range_lem n m h = range n m ∙ ap not h

pub ruleset tests = (zero_positive, not_zero_positive, out_of_range, in_range_lem, lt-ltb, le-ltb, le-leb, lt-leb)

-- the code's `&` of answers against `allb` of a list
pub and_cong : (a b c d : Bool) → a ≡ b → c ≡ d → (a and c) ≡ (b and d)
and_cong a b c d p q = rw (p, q)

pub ruleset conjunction = (code_and, and_assoc, and_true, and_cong)

-- question 2's answer, as the code branches on it
pub accepted : (c : Config) (u : Unit {0}) → Ok u ≡ validate c → accepts c ≡ true
unfolding accepts
accepted c u e = rw (← e)

pub refused : (c : Config) (why : ConfigError) → Err why ≡ validate c → accepts c ≡ false
unfolding accepts
refused c why e = rw (← e)

-- the longest area
most : (a b m n : ℕ) → a ≤ m → b ≤ n → a * b ≤ m * n
most a b m n h k = mul-le-mul h k

pub area_most : (S C : ℕ) (l : Limits) → InLimits S C l → area_length S C l ≤ 480931840
unfolding area_length
area_most S C l i =
    let a = most (2 * l.log_indexes) (l.payload + 24) 2048 280 (omega arith) (omega arith) in
    let b = most l.writes (l.payload + 32) 65536 288 (omega arith) (omega arith) in
    let s = most S (512 + 2 * l.log_indexes * (l.payload + 24) + l.writes * (l.payload + 32) + 16 * l.history) 8 20496896 (omega arith) (omega arith) in
    let q = most l.events (l.message + 64) 65536 4160 (omega arith) (omega arith) in
    let h = most l.history (2 * l.payload + 160) 65536 672 (omega arith) (omega arith) in
    let g = most l.log_indexes (l.payload + 16) 1024 272 (omega arith) (omega arith) in
    omega arith

-- the same as the code adds it up
pub area_sum : (S C : ℕ) (l : Limits) → InLimits S C l
    → 4096 + S * (512 + 2 * l.log_indexes * (l.payload + 24) + l.writes * (l.payload + 32) + 16 * l.history) + l.events * (l.message + 64)
    + l.history * (2 * l.payload + 160) + l.log_indexes * (l.payload + 16) + 64 * C ≤ 480931840
unfolding area_length
area_sum = area_most

-- settings that are accepted are within the limits
low : (a b n : ℕ) → within a b n ≡ true → a ≤ n
unfolding within
low a b n h = leb-true a n (and_left _ _ h)

high : (a b n : ℕ) → within a b n ≡ true → n ≤ b
unfolding within
high a b n h = leb-true n b (and_right _ _ h)

-- a refusal is no acceptance
apart : {why : Refusal} → ◌≡◌ {A = Result (Unit {0}) Refusal} (Err why) (Ok tt) → ⊥
apart e = cc

-- each question answered yes
pub record AllYes (c : SimConfig) (l : Limits) : Type 0 where
  pub servers : servers_fit c.servers ≡ true
  pub consensus : accepts c.consensus ≡ true
  pub settings : settings_fit c l ≡ true

-- settings that are accepted have a yes to each question
pub all_yes : (c : SimConfig) (l : Limits) (r : Result (Unit {0}) Refusal) → r ≡ judge c l → r ≡ Ok tt → AllYes c l
unfolding judge
all_yes c l r e a =
    let q₁ = sym e ∙ a in
    let q₂ = rest_yes (Ok tt) _ (Err Servers) _ apart q₁ in
    let q₃ = rest_yes (Ok tt) _ (Err Consensus) _ apart q₂ in
    record {
      servers = was_yes (Ok tt) _ (Err Servers) _ apart q₁;
      consensus = was_yes (Ok tt) _ (Err Consensus) _ apart q₂;
      settings = was_yes (Ok tt) _ (Err Settings) _ apart q₃;
    }

-- and counts that fit
pub counts_yes : (c : SimConfig) (l : Limits) (r : Result (Unit {0}) Refusal) → r ≡ judge c l → r ≡ Ok tt → counts_fit c.servers c.clients l ≡ true
unfolding settings_fit counts_fit
counts_yes c l r e a =
    let y = all_yes c l r e a in
    and_both _ _ y.servers (and_both _ _ (and_left _ _ y.settings) (and_left _ _ (and_right _ _ y.settings)))

-- counts that fit are within the limits, one by one
pub counts_limits : (S C : ℕ) (l : Limits) → counts_fit S C l ≡ true → InLimits S C l
unfolding servers_fit limits_fit counts_fit
counts_limits S C l h =
    let t₁ = and_right _ _ (and_right _ _ h) in
    let t₂ = and_right _ _ t₁ in
    let t₃ = and_right _ _ t₂ in
    let t₄ = and_right _ _ t₃ in
    let t₅ = and_right _ _ t₄ in
    let t₆ = and_right _ _ t₅ in
    record {
      servers_low = low _ _ _ (and_left _ _ h);
      servers = high _ _ _ (and_left _ _ h);
      clients = high _ _ _ (and_left _ _ (and_right _ _ h));
      log_indexes_low = low _ _ _ (and_left _ _ t₁);
      log_indexes = high _ _ _ (and_left _ _ t₁);
      payload_low = low _ _ _ (and_left _ _ t₂);
      payload = high _ _ _ (and_left _ _ t₂);
      message = high _ _ _ (and_left _ _ t₃);
      events_low = low _ _ _ (and_left _ _ t₄);
      events = high _ _ _ (and_left _ _ t₄);
      writes_low = low _ _ _ (and_left _ _ t₅);
      writes = high _ _ _ (and_left _ _ t₅);
      history_low = low _ _ _ (and_left _ _ t₆);
      history = high _ _ _ (and_left _ _ t₆);
    }

pub within_is : (a b n : ℕ) → a ≤ n → n ≤ b → within a b n ≡ true
unfolding within
within_is a b n h k = and_both _ _ (le-leb a n h) (le-leb n b k)

pub limits_counts : (S C : ℕ) (l : Limits) → InLimits S C l → counts_fit S C l ≡ true
unfolding servers_fit limits_fit counts_fit
limits_counts S C l i =
    and_both _ _ (within_is 1 8 S i.servers_low i.servers) (and_both _ _ (within_is 0 64 C (omega arith) i.clients)
    (and_both _ _ (within_is 1 1024 _ i.log_indexes_low i.log_indexes) (and_both _ _ (within_is 12 256 _ i.payload_low
    i.payload)
    (and_both _ _ (within_is 0 4096 l.message (omega arith) i.message) (and_both _ _ (within_is 1 65536 _ i.events_low i.events)
    (and_both _ _ (within_is 1 65536 _ i.writes_low i.writes) (and_both _ _ (within_is 1 65536 _ i.history_low
    i.history) refl)))))))

-- so settings that are accepted are within the limits
pub in_limits : (c : SimConfig) (l : Limits) (r : Result (Unit {0}) Refusal) → r ≡ judge c l → r ≡ Ok tt → InLimits c.servers c.clients l
in_limits c l r e a = counts_limits c.servers c.clients l (counts_yes c l r e a)
