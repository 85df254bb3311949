-- What chaos_schedule answers and leaves, from the definition of a random fault schedule. Assumes nothing.
use Rattle.std.specs.Prelude.{◌≡◌, List, [], ◌∷◌, ◌++◌, ℕ, ◌*◌, length, drop, Result, Ok, Err}
use Rattle.rng.specs.declared.Rng.{Rng}
use Rattle.faults.specs.Fault.{fault_kind, fault_first, fault_second}
use Rattle.faults_chaos.specs.declared.Timed.{Timed}
use Rattle.units.specs.declared.refusal.Refusal.{Refusal}
use Rattle.faults_chaos.specs.declared.Draws.{Draws}
use Rattle.faults_chaos.specs.Schedule.{Chaos}
use Rattle.words.specs.Words.{bytes}
use Rattle.layout.specs.Code.{flat}
use Rattle.faults_schedule.specs.declared.Made.{Made}

-- The words of an entry: its time, its kind and its two numbers.
unfoldable pub entry_words : Timed → List ℕ
entry_words t = t.time.0 ∷ fault_kind t.fault ∷ fault_first t.fault ∷ fault_second t.fault ∷ []

-- The bytes of entries side by side, 32 each.
unfoldable pub entry_bytes : List Timed → List ℕ
entry_bytes x = bytes (flat entry_words x)

-- The answer: a refusal, or how many entries there are and how many draws were made.
unfoldable pub answer_of : Chaos → Result Made Refusal
answer_of (Err refusal) = Err refusal
answer_of (Ok schedule) = Ok (record { count = length schedule.result; draws = schedule.draws })

-- The list after: the entries, then the bytes that lay behind their places; refused, it is as it was.
unfoldable pub list_after : Chaos → List ℕ → List ℕ
list_after (Err refusal) b = b
list_after (Ok schedule) b = entry_bytes schedule.result ++ drop (32 * length schedule.result) b

-- The generator after; refused, it is as it was.
unfoldable pub generator_after : Chaos → Rng → Rng
generator_after (Err refusal) g = g
generator_after (Ok schedule) g = schedule.next

-- The schedule c was answered with r, and has left the list b' of b and the generator g' of g.
pub record Schedules (c : Chaos) (r : Result Made Refusal) (b b' : List ℕ) (g g' : Rng) : Type 0 where
  pub answer : r ≡ answer_of c
  pub list : b' ≡ list_after c b
  pub generator : g' ≡ generator_after c g

-- The schedule c is not refused.
pub record Accepted (c : Chaos) : Type 0 where
  pub schedule : Draws (List Timed)
  pub is : c ≡ Ok schedule
