-- The clients of a simulation (simulation.rs), and how they lie in a table: rows of 8 words. Assumes nothing.
use Rattle.std.specs.Prelude.{◌≡◌, refl, Bool, true, List, [], ◌∷◌, ◌++◌, ℕ, ◌<◌, ltb, eqb, get_or, set, Option, None, Some}
use Rattle.std.proofs.Common.{ap}
use Rattle.laws.specs.Bools.{pick, ◌and◌}
use Rattle.laws.specs.Lists.{at}
use Rattle.layout.specs.Code.{Code}
use Rattle.layout.specs.Tables.{Table, Held}
use Rattle.layout.specs.Structs.{Struct, struct, fitting, tells, told}
use Rattle.clients.specs.declared.Numbers.{Numbers}
pub use Rattle.clients.specs.declared.Client.{Client}
pub use Rattle.clients.specs.declared.Outstanding.{Outstanding}

-- ---- a row: target, next sequence, attempt, 1 where a command is outstanding, its sequence, its first sending time, and two zeros

-- 1 where there is something, else 0.
abbrev pub flag_of : {A : Type 0} → Option A → ℕ
flag_of None = 0
flag_of (Some x) = 1

-- A number of what there is, or 0.
abbrev pub number_of : {A : Type 0} → (A → ℕ) → Option A → ℕ
number_of f None = 0
number_of f (Some x) = f x

-- The outstanding command that three numbers tell.
unfoldable pub outstanding_in : ℕ → ℕ → ℕ → Option Outstanding
outstanding_in flag seq sent = pick (eqb flag 0) None (Some (record { seq = seq; first_sent = record { 0 = sent } }))

pub outstanding_back : (o : Option Outstanding)
    → outstanding_in (flag_of o) (number_of (λ x. x.seq) o) (number_of (λ x. x.first_sent.0) o) ≡ o
unfolding outstanding_in
outstanding_back None = refl
outstanding_back (Some x) = refl

-- The words of a client.
abbrev pub client_words : Client → List ℕ
client_words c =
    c.target ∷ c.next_seq ∷ c.attempt ∷ flag_of c.outstanding ∷ number_of (λ x. x.seq) c.outstanding
    ∷ number_of (λ x. x.first_sent.0) c.outstanding ∷ 0 ∷ 0 ∷ []

-- The client of words.
abbrev pub client_in : List ℕ → Client
client_in ws = record {
  target = get_or ws 0 0;
  next_seq = get_or ws 1 0;
  attempt = get_or ws 2 0;
  outstanding = outstanding_in (get_or ws 3 0) (get_or ws 4 0) (get_or ws 5 0);
}

pub client_back : (c : Client) (r : List ℕ) → client_in (client_words c ++ r) ≡ c
client_back c r =
    ap (λ (o : Option Outstanding). record { target = c.target; next_seq = c.next_seq; attempt = c.attempt; outstanding = o })
    (outstanding_back c.outstanding)

module _ (S : ℕ) where
  -- The target is in the cluster.
  abbrev pub in_cluster : Client → Bool
  in_cluster c = ltb c.target S

  pub client_struct : Struct 8 client_words client_in (fitting 8 client_words client_in in_cluster) (tells 8 client_words client_in in_cluster)
  client_struct = told 8 client_words client_in in_cluster (λ c. refl) (λ c r. refl) client_back

  -- The code of a client.
  abbrev pub client_code : Code Client
  client_code = struct 8 client_words client_in (fitting 8 client_words client_in in_cluster)
      (tells 8 client_words client_in in_cluster) client_struct

  -- The clients, side by side.
  abbrev pub clients : Table Client
  clients = record { row = client_code; rule = λ x. true }

-- ---- what the code passes and answers

-- The three words of an outstanding command.
unfoldable pub numbers_of : Option Outstanding → Numbers
numbers_of o = record { flag = flag_of o; seq = number_of (λ x. x.seq) o; sent = number_of (λ x. x.first_sent.0) o }

-- Whether three words are those of an outstanding command, or of none.
unfoldable pub tell_outstanding : ℕ → ℕ → ℕ → Bool
tell_outstanding flag seq sent = pick (eqb flag 0) (eqb seq 0 and eqb sent 0) (eqb flag 1)

-- Whatever n clients b holds, r is the one at place k.
pub record ReadsClient (n k : ℕ) (r : Client) (b : List ℕ) : Type 0 where
  pub to : (S N : ℕ) (x : List Client) → Held (clients S) N n b x → at x k ≡ Some r

-- Whatever n clients b holds, b' holds them with another at place k, whose target is in the cluster.
pub record WritesClient (n k : ℕ) (c : Client) (b b' : List ℕ) : Type 0 where
  pub to : (S N : ℕ) (x : List Client) → c.target < S → Held (clients S) N n b x → Held (clients S) N n b' (set x k c)
