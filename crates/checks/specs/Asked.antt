-- What the checks become where a question answered flags, and what a refusal says: each check asks first, and then acts. Assumes nothing.
use Rattle.std.specs.Prelude.{Bool, [], ◌∷◌, ◌++◌, ℕ, ◌^◌, leb, ltb, Ok, Err}
use Rattle.std.specs.declared.result.Result.{Result}
use Rattle.laws.specs.Bools.{pick, ◌and◌}
use Rattle.units.specs.declared.refusal.Refusal.{Refusal}
use Rattle.units.specs.declared.refusal.Refusal.TheVariants.{Room}
use Rattle.laws.specs.Order.{numbers, pairs, insert_by}
use Rattle.units.specs.Types.{Payload, Entry}
use Rattle.units.specs.declared.LogIndex.{LogIndex}
use Rattle.checks.specs.declared.TermLeader.{TermLeader}
use Rattle.checks.specs.Checks.{Checker, Seen, seen_key, leader_key, with_applied, with_entries, with_leaders}

-- 0 where so many rows have room and the total has 64 bits; else 10 (question 10).
unfoldable pub counts_code : (rows room total : ℕ) → ℕ
counts_code rows room total = pick (leb rows room and ltb total (2 ^ 64)) 0 10

-- An answer where so many rows have room and the total has 64 bits; else question 10 is answered no.
unfoldable pub where_fits : {A : Type 0} → (rows room total : ℕ) → A → Result A Refusal
where_fits rows room total a = pick (leb rows room and ltb total (2 ^ 64)) (Ok a) (Err Room)

-- A payload after the last applied, where a test is true.
abbrev pub append_if : Bool → Payload → Checker → Checker
append_if next x c = pick next (with_applied c (c.applied ++ x ∷ [])) c

-- An entry seen put in by its index and term, where a test is true.
abbrev pub insert_seen_if : Bool → Seen → Checker → Checker
insert_seen_if fresh s c = pick fresh (with_entries c (insert_by pairs seen_key s c.entries)) c

-- A leader put in by its term, where a test is true.
abbrev pub insert_leader_if : Bool → TermLeader → Checker → Checker
insert_leader_if fresh l c = pick fresh (with_leaders c (insert_by numbers leader_key l c.leaders)) c

-- An entry at an index, as it is seen.
abbrev pub seen_of : LogIndex → Entry → Seen
seen_of index e = record { index = index; term = e.term; payload = e.payload }
