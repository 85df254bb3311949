-- Applied payloads compared index by index (applied.rt), over the table of payloads of `layout`. Assumes nothing.
use Rattle.std.specs.Prelude.{◌≡◌, Bool, true, false, List, [], ◌∷◌, ℕ, zero, suc, ◌+◌, eqb, length, Option, None, Some}
use Rattle.laws.specs.Bools.{pick}
use Rattle.laws.specs.Lists.{at}
use Rattle.units.specs.Types.{Payload, same_payload}
use Rattle.units.specs.declared.NodeId.{NodeId}
use Rattle.units.specs.declared.LogIndex.{LogIndex}
use Rattle.units.specs.declared.SimTime.{SimTime}
use Rattle.layout.specs.Tables.{Holds, Held, Becomes, append}
use Rattle.layout.specs.Payload.{payload}
use Rattle.layout.specs.Applied.{applied}
use Rattle.checks.specs.declared.Check.TheVariants.{StateMachineSafety}
use Rattle.checks.specs.declared.applied.AppliedSeen.{AppliedSeen}
use Rattle.checks.specs.declared.applied.AppliedSeen.TheVariants.{Same, Other, Next, Further}
use Rattle.checks.specs.Checks.{Checker, report_if}
use Rattle.checks.specs.Asked.{append_if}

-- Whether an answer is that another payload was applied there.
abbrev pub is_other : AppliedSeen → Bool
is_other Same = false
is_other Other = true
is_other Next = false
is_other Further = false

-- Whether an answer is that the place is the next free one.
abbrev pub is_next : AppliedSeen → Bool
is_next Same = false
is_next Other = false
is_next Next = true
is_next Further = false

-- A payload against the one at its place, or against the end of the list where there is none.
unfoldable pub place_seen : Option Payload → Bool → Payload → AppliedSeen
place_seen (Some first) next x = pick (same_payload first x) Same Other
place_seen None next x = pick next Next Further

-- A payload against the first applied at its index; index 0 has no place.
unfoldable pub applied_seen : List Payload → ℕ → Payload → AppliedSeen
applied_seen applied zero x = Further
applied_seen applied (suc place) x = place_seen (at applied place) (eqb place (length applied)) x

-- What the checks become by an answer: another payload is reported; at the next free place this one is kept.
abbrev pub applied_after : AppliedSeen → Checker → SimTime → NodeId → ℕ → Payload → Checker
applied_after r c time server index x = append_if (is_next r) x (report_if (is_other r) c time StateMachineSafety (server.0 ∷ index ∷ []))

-- A payload was compared: the answer, whatever n payloads b holds and whatever payload the lent words hold.
pub record AsksApplied (p : ℕ) (index : LogIndex) (content : List ℕ) (n : ℕ) (r : AppliedSeen) (b : List ℕ) : Type 0 where
  pub to : (N : ℕ) (xs : List Payload) (x : Payload) → Holds (payload p) content x → Held (applied p) N n b xs
      → r ≡ applied_seen xs index.0 x

-- A payload was appended, whatever payload the lent words hold.
pub record AppendsApplied (p n : ℕ) (content b b' : List ℕ) : Type 0 where
  pub to : (x : Payload) → Holds (payload p) content x → Becomes (applied p) n (n + 1) b b' (append x)
