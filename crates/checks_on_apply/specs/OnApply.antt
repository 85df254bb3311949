-- A server applied a payload (on_apply): what the question answers, over the region of applied payloads. Assumes nothing.
use Rattle.std.specs.Prelude.{◌≡◌, List, [], ◌∷◌, ℕ, length}
use Rattle.units.specs.Types.{Payload}
use Rattle.units.specs.declared.NodeId.{NodeId}
use Rattle.units.specs.declared.LogIndex.{LogIndex}
use Rattle.units.specs.declared.SimTime.{SimTime}
use Rattle.layout.specs.Tables.{Holds, Held}
use Rattle.layout.specs.Payload.{payload}
use Rattle.layout.specs.Applied.{applied as payloads}
use Rattle.checks.specs.declared.Check.TheVariants.{ApplyOrder, StateMachineSafety}
use Rattle.checks.specs.Checks.{Checker, report_if, on_apply}
use Rattle.checks.specs.Asked.{where_fits, append_if}
use Rattle.checks_on_apply.specs.declared.ApplyAsked.{ApplyAsked}

-- What is asked: the region of applied payloads of up to `longest` bytes with their count and how many have room, the total of violations,
-- the index with the one that was expected, and the words of the payload.
pub record ApplyGiven : Type 0 where
  pub applied : List ℕ
  pub count : ℕ
  pub room : ℕ
  pub longest : ℕ
  pub total : ℕ
  pub index : LogIndex
  pub expected : ℕ
  pub content : List ℕ

-- The flags of an answer, acted on in the order of the definition.
abbrev pub apply_acts : ApplyAsked → LogIndex → ℕ → Checker → SimTime → NodeId → Payload → Checker
apply_acts r index expected c time server x =
    append_if r.next x
    (report_if r.other (report_if r.late c time ApplyOrder (server.0 ∷ index.0 ∷ expected ∷ [])) time StateMachineSafety
    (server.0 ∷ index.0 ∷ []))

-- The answer for given checks: question 10 is answered of what the unlimited definition gives, and the flags say what that does, also where
-- it has no room.
pub record ApplyAnswered (g : ApplyGiven) (r : ApplyAsked) (c : Checker) (time : SimTime) (server : NodeId) (x : Payload) : Type 0 where
  pub room : r.room
      ≡ where_fits (length (on_apply c time server g.index x g.expected).applied) g.room
      (on_apply c time server g.index x g.expected).total tt
  pub does : on_apply c time server g.index x g.expected ≡ apply_acts r g.index g.expected c time server x

-- The same whatever the checks are whose payloads and total are given, and whatever payload the lent words hold.
pub record AsksApply (g : ApplyGiven) (r : ApplyAsked) : Type 0 where
  pub to : (N : ℕ) (c : Checker) (time : SimTime) (server : NodeId) (x : Payload) → Holds (payload g.longest) g.content x
      → Held (payloads g.longest) N g.count g.applied c.applied → c.total ≡ g.total → ApplyAnswered g r c time server x
