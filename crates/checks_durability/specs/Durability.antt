-- Durability asked (check_durability) over the regions of replies and applied payloads. Assumes nothing.
use Rattle.std.specs.Prelude.{◌≡◌, List, ℕ, ◌+◌, ◌^◌, ltb}
use Rattle.laws.specs.Bools.{pick}
use Rattle.units.specs.declared.SimTime.{SimTime}
use Rattle.layout.specs.Tables.{Held}
use Rattle.layout.specs.Applied.{applied}
use Rattle.checks.specs.Checks.{Checker, highest_of, check_durability}
use Rattle.checks_durability.specs.declared.DurabilityAsked.{DurabilityAsked}
use Rattle.checks_durability.specs.declared.replies.Reply.{Reply}
use Rattle.checks_durability.specs.Replies.{Replied}
use Rattle.checks_durability.specs.Acknowledged.{acknowledged_from}
use Rattle.checks_durability.specs.Servers.{servers_from}

-- Document 01's number for a total: 10 where it does not fit 64 bits.
unfoldable pub total_code : ℕ → ℕ
total_code total = pick (ltb total (2 ^ 64)) 0 10

-- What an answer says where the checks c become d: the number for the total, how many violations are reported, and the highest index.
pub record Answers (size : ℕ) (x : List Reply) (r : DurabilityAsked) (c d : Checker) : Type 0 where
  pub code : r.code ≡ total_code d.total
  pub counted : d.total ≡ c.total + r.reports
  pub highest : r.highest ≡ highest_of (acknowledged_from size x)

-- Whatever n replies s holds, and whatever checks have the m payloads that a holds and the total: the answer for durability checked.
pub record AsksDurability (p size n m : ℕ) (up_to : List ℕ) (total : ℕ) (r : DurabilityAsked) (s a : List ℕ) : Type 0 where
  pub to : (N : ℕ) (x : List Reply) (c : Checker) (time : SimTime) → Replied n s x → Held (applied p) N m a c.applied → c.total ≡ total
      → Answers size x r c (check_durability c time (acknowledged_from size x) (servers_from 1 up_to))
