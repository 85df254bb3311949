-- Equal payloads. Assumes nothing.
use Rattle.std.specs.Prelude.{◌≡◌, refl, true}
use Rattle.std.proofs.Common.{ap}
use Rattle.laws.specs.Decides.{false_true}
use Rattle.laws.proofs.ListLaws.{list_itself, list_equal}
use Rattle.units.specs.Types.{Payload, noop, command, same_payload}

pub payload_itself : (x : Payload) → same_payload x x ≡ true
unfolding same_payload
payload_itself noop = refl
payload_itself (command a) = list_itself a

pub payload_equal : (x y : Payload) → same_payload x y ≡ true → x ≡ y
unfolding same_payload
payload_equal noop noop h = refl
payload_equal noop (command b) h = absurd (false_true h)
payload_equal (command a) noop h = absurd (false_true h)
payload_equal (command a) (command b) h = ap command (list_equal a b h)
