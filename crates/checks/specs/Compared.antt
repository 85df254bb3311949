-- What is seen, against the first of its key (Compared of lib.rt). Assumes nothing.
use Rattle.std.specs.Prelude.{Bool, true, false, ℕ}
use Rattle.units.specs.declared.NodeId.{NodeId}
use Rattle.checks.specs.declared.Compared.{Compared}
use Rattle.checks.specs.declared.Compared.TheVariants.{Same, Other, New}

-- Whether another was seen first.
abbrev pub is_other : {T : Type 0} → Compared T → Bool
is_other Same = false
is_other (Other first) = true
is_other New = false

-- Whether none was seen.
abbrev pub is_new : {T : Type 0} → Compared T → Bool
is_new Same = false
is_new (Other first) = false
is_new New = true

-- The server seen first, where it is another, or 0.
abbrev pub first_of : Compared NodeId → ℕ
first_of Same = 0
first_of (Other first) = first.0
first_of New = 0
