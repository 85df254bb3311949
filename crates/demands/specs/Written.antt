-- The bytes that a call writes to the front of the lent buffer, by its own definition. Assumes nothing.
use Rattle.std.specs.Prelude.{List, [], ℕ}
use Rattle.model.specs.Calls.{Stepped}
use Rattle.answers.specs.Numbers.{input_bytes}

-- A refusal writes none.
abbrev pub no_bytes : ℕ → List ℕ
no_bytes number = []

-- A step writes those of the message that it opened.
abbrev pub stepped_bytes : Stepped → List ℕ
stepped_bytes s = input_bytes s.opening
