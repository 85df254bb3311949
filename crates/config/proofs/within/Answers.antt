use Rattle.std.proofs.Common.{◌≡◌, ◌∙◌, ap₂, Bool, ◌&&◌, ℕ, leb, arith}
use Rattle.std.proofs.lemmas.Bool.Decides.{nat_tests}
use Rattle.std.specs.Ordering.{is_le, nat_cmp}
use Rattle.laws.proofs.BoolLaws.{code_and}
use Rattle.config.specs.Limits.{within}
use Rattle.config.proofs.within.Goals as goal

is_le-nat_cmp : (a b : ℕ) → is_le (nat_cmp a b) ≡ leb a b
is_le-nat_cmp a b = grind (arith, nat_tests)

pub returns : goal.returns
unfolding within
returns c =
    rw (c.new.ensures.start, c.new.ensures.end, c.new.ensures.exhausted) at c.contains.ensures.value
    ∙ ap₂ (λ (x y : Bool). x && y) (is_le-nat_cmp c.args.low c.args.n) (is_le-nat_cmp c.args.n c.args.high)
    ∙ code_and _ _
