-- Facts of the definitions: questions that are put in order, a test `!f(x)` that was taken and one that was left, and the longest area.
-- Assumes nothing.
use Rattle.std.specs.Prelude.{◌≡◌, refl, Bool, true, false, not, List, [], ◌∷◌, ℕ, ◌≤◌}
use Rattle.std.proofs.Common.{sym, ◌∙◌}
use Rattle.std.proofs.lemmas.Bool.{not-true, not-false}
use Rattle.config.specs.declared.Limits.{Limits}
use Rattle.config.specs.Limits.{area_length, InLimits}
use Rattle.config.specs.Questions.{first_no}
use Rattle.config.specs.Laws.{area_most}

module _ {A : Type 0} (accepted : A) where
  pub none_left : accepted ≡ first_no accepted []
  unfolding first_no
  none_left = refl

  pub question_yes : (r : A) (b : Bool) (n : A) (qs : List (Bool × A)) → b ≡ true → r ≡ first_no accepted qs
      → r ≡ first_no accepted ((b, n) ∷ qs)
  unfolding first_no
  question_yes r b n qs h e = rw h e

  pub question_no : (b : Bool) (n : A) (qs : List (Bool × A)) → b ≡ false → n ≡ first_no accepted ((b, n) ∷ qs)
  unfolding first_no
  question_no b n qs h = rw h

pub answered_no : (r b : Bool) → r ≡ b → not r ≡ true → b ≡ false
answered_no r b e h = sym e ∙ not-true r h

pub answered_yes : (r b : Bool) → r ≡ b → not r ≡ false → b ≡ true
answered_yes r b e h = sym e ∙ not-false r h

pub ruleset questions = (none_left, question_yes, question_no, answered_no, answered_yes)

pub area_bound : (S C : ℕ) (l : Limits) (n : ℕ) → InLimits S C l → n ≡ area_length S C l → n ≤ 480931840
area_bound S C l n i e = rw e (area_most S C l i)
