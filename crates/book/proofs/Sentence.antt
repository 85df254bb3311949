-- Demand 3's sentence: whenever a server starts, first or again, it finds what the book says, got by replaying on an empty log, in order, the writes of its finished inputs
-- since the latest fresh start. Assumes nothing.
use Rattle.std.specs.Prelude.{◌≡◌, List, ◌∷◌, ℕ}
use Rattle.std.proofs.Math.Bool.{true}
use Rattle.config.specs.declared.SimConfig.{SimConfig}
use Rattle.config.specs.declared.Limits.{Limits}
use Rattle.model.specs.State.{State}
use Rattle.model.specs.Fits.{state_fits}
use Rattle.model.specs.Outcome.{Call, start, Answer}
use Rattle.claims.specs.Claim.{Proof, Does, refuses, gives, Kept, accepted, claimed}
use Rattle.claims.specs.Areas.{areas}
use Rattle.claims.specs.OnArea.{on_area}
use Rattle.book.specs.Book.{Book, told_of, note}
use Rattle.book.specs.Invariant.{Inv}
use Rattle.book.proofs.Theorem.{goes}
use Rattle.book.specs.Sentence.{finding, no_start, opened_found, begun}

-- what a call does
told : (b : Book) (s t : State) (c : Call) (a : Answer) → Inv b s.phase s → state_fits s ≡ true → Does state_fits s c a t → finding.Right b s c a t × Inv (note b c (told_of a)) t.phase t
unfolding note
told b s t c a i f (refuses number) = ((λ server incarnation seed e. absurd (no_start e)), i)
told b s t c a i f (gives e g) = let x = goes b s i c a t e in (opened_found b t c a x g, x.1)

pub proved : Proof state_fits finding
proved = record { Holds = λ b s. Inv b s.phase s; begins = begun; goes = told }

-- THE SENTENCE, for every list of calls on one area that begins with an accepted start, whatever bytes it held.
pub sentence : (area : List ℕ) (b : Book) (config : SimConfig) (limits : Limits) (seed : ℕ) (cs : List Call)
    → accepted (on_area area (start config limits seed)).0 ≡ true → Kept areas finding b area (start config limits seed ∷ cs)
sentence area b config limits seed cs e = claimed areas finding proved b area config limits seed cs e
