-- What the proofs of leader's functions cite: a choice going over a list is a fold. Assumes nothing.
use Rattle.std.specs.Prelude.{◌≡◌, refl, List, [], ◌∷◌, ℕ, Option}
use Rattle.std.specs.List.{fold, zip}
use Rattle.leader.specs.declared.Reported.{Reported}
use Rattle.leader.specs.Leader.{better, leader_from, reported_of, zip_reported}
use Rattle.leader.specs.declared.Leading.{Leading}

-- server by server
pub fold_better : (best : Option Leading) (rs : List Reported) → fold better best rs ≡ leader_from best rs
unfolding leader_from
fold_better best [] = refl
fold_better best (r ∷ rs) = fold_better (better best r) rs

-- by three lists, place by place
abbrev pub better_numbered : Option Leading → (ℕ × ℕ) × ℕ → Option Leading
better_numbered best p = better best (reported_of p.0.0 p.0.1 p.1)

pub fold_numbered : (best : Option Leading) (ids roles terms : List ℕ)
    → fold better_numbered best (zip (zip ids roles) terms) ≡ leader_from best (zip_reported ids roles terms)
unfolding leader_from zip_reported
fold_numbered best [] roles terms = refl
fold_numbered best (id ∷ ids) [] terms = refl
fold_numbered best (id ∷ ids) (role ∷ roles) [] = refl
fold_numbered best (id ∷ ids) (role ∷ roles) (term ∷ terms) = fold_numbered (better best (reported_of id role term)) ids roles terms
