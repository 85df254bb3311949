-- Facts of the definitions: a server beside the leader so far, and the leader of a list going over it place by place. Assumes nothing.
use Rattle.std.specs.Prelude.{◌≡◌, refl, Bool, true, false, ◌&&◌, List, [], ◌∷◌, ℕ, ◌+◌, ◌≤◌, ◌<◌, length, drop, get_or, Option, None, Some}
use Rattle.std.proofs.Common.{add-one, drop_of_length-le, drop-cons}
use Rattle.protocol.specs.Numbers.{leads}
use Rattle.leader.specs.declared.Reported.{Reported}
use Rattle.leader.specs.declared.Leading.{Leading}
use Rattle.leader.specs.Leader.{not_below, better, leader_from, leader}

pub better_yes : (best : Option Leading) (r : Reported) (a b : Bool) → a ≡ leads r.status.role → b ≡ not_below best r → (a && b) ≡ true
    → Some (record { id = r.id; term = r.status.term }) ≡ better best r
unfolding better
better_yes best r a b l n t = rw (← l, ← n, t)

pub better_no : (best : Option Leading) (r : Reported) (a b : Bool) → a ≡ leads r.status.role → b ≡ not_below best r → (a && b) ≡ false
    → best ≡ better best r
unfolding better
better_no best r a b l n t = rw (← l, ← n, t)

pub leading_start : (rs : List Reported) → leader_from None rs ≡ leader rs
unfolding leader
leading_start rs = refl

pub leading_turn : (rs : List Reported) (best next : Option Leading) (i : ℕ) (d : Reported) → i < length rs
    → next ≡ better best (get_or rs i d) → leader_from best (drop i rs) ≡ leader rs → leader_from next (drop (i + 1) rs) ≡ leader rs
unfolding leader_from
leading_turn rs best next i d h e f =
    let g : leader_from best (get_or rs i d ∷ drop (i + 1) rs) ≡ leader rs = rw (add-one, ← drop-cons rs i d h) f in
    rw e g

pub leading_end : (rs : List Reported) (best : Option Leading) (i : ℕ) → length rs ≤ i → leader_from best (drop i rs) ≡ leader rs
    → best ≡ leader rs
unfolding leader_from
leading_end rs best i h e = let none : drop i rs ≡ [] = drop_of_length-le rs h in rw none at e
