-- What the choice of a leader gives: none just where no server leads; else a server that leads, with the highest term, and the last of that term. Assumes nothing.
use Rattle.std.specs.Prelude.{◌≡◌, refl, Bool, true, false, ◌&&◌, List, [], ◌∷◌, ◌++◌, ℕ, ◌≤◌, ◌<◌, leb, Option, None, Some}
use Rattle.std.proofs.Common.{sym, ap, ◌∙◌, arith, leb-true, leb-false}
use Rattle.laws.specs.Bools.{pick}
use Rattle.laws.specs.Decides.{false_true}
use Rattle.units.specs.declared.NodeId.{NodeId}
use Rattle.units.specs.declared.Term.{Term}
use Rattle.protocol.specs.Numbers.{leads}
use Rattle.leader.specs.declared.Reported.{Reported}
use Rattle.leader.specs.Leader.{not_below, better, leader_from, leader}
use Rattle.leader.specs.declared.Leading.{Leading}

-- A server leads.
abbrev pub Leads : Reported → Type 0
Leads r = leads r.status.role ≡ true

-- Each server of a list that leads has a term with a property.
abbrev pub EachLeader : (ℕ → Type 0) → List Reported → Type 0
EachLeader P [] = Unit {0}
EachLeader P (r ∷ rs) = (Leads r → P r.status.term.0) × EachLeader P rs

-- The server `it` of a list is chosen: it leads, none that leads has a higher term, and each that leads after it has a lower one.
pub record Chosen (rs : List Reported) (id : NodeId) (term : Term) : Type 0 where
  pub before : List Reported
  pub it : Reported
  pub after : List Reported
  pub split : rs ≡ before ++ it ∷ after
  pub leading : Leads it
  pub its_id : it.id ≡ id
  pub its_term : it.status.term ≡ term
  pub highest : EachLeader (λ n. n ≤ term.0) rs
  pub last : EachLeader (λ n. n < term.0) after

-- What a list's leader is: none where no server leads, else the one chosen.
abbrev pub IsLeader : List Reported → Option Leading → Type 0
IsLeader rs None = EachLeader (λ _. ⊥) rs
IsLeader rs (Some l) = Chosen rs l.id l.term

-- ---- one server, with the leader so far

-- The leader so far, if there is one, has at most a term.
abbrev UpTo : ℕ → Option Leading → Type 0
UpTo n None = Unit {0}
UpTo n (Some l) = l.term.0 ≤ n

-- A term is too low to take the place of the leader so far; none is where there is no leader.
abbrev Under : Option Leading → ℕ → Type 0
Under None n = ⊥
Under (Some l) n = n < l.term.0

-- What a server makes of the leader so far: it stays, or the server takes its place.
data Turn (best : Option Leading) (r : Reported) : Option Leading → Type 0 where
  stays : (Leads r → Under best r.status.term.0) → Turn best r best
  takes : Leads r → UpTo r.status.term.0 best → Turn best r (Some (record { id = r.id; term = r.status.term }))

turn : (best : Option Leading) (r : Reported) → Turn best r (better best r)
unfolding better
turn best r = by best (leads r.status.role) refl
  where
    by : (best : Option Leading) (l : Bool) → leads r.status.role ≡ l → Turn best r (pick (l && not_below best r) (Some (record { id = r.id; term = r.status.term })) best)
    by best false e = stays (λ t. absurd (false_true (sym e ∙ t)))
    by None true e = takes e tt
    by (Some l) true e = of (leb l.term.0 r.status.term.0) refl
      where
        of : (b : Bool) → leb l.term.0 r.status.term.0 ≡ b → Turn (Some l) r (pick b (Some (record { id = r.id; term = r.status.term })) (Some l))
        of true t = takes e (leb-true l.term.0 r.status.term.0 t)
        of false t = stays (λ _. leb-false l.term.0 r.status.term.0 t)

under_up_to : (best : Option Leading) (m n : ℕ) → UpTo n best → Under best m → m ≤ n
under_up_to None m n u v = absurd v
under_up_to (Some l) m n u v = omega arith

up_to_trans : (best : Option Leading) (m n : ℕ) → UpTo m best → m ≤ n → UpTo n best
up_to_trans None m n u h = tt
up_to_trans (Some l) m n u h = omega arith

-- ---- a list of servers, with the leader so far

each_weaker : {P Q : ℕ → Type 0} → ((n : ℕ) → P n → Q n) → (rs : List Reported) → EachLeader P rs → EachLeader Q rs
each_weaker f [] e = tt
each_weaker f (r ∷ rs) e = ((λ l. f r.status.term.0 (e.0 l)), each_weaker f rs e.1)

longer : {r : Reported} {rs : List Reported} {id : NodeId} {term : Term} → (Leads r → r.status.term.0 ≤ term.0) → Chosen rs id term → Chosen (r ∷ rs) id term
longer {r} h c = record {
  before = r ∷ c.before;
  it = c.it;
  after = c.after;
  split = ap (λ (l : List Reported). r ∷ l) c.split;
  leading = c.leading;
  its_id = c.its_id;
  its_term = c.its_term;
  highest = (h, c.highest);
  last = c.last;
}

-- What a list of servers makes of it: the same, or one of the list is chosen.
data Ends (best : Option Leading) (rs : List Reported) : Option Leading → Type 0 where
  same : EachLeader (Under best) rs → Ends best rs best
  other : {id : NodeId} {term : Term} → Chosen rs id term → UpTo term.0 best → Ends best rs (Some (record { id = id; term = term }))

follows : {best next last : Option Leading} {r : Reported} {rs : List Reported} → Turn best r next → Ends next rs last → Ends best (r ∷ rs) last
follows (stays s) (same e) = same (s, e)
follows {best} (stays s) (other c u) = other (longer (λ l. under_up_to best _ _ u (s l)) c) u
follows {r = r} {rs = rs} (takes l u) (same e) =
    other (record { before = []; it = r; after = rs; split = refl; leading = l; its_id = refl; its_term = refl; highest = ((λ _. omega arith), each_weaker (λ n h. omega arith) rs e); last = e }) u
follows {best} (takes l u) (other c v) = other (longer (λ _. v) c) (up_to_trans best _ _ u v)

ends : (best : Option Leading) (rs : List Reported) → Ends best rs (leader_from best rs)
unfolding leader_from
ends best [] = same tt
ends best (r ∷ rs) = follows (turn best r) (ends (better best r) rs)

-- ---- the leader of a list

pub leader_is : (rs : List Reported) → IsLeader rs (leader rs)
unfolding leader
leader_is rs = of (ends None rs)
  where
    of : {l : Option Leading} → Ends None rs l → IsLeader rs l
    of (same e) = e
    of (other c u) = c

kept_none : {r : Reported} {l : Option Leading} → (Leads r → ⊥) → Turn None r l → l ≡ None
kept_none h (stays s) = refl
kept_none h (takes l u) = absurd (h l)

from_none : (rs : List Reported) → EachLeader (λ _. ⊥) rs → leader_from None rs ≡ None
unfolding leader_from
from_none [] e = refl
from_none (r ∷ rs) e = rw (kept_none e.0 (turn None r)) (from_none rs e.1)

-- with no leader in it, none
pub leader_none : (rs : List Reported) → EachLeader (λ _. ⊥) rs → leader rs ≡ None
unfolding leader
leader_none = from_none
