-- Question 10 by the clients and by what the run keeps. Assumes nothing.
use Rattle.std.specs.Prelude.{◌≡◌, refl, Bool, true, List, [], ◌∷◌, ◌++◌, ℕ, ◌+◌, ◌≤◌, ◌<◌, eqb, leb, length, get_or, set}
use Rattle.std.proofs.Common.{sym, ap, ap₂, ◌∙◌, arith, length-set, length-append, leb-true, le-leb}
use Rattle.laws.specs.Bools.{◌and◌, allb, and_left, and_true, every}
use Rattle.laws.proofs.BoolLaws.{and_right, and_both, every_append, every_get}
use Rattle.laws.specs.Decides.{false_true, decided}
use Rattle.metrics.specs.Laws.{modify_set}
use Rattle.clients.specs.ClientLaws.{no_client}
use Rattle.checks_durability.specs.declared.replies.Reply.{Reply}
use Rattle.checks_durability.specs.Replies.{replies}
use Rattle.model.specs.State.{State, Client, Confirmation}
use Rattle.model.specs.Fits.{state_fits, state_tests, client_state_fits, confirmation_fits, table_fits, at_most}
use Rattle.state.specs.FitsBy.{allb_one, every_other, fits_one, fits_test}
use Rattle.state_records.specs.Records.{client_set, replied, confirmed}

-- ---- a client

-- the clients with another at a place
pub clients_set : (s : State) (c : ℕ) (v : Client) → (client_set c v s).clients ≡ set s.clients c v
unfolding client_set
clients_set s c v = modify_set (λ (_ : Client). v) v c s.clients

-- a client is another, where there were C clients, each in range
pub fits_client : (s : State) (c : ℕ) (v : Client) → length s.clients ≡ s.config.clients → c < s.config.clients
    → every (client_state_fits s.config s.limits) s.clients ≡ true
    → state_fits (client_set c v s) ≡ (client_state_fits s.config s.limits v and state_fits s)
unfolding state_fits client_set
fits_client s c v n i h =
    let f : Client → Bool = client_state_fits s.config s.limits in
    let j : c < length s.clients = rw n i in
    ap (λ (l : List Client). allb (set (set (state_tests s) 9 (eqb (length l) s.config.clients)) 10 (every f l))) (clients_set s c v)
    ∙ ap₂ (λ (m : ℕ) (t : Bool). allb (set (set (state_tests s) 9 (eqb m s.config.clients)) 10 t)) (length-set s.clients c v)
    (every_other f s.clients c no_client v j (every_get f s.clients c no_client j h) ∙ ap (λ (u : Bool). f v and u) h ∙ and_true _)
    ∙ allb_one (state_tests s) 10 (f v) (omega arith) h

-- ---- one row more

module _ {A : Type 0} (f : A → Bool) (room : ℕ) (xs : List A) (x : A) where
  one_more : length (xs ++ x ∷ []) ≡ length xs + 1
  one_more = length-append xs (x ∷ [])

  -- a list with one element more is within its room where there is room for one more, and the element is in range
  more_before : at_most room f (xs ++ x ∷ []) ≡ true → (leb (length xs + 1) room and f x) and at_most room f xs ≡ true
  more_before h =
      let l : length (xs ++ x ∷ []) ≤ room = leb-true (length (xs ++ x ∷ [])) room (and_left _ _ h) in
      let e = sym (every_append f xs (x ∷ [])) ∙ and_right _ _ h in
      and_both _ _ (and_both _ _ (le-leb (length xs + 1) room (omega (arith, one_more))) (and_left _ _ (and_right _ _ e))) (and_both _ _ (le-leb (length xs) room (omega (arith, one_more))) (and_left _ _ e))

  more_after : at_most room f xs ≡ true → leb (length xs + 1) room and f x ≡ true → at_most room f (xs ++ x ∷ []) ≡ true
  more_after h k =
      and_both _ _ (ap (λ (n : ℕ). leb n room) one_more ∙ and_left _ _ k) (every_append f xs (x ∷ []) ∙ and_both _ _ (and_right _ _ h) (and_both _ _ (and_right _ _ k) refl))

-- a part of a state whose test is t with one row more, and u before: t holds where u does and the row is fine
module _ (s s' : State) (i : ℕ) (k : i < 22) (t u more : Bool) (es : get_or (state_tests s) i true ≡ u) (to : state_tests s' ≡ set (state_tests s) i t) (from : state_tests s ≡ set (state_tests s') i u) (e' : get_or (state_tests s') i true ≡ t)
    (before : t ≡ true → more and u ≡ true) (after : u ≡ true → more ≡ true → t ≡ true) where
  grown : more and state_fits s ≡ true → state_fits s' ≡ true
  grown h =
      let o =
      fits_test s (and_right _ _ h) i in fits_one s s' i t k o to ∙ and_both _ _ (after (sym es ∙ o) (and_left _ _ h)) (and_right _ _ h)

  fits_more : state_fits s' ≡ (more and state_fits s)
  fits_more =
      decided (state_fits s') (more and state_fits s)
      (record {
        yes =
            λ h. let b = before (sym e' ∙ fits_test s' h i) in and_both _ _ (and_left _ _ b) (fits_one s' s i u k (fits_test s' h i) from ∙ and_both _ _ (and_right _ _ b) h);
        no = λ e h. false_true (sym e ∙ grown h);
      })
      (λ h. h) (λ h. h)

-- one reply more, whatever the state
pub fits_replied : (s : State) (r : Reply)
    → state_fits (replied r s) ≡ ((leb (length s.replies + 1) s.limits.history and (replies s.limits.log_indexes s.config.clients).row.good r) and state_fits s)
unfolding replied
fits_replied s r =
    let T = replies s.limits.log_indexes s.config.clients in
    let H : ℕ = s.limits.history in
    fits_more s (replied r s) 14 (omega arith) (table_fits T H (s.replies ++ r ∷ [])) (table_fits T H s.replies) _ refl refl refl refl
    (λ h.
    let b = more_before T.row.good H s.replies r (and_both _ _ (and_left _ _ h) (and_left _ _ (and_right _ _ h))) in
    let o = and_right _ _ b in
    and_both _ _ (and_left _ _ b) (and_both _ _ (and_left _ _ o) (and_both _ _ (and_right _ _ o) refl)))
    (λ h k.
    let a = more_after T.row.good H s.replies r (and_both _ _ (and_left _ _ h) (and_left _ _ (and_right _ _ h))) k in
    and_both _ _ (and_left _ _ a) (and_both _ _ (and_right _ _ a) refl))

-- one confirmation more, whatever the state
pub fits_confirmed : (s : State) (c : Confirmation)
    → state_fits (confirmed c s) ≡ ((leb (length s.confirmations + 1) s.limits.history and confirmation_fits s.config s.limits c) and state_fits s)
unfolding confirmed
fits_confirmed s c =
    let f : Confirmation → Bool = confirmation_fits s.config s.limits in
    let H : ℕ = s.limits.history in
    fits_more s (confirmed c s) 15 (omega arith) (at_most H f (s.confirmations ++ c ∷ [])) (at_most H f s.confirmations) _ refl refl refl refl (more_before f H s.confirmations c) (more_after f H s.confirmations c)
