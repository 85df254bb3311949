-- What the proofs of client_of and set_client cite. Assumes nothing.
use Rattle.std.specs.Prelude.{◌≡◌, Bool, ℕ, ◌+◌, ◌*◌, ◌≤◌, ◌<◌, length, Some}
use Rattle.std.proofs.Math.Path.{refl, sym, ap}
use Rattle.std.proofs.Common.{subst, ◌∙◌, arith, eqb-true, ltb-true}
use Rattle.std.proofs.Math.Bool.{true}
use mathlib.Core.List.{List}
use Rattle.std.proofs.Math.ListN.{set}
use Rattle.laws.specs.Bools.{◌and◌, and_left}
use Rattle.laws.proofs.BoolLaws.{every_get}
use Rattle.laws.specs.ListLaws.{at_there}
use Rattle.words.specs.Words.{bytes}
use Rattle.layout.specs.Tables.{Held}
use Rattle.layout.specs.Parts.{lent_row, back_row, length_lent_row}
use Rattle.clients.specs.Clients.{clients, ReadsClient, WritesClient}
use Rattle.clients.specs.ClientLaws.{no_client}
use Rattle.model.specs.State.{State, Client}
use Rattle.model.specs.Fits.{state_fits, client_state_fits}
use Rattle.state.specs.declared.Capacity.{Capacity}
use Rattle.state.specs.Sizes.{clients_at, Counted}
use Rattle.state.specs.SizeLaws.{room}
use Rattle.state.specs.Area.{Area, capacity_of, clients_code}
use Rattle.state.specs.Encode.{contents}
use Rattle.state.specs.Fitting.{area_fits}
use Rattle.state.specs.FitsBy.{fits_test}
use Rattle.state.specs.Changes.{Inside, Changes, Reads}
use Rattle.state.specs.Tables.{clients_span, table_back}
use Rattle.state_records.specs.Records.{client_read, client_set}
use Rattle.state_records.specs.Fits.{clients_set, fits_client}
use Rattle.state_records.specs.Lent.{spans_is, lent_holds}

module _ (b : List ℕ) (F : Capacity) (at : ℕ) where
  pub clients_end : Inside b F → Counted at (clients_at F) → 8 * (at + F.clients * 8) ≤ length b
  clients_end i p = omega (arith, i.long, room F, p.is)

  pub clients_within : Inside b F → Counted at (clients_at F) → 8 * (F.clients * 8) ≤ length (lent_row at (F.clients * 8) b)
  clients_within i p = omega (arith, length_lent_row at (F.clients * 8) b (clients_end i p))

  module _ (p : Counted at (clients_at F)) where
    clients_held : (s : State) → Area b s → F ≡ capacity_of s
        → Held (clients s.config.servers) (s.config.clients * 8) F.clients (lent_row at (F.clients * 8) b) s.clients
    clients_held s h ef =
        subst (λ (G : Capacity). Held (clients s.config.servers) (s.config.clients * 8) G.clients (lent_row at (F.clients * 8) b) s.clients) (sym ef)
        (record { holds = lent_holds (spans_is p.is refl (clients_span F)) (clients_code (capacity_of s)) b s s.clients ef h.laid.clients })

    -- so many clients
    clients_are : (s : State) → Area b s → F ≡ capacity_of s → length s.clients ≡ F.clients
    clients_are s h ef = eqb-true _ _ (fits_test s (area_fits h) 9) ∙ ap (λ (G : Capacity). G.clients) (sym ef)

    pub client_read_lem : (c : ℕ) (r : Client) → c < F.clients → ReadsClient F.clients c r (lent_row at (F.clients * 8) b)
        → Reads b F r (client_read c)
    unfolding client_read
    client_read_lem c r k g = record {
      to =
          λ s h ef. taken (sym (at_there s.clients c no_client (omega (arith, clients_are s h ef))) ∙ g.to s.config.servers (s.config.clients * 8) s.clients (clients_held s h ef));
    }
      where
        taken : {x y : Client} → Some x ≡ Some y → y ≡ x
        taken e = cc

    pub client_put : (c : ℕ) (v : Client) (ys : List ℕ) → c < F.clients
        → WritesClient F.clients c v (lent_row at (F.clients * 8) b) ys
        → Changes b (back_row at (F.clients * 8) b ys) F (client_set c v)
    unfolding client_set
    client_put c v ys k g = record {
      to = λ s r h t.
          let s' : State = client_set c v s in
          let e : s'.clients ≡ set s.clients c v = clients_set s c v in
          let fit : client_state_fits s.config s.limits v and state_fits s ≡ true =
          sym (fits_client s c v (eqb-true _ _ (fits_test s (area_fits h.area) 9)) (subst (λ (G : Capacity). c < G.clients) h.capacity k) (fits_test s (area_fits h.area) 10))
          ∙ t in
          let held =
          g.to s.config.servers (s.config.clients * 8) s.clients (ltb-true _ _ (and_left _ _ (and_left _ _ fit))) (clients_held s h.area h.capacity) in
          table_back h (spans_is p.is refl (clients_span F)) s' ys refl (ap (λ (y : List ℕ). set (contents s) 16 y) (held.holds.is ∙ ap (λ (l : List Client). bytes ((clients_code (capacity_of s)).enc l)) (sym e))) t;
    }

-- a client of a state in an area sends to a server of the cluster
pub client_target : (b : List ℕ) (F : Capacity) (c : ℕ) (r : Client) → Reads b F r (client_read c) → c < F.clients
    → (s : State) → Area b s → F ≡ capacity_of s → r.target < F.servers
unfolding client_read
client_target b F c r p k s h ef =
    let f : Client → Bool = client_state_fits s.config s.limits in
    let l : c < length s.clients =
    omega (arith, k, eqb-true (length s.clients) s.config.clients (fits_test s (area_fits h) 9), ap (λ (G : Capacity). G.clients) ef) in
    let fit : f r ≡ true = ap f (p.to s h ef) ∙ every_get f s.clients c no_client l (fits_test s (area_fits h) 10) in
    omega (arith, ltb-true r.target s.config.servers (and_left _ _ fit), ap (λ (G : Capacity). G.servers) ef)
