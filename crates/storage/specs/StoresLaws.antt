-- What the proofs of lib.rt cite. Assumes nothing.
use Rattle.std.specs.Prelude.{◌≡◌, refl, Bool, true, false, List, [], ◌∷◌, ℕ, ◌+◌, ◌-◌, ◌*◌, ◌≤◌, ltb, length, take, drop, Option, None, Some}
use Rattle.std.proofs.Common.{sym, ap, ap₂, ◌∙◌, subst, arith, lt-ltb}
use Rattle.std.proofs.lemmas.List.Edits.{sets}
use Rattle.std.specs.Bool.{then_some}
use Rattle.layout.specs.Tables.{Becomes}
use Rattle.layout.specs.TableLaws.{held_rows}
use Rattle.layout.specs.Marked.{words_for}
use Rattle.storage.specs.declared.HardState.{HardState}
use Rattle.storage.specs.declared.StorageState.{StorageState}
use Rattle.storage.specs.Storage.{Write, Storage, apply_writes, unsynced_bytes, sync, unsynced, synced_bytes, crash}
use Rattle.storage.specs.Waiting.{waiting, emptied}
use Rattle.storage.specs.Replay.{Sums, Replays}
use Rattle.storage.specs.Stores.{Parts, Syncs, Crashes}
use Rattle.storage.specs.PartLaws.{lent, back, waiting_lent, waiting_move, copied_back}

pub synced : (p L W logs bytes : ℕ) (v : StorageState) (after : HardState) (b b₁ ys : List ℕ) (w : Option ℕ) → logs ≡ L * (2 + words_for p) → Sums p v.waiting bytes (lent (16 * logs) (length b) b)
    → Replays p L W v.waiting v.durable after b b₁ → Becomes (waiting p) v.waiting 0 (lent (16 * logs) (length b₁) b₁) ys emptied
    → w ≡ then_some (ltb 0 v.waiting) bytes
    → Syncs p L W v (record { state = record { current = v.current; durable = after; waiting = 0; discarded = v.discarded }; written = w }) b (back (16 * logs) (length b₁) b₁ ys)
unfolding sync emptied
synced p L W logs bytes v after b b₁ ys w o g r c d = record {
  to = λ x s.
      let h : Parts p L W v.waiting b₁ x.current.log (apply_writes x.durable x.waiting).log x.waiting =
      subst (λ (k : HardState). Parts p L W v.waiting b₁ x.current.log (apply_writes (record { hard_state = k; log = x.durable.log }) x.waiting).log x.waiting) s.durable
      (r.to x.current.log x.durable.log x.waiting s.parts) in
      record {
        parts = waiting_move h logs o (length b₁) refl 0 ys emptied c;
        current = s.current;
        durable = r.hard x.current.log x.durable.log x.waiting s.parts ∙ ap (λ (k : HardState). (apply_writes (record { hard_state = k; log = x.durable.log }) x.waiting).hard_state) s.durable;
        discarded = s.discarded;
      };
  written = λ x s.
      d ∙ ap₂ then_some (ap (ltb 0) (sym (held_rows s.parts.writes).count))
      (g.is.to (W * (3 + words_for p)) x.waiting (waiting_lent s.parts logs o (length b) refl));
  most = λ n e. by (ltb 0 v.waiting) n (sym d ∙ e);
}
  where
    by : (t : Bool) (n : ℕ) → then_some t bytes ≡ Some n → n ≤ 292 * v.waiting
    by true n e = let q : bytes ≡ n = cc in subst (λ (k : ℕ). k ≤ 292 * v.waiting) q g.most
    by false n e = cc

-- what is told of a sync that wrote, and of one that had nothing to write
module _ (x : Storage) where
  pub synced_told : (n : ℕ) → Some n ≡ synced_bytes x → (true ≡ unsynced x) × (n ≡ unsynced_bytes x.waiting)
  synced_told n = by (unsynced x) refl
    where
      by : (t : Bool) → unsynced x ≡ t → Some n ≡ then_some t (unsynced_bytes x.waiting) → (true ≡ unsynced x) × (n ≡ unsynced_bytes x.waiting)
      by true u e = (sym u, cc)
      by false u e = absurd cc

  pub synced_nothing : None ≡ synced_bytes x → (false ≡ unsynced x) × (0 ≡ unsynced_bytes x.waiting)
  unfolding unsynced_bytes
  synced_nothing = by x.waiting
    where
      by : (ws : List Write) → ◌≡◌ {A = Option ℕ} None (then_some (ltb 0 (length ws)) (unsynced_bytes ws)) → (false ≡ ltb 0 (length ws)) × (0 ≡ unsynced_bytes ws)
      by [] e = (refl, refl)
      by (w ∷ ws) e =
          let n : ℕ = unsynced_bytes (w ∷ ws) in
          let z : ◌≡◌ {A = Option ℕ} None (Some n) = e ∙ ap (λ (t : Bool). then_some t n) (lt-ltb 0 (length (w ∷ ws)) (omega arith)) in
          absurd cc

pub crashed : (p L W logs : ℕ) (v : StorageState) (b b₁ ys : List ℕ) → logs ≡ L * (2 + words_for p) → b₁ ≡ sets b 0 (take (16 * logs - (0 + 8 * logs)) (drop (0 + 8 * logs) b))
    → Becomes (waiting p) v.waiting 0 (lent (16 * logs) (length b₁) b₁) ys emptied
    → Crashes p L W v (record { current = v.durable; durable = v.durable; waiting = 0; discarded = v.discarded }) b (back (16 * logs) (length b₁) b₁ ys)
unfolding crash emptied
crashed p L W logs v b b₁ ys o e c = record {
  to = λ x s.
      let h : Parts p L W v.waiting b₁ x.durable.log x.durable.log x.waiting = copied_back s.parts logs o b₁ e in
      record {
        parts = waiting_move h logs o (length b₁) refl 0 ys emptied c;
        current = s.durable;
        durable = s.durable;
        discarded = s.discarded;
      };
}
