-- What the proofs of the list's functions cite. Assumes nothing.
use Rattle.std.specs.Prelude.{◌≡◌, List, [], ◌∷◌, ◌++◌, ℕ, ◌+◌, ◌-◌, ◌*◌, ◌≤◌, length, take, drop, replicate}
use Rattle.std.proofs.Math.Path.{refl}
use Rattle.std.proofs.Common.{sym, ap, ◌∙◌, subst, append_assoc, Fits, length-append, length-drop, length-take-le, take_at, drop_at, drop-drop, lt-ltb}
use native.Mathlib.Omega.{arith}
use Rattle.std.specs.Int.{w64}
use Rattle.std.proofs.lemmas.List.{length-replicate, replicate-append-replicate}
use Rattle.std.proofs.lemmas.List.Edits.{sets}
use Rattle.laws.proofs.BoolLaws.{and_both}
use Rattle.laws.specs.Order.{numbers, push_by}
use Rattle.words.specs.Words.{bytes, W}
use Rattle.words.specs.Sets.{cut, sets_at}
use Rattle.words.specs.Lift.{bytes_append, bytes_zeros}
use Rattle.layout.specs.Code.{zeros, flat, lay, fitted}
use Rattle.layout.specs.Tables.{Table, Held, Becomes, opened}
use Rattle.layout.specs.Order.{last_place, one, heads}
use Rattle.layout.specs.SortedTables.{Queued, queued_push}
use Rattle.layout.specs.TableLaws.{held_rows, held_rule}
use Rattle.faults_chaos.specs.declared.Timed.{Timed}
use Rattle.faults_chaos.specs.declared.Entries.{Entries}
use Rattle.faults_chaos.specs.declared.Entries.TheVariants.{One, Two}
use Rattle.faults_chaos.specs.Answers.{count_of, list_of}
use Rattle.faults_schedule.specs.declared.Listed.{Listed}
use Rattle.faults_schedule.specs.Listed.{time_of, schedule, row_of, push, push_each, Extends, Places}

queued : Queued schedule numbers time_of one
unfolding one
queued = record { rule = λ x. refl; read = λ ws. refl }

-- the words of a row
abbrev pub words_of : Listed → List ℕ
words_of l = l.time.0 ∷ l.fault.kind ∷ l.fault.first ∷ l.fault.second ∷ []

pub pushed : (entry : Timed) (l : Listed) (n i : ℕ) (b b₁ b₂ : List ℕ) → 32 * (n + 1) ≤ length b → l ≡ row_of entry
    → Fits w64 l.time.0 → Fits w64 l.fault.kind → Fits w64 l.fault.first → Fits w64 l.fault.second
    → i ≡ last_place numbers l.time.0 (heads one 4 n (W b)) → i ≤ n → b₁ ≡ opened 4 n i b → b₂ ≡ sets b₁ (8 * (i * 4)) (bytes (words_of l))
    → Becomes schedule n (n + 1) b b₂ (push entry)
unfolding push
pushed entry l n i b b₁ b₂ r e t k f s p u o w =
    subst (λ (x : Listed). Becomes schedule n (n + 1) b b₂ (push_by numbers time_of x)) e
    (queued_push queued n b l i b₁ b₂ (omega arith)
    (and_both _ _ (lt-ltb _ _ t.fits) (and_both _ _ (lt-ltb _ _ k.fits) (and_both _ _ (lt-ltb _ _ f.fits) (lt-ltb _ _ s.fits)))) p u o w)

-- ---- one row more behind the first n of a list, of which the bytes behind it stay

-- the rows, with k words of zeros behind them
more_held : {T : Type 0} {t : Table T} {N n : ℕ} {b : List ℕ} {x : List T} → Held t N n b x → (k : ℕ)
    → Held t (N + k) n (b ++ replicate (8 * k) 0) x
more_held {T} {t} {N} {n} {b} {x} h k =
    let f = held_rows h in
    let room : length x * t.row.size ≤ N = rw f.count f.room in
    let free : ℕ = N - length x * t.row.size in
    let e : free + k ≡ N + k - length x * t.row.size = omega (arith, room) in
    record {
      holds = record {
        good = and_both _ _ (fitted t.row (N + k) n x (record { room = omega (arith, f.room); count = f.count; each = f.each }))
            (held_rule h);
        is = ap (λ (l : List ℕ). l ++ replicate (8 * k) 0) h.holds.is
            ∙ ap (λ (l : List ℕ). bytes (lay t.row N x) ++ l) (sym (bytes_zeros k))
            ∙ sym (bytes_append (lay t.row N x) (zeros k))
            ∙ ap bytes (append_assoc (flat t.row.enc x) (zeros free) (zeros k)
            ∙ ap (λ (l : List ℕ). flat t.row.enc x ++ l) (replicate-append-replicate free k 0 ∙ ap zeros e));
      };
    }

module _ (entry : Timed) (n : ℕ) (b b₁ ys : List ℕ) (r : 32 * (n + 1) ≤ length b)
    (z : b₁ ≡ sets b (32 * n) (replicate (32 * n + 32 - 32 * n) 0)) where
  -- what the fill leaves: the rows, a row of zeros, the rest
  filled : b₁ ≡ (take (32 * n) b ++ replicate 32 0) ++ drop (32 * n + 32) b
  filled =
      let m : 32 * n + 32 - 32 * n ≡ 32 = omega arith in
      let lt : length (take (32 * n) b) ≡ 32 * n = length-take-le (32 * n) b (omega arith) in
      let lz : length (replicate {A = ℕ} 32 0) ≡ length (take 32 (drop (32 * n) b)) =
      length-replicate {A = ℕ} 32 0 ∙ sym (length-take-le 32 (drop (32 * n) b) (omega (arith, length-drop (32 * n) b))) in
      z ∙ ap (λ (k : ℕ). sets b (32 * n) (replicate k 0)) m
      ∙ ap (λ (l : List ℕ). sets l (32 * n) (replicate 32 0)) (cut b (32 * n) 32 (omega arith))
      ∙ sets_at (take (32 * n) b) (take 32 (drop (32 * n) b)) (drop 32 (drop (32 * n) b)) (replicate 32 0) (32 * n) lt lz
      ∙ sym (append_assoc (take (32 * n) b) (replicate 32 0) (drop 32 (drop (32 * n) b)))
      ∙ ap (λ (l : List ℕ). (take (32 * n) b ++ replicate 32 0) ++ l) (drop-drop 32 (32 * n) b)

  front : length (take (32 * n) b ++ replicate 32 0) ≡ 32 * n + 32
  front =
      length-append (take (32 * n) b) (replicate 32 0)
      ∙ omega (arith, length-take-le (32 * n) b (omega arith), length-replicate {A = ℕ} 32 0)

  pub place_is : length ys ≡ length (take (32 * n + 32 - 0) (drop 0 b₁))
      → Becomes schedule n (n + 1) (take (32 * n + 32 - 0) (drop 0 b₁)) ys (push entry)
      → Extends n (n + 1) b (take 0 b₁ ++ (ys ++ drop (32 * n + 32 - 0) (drop 0 b₁))) (push entry)
  place_is l p =
      let size : 32 * n + 32 - 0 ≡ 32 * n + 32 = omega arith in
      let rest : List ℕ = drop (32 * n + 32) b in
      let lent : take (32 * n + 32 - 0) b₁ ≡ take (32 * n) b ++ replicate 32 0 =
      ap (λ (k : ℕ). take k b₁) size ∙ ap (take (32 * n + 32)) filled
      ∙ take_at (take (32 * n) b ++ replicate 32 0) rest (32 * n + 32) front in
      let left : drop (32 * n + 32 - 0) b₁ ≡ rest =
      ap (λ (k : ℕ). drop k b₁) size ∙ ap (drop (32 * n + 32)) filled
      ∙ drop_at (take (32 * n) b ++ replicate 32 0) rest (32 * n + 32) front in
      let ly : length ys ≡ 32 * (n + 1) = l ∙ ap length lent ∙ front ∙ omega arith in
      let back : ys ++ drop (32 * n + 32 - 0) b₁ ≡ ys ++ rest = ap (λ (k : List ℕ). ys ++ k) left in
      let w : 4 * n + 4 ≡ 4 * (n + 1) = omega arith in
      record {
        to = λ x h. subst (λ (c : List ℕ). Held schedule (4 * (n + 1)) (n + 1) c (push entry x)) (sym (ap (take (32 * (n + 1))) back
            ∙ take_at ys rest (32 * (n + 1)) ly))
            (subst (λ (k : ℕ). Held schedule k (n + 1) ys (push entry x)) w
            (p.to (4 * n + 4) x (subst (λ (c : List ℕ). Held schedule (4 * n + 4) n c x) (sym lent) (more_held h 4))));
        behind = ap (drop (32 * (n + 1))) back ∙ drop_at ys rest (32 * (n + 1)) ly
            ∙ ap (λ (k : ℕ). drop k b) (let e : 32 * n + 32 ≡ 32 * (n + 1) = omega arith in e);
        long = ap length back ∙ length-append ys rest ∙ omega (arith, ly, length-drop (32 * n + 32) b);
      }

-- what stays behind one place stays behind a later one
pub drop_more : (n m : ℕ) → n ≤ m → (b b₀ : List ℕ) → drop (32 * n) b ≡ drop (32 * n) b₀ → drop (32 * m) b ≡ drop (32 * m) b₀
drop_more n m h b b₀ e =
    let k : 32 * n + (32 * m - 32 * n) ≡ 32 * m = omega arith in
    ap (λ (j : ℕ). drop j b) (sym k) ∙ sym (drop-drop (32 * m - 32 * n) (32 * n) b) ∙ ap (drop (32 * m - 32 * n)) e
    ∙ drop-drop (32 * m - 32 * n) (32 * n) b₀ ∙ ap (λ (j : ℕ). drop j b₀) k

-- one extension after another
extends_then : {n m k : ℕ} {b b₁ b₂ : List ℕ} {f g : List Listed → List Listed} → m ≤ k → Extends n m b b₁ f → Extends m k b₁ b₂ g
    → Extends n k b b₂ (λ x. g (f x))
extends_then {n} {m} {k} {b} {b₁} {b₂} {f} {g} h p q =
    record { to = λ x t. q.to (f x) (p.to x t); behind = q.behind ∙ drop_more m k h b₁ b p.behind; long = q.long ∙ p.long }

-- the entries of a fault: room for each, and what they make of the list
module _ (e : Entries) (n : ℕ) (b : List ℕ) where
  module _ (r : 32 * (n + count_of e) ≤ length b) where
    room_after : {v : Entries} → e ≡ v → 32 * (n + count_of v) ≤ length b
    room_after h = subst (λ (v : Entries). 32 * (n + count_of v) ≤ length b) h r

    module _ (a : Timed) (h : e ≡ One a) where
      pub one_room : 32 * (n + 1) ≤ length b
      one_room = room_after h

      pub one_entry : (b₁ : List ℕ) → Extends n (n + 1) b b₁ (push a) → Places e n (n + 1) b b₁
      unfolding list_of push_each
      one_entry b₁ p = record { count = rw h; to = rw h p }

    module _ (a u : Timed) (h : e ≡ Two a u) where
      pub first_room : 32 * (n + 1) ≤ length b
      first_room = omega (arith, room_after h)

      pub second_room : (b₁ : List ℕ) → length b₁ ≡ length b → 32 * (n + 1 + 1) ≤ length b₁
      second_room b₁ l = omega (arith, room_after h)

      pub two_entries : (b₁ b₂ : List ℕ) → Extends n (n + 1) b b₁ (push a) → Extends (n + 1) (n + 1 + 1) b₁ b₂ (push u)
          → Places e n (n + 2) b b₂
      unfolding list_of push_each
      two_entries b₁ b₂ p q =
          let m : n + 1 + 1 ≡ n + 2 = omega arith in
          record {
            count = rw h;
            to = rw h (subst (λ (k : ℕ). Extends n k b b₂ (λ x. push u (push a x))) m (extends_then
                (omega arith) p q));
          }

pub ruleset entries = (one_room, one_entry, first_room, second_room, two_entries)
