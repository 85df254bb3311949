-- The parts of a disk as they are lent, and the disk when one is back. Assumes nothing.
use Rattle.std.specs.Prelude.{◌≡◌, refl, List, [], ◌++◌, ℕ, ◌+◌, ◌-◌, ◌*◌, ◌≤◌, ◌<◌, length, take, drop}
use Rattle.std.proofs.Common.{sym, ap, ap₂, ◌∙◌, subst, append_assoc, append-nil, arith, length-append, take_at, drop_at}
use Rattle.std.proofs.lemmas.List.Edits.{sets}
use Rattle.words.specs.Sets.{sets_at, part_at, length_part}
use Rattle.layout.specs.Tables.{Held, Becomes}
use Rattle.layout.specs.Rows.{row_start, row_end}
use Rattle.layout.specs.TableLaws.{held_length}
use Rattle.layout.specs.Marked.{words_for}
use Rattle.raft_log.specs.Log.{Log}
use Rattle.raft_log.specs.Places.{places}
use Rattle.storage.specs.Storage.{Write}
use Rattle.storage.specs.Waiting.{waiting}
use Rattle.storage.specs.Stores.{Parts, disk_bytes}

-- a part as it is lent, `&disk[a..e]`, and the whole when it is back as ys: the checker's forms
abbrev pub lent : ℕ → ℕ → List ℕ → List ℕ
lent a e b = take (e - a) (drop a b)

abbrev pub back : ℕ → ℕ → List ℕ → List ℕ → List ℕ
back a e b ys = take a b ++ (ys ++ drop (e - a) (drop a b))

-- ---- the room of the last part, in a disk that is now b₁

module _ (p L W m logs : ℕ) (b b₁ : List ℕ) (l : length b ≡ disk_bytes p L W) (e : logs ≡ L * (2 + words_for p)) (f : length b₁ ≡ length b) where
  last_long : length (lent (16 * logs) (length b) b₁) ≡ 8 * (W * (3 + words_for p))
  last_long =
      let k : length b - 16 * logs ≡ 8 * (W * (3 + words_for p)) = omega arith in
      length_part b₁ (16 * logs) (length b - 16 * logs) (omega arith) ∙ k

  -- m rows, and one more
  pub rows_left : m ≤ W → 8 * (m * (3 + words_for p)) ≤ length (lent (16 * logs) (length b) b₁)
  rows_left h = omega (arith, last_long, row_start m W (3 + words_for p) h)

  pub row_left : m < W → 8 * (m * (3 + words_for p) + (3 + words_for p)) ≤ length (lent (16 * logs) (length b) b₁)
  row_left h = omega (arith, last_long, row_end m W (3 + words_for p) h)

-- the same of a disk as it was
module _ (p L W m logs : ℕ) (b : List ℕ) (l : length b ≡ disk_bytes p L W) (e : logs ≡ L * (2 + words_for p)) where
  pub rows_room : m ≤ W → 8 * (m * (3 + words_for p)) ≤ length (lent (16 * logs) (length b) b)
  rows_room = rows_left p L W m logs b b l e refl

  pub row_room : m < W → 8 * (m * (3 + words_for p) + (3 + words_for p)) ≤ length (lent (16 * logs) (length b) b)
  row_room = row_left p L W m logs b b l e refl

pub ruleset rooms = (rows_room, row_room, rows_left, row_left)

module _ {p L W m : ℕ} {b : List ℕ} {x y : Log} {ws : List Write} (g : Parts p L W m b x y ws) (logs : ℕ) (e : logs ≡ L * (2 + words_for p)) where
  first_long : length g.first ≡ 8 * logs
  first_long = held_length g.current ∙ ap (λ (k : ℕ). 8 * k) (sym e)

  second_long : length g.second ≡ 8 * logs
  second_long = held_length g.durable ∙ ap (λ (k : ℕ). 8 * k) (sym e)

  pub whole_long : length b ≡ 16 * logs + length g.third
  whole_long = omega (arith, ap length g.side, length-append g.first (g.second ++ g.third), length-append g.second g.third, first_long, second_long)

  both_long : length (g.first ++ g.second) ≡ 16 * logs
  both_long = omega (arith, length-append g.first g.second, first_long, second_long)

  front : b ≡ (g.first ++ g.second) ++ (g.third ++ [])
  front = g.side ∙ sym (append_assoc g.first g.second g.third) ∙ ap (λ (l : List ℕ). (g.first ++ g.second) ++ l) (sym (append-nil g.third))

  -- ---- lent

  first_is : lent 0 (8 * logs) b ≡ g.first
  first_is =
      let k : length g.first ≡ 8 * logs - 0 = omega (arith, first_long) in
      ap (lent 0 (8 * logs)) g.side ∙ part_at [] g.first (g.second ++ g.third) 0 (8 * logs - 0) refl k

  second_is : lent (8 * logs) (16 * logs) b ≡ g.second
  second_is =
      let k : length g.second ≡ 16 * logs - 8 * logs = omega (arith, second_long) in
      ap (lent (8 * logs) (16 * logs)) g.side ∙ part_at g.first g.second g.third (8 * logs) (16 * logs - 8 * logs) first_long k

  third_is : (end : ℕ) → end ≡ length b → lent (16 * logs) end b ≡ g.third
  third_is end f =
      let k : length g.third ≡ end - 16 * logs = omega (arith, whole_long) in
      ap (lent (16 * logs) end) front ∙ part_at (g.first ++ g.second) g.third [] (16 * logs) (end - 16 * logs) both_long k

  pub current_lent : Held (places p) (L * (2 + words_for p)) L (lent 0 (8 * logs) b) x
  current_lent = subst (λ (l : List ℕ). Held (places p) (L * (2 + words_for p)) L l x) (sym first_is) g.current

  pub durable_lent : Held (places p) (L * (2 + words_for p)) L (lent (8 * logs) (16 * logs) b) y
  durable_lent = subst (λ (l : List ℕ). Held (places p) (L * (2 + words_for p)) L l y) (sym second_is) g.durable

  pub waiting_lent : (end : ℕ) → end ≡ length b → Held (waiting p) (W * (3 + words_for p)) m (lent (16 * logs) end b) ws
  waiting_lent end f = subst (λ (l : List ℕ). Held (waiting p) (W * (3 + words_for p)) m l ws) (sym (third_is end f)) g.writes

  -- ---- back

  pub current_back : (ys : List ℕ) (x' : Log) → Held (places p) (L * (2 + words_for p)) L ys x' → Parts p L W m (back 0 (8 * logs) b ys) x' y ws
  current_back ys x' h =
      let k : length g.first ≡ 8 * logs - 0 = omega (arith, first_long) in
      record {
        first = ys;
        second = g.second;
        third = g.third;
        side = ap (λ (l : List ℕ). ys ++ l) (ap (drop (8 * logs - 0)) g.side ∙ drop_at g.first (g.second ++ g.third) (8 * logs - 0) k);
        current = h;
        durable = g.durable;
        writes = g.writes;
      }

  pub durable_back : (ys : List ℕ) (y' : Log) → Held (places p) (L * (2 + words_for p)) L ys y' → Parts p L W m (back (8 * logs) (16 * logs) b ys) x y' ws
  durable_back ys y' h =
      let k : length g.second ≡ 16 * logs - 8 * logs = omega (arith, second_long) in
      record {
        first = g.first;
        second = ys;
        third = g.third;
        side = ap₂ (λ (u v : List ℕ). u ++ (ys ++ v)) (ap (take (8 * logs)) g.side ∙ take_at g.first (g.second ++ g.third) (8 * logs) first_long)
            (ap (λ (l : List ℕ). drop (16 * logs - 8 * logs) (drop (8 * logs) l)) g.side
            ∙ ap (drop (16 * logs - 8 * logs)) (drop_at g.first (g.second ++ g.third) (8 * logs) first_long) ∙ drop_at g.second g.third (16 * logs - 8 * logs) k);
        current = g.current;
        durable = h;
        writes = g.writes;
      }

  pub waiting_back : (end : ℕ) → end ≡ length b → (n : ℕ) (ys : List ℕ) (vs : List Write) → Held (waiting p) (W * (3 + words_for p)) n ys vs → Parts p L W n (back (16 * logs) end b ys) x y vs
  waiting_back end f n ys vs h =
      let k : length g.third ≡ end - 16 * logs = omega (arith, whole_long) in
      let z : drop (end - 16 * logs) (drop (16 * logs) b) ≡ [] =
      ap (λ (l : List ℕ). drop (end - 16 * logs) (drop (16 * logs) l)) front
      ∙ ap (drop (end - 16 * logs)) (drop_at (g.first ++ g.second) (g.third ++ []) (16 * logs) both_long) ∙ drop_at g.third [] (end - 16 * logs) k in
      record {
        first = g.first;
        second = g.second;
        third = ys;
        side = ap₂ (λ (u v : List ℕ). u ++ (ys ++ v)) (ap (take (16 * logs)) front ∙ take_at (g.first ++ g.second) (g.third ++ []) (16 * logs) both_long) z
            ∙ ap (λ (l : List ℕ). (g.first ++ g.second) ++ l) (append-nil ys) ∙ append_assoc g.first g.second ys;
        current = g.current;
        durable = g.durable;
        writes = h;
      }

  -- a move of the waiting writes
  pub waiting_move : (end : ℕ) → end ≡ length b → (n : ℕ) (ys : List ℕ) (op : List Write → List Write) → Becomes (waiting p) m n (lent (16 * logs) end b) ys op → Parts p L W n (back (16 * logs) end b ys) x y (op ws)
  waiting_move end f n ys op c = waiting_back end f n ys (op ws) (c.to (W * (3 + words_for p)) ws (waiting_lent end f))

  -- ---- the durable log over the current one

  pub copied_back : (b' : List ℕ) → b' ≡ sets b 0 (take (16 * logs - (0 + 8 * logs)) (drop (0 + 8 * logs) b)) → Parts p L W m b' y y ws
  copied_back b' f =
      let o : 0 + 8 * logs ≡ 8 * logs = omega arith in
      record {
        first = g.second;
        second = g.second;
        third = g.third;
        side = f ∙ ap (λ (k : ℕ). sets b 0 (take (16 * logs - k) (drop k b))) o ∙ ap (sets b 0) second_is ∙ ap (λ (l : List ℕ). sets l 0 g.second) g.side
            ∙ sets_at [] g.first (g.second ++ g.third) g.second 0 refl (second_long ∙ sym first_long);
        current = g.durable;
        durable = g.durable;
        writes = g.writes;
      }
