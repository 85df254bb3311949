-- What the proofs of apply.rt cite. Assumes nothing.
use Rattle.std.specs.Prelude.{◌≡◌, Bool, true, false, List, [], ◌∷◌, ℕ, ◌+◌, ◌*◌, ◌^◌, ◌≤◌, ◌<◌, leb, length, Ok, Err}
use Rattle.std.proofs.Math.Path.{refl}
use Rattle.std.proofs.Common.{sym, ap, subst, ◌∙◌, arith, leb-true, lt-ltb}
use Rattle.laws.proofs.BoolLaws.{and_both}
use Rattle.words.specs.Words.{Bytes}
use Rattle.units.specs.Types.{Payload, payload_of}
use Rattle.units.specs.declared.LogIndex.{LogIndex}
use Rattle.layout.specs.Tables.{Holds, Held}
use Rattle.layout.specs.Parts.{lent_row}
use Rattle.layout.specs.Marked.{words_for, sounds}
use Rattle.layout.specs.Payload.{payload, payload_marking}
use Rattle.layout.specs.MarkedCalls.{Puts}
use Rattle.layout.specs.MarkedLaws.{kind_sound}
use Rattle.layout.specs.Applied.{applied}
use Rattle.checks.specs.declared.Check.TheVariants.{ApplyOrder, StateMachineSafety}
use Rattle.checks.specs.Checks.{Checker, report_if, on_apply}
use Rattle.checks.specs.Asked.{counts_code, where_fits, append_if}
use Rattle.checks.specs.AskedLaws.{where_coded}
use Rattle.checks.specs.Reports.{leaders_if, entries_if}
use Rattle.laws.specs.Bools.{pick}
use Rattle.units.specs.declared.refusal.Refusal.TheVariants.{Room}
use Rattle.model.specs.Fits.{checker_fits}
use Rattle.checks_on_apply.specs.declared.ApplyAsked.{ApplyAsked}
use Rattle.checks_on_apply.specs.OnApply as region
use Rattle.checks_on_apply.specs.OnApply.{apply_acts, ApplyAnswered}
use Rattle.model.specs.State.{State, server_at, id_of}
use Rattle.state.specs.declared.Capacity.{Capacity}
use Rattle.state.specs.declared.TableCounts.{TableCounts}
use Rattle.state.specs.Sizes.{applied_words, applied_at, Counted}
use Rattle.state.specs.Area.{Area, capacity_of, counts_of}
use Rattle.state.specs.Changes.{Inside, Reads}
use Rattle.state_asks.specs.Asks.{Rows, Begins, next_apply_of, checker_code, Asks, after_apply, ApplyTold, AsksRow}
use Rattle.state_asks.specs.Lent.{applied_lent}
use Rattle.state_asks.specs.Rows.{Sound, detail_fits, sound_if, sound_append, code_applied, area_sound, few_leaders, few_applied}
use Rattle.state_asks.specs.Rows.{few_entries, now_fits, id_fits, next_fits}

-- ---- what the acts leave fits but for the payloads' count and the total

module _ {b : List ℕ} {s : State} (h : Area b s) (k : ℕ) (i : k < s.config.servers) (index : LogIndex) (f : index.0 < 2 ^ 64)
    (x : Payload)
    (g : (payload s.limits.payload).good x ≡ true) (r : ApplyAsked) where
  abbrev late : List ℕ
  late = (k + 1) ∷ index.0 ∷ (server_at s k).next_apply ∷ []

  abbrev other : List ℕ
  other = (k + 1) ∷ index.0 ∷ []

  abbrev ordered : Checker
  ordered = report_if r.late s.checker s.now ApplyOrder late

  abbrev compared : Checker
  compared = report_if r.other ordered s.now StateMachineSafety other

  abbrev acted : Checker
  acted = append_if r.next x compared

  late_fits : detail_fits late ≡ true
  unfolding detail_fits
  late_fits = and_both _ _ refl
      (and_both _ _ (id_fits h k i) (and_both _ _ (lt-ltb index.0 (2 ^ 64) f) (and_both _ _ (next_fits h k i) refl)))

  other_fits : detail_fits other ≡ true
  unfolding detail_fits
  other_fits = and_both _ _ refl (and_both _ _ (id_fits h k i) (and_both _ _ (lt-ltb index.0 (2 ^ 64) f) refl))

  compared_sound : Sound s.config.servers s.limits.log_indexes s.limits.payload compared
  compared_sound = sound_if (sound_if (area_sound h) s.now ApplyOrder late (now_fits h) late_fits r.late)
      s.now StateMachineSafety other (now_fits h) other_fits r.other

  acted_sound : (t : Bool) → Sound s.config.servers s.limits.log_indexes s.limits.payload (append_if t x compared)
  acted_sound true = sound_append compared_sound x g
  acted_sound false = compared_sound

  same_leaders : (t : Bool) → length (append_if t x compared).leaders ≡ length s.checker.leaders
  same_leaders true = ap length
      (leaders_if r.other ordered s.now StateMachineSafety other ∙ leaders_if r.late s.checker s.now ApplyOrder late)
  same_leaders false = ap length
      (leaders_if r.other ordered s.now StateMachineSafety other ∙ leaders_if r.late s.checker s.now ApplyOrder late)

  same_entries : (t : Bool) → length (append_if t x compared).entries ≡ length s.checker.entries
  same_entries true = ap length
      (entries_if r.other ordered s.now StateMachineSafety other ∙ entries_if r.late s.checker s.now ApplyOrder late)
  same_entries false = ap length
      (entries_if r.other ordered s.now StateMachineSafety other ∙ entries_if r.late s.checker s.now ApplyOrder late)

  acted_code : checker_code s acted ≡ counts_code (length acted.applied) s.limits.log_indexes acted.total
  acted_code = code_applied s acted (acted_sound r.next)
      (ap (λ (n : ℕ). leb n s.limits.history) (same_leaders r.next) ∙ few_leaders h)
      (ap (λ (n : ℕ). leb n s.limits.history) (same_entries r.next) ∙ few_entries h)

-- ---- row_asked

-- What the function has of an area of these counts when it asks.
record Learnt (F : Capacity) (b : List ℕ) (k : ℕ) (index : LogIndex) (content : List ℕ) (expected n at w : ℕ) (counts : TableCounts)
    (r : ApplyAsked) : Type 0 where
  place : k < F.servers
  rows : Rows counts.applied F.limits.log_indexes (1 + words_for F.limits.payload) n
  begins : at ≡ applied_at F
  words : w ≡ applied_words F
  asked : region.AsksApply
      (record {
        applied = lent_row at w b;
        count = n;
        room = F.limits.log_indexes;
        longest = F.limits.payload;
        total =
            counts.total;
        index = index;
        expected = expected;
        content = content;
      }) r

module _ {b : List ℕ} {k : ℕ} {index : LogIndex} {content : List ℕ} {expected n at w : ℕ} {counts : TableCounts} {r : ApplyAsked}
    (f : index.0 < 2 ^ 64) {s : State} (h : Area b s)
    (q : Learnt (capacity_of s) b k index content expected n at w counts r) (ex : expected ≡ (server_at s k).next_apply)
    (ec : counts ≡ counts_of s) (x : Payload)
    (hx : Holds (payload s.limits.payload) content x) where
  abbrev after : ℕ → Checker
  after m = on_apply s.checker s.now (id_of k) index x m

  count_is : n ≡ length s.checker.applied
  count_is =
      let e : counts.applied ≡ length s.checker.applied = ap (λ (t : TableCounts). t.applied) ec in
      q.rows.is (omega (arith, leb-true (length s.checker.applied) s.limits.log_indexes (few_applied h), e)) ∙ e

  answered : ApplyAnswered
      (record {
        applied = lent_row at w b;
        count = n;
        room = s.limits.log_indexes;
        longest = s.limits.payload;
        total =
            counts.total;
        index = index;
        expected = expected;
        content = content;
      }) r
      s.checker s.now (id_of k) x
  answered =
      let held : Held (applied s.limits.payload) (applied_words (capacity_of s)) n (lent_row at w b) s.checker.applied =
      subst (λ (m : ℕ). Held (applied s.limits.payload) (applied_words (capacity_of s)) m (lent_row at w b) s.checker.applied)
      (sym count_is) (applied_lent h at w q.begins q.words) in
      q.asked.to (applied_words (capacity_of s)) s.checker s.now (id_of k) x hx held (sym (ap (λ (t : TableCounts). t.total) ec))

  told_does : after (server_at s k).next_apply ≡ apply_acts r index (server_at s k).next_apply s.checker s.now (id_of k) x
  told_does = subst (λ (m : ℕ). after m ≡ apply_acts r index m s.checker s.now (id_of k) x) ex answered.does

  told_room : r.room ≡ pick (checker_fits s.config s.limits (after (server_at s k).next_apply)) (Ok tt) (Err Room)
  unfolding checker_code
  told_room =
      let acts : Checker = acted h k q.place index f x hx.good r in
      answered.room ∙ ap (λ (m : ℕ). where_fits (length (after m).applied) s.limits.log_indexes (after m).total tt) ex
      ∙ ap (λ (d : Checker). where_fits (length d.applied) s.limits.log_indexes d.total tt) told_does
      ∙ where_coded (length acts.applied) s.limits.log_indexes acts.total (checker_fits s.config s.limits acts) tt
      (sym (acted_code h k q.place index f x hx.good r))
      ∙ ap (λ (d : Checker). pick (checker_fits s.config s.limits d) (Ok tt) (Err Room)) (sym told_does)

pub row_asked : {b : List ℕ} {F : Capacity} {k : ℕ} {index : LogIndex} {content : List ℕ} {expected n at w : ℕ}
    {counts : TableCounts} {r : ApplyAsked} → index.0 < 2 ^ 64
    → k < F.servers → Reads b F expected (next_apply_of k) → Reads b F counts counts_of
    → Rows counts.applied F.limits.log_indexes (1 + words_for F.limits.payload) n
    → Begins b at (applied_at F) (applied_words F) → Counted w (applied_words F)
    → region.AsksApply (record {
      applied = lent_row at w b;
      count = n;
      room = F.limits.log_indexes;
      longest =
          F.limits.payload;
      total = counts.total;
      index = index;
      expected = expected;
      content = content;
    }) r
    → AsksRow b F k index content r
unfolding after_apply next_apply_of
row_asked {b} {F} {k} {index} {content} {expected} {n} {at} {w} {counts} {r} f i re rc rows pa pw q =
    let learnt : Learnt F b k index content expected n at w counts r =
    record { place = i; rows = rows; begins = pa.is; words = pw.is; asked = q } in
    let here : (s : State) → F ≡ capacity_of s → Learnt (capacity_of s) b k index content expected n at w counts r =
    λ s e. subst (λ (G : Capacity). Learnt G b k index content expected n at w counts r) e learnt in
    let row : (x : Payload) → Holds (payload F.limits.payload) content x → (s : State) → F ≡ capacity_of s
    → Holds (payload s.limits.payload) content x =
    λ x hx s e. subst (λ (G : Capacity). Holds (payload G.limits.payload) content x) e hx in
    record {
      to = λ x hx. record {
        to = λ s h e. record {
          room = told_room f h (here s e) (re.to s h e) (rc.to s h e) x (row x hx s e);
          does = told_does f h (here s e) (re.to s h e) (rc.to s h e) x (row x hx s e);
        };
      };
    }

-- ---- payload_asked

pub payload_asked : {b : List ℕ} {F : Capacity} {k : ℕ} {index : LogIndex} (kind : ℕ)
    (src : List ℕ) {content content' : List ℕ} {r : ApplyAsked} → Inside b F → kind ≤ 1
    → length src ≤ 256 * kind → length src ≤ F.limits.payload → Bytes src → length content ≡ 8 * (1 + words_for F.limits.payload)
    → Puts payload_marking (payload_of kind src) content content' → AsksRow b F k index content' r
    → Asks b F (ApplyTold k index (payload_of kind src) r)
payload_asked {F = F} kind src i hk hl hp hb lc p q =
    q.to (payload_of kind src)
    (p.to F.limits.payload lc
    (sounds payload_marking F.limits.payload (payload_of kind src)
    (kind_sound kind src hk hl F.limits.payload hp i.within.limits.payload hb)))
