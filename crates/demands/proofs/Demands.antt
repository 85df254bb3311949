-- Demand 1 and demand 3 of the exported calls, each from what the calls' contracts say. Assumes nothing.
use Rattle.std.specs.Prelude.{◌≡◌, true, false, List, [], ◌∷◌, map, ℕ, length}
use Rattle.std.proofs.Math.Path.{refl, ap}
use Rattle.std.proofs.Common.{sym, ap₂, subst, ◌∙◌}
use Rattle.words.specs.Words.{Bytes}
use Rattle.config.specs.declared.SimConfig.{SimConfig}
use Rattle.config.specs.declared.Limits.{Limits}
use Rattle.model.specs.Calls as model
use Rattle.model.specs.Reads as reads
use Rattle.model.specs.Outcome.{Call, start, Answer, sealed, outcome, write_outcome, output_outcome, read_outcome}
use Rattle.claims.specs.Claim.{accepted, Kept}
use Rattle.claims.specs.OnArea.{on_area}
use Rattle.claims.specs.Areas.{areas}
use Rattle.answers.specs.Answers.{sealed_no, sealed_yes}
use Rattle.book.specs.Book.{Book, note, told_of, Right}
use Rattle.book.specs.Theorem.{demand3}
use Rattle.book.proofs.Theorem.{theorem_area}
use Rattle.demands.specs.Heard.{heard_opened, heard_stepped, heard_sealed, heard_entry, heard_applied_entry}
use Rattle.demands.specs.WrittenLaws.{step_filled, entry_filled, applied_filled}
use Rattle.demands.specs.Returned.{unless_no}
use Rattle.demands.proofs.Returned.{sealed_heard}
use Rattle.demands.specs.Clean.{Quiet, clean_start, clean_step, clean_propose, clean_fire_timer, clean_confirm_leadership, clean_schedule, clean_write_hard_state, clean_write_put, clean_write_truncate, clean_seal, clean_output_send, clean_output_set_timer, clean_output_cancel_timer, clean_output_apply, clean_output_confirmed, clean_output_lost, clean_end, clean_check_log_matching, clean_check_durability, clean_read_hard_state, clean_read_log, clean_read_entry, clean_read_applied, clean_read_applied_entry, clean_read_reply, clean_read_confirmation}
use Rattle.demands.specs.Exported.{Made, made_start, made_step, made_propose, made_fire_timer, made_confirm_leadership, made_schedule, made_write_hard_state, made_write_put, made_write_truncate, made_seal, made_output_send, made_output_set_timer, made_output_cancel_timer, made_output_apply, made_output_confirmed, made_output_lost, made_end, made_check_log_matching, made_check_durability, made_read_hard_state, made_read_log, made_read_entry, made_read_applied, made_read_applied_entry, made_read_reply, made_read_confirmation, made_other_read}
use Rattle.demands.specs.Demands.{Hears, hear_call, hear_read, hear_start, hears_done, hears_opened, hears_asked, hears_stepped, hears_hard_state, hears_log, hears_entry, hears_applied, hears_applied_entry, hears_reply, hears_confirmation, acts, tells, area_kept, buffer_kept, Makes, none_made, then_made, AllRight}

-- ---- what is heard of a call is its definition's answer

hears_sealed : Hears sealed_no sealed_yes sealed (λ r u. heard_sealed r) [] (λ x. Quiet x.opening)
hears_sealed = record { says_no = λ n u l. unless_no n _ l; says_yes = sealed_heard }

-- What is heard of an exported call, and the area after it, are what its definition on the area's bytes gives.
pub made_is : {b z b' z' : List ℕ} {c : Call} {a : Answer} → Bytes b → Made b z b' z' c a → (a, b') ≡ on_area b c
unfolding on_area outcome write_outcome output_outcome read_outcome
made_is {b} {z} {b'} {z'} y (made_start {config = config} {limits = limits} {seed = seed} e) =
    ap (λ (p : _ × List ℕ). (heard_opened p.0, p.1)) e ∙ hear_start hears_opened b (model.start config limits seed) (clean_start config limits seed)
made_is {b} {z} y (made_step {deadline = deadline} {r = r} e ez) =
    ap₂ (λ (p : _ × List ℕ) (u : List ℕ). (heard_stepped p.0 u, p.1)) e (ez ∙ sym (step_filled b z deadline)) ∙ hear_call (hears_stepped z) b (model.step deadline (length z)) y (λ s t. clean_step s deadline (length z) t)
made_is {b} {z} {b'} y (made_propose {server = server} {r = r} e) = acts hears_asked b b' (model.propose server) r y (λ s. clean_propose s server) e
made_is {b} {z} {b'} y (made_fire_timer {server = server} {timer = timer} {r = r} e) = acts hears_opened b b' (model.fire_timer server timer) r y (λ s. clean_fire_timer s server timer) e
made_is {b} {z} {b'} y (made_confirm_leadership {server = server} {request = q} {r = r} e) =
    acts hears_asked b b' (model.confirm_leadership server q) r y (λ s. clean_confirm_leadership s server q) e
made_is {b} {z} {b'} y (made_schedule {time = time} {kind = kind} {first = first} {second = second} {groups = groups} {r = r} e) =
    acts hears_done b b' (model.schedule time kind first second groups) r y (λ s. clean_schedule s time kind first second groups) e
made_is {b} {z} {b'} y (made_write_hard_state {term = term} {present = present} {vote = vote} {r = r} e) =
    acts hears_done b b' (model.write_hard_state_call term present vote) r y (λ s. clean_write_hard_state s term present vote) e
made_is {b} {z} {b'} y (made_write_put {index = index} {term = term} {kind = kind} {bytes = bytes} {r = r} e) =
    acts hears_done b b' (model.write_put_call index term kind bytes) r y (λ s. clean_write_put s index term kind bytes) e
made_is {b} {z} {b'} y (made_write_truncate {from = from} {r = r} e) = acts hears_done b b' (model.write_truncate_call from) r y (λ s. clean_write_truncate s from) e
made_is {b} {z} {b'} y (made_seal {refusal = refusal} {present = present} {leader = leader} {r = r} e) =
    acts hears_sealed b b' (model.seal refusal present leader) r y (λ s. clean_seal s refusal present leader) e
made_is {b} {z} {b'} y (made_output_send {to = to} {message = message} {entries = entries} {r = r} e) =
    acts hears_done b b' (model.output_send to message entries) r y (λ s. clean_output_send s to message entries) e
made_is {b} {z} {b'} y (made_output_set_timer {timer = timer} {after = after} {r = r} e) =
    acts hears_done b b' (model.output_set_timer timer after) r y (λ s. clean_output_set_timer s timer after) e
made_is {b} {z} {b'} y (made_output_cancel_timer {timer = timer} {r = r} e) = acts hears_done b b' (model.output_cancel_timer timer) r y (λ s. clean_output_cancel_timer s timer) e
made_is {b} {z} {b'} y (made_output_apply {index = index} {kind = kind} {bytes = bytes} {r = r} e) =
    acts hears_done b b' (model.output_apply index kind bytes) r y (λ s. clean_output_apply s index kind bytes) e
made_is {b} {z} {b'} y (made_output_confirmed {request = q} {index = index} {r = r} e) =
    acts hears_done b b' (model.output_confirmed q index) r y (λ s. clean_output_confirmed s q index) e
made_is {b} {z} {b'} y (made_output_lost {request = q} {r = r} e) = acts hears_done b b' (model.output_lost q) r y (λ s. clean_output_lost s q) e
made_is {b} {z} {b'} y (made_end {role = role} {term = term} {present = present} {leader = leader} {commit = commit} {r = r} e) =
    acts hears_opened b b' (model.end role term present leader commit) r y (λ s. clean_end s role term present leader commit) e
made_is {b} {z} {b'} y (made_check_log_matching {r = r} e) = acts hears_done b b' model.check_log_matching_call r y clean_check_log_matching e
made_is {b} {z} {b'} y (made_check_durability {r = r} e) = acts hears_done b b' model.check_durability_call r y clean_check_durability e
made_is {b} y (made_read_hard_state {server = server} {r = r} e) = tells hears_hard_state b (reads.read_hard_state server) r y (λ s. clean_read_hard_state s server) e
made_is {b} y (made_read_log {server = server} {r = r} e) = tells hears_log b (reads.read_log server) r y (λ s. clean_read_log s server) e
made_is {b} {z} y (made_read_entry {server = server} {index = index} {r = r} e ez) =
    ap (λ (a : Answer). (a, b)) (ap₂ heard_entry e (ez ∙ sym (entry_filled b z server index)) ∙ hear_read (hears_entry z) b (reads.read_entry server index (length z)) y (λ s t. clean_read_entry s server index (length z) t))
made_is {b} y (made_read_applied {server = server} {r = r} e) = tells hears_applied b (reads.read_applied server) r y (λ s. clean_read_applied s server) e
made_is {b} {z} y (made_read_applied_entry {index = index} {r = r} e ez) =
    ap (λ (a : Answer). (a, b)) (ap₂ heard_applied_entry e (ez ∙ sym (applied_filled b z index)) ∙ hear_read (hears_applied_entry z) b (reads.read_applied_entry index (length z)) y (λ s t. clean_read_applied_entry s index (length z) t))
made_is {b} y (made_read_reply {place = place} {r = r} e) = tells hears_reply b (reads.read_reply place) r y (λ s. clean_read_reply s place) e
made_is {b} y (made_read_confirmation {place = place} {r = r} e) = tells hears_confirmation b (reads.read_confirmation place) r y (λ s. clean_read_confirmation s place) e
made_is y (made_other_read r) = refl

-- ---- demand 1

-- Demand 1: whatever the arguments and the bytes are, a call that is refused has changed no byte that was lent to it.
pub demand_1 : {b z b' z' : List ℕ} {c : Call} {a : Answer} → Bytes b → Made b z b' z' c a → accepted a ≡ false → (b' ≡ b) × (z' ≡ z)
demand_1 {b} {c = c} y m e =
    let i = made_is y m in
    let k : accepted (on_area b c).0 ≡ false = sym (ap (λ (p : Answer × List ℕ). accepted p.0) i) ∙ e in
    (ap (λ (p : Answer × List ℕ). p.1) i ∙ area_kept b c k, buffer_kept m k)

-- ---- demand 3

kept_right : (n : Book) (b : List ℕ) (xs : List (Call × Answer)) → Makes b xs → Kept areas demand3 n b (map (λ (x : Call × Answer). x.0) xs) → AllRight n xs
unfolding AllRight Kept
kept_right n b [] none_made k = tt
kept_right n b ((c, a) ∷ xs) (then_made {b' = b'} y m more) k =
    let i : (a, b') ≡ on_area b c = made_is y m in
    let ea : (on_area b c).0 ≡ a = sym (ap (λ (p : Answer × List ℕ). p.0) i) in
    let eb : (on_area b c).1 ≡ b' = sym (ap (λ (p : Answer × List ℕ). p.1) i) in (
      λ t. subst (λ (x : Answer). Right n c x) ea (k.0.0 (ap accepted ea ∙ t)),
      kept_right (note n c (told_of a)) b' xs more
          (subst (λ (x : Answer). Kept areas demand3 (note n c (told_of x)) b' (map (λ (x : Call × Answer). x.0) xs)) ea
          (subst (λ (v : List ℕ). Kept areas demand3 (note n c (told_of (on_area b c).0)) v (map (λ (x : Call × Answer). x.0) xs)) eb k.1)),
    )

-- Demand 3: of every list of exported calls on one area that begins with an accepted start, whatever bytes it held, every accepted call is right by the book.
pub demand_3 : (n : Book) (b : List ℕ) (config : SimConfig) (limits : Limits) (seed : ℕ) (a : Answer) (xs : List (Call × Answer))
    → Makes b ((start config limits seed, a) ∷ xs) → accepted a ≡ true → AllRight n ((start config limits seed, a) ∷ xs)
demand_3 n b config limits seed a xs (then_made y m more) t =
    kept_right n b ((start config limits seed, a) ∷ xs) (then_made y m more)
    (theorem_area b n config limits seed (map (λ (x : Call × Answer). x.0) xs) (ap (λ (p : Answer × List ℕ). accepted p.0) (sym (made_is y m)) ∙ t))
