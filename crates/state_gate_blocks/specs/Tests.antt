-- Laws of tests that the gate's parts share. Assumes nothing.
use Rattle.std.specs.Prelude.{◌≡◌, refl, Bool, true, List, ℕ, zero, suc, ◌*◌, eqb, length}
use Rattle.std.proofs.Common.{sym, subst, ◌∙◌, arith, eq-eqb, ne_eqb}
use Rattle.std.proofs.Math.Dec.{eqb-suc-suc}
use Rattle.laws.specs.Decides.{Decides}
use Rattle.words.specs.Words.{W, Bytes}
use Rattle.layout.specs.Tables.{Table, Tabled, Held, content}
use Rattle.layout.specs.TableLaws.{held_length}
use Rattle.layout.specs.Contents.{ok_decides}

-- a test of two numbers is that of the two the other way round
pub eqb_sym : (m n : ℕ) → eqb m n ≡ eqb n m
eqb_sym zero zero = refl
eqb_sym zero (suc n) = ne_eqb zero (suc n) (omega arith) ∙ sym (ne_eqb (suc n) zero (omega arith))
eqb_sym (suc m) zero = ne_eqb (suc m) zero (omega arith) ∙ sym (ne_eqb zero (suc m) (omega arith))
eqb_sym (suc m) (suc n) = eqb-suc-suc m n ∙ eqb_sym m n ∙ sym (eqb-suc-suc n m)

-- a number is itself
pub same : (n : ℕ) → eqb n n ≡ true
same n = eq-eqb n n refl

-- a table's region, tested by its own module
pub tabled_ok : {T : Type 0} (t : Table T) (N n : ℕ) (b : List ℕ) (r : Bool) → Bytes b → length b ≡ 8 * N → Decides r (Tabled t n b) → r ≡ (content t N n).ok (W b)
tabled_ok t N n b r B l d =
    ok_decides (content t N n) b B l r (record {
      yes = λ e. let k = d.yes e in record { value = k.value; held = (subst (λ (m : ℕ). Held t m n b k.value) (let q : k.words ≡ N = omega (arith, held_length k.held) in q) k.held).holds };
      no = λ e c. d.no e (record { words = N; value = c.value; held = record { holds = c.held } });
    })
