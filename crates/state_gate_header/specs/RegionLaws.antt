-- A region of an area as it is lent, and its test. Assumes nothing.
use Rattle.std.specs.Prelude.{◌≡◌, Bool, List, [], ℕ, ◌+◌, ◌-◌, ◌*◌, ◌≤◌, ◌<◌, length, get_or, take, drop}
use Rattle.std.proofs.Common.{ap, ap₂, ◌∙◌, arith, length-drop, length-take-le}
use Rattle.laws.specs.Decides.{Decides}
use Rattle.words.specs.Words.{W, Bytes}
use Rattle.words.specs.Numbers.{each_take, each_drop}
use Rattle.layout.specs.Code.{Code}
use Rattle.layout.specs.Cuts.{cut, total, region}
use Rattle.layout.specs.Tables.{Table, Tabled, Content, content}
use Rattle.layout.specs.Contents.{ok_decides}
use Rattle.state.specs.declared.Capacity.{Capacity}
use Rattle.state.specs.Sizes.{sizes}
use Rattle.state_gate_blocks.specs.Tests.{tabled_ok}

module _ (F : Capacity) (b : List ℕ) (i a e : ℕ) (k : i < 18) (p : a ≡ total (take i (sizes F))) (q : e ≡ a + get_or (sizes F) i 0) where
  -- region i as it is lent
  pub region_lent : take (e - a) (drop a b) ≡ get_or (cut (sizes F) b) i []
  region_lent = ap₂ (λ (n m : ℕ). take n (drop m b)) (let d : e - a ≡ get_or (sizes F) i 0 = omega arith in d) p ∙ region (sizes F) b i k

  module _ (B : Bytes b) (h : e ≤ length b) where
    lent_long : length (take (e - a) (drop a b)) ≡ get_or (sizes F) i 0
    lent_long = length-take-le (e - a) (drop a b) (omega (arith, length-drop a b)) ∙ (let d : e - a ≡ get_or (sizes F) i 0 = omega arith in d)

    lent_bytes : Bytes (take (e - a) (drop a b))
    lent_bytes = each_take (e - a) (drop a b) (each_drop a b B)

    -- a test of a code, and one of a table
    pub region_content : {T : Type 0} (c : Code T) (r : Bool) → get_or (sizes F) i 0 ≡ 8 * c.size → Decides r (Content c (take (e - a) (drop a b))) → r ≡ c.ok (W (get_or (cut (sizes F) b) i []))
    region_content c r s d = ok_decides c (take (e - a) (drop a b)) lent_bytes (lent_long ∙ s) r d ∙ ap (λ (l : List ℕ). c.ok (W l)) region_lent

    pub region_table : {T : Type 0} (t : Table T) (N n : ℕ) (r : Bool) → get_or (sizes F) i 0 ≡ 8 * N → Decides r (Tabled t n (take (e - a) (drop a b))) → r ≡ (content t N n).ok (W (get_or (cut (sizes F) b) i []))
    region_table t N n r s d = tabled_ok t N n (take (e - a) (drop a b)) r lent_bytes (lent_long ∙ s) d ∙ ap (λ (l : List ℕ). (content t N n).ok (W l)) region_lent
