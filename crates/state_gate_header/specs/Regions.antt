-- Which regions of an area are contents: the tests of `ok_regions` by place. Assumes nothing.
use Rattle.std.specs.Prelude.{Bool, true, List, ℕ, get_or, take, drop}
use Rattle.laws.specs.Bools.{allb}
use Rattle.state.specs.declared.Capacity.{Capacity}
use Rattle.state.specs.Area.{regions}
use Rattle.state.specs.Decode.{settings_said, counts_said, region_tests}

module _ (F : Capacity) (b : List ℕ) where
  -- The tests of the regions of bytes b, by the settings and the counts of rows that they say.
  abbrev pub tests : List Bool
  tests = region_tests F (regions F b) (settings_said F (regions F b)) (counts_said F (regions F b))

  -- Whether region i is a content, in the order of the record `Regions`.
  unfoldable pub region_ok : ℕ → Bool
  region_ok i = get_or tests i true

  -- Whether n regions are contents, from region i on.
  unfoldable pub regions_ok : ℕ → ℕ → Bool
  regions_ok i n = allb (take n (drop i tests))
