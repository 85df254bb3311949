-- The tests of the header's parts as the code makes them. Assumes nothing.
use Rattle.std.specs.Prelude.{Bool, List, ℕ, eqb, leb, ltb, get_or, take, drop}
use Rattle.laws.specs.Bools.{pick, ◌and◌}
use Rattle.laws.specs.Lists.{same_list}
use Rattle.layout.specs.Structs.{firsts}
use Rattle.config.specs.declared.SimConfig.{SimConfig}
use Rattle.config.specs.declared.Limits.{Limits}
use Rattle.state.specs.declared.Capacity.{Capacity}
use Rattle.state.specs.declared.OpenInput.{OpenInput}
use Rattle.state.specs.Parts.{capacity_words, settings_accepted}

-- Of n words from word i on: they are those of the counts and their offsets.
unfoldable pub offsets_ok : Capacity → List ℕ → ℕ → ℕ → Bool
offsets_ok F ws i n = same_list (take n (drop i (capacity_words F))) (take n (drop i (firsts 19 (λ j. get_or ws j 0))))

-- Questions 1 to 3 accept the settings.
unfoldable pub accepted_ok : SimConfig → Limits → Bool
accepted_ok c l = settings_accepted c l

-- An input's kind is 0 to 5; a client below C, a sequence number and an attempt stand only with kind 4, a client's proposal.
unfoldable pub input_ok : ℕ → ℕ → ℕ → ℕ → ℕ → Bool
input_ok C kind client seq attempt = pick (eqb kind 4) (ltb client C) (leb kind 5 and (eqb client 0 and (eqb seq 0 and eqb attempt 0)))

-- A verdict's kind is 0, or 1 or 2 of an input from kind 3 on; a leader stands only with 2.
unfoldable pub verdict_ok : ℕ → ℕ → ℕ → Bool
verdict_ok input kind leader = pick (eqb kind 0) (eqb leader 0) (pick (eqb kind 1) (eqb leader 0 and leb 3 input) (eqb kind 2 and leb 3 input))

-- What is owed is 0, or 1 or 2 with a place up to S.
unfoldable pub owed_ok : ℕ → ℕ → ℕ → Bool
owed_ok S kind next = pick (eqb kind 0) (eqb next 0) (leb kind 2 and leb next S)

-- The numbers of a phase: closed and all 0, writing with no verdict, or sending.
unfoldable pub open_ok : ℕ → ℕ → OpenInput → Bool
open_ok S C o =
    let input : Bool = input_ok C o.input o.client o.seq o.attempt in
    let owed : Bool = owed_ok S o.owed o.next in
    pick (eqb o.phase 0)
    (eqb o.slot 0 and (eqb o.input 0 and (eqb o.client 0 and (eqb o.seq 0 and (eqb o.attempt 0 and (eqb o.verdict 0 and (eqb o.leader 0 and (eqb o.owed 0 and eqb o.next 0))))))))
    (pick (eqb o.phase 1)
    (ltb o.slot S and (input and (eqb o.verdict 0 and (eqb o.leader 0 and owed))))
    (eqb o.phase 2 and (ltb o.slot S and (input and (verdict_ok o.input o.verdict o.leader and owed)))))
