-- The steps of storing upward and of a mass erase.
use Rattle.std.specs.Prelude.{◌≡◌, ℕ, zero, suc, ◌+◌, ◌-◌, Bool, true, false, cond, List, [], ◌∷◌, ◌++◌, length, is_ok, Some, None, Option, Result}
use Rattle.std.specs.List.{flat_map}
use Rattle.fault.specs.Checks.{then}
use Rattle.fault.specs.declared.Fault.{Fault}
use Rattle.memory.specs.Areas.{all_areas, erase_last, holds, range_checked}
use Rattle.memory.specs.Meaning.{Meaning, Step, answer_of, left_by, performed}
use Rattle.memory.specs.Meaning.Step.{set_vector, store}
use Rattle.memory.specs.declared.areas.Area.{Area}
use Rattle.memory.specs.declared.areas.Range.{Range}

-- the bytes of a list, upward from an address
abbrev pub store_up : ℕ → List ℕ → List Step
store_up a [] = []
store_up a (v ∷ vs) = store a v ∷ store_up (a + 1) vs

-- what storing bytes answers: refused at the first address outside the map
abbrev pub data_answer : ℕ → List ℕ → Meaning → Result (Unit {0}) Fault
data_answer a vs m = then (range_checked a (length vs)) (answer_of (performed (store_up a vs) m))

-- what storing bytes leaves: nothing changes where it is refused outside the map
abbrev pub data_left : ℕ → List ℕ → Meaning → Meaning
data_left a vs m = cond (is_ok (range_checked a (length vs))) (left_by (performed (store_up a vs) m)) m

-- n bytes 0xFF, upward from an address
unfoldable pub blanks : ℕ → ℕ → List Step
blanks a zero = []
blanks a (suc n) = store a 0xFF ∷ blanks (a + 1) n

-- the blanks of a range, if there is one
abbrev pub blanks_of : Option Range → List Step
blanks_of None = []
blanks_of (Some r) = blanks r.first ((erase_last r + 1) - r.first)

-- what is erased of an area
abbrev pub erased : Area → List Step
erased x = blanks_of x.erase

-- what a mass erase blanks of an area in its first round (true: the area of the vector) or its second (the others)
abbrev pub round : Bool → Area → List Step
round true x = cond (holds x 0xFFFE) (erased x) []
round false x = cond (holds x 0xFFFE) [] (erased x)

-- all that it blanks in a round, walking the areas of the map
abbrev pub round_steps : Bool → List Step
round_steps vector = flat_map (round vector) all_areas

-- a mass erase: the vector, the rest of its area, the other areas
unfoldable pub erase_steps : List Step
erase_steps = set_vector 0xFF 0xFF ∷ (round_steps true ++ round_steps false)

-- the same, written out: the vector, 0xFFC0 to 0xFFFD, lower, upper
abbrev pub EraseAsWritten : Type 0
EraseAsWritten = erase_steps ≡ set_vector 0xFF 0xFF ∷ (blanks 0xFFC0 62 ++ (blanks 0x4400 44032 ++ blanks 0x10000 16384))
