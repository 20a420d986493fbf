-- What fills the map where there is no program.
use Rattle.std.specs.Prelude.{ℕ, zero, suc, ◌+◌, ◌%◌, List, [], ◌∷◌}
use Rattle.std.specs.List.{flat_map}
use Rattle.memory.specs.Areas.{all_areas, size}
use Rattle.memory.specs.Meaning.{Step}
use Rattle.memory.specs.Meaning.Step.{store}
use Rattle.memory.specs.declared.areas.Area.{Area}

-- n bytes upward from an address, each its address mod 251
unfoldable pub fillers : ℕ → ℕ → List Step
fillers a zero = []
fillers a (suc n) = store a (a % 251) ∷ fillers (a + 1) n

-- those of an area
abbrev pub area_fillers : Area → List Step
area_fillers x = fillers x.first (size x)

-- those of the map, area after area
unfoldable pub map_fillers : List Step
map_fillers = flat_map area_fillers all_areas
