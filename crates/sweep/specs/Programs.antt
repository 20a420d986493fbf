-- Programs at their places.
use Rattle.std.specs.Prelude.{ℕ, cond, is_ok, [], ◌∷◌, replicate, false, Result}
use Rattle.fault.specs.declared.Fault.{Fault}
use Rattle.fault.specs.Checks.{then}
use Rattle.memory.specs.Held.{fresh_held, held_version}
use Rattle.memory.specs.Meaning.{Meaning, left_by, performed}
use Rattle.memory.specs.Steps.{data_answer, data_left}
use Rattle.memory.specs.declared.held.Held.{Held}
use Rattle.sweep.specs.Fillings.{map_fillers}
use Rattle.sweep.specs.declared.plans.TheConstants.{KEK, KEY}

-- the held record of the old program's memory: version 1, no mark, and the two keys
abbrev pub old_record : Held
old_record = held_version 1 false (fresh_held KEY KEK)

-- what storing the program of a version answers: 512 bytes of its number, and the reset vector
abbrev pub program_answer : ℕ → Meaning → Result (Unit {0}) Fault
program_answer v m = then (data_answer 0x4400 (replicate 512 v) m) (data_answer 0xFFFE (0x00 ∷ 0x44 ∷ []) (data_left 0x4400 (replicate 512 v) m))

-- what storing the program of a version leaves
abbrev pub program_left : ℕ → Meaning → Meaning
program_left v m =
    let half = data_left 0x4400 (replicate 512 v) m in
    cond (is_ok (data_answer 0x4400 (replicate 512 v) m)) (data_left 0xFFFE (0x00 ∷ 0x44 ∷ []) half) half

-- what filling the map leaves, and laying the program of a version over it
abbrev pub prepared : ℕ → Meaning → Meaning
prepared v m = program_left v (left_by (performed map_fillers m))
