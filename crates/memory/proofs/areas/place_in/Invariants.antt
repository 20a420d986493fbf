use Rattle.std.proofs.Common.{◌≡◌, ◌*◌, ◌^◌, ◌≤◌, drop}
use Rattle.memory.specs.Areas.{place_in}
use Rattle.memory.proofs.areas.place_in.Given as goal

-- what is left of the walk, from the base that is reached, gives the answer
abbrev pub invariant-loop-area : goal.invariant-loop-area
invariant-loop-area l = (l.base ≤ l.area-index * 2 ^ 32) × (place_in (drop l.area-index l.areas) l.base l.address ≡ place_in l.areas 0 l.address)
