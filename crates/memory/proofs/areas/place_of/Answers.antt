use Rattle.memory.specs.Areas.{all_areas, place}
use Rattle.memory.proofs.Places.{inverse, place_cases, vector_place}
use Rattle.memory.proofs.areas.place_of.Goals as goal

pub returns : goal.returns
unfolding place all_areas
returns c =
    let e = c.place_in.ensures.value in
    record { value = e; within = place_cases c.args.address _ e; inverse = inverse; vector = vector_place }
