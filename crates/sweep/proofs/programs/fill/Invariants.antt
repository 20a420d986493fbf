use Rattle.std.proofs.Common.{drop}
use Rattle.std.specs.List.{flat_map}
use Rattle.memory.proofs.Turns.{ToDo}
use Rattle.sweep.specs.Fillings.{area_fillers, map_fillers}
use Rattle.sweep.proofs.programs.fill.Given as goal

abbrev pub invariant-loop-area : goal.invariant-loop-area
invariant-loop-area g l =
    let m = g.M.Memory in
    ToDo (flat_map area_fillers (drop l.area-index l.area-items)) (m.meaning l.memory) map_fillers (m.meaning l.fn.memory)
