use Rattle.std.proofs.Common.{◌+◌, ◌-◌}
use Rattle.memory.proofs.Turns.{ToDo}
use Rattle.sweep.specs.Fillings.{area_fillers, fillers}
use Rattle.sweep.proofs.programs.fill_area.Given as goal

abbrev pub invariant-loop-address : goal.invariant-loop-address
invariant-loop-address g l =
    let m = g.M.Memory in
    ToDo (fillers l.address ((l.area.last + 1) - l.address)) (m.meaning l.memory) (area_fillers l.area) (m.meaning l.initial.memory)
