use Rattle.std.proofs.Common.{◌+◌, ◌-◌}
use Rattle.memory.specs.Steps.{blanks, erased}
use Rattle.memory.proofs.Turns.{ToDo}
use Rattle.memory.proofs.steps.erase_area.Given as goal

abbrev pub invariant-loop-address : goal.invariant-loop-address
invariant-loop-address g l =
    let m = g.M.Memory in
    ToDo (blanks l.address ((l.address-end + 1) - l.address)) (m.meaning l.memory) (erased l.area) (m.meaning l.initial.memory)
