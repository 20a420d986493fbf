use Rattle.std.proofs.Common.{drop}
use Rattle.std.specs.List.{flat_map}
use Rattle.memory.specs.Steps.{round, round_steps}
use Rattle.memory.proofs.Turns.{ToDo}
use Rattle.memory.proofs.steps.erase_round.Given as goal

abbrev pub invariant-loop-area : goal.invariant-loop-area
invariant-loop-area g l =
    let m = g.M.Memory in
    ToDo (flat_map (round l.vector) (drop l.area-index l.area-items)) (m.meaning l.memory) (round_steps l.vector) (m.meaning l.fn.memory)
