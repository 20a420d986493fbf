use Rattle.memory.specs.Steps.{store_up}
use Rattle.memory.proofs.Turns.{ToDo}
use Rattle.memory.proofs.steps.store_up.Given as goal

abbrev pub invariant-loop-at : goal.invariant-loop-at
invariant-loop-at g l =
    let m = g.M.Memory in
    ToDo (store_up l.at-iterator.a.start l.at-iterator.b.rest.now) (m.meaning l.memory) (store_up l.address l.bytes) (m.meaning l.initial.memory)
