-- What is left of the range gives the answer.
use Rattle.std.proofs.Common.{◌≡◌, ◌-◌}
use Rattle.memory.specs.Areas.{first_outside}
use Rattle.memory.proofs.areas.first_outside.Given as goal

abbrev pub invariant-loop : goal.invariant-loop
invariant-loop l = first_outside l.at (l.count - l.counter) ≡ first_outside l.address l.count
