-- A byte of the name for each turn so far.
use Rattle.std.proofs.Common.{take}
use Rattle.listing.specs.Appends.{Appended}
use Rattle.listing.proofs.rows.push_name.Given as goal

abbrev pub invariant-loop-b : goal.invariant-loop-b
invariant-loop-b l = Appended l.initial.out l.out l.b-index (take l.b-index l.name)
