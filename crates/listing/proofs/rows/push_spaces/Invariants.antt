-- A space for each turn so far.
use Rattle.std.proofs.Common.{replicate}
use Rattle.listing.specs.Appends.{Appended}
use Rattle.listing.proofs.rows.push_spaces.Given as goal

abbrev pub invariant-loop : goal.invariant-loop
invariant-loop l = Appended l.initial.out l.out l.counter (replicate l.counter 32)
