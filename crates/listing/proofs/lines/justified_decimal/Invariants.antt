-- What stands behind the spaces of the rest is what stands behind all spaces.
use Rattle.std.proofs.Common.{◌≡◌, length}
use Rattle.listing.specs.Lines.{behind_spaces}
use Rattle.listing.proofs.lines.justified_decimal.Given as goal

abbrev pub invariant-loop-rest : goal.invariant-loop-rest
invariant-loop-rest l = behind_spaces l.rest ≡ behind_spaces l.columns

abbrev pub decreases-loop-rest : goal.decreases-loop-rest
decreases-loop-rest l = length l.rest
