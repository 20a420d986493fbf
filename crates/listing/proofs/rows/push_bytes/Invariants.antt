-- Four columns for each byte so far.
use Rattle.std.proofs.Common.{◌*◌, take}
use Rattle.listing.specs.Appends.{Appended}
use Rattle.listing.specs.Rows.{in_four_columns}
use Rattle.listing.proofs.rows.push_bytes.Given as goal

abbrev pub invariant-loop-b : goal.invariant-loop-b
invariant-loop-b l = Appended l.initial.out l.out (4 * l.b-index) (in_four_columns (take l.b-index l.bytes))
