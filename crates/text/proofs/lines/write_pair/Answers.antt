-- What `{:02X}` writes.
use Rattle.std.proofs.Common.{arith}
use Rattle.text.proofs.HexTexts.{pair_shown}
use Rattle.text.proofs.lines.write_pair.Goals as goal

pub returns : goal.returns
returns g c =
    let shown = pair_shown c.args.b _ (omega arith) c.in_radix.ensures in
    rw (c.laid_out.ensures, shown) at c.write.ensures.writes
