use Rattle.std.proofs.Common.{◌/◌, ◌%◌, ap, ◌∙◌}
use lib.Bits.{bit_xor}
use Rattle.cipher.proofs.Horners.{four_of_eight}
use Rattle.cipher.proofs.gcm.ghash.shifted4.Goals as goal

pub returns : goal.returns
returns c =
    let v = c.args.v in
    ap (bit_xor (v / 16)) (c.reduced.ensures ∙ four_of_eight (v % 16))
