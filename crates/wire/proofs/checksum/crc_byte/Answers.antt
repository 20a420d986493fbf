-- One look-up is eight shifts.
use Rattle.std.proofs.Common.{◌*◌, ◌/◌, ◌%◌, ◌<◌, sym, ap, ◌∙◌, arith}
use lib.Bits.{bit_xor}
use Rattle.std.proofs.lemmas.List.FromFn.{get_or-map-range_with_len}
use Rattle.wire.specs.Checksum.{crc_bits}
use Rattle.wire.proofs.Shifts.{crc_byte_is, top_lt}
use Rattle.wire.proofs.checksum.crc_byte.Goals as goal

pub overflow_cast-result : goal.overflow_cast-result
overflow_cast-result c = omega (arith, top_lt c.args.r c.args.b (omega arith) (omega arith))

pub offset_bounds-top : goal.offset_bounds-top
offset_bounds-top c = omega (arith, top_lt c.args.r c.args.b (omega arith) (omega arith))

pub bounds-top : goal.bounds-top
bounds-top c = top_lt c.args.r c.args.b (omega arith) (omega arith)

-- the table's rule is computed here, over all of its entries at once
pub returns : goal.returns
unfolding crc_bits
returns c =
    let r = c.args.r in
    let b = c.args.b in
    let top = bit_xor (r / 0x100) b in
    let p : r < 0x10000 = omega arith in
    let q : b < 0x100 = omega arith in
    ap (bit_xor ((r * 0x100) % 0x10000)) (get_or-map-range_with_len (λ i. crc_bits 8 (i * 0x100)) 0 0x100 top top 0 (top_lt r b p q) (omega arith))
    ∙ sym (crc_byte_is r b p q)
