-- The loop over the bytes, and the worked examples by computation.
use Rattle.std.proofs.Common.{◌+◌, ◌<◌, ◌≤◌, length, drop, sym, refl, ap, ◌∙◌, arith}
use Rattle.std.proofs.lemmas.List.{at_drop_more, at_drop_all}
use Rattle.wire.specs.Checksum.{crc, crc_from, crc_byte, crc_bits}
use Rattle.wire.proofs.checksum.checksum.Goals as goal

pub loop-b-preserved : goal.loop-b-preserved
unfolding crc_from
loop-b-preserved c =
    let h : c.loop-b.b-index < length c.args.bytes.now = omega arith in
    ap (λ s. crc_from s (drop (c.loop-b.b-index + 1) c.args.bytes.now)) c.crc_byte-sum.ensures
    ∙ sym (at_drop_more (crc_from c.loop-b.sum) c.args.bytes.now c.loop-b.b-index 0 h) ∙ c.loop-b.invariant

pub returns : goal.returns
unfolding crc crc_from crc_byte crc_bits
returns c =
    let h : length c.args.bytes.now ≤ c.loop-b.b-index = omega arith in
    record {
      value = sym (at_drop_all (crc_from c.loop-b.sum) c.args.bytes.now c.loop-b.b-index h) ∙ c.loop-b.invariant;
      examples = (refl, (refl, (refl, (refl, (refl, tt)))));
    }
