-- Two digits are a byte more.
use Rattle.std.proofs.Common.{◌+◌, ◌*◌, ◌<◌, length, take, drop, ap, ◌∙◌, arith}
use Rattle.std.proofs.lemmas.List.{length-set, take_more_set}
use Rattle.text.specs.Hex.{hex_read}
use Rattle.text.proofs.HexReads.{behind, read_more, read_none}
use Rattle.text.proofs.hex.read_bytes.Goals as goal

pub returns-in_err-bytes : goal.returns-in_err-bytes
returns-in_err-bytes c =
    let i = c.loop-i.i in
    let none = read_none c.args.text.now c.as_chunks.result.0.now i c.as_chunks.ensures.front (omega arith) (take i c.loop-i.bytes) c.in_err-bytes.ensures in
    rw c.from_residual.ensures (none ∙ c.loop-i.invariant.1)

pub loop-i-preserved : goal.loop-i-preserved
loop-i-preserved c =
    let xs = c.args.text.now in
    let i = c.loop-i.i in
    let b = c.in_ok-bytes.field-0 in
    let h : i < length c.loop-i.bytes = omega arith in
    let more = read_more xs c.as_chunks.result.0.now i c.as_chunks.ensures.front (omega arith) (take i c.loop-i.bytes) b c.in_ok-bytes.ensures in (
      length-set c.loop-i.bytes i b ∙ c.loop-i.invariant.0,
      ap (λ acc. behind acc (hex_read (drop (2 * (i + 1)) xs))) (take_more_set c.loop-i.bytes i b h) ∙ more ∙ c.loop-i.invariant.1,
    )
