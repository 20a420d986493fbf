-- An odd number of digits; and two digits are a byte more.
use Rattle.std.proofs.Common.{◌+◌, ◌*◌, drop, vec_items, ap, ◌∙◌, arith}
use Rattle.text.specs.Hex.{hex_read}
use Rattle.text.proofs.HexReads.{behind, read_more, read_none, read_odd}
use Rattle.text.proofs.hex.hex_bytes.Goals as goal

pub returns-then-text-ne0 : goal.returns-then-text-ne0
returns-then-text-ne0 c = read_odd c.args.text.now (omega arith)

pub returns-in-None : goal.returns-in-None
returns-in-None c =
    let i = c.loop-high.high-index in
    read_none c.args.text.now c.as_chunks.result.0.now i c.as_chunks.ensures.front (omega arith) (vec_items c.loop-high.bytes) c.in-None.ensures
    ∙ c.loop-high.invariant

pub loop-high-preserved : goal.loop-high-preserved
loop-high-preserved c =
    let xs = c.args.text.now in
    let i = c.loop-high.high-index in
    let more = read_more xs c.as_chunks.result.0.now i c.as_chunks.ensures.front (omega arith) (vec_items c.loop-high.bytes) c.in-Some.byte c.in-Some.ensures in
    ap (λ acc. behind acc (hex_read (drop (2 * (i + 1)) xs))) c.in_ok-push-in-Some.ensures.items ∙ more ∙ c.loop-high.invariant
