-- One byte more, behind what stands before it.
use Rattle.std.proofs.Common.{true, refl, arith}
use Rattle.text.proofs.HexTexts.{byte_put}
use Rattle.text.proofs.lines.HexLinesDisplay.fmt.Goals as goal

pub loop-i-preserved : goal.loop-i-preserved
loop-i-preserved g c =
    λ plain.
    let bs = c.args.self.now.bytes.now in
    let i = c.loop-i.i in
    let so_far = c.loop-i.invariant plain in
    let before = rw c.separator.ensures at (c.in_ok-write_str.ensures.writes so_far.plain (refl {a = true})) in
    let pair = c.in_ok-write_pair.ensures before.plain (refl {a = true}) in
    byte_put g.W.Write.write_str_gives c.args.f.now c.loop-i.f c.write_str.new.self c.write_pair.new.f bs i (omega arith) so_far before pair
