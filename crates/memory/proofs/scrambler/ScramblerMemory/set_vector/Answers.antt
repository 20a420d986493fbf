use Rattle.std.proofs.Common.{refl, ap, ◌∙◌}
use lib.Bits.{bit_xor}
use Rattle.memory.specs.Meaning.{Makes, Step, put, with_image}
use Rattle.memory.specs.Meaning.Step.{set_vector}
use Rattle.memory.specs.Scrambled.{mask}
use Rattle.memory.proofs.Through.{put_clear, through}
use Rattle.memory.proofs.scrambler.ScramblerMemory.set_vector.Goals as goal

pub returns : goal.returns
returns g c =
    let f = c.args.self.now.fixed in
    let lo = c.args.low in
    let hi = c.args.high in
    let m = g.M.Memory.meaning c.args.self.now.below in
    let xs = m.contents.image in
    let low = bit_xor lo (mask f 0xFFFE) in
    let K : Step = set_vector low (bit_xor hi (mask f 0xFFFF)) in
    let d : Makes K m _ _ = rw (ap (bit_xor lo) c.mask_at.ensures, ap (bit_xor hi) c.mask_at-2.ensures) at c.set_vector.ensures in
    through f m (set_vector lo hi) K refl
    (ap (λ ys. with_image ys m.contents) (put_clear f 0xFFFF hi (put 0xFFFE low xs) ∙ ap (put 0xFFFF hi) (put_clear f 0xFFFE lo xs))) _ _ d
