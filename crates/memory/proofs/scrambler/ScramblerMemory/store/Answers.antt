use Rattle.std.proofs.Common.{refl, ap}
use lib.Bits.{bit_xor}
use Rattle.memory.specs.Meaning.{Makes, Step, with_image}
use Rattle.memory.specs.Meaning.Step.{store}
use Rattle.memory.specs.Scrambled.{mask}
use Rattle.memory.proofs.Through.{put_clear, through}
use Rattle.memory.proofs.scrambler.ScramblerMemory.store.Goals as goal

pub returns : goal.returns
returns g c =
    let f = c.args.self.now.fixed in
    let a = c.args.address in
    let v = c.args.value in
    let m = g.M.Memory.meaning c.args.self.now.below in
    let K : Step = store a (bit_xor v (mask f a)) in
    let d : Makes K m _ _ = rw (ap (bit_xor v) c.mask_at.ensures) at c.store.ensures in
    through f m (store a v) K refl (ap (λ xs. with_image xs m.contents) (put_clear f a v m.contents.image)) _ _ d
