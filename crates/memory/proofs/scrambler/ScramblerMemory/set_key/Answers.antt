use Rattle.std.proofs.Common.{refl}
use Rattle.memory.specs.Meaning.Step.{set_key}
use Rattle.memory.proofs.Through.{through}
use Rattle.memory.proofs.scrambler.ScramblerMemory.set_key.Goals as goal

pub returns : goal.returns
returns g c =
    let m = g.M.Memory.meaning c.args.self.now.below in
    let s = set_key c.args.slot c.args.«record» in
    through c.args.self.now.fixed m s s refl refl _ _ c.set_key.ensures
