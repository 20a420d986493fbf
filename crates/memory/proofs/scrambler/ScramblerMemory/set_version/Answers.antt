use Rattle.std.proofs.Common.{refl}
use Rattle.memory.specs.Meaning.Step.{set_version}
use Rattle.memory.proofs.Through.{through}
use Rattle.memory.proofs.scrambler.ScramblerMemory.set_version.Goals as goal

pub returns : goal.returns
returns g c =
    let m = g.M.Memory.meaning c.args.self.now.below in
    let s = set_version c.args.number c.args.unfinished in
    through c.args.self.now.fixed m s s refl refl _ _ c.set_version.ensures
