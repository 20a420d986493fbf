use Rattle.std.proofs.Common.{refl, sym}
use Rattle.memory.proofs.Loops.{round_passed}
use Rattle.memory.proofs.Turns.{done_end}
use Rattle.memory.proofs.steps.erase_in_round.Goals as goal

pub returns : goal.returns
returns g c = done_end _ _ _ _ (round_passed c.args.vector c.holds.result c.args.area.now (sym c.holds.ensures) c.if-holds-vector.false) refl
