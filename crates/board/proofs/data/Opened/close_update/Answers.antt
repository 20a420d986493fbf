use Rattle.std.proofs.Common.{refl}
use Rattle.board.specs.States.{packet_with}
use Rattle.board.proofs.Stepping.{last_closes, other_closes}
use Rattle.board.proofs.data.Opened.close_update.Goals as goal

pub returns-then-self : goal.returns-then-self
returns-then-self g c = λ bs. last_closes (packet_with c.args.self.now bs) _ _ _ _ refl c.if-self.true c.set_version.ensures

pub returns : goal.returns
returns g c = λ bs. other_closes (packet_with c.args.self.now bs) _ c.if-self.false
