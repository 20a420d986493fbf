use Rattle.std.proofs.Common.{refl}
use Rattle.board.specs.States.{packet_with}
use Rattle.board.proofs.Stepping.{first_opens, other_opens}
use Rattle.board.proofs.data.Opened.open_update.Goals as goal

pub returns-then-self-eq1 : goal.returns-then-self-eq1
returns-then-self-eq1 g c = λ bs. first_opens (packet_with c.args.self.now bs) _ _ _ _ refl c.if-self-eq1.true c.set_version.ensures

pub returns : goal.returns
returns g c = λ bs. other_opens (packet_with c.args.self.now bs) _ c.if-self-eq1.false
