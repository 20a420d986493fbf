use Rattle.memory.proofs.Exits.{passed_on}
use Rattle.board.specs.Reading.{receiver_of}
use Rattle.board.proofs.Calling.{silent, silent_dark}
use Rattle.board.proofs.board.Board.silence.Goals as goal

pub returns-in_err-check_power : goal.returns-in_err-check_power
returns-in_err-check_power g c = silent_dark g.C.PacketCipher.cipher c.args.self.now _ _ c.in_err-check_power.ensures (passed_on _ _ c.from_residual.ensures.1)

pub returns : goal.returns
returns g c =
    let b = c.self.inside in
    silent g.C.PacketCipher.cipher c.args.self.now b.device (receiver_of b.receiver) b.dark c.self.view_is _ c.clear.ensures c.in_ok-check_power.ensures
