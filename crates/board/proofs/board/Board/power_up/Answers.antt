use Rattle.board.specs.Reading.{receiver_of}
use Rattle.board.proofs.Calling.{powered}
use Rattle.board.proofs.board.Board.power_up.Goals as goal

pub returns : goal.returns
returns g c =
    let b = c.self.inside in
    powered g.C.PacketCipher.cipher c.args.self.now b.device (receiver_of b.receiver) b.dark c.self.view_is c.args.supply _ _ c.power_up.ensures c.clear.ensures
