use Rattle.std.proofs.Common.{refl, ap, ◌∙◌}
use Rattle.memory.proofs.Exits.{passed_on}
use Rattle.rules.specs.Board.{enact, obey}
use Rattle.rules.specs.Board.Deed.{clears}
use Rattle.board.specs.Outcomes.{lit}
use Rattle.board.specs.Sending.{obeyed}
use Rattle.board.proofs.Commanding.{obeys}
use Rattle.board.proofs.device.Device.obey.Goals as goal

pub returns-in_err-take_data-in-Data : goal.returns-in_err-take_data-in-Data
unfolding obey
returns-in_err-take_data-in-Data g c =
    obeys g.C.PacketCipher.cipher (lit c.args.self.now) c.args.core.buffer _ c.in-Data.ensures _
    (ap (obeyed _) (passed_on _ _ c.from_residual.ensures.1) ∙ c.in_err-take_data-in-Data.ensures)

pub returns-in_err-take_key-in-Key : goal.returns-in_err-take_key-in-Key
unfolding obey
returns-in_err-take_key-in-Key g c =
    obeys g.C.PacketCipher.cipher (lit c.args.self.now) c.args.core.buffer _ c.in-Key.ensures _
    (ap (obeyed _) (passed_on _ _ c.from_residual-in_err-take_key-in-Key.ensures.1) ∙ c.in_err-take_key-in-Key.ensures)

pub returns-in_err-erase-in-MassErase : goal.returns-in_err-erase-in-MassErase
unfolding obey
returns-in_err-erase-in-MassErase g c =
    obeys g.C.PacketCipher.cipher (lit c.args.self.now) c.args.core.buffer _ c.in-MassErase.ensures _
    (ap (obeyed _) (passed_on _ _ c.from_residual-in_err-erase-in-MassErase.ensures.1) ∙ c.in_err-erase-in-MassErase.ensures)

pub returns-in_ok-take_data-in-Data : goal.returns-in_ok-take_data-in-Data
unfolding obey
returns-in_ok-take_data-in-Data g c =
    obeys g.C.PacketCipher.cipher (lit c.args.self.now) c.args.core.buffer _ c.in-Data.ensures _ c.in_ok-take_data-in-Data.ensures

pub returns-in_ok-take_key-in-Key : goal.returns-in_ok-take_key-in-Key
unfolding obey
returns-in_ok-take_key-in-Key g c =
    obeys g.C.PacketCipher.cipher (lit c.args.self.now) c.args.core.buffer _ c.in-Key.ensures _ c.in_ok-take_key-in-Key.ensures

pub returns-in_ok-erase-in-MassErase : goal.returns-in_ok-erase-in-MassErase
unfolding obey
returns-in_ok-erase-in-MassErase g c =
    obeys g.C.PacketCipher.cipher (lit c.args.self.now) c.args.core.buffer _ c.in-MassErase.ensures _ c.in_ok-erase-in-MassErase.ensures

pub returns-in-Version : goal.returns-in-Version
unfolding obey enact
returns-in-Version g c = obeys g.C.PacketCipher.cipher (lit c.args.self.now) c.args.core.buffer _ c.in-Version.ensures _ refl

pub returns-in-Reset : goal.returns-in-Reset
unfolding obey enact
returns-in-Reset g c =
    obeys g.C.PacketCipher.cipher (lit c.args.self.now) c.args.core.buffer _ c.in-Reset.ensures _ (ap (λ w. enact clears (lit w)) c.self.view_is)

pub returns-in-Unknown : goal.returns-in-Unknown
unfolding obey enact
returns-in-Unknown g c = obeys g.C.PacketCipher.cipher (lit c.args.self.now) c.args.core.buffer _ c.in-Unknown.ensures _ refl
