use Rattle.board.proofs.Outcome.{erase_ends}
use Rattle.board.proofs.device.Device.erase.Goals as goal

pub returns : goal.returns
returns g c = erase_ends c.args.self.now _ _ _ _ c.self.view_is c.mass_erase.ensures.made
