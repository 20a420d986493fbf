use Rattle.board.specs.States.{stored_packet}
use Rattle.board.proofs.Stepping.{session_on, session_over}
use Rattle.board.proofs.data.Stored.session.Goals as goal

pub returns-then-self : goal.returns-then-self
returns-then-self c = session_over (stored_packet c.args.self) c.if-self.true

pub returns-else-self : goal.returns-else-self
returns-else-self c = session_on (stored_packet c.args.self) c.if-self.false
