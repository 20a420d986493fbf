use Rattle.rules.proofs.Checked.{checked_examples}
use Rattle.board.proofs.fresh.Board+LentImage+C.fresh.Goals as goal

pub returns-clause-examples : goal.returns-clause-examples
returns-clause-examples g c = checked_examples
