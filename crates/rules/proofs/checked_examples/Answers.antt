use Rattle.rules.proofs.Checked
use Rattle.rules.proofs.checked_examples.Goals as goal

pub returns : goal.returns
returns c = Checked.checked_examples
