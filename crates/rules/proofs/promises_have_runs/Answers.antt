use Rattle.rules.proofs.Examples
use Rattle.rules.proofs.promises_have_runs.Goals as goal

pub returns : goal.returns
returns c = Examples.runs_exist
