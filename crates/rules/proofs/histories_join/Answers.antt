use Rattle.rules.proofs.Runs
use Rattle.rules.proofs.histories_join.Goals as goal

pub returns : goal.returns
returns c = Runs.histories_join
