-- The promise is proved of the rules: `Updates`.
use Rattle.rules.proofs.Updates
use Rattle.rules.proofs.updates_are_whole.Goals as goal

pub returns : goal.returns
returns c = Updates.updates_are_whole
