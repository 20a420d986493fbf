-- The promise is proved of the rules: `Twins`.
use Rattle.rules.proofs.Twins
use Rattle.rules.proofs.answers_tell_nothing.Goals as goal

pub returns : goal.returns
returns c = Twins.answers_tell_nothing
